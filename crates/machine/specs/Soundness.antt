-- What fresh takes, and the sound record (01, 'What a call gives back', under the table; 02, A.2 and A.4).
-- Believed. Assumes nothing. That steps taken and next thread numbers are at most 4,294,967,295 holds by their type, u32.
use Rattle.std.specs.Prelude.{ℕ, ◌*◌, ◌/◌, ◌%◌, ◌^◌, Bool, not, ◌&&◌, ◌||◌, List, [], ◌∷◌, eqb, leb, ltb, length, get_or, take}
use Rattle.laws.specs.Lists.{all, every, total, distinct}
use Rattle.metadata.specs.Metadata.{valid_byte}
use Rattle.machine.specs.declared.Header.{Header}
use Rattle.machine.specs.declared.Rules.{Rules}
use Rattle.machine.specs.State.{Machine, Check, check, passes}
use Rattle.machine.specs.Names.{names}
use Rattle.machine.specs.Queue.{unpacked_entry, front}

-- not 1: M is 1 to 46,341
abbrev pub valid_size : ℕ → Bool
valid_size size = leb 1 size && leb size 46341

-- the queue memory has 1 to 65,535 entries
abbrev pub valid_queue : ℕ → Bool
valid_queue slots = leb 1 slots && leb slots 65535

-- P is 1 to 4,095 and the queue memory has 16 times P entries or more
abbrev pub valid_processes : ℕ → ℕ → Bool
valid_processes processes slots = leb 1 processes && leb processes 4095 && leb (16 * processes) slots

-- not 14: a read limit and a write limit, each a divisor of M; 0 divides no M
abbrev pub divides : ℕ → ℕ → Bool
divides limit size = leb 1 limit && eqb (size % limit) 0

abbrev pub valid_limits : Rules → Bool
valid_limits rules = divides rules.read rules.size && divides rules.write rules.size

-- order of fresh: 1, 2, 14
abbrev pub fresh_checks : Rules → List ℕ → List ℕ → List Check
fresh_checks rules core queue =
    check (not (valid_size rules.size)) 1
    ∷ check (not (eqb (length core) rules.size) || not (valid_queue (length queue)) || not (valid_processes rules.processes (length queue))) 2
    ∷ check (not (valid_limits rules)) 14
    ∷ []

-- a header is sound when M, the memories' lengths, P and the limits are such as fresh takes: M is valid and is the core memory's length, the queue
-- memory has 1 to 65,535 entries, and 16 times P or more of a P of 1 to 4,095, each limit divides M; length is at most the queue memory's and head below it, at most 16 names are held, each valid, not empty and unlike the others,
-- and the names' counts sum to the length, none of them over P
abbrev pub header_tests : Machine → List Bool
header_tests m =
    let h = m.header in
    passes (fresh_checks h.rules m.core m.queue)
    ∷ leb h.ring.length (length m.queue)
    ∷ ltb h.ring.head (length m.queue)
    ∷ leb h.names.held 16
    ∷ every (λ k. leb 1 k && leb k 32) (take h.names.held h.names.lengths)
    ∷ every (every valid_byte) (names h.names)
    ∷ distinct (names h.names)
    ∷ eqb (total (take h.names.held h.counts)) h.ring.length
    ∷ every (λ c. leb c h.rules.processes) (take h.names.held h.counts)
    ∷ []

unfoldable pub sound_header : Machine → Bool
sound_header m = all (header_tests m)

-- an entry is sound when its name is held with a count of at least 1, its place is below M and its bits 52–63 are zero
unfoldable pub sound_entry : Header → ℕ → Bool
sound_entry h w =
    let e = unpacked_entry w in
    ltb e.name h.names.held && leb 1 (get_or h.counts e.name 0) && ltb e.place.0 h.rules.size && eqb (w / 2 ^ 52) 0

-- so must the front entry be
abbrev pub sound_front : Machine → Bool
sound_front m = sound_entry m.header (front m)
