-- The queue (01, 'Queue and names'; 02, A.4): entries, front, pop and push. Nothing else looks into the ring.
-- Believed. Assumes nothing.
use Rattle.std.specs.Prelude.{ℕ, zero, suc, ◌+◌, ◌-◌, ◌*◌, ◌/◌, ◌%◌, ◌^◌, Bool, List, [], ◌∷◌, leb, length, get_or, set}
use Rattle.laws.specs.Lists.{tally, same}
use Rattle.offset.specs.Offset.{ahead}
use Rattle.machine.specs.declared.Entry.{Entry}
use Rattle.machine.specs.declared.Header.{Header}
use Rattle.machine.specs.declared.Ring.{Ring}
use Rattle.machine.specs.State.{Machine, under, with_queue}
use Rattle.machine.specs.Names.{names, numbered}

-- Entry, 64 bits: place in bits 0–15, thread number 16–47, name index 48–51, else zero
abbrev pub packed_entry : Entry → ℕ
packed_entry e = e.name % 2 ^ 4 * 2 ^ 48 + e.thread % 2 ^ 32 * 2 ^ 16 + e.place.0 % 2 ^ 16

abbrev pub entry : ℕ → ℕ → ℕ → Entry
entry place thread name = record { place = record { 0 = place }; thread = thread; name = name }

abbrev pub unpacked_entry : ℕ → Entry
unpacked_entry w = entry (w % 2 ^ 16) (w / 2 ^ 16 % 2 ^ 32) (w / 2 ^ 48 % 2 ^ 4)

-- n slots from i on, round the end
abbrev pub slots : List ℕ → ℕ → ℕ → List ℕ
slots q i zero = []
slots q i (suc n) = get_or q i 0 ∷ slots q (ahead (length q) i 1) n

-- queue entries: the slots from the head on, length many
unfoldable pub entries : Machine → List ℕ
entries m = slots m.queue m.header.ring.head m.header.ring.length

-- the name of an entry, and how many entries a name has
abbrev pub name_of : Machine → ℕ → List ℕ
name_of m w = get_or (names m.header.names) (unpacked_entry w).name []

abbrev pub entries_of : Machine → List ℕ → ℕ
entries_of m n = tally (λ w. same (name_of m w) n) (entries m)

-- the process limit belongs to each warrior: the name at an index holds P entries
abbrev pub full : Machine → ℕ → Bool
full m i = leb m.header.rules.processes (get_or m.header.counts i 0)

-- first in, first out
abbrev pub front : Machine → ℕ
front m = get_or m.queue m.header.ring.head 0

-- the header with another ring and counts
abbrev pub requeued : Header → Ring → List ℕ → Header
requeued h ring counts =
    record { rules = h.rules; ring = ring; steps = h.steps; names = h.names; counts = counts; threads = h.threads }

-- popping lowers the count and moves the head one on, round the end; the slot left keeps its number
unfoldable pub pop : Machine → Machine
pop m =
    let h = m.header in
    let i = (unpacked_entry (front m)).name in
    under
    (requeued h (record { head = ahead (length m.queue) h.ring.head 1; length = h.ring.length - 1 })
    (set h.counts i (get_or h.counts i 0 - 1)))
    m

-- pushing raises the count and writes the slot at head + length, modulo the memory's length
unfoldable pub push : Entry → Machine → Machine
push e m =
    let h = m.header in
    let i = e.name in
    with_queue (set m.queue (ahead (length m.queue) h.ring.head h.ring.length) (packed_entry e))
    (requeued h (record { head = h.ring.head; length = h.ring.length + 1 }) (set h.counts i (get_or h.counts i 0 + 1)))
    m

-- a process started: an entry pushed with the name's next thread number, which rises by one
unfoldable pub started : ℕ → ℕ → Machine → Machine
started place i m = push (entry place (get_or m.header.threads i 0) i) (under (numbered i m.header) m)
