-- Machines with a process limit (02, A.4), one row for each place that could be read otherwise: what the definitions give, and what is wanted. The theorem is in proofs/Battles.antt.
-- Inner. Assumes nothing.
use Rattle.std.specs.Prelude.{ℕ, zero, suc, ◌+◌, ◌≡◌, List, [], ◌∷◌, ◌++◌, map, take, replicate}
use Rattle.cell.specs.Cells.{sound_word}
use Rattle.types.specs.Opcode.{SPL}
use Rattle.types.specs.Modifier as modifier
use Rattle.types.specs.Mode as mode
use Rattle.program.specs.Program.{lawful, lowest_fault, cells}
use Rattle.machine.specs.State.{of_size, Machine, under, Outcome}
use Rattle.machine.specs.Names.{register, numbered}
use Rattle.machine.specs.Queue.{unpacked_entry, entries, pop, push, started}
use Rattle.machine.specs.Soundness.{sound_header, sound_entry}
use Rattle.machine.specs.Fresh.{fresh}
use Rattle.machine.specs.Place.{placing, place}
use Rattle.machine.specs.Start.{starting, start}
use Rattle.machine.specs.Pointers.{operand}
use Rattle.machine.specs.Execution.{effect_of}
use Rattle.machine.specs.Step.{effect, core_after, step_written, counted, executed, step}
use Rattle.machine.specs.Battles.{Row, bytes, datum}

-- the number that fresh gives, of P and a queue memory
abbrev made : ℕ → ℕ → ℕ
made processes slots = (fresh (of_size 1 processes) (0 ∷ []) (replicate slots 0)).number

-- M 8 and 32 entries of queue memory, for a P of 2 at most
abbrev pub eight : ℕ → Machine
eight processes = (fresh (of_size 8 processes) (replicate 8 0) (replicate 32 0)).machine

-- names A and B, and by a number
abbrev pub A : List ℕ
A = 65 ∷ []

abbrev pub B : List ℕ
B = 66 ∷ []

abbrev pub call : ℕ → List ℕ
call n = (65 + n) ∷ []

-- SPL $2 placed at a place and started there; DAT placed at 7, and started there
abbrev pub split : List ℕ → ℕ → Machine → Outcome
split name at m = start (place m name (bytes SPL modifier.B mode.Direct 2 mode.Direct 0) at).machine name at

abbrev pub dat : List ℕ → Machine → Outcome
dat name m = start (place m name (datum 0 0) 7).machine name 7

-- the same with another P, or other counts or next thread numbers
abbrev with_P : ℕ → Machine → Machine
with_P processes m =
    let h = m.header in
    under (record { rules = of_size h.rules.size processes; ring = h.ring; steps = h.steps; names = h.names; counts = h.counts; threads = h.threads }) m

abbrev pub with_counts : List ℕ → Machine → Machine
with_counts counts m =
    let h = m.header in
    under (record { rules = h.rules; ring = h.ring; steps = h.steps; names = h.names; counts = counts; threads = h.threads }) m

abbrev pub with_threads : List ℕ → Machine → Machine
with_threads threads m =
    let h = m.header in
    under (record { rules = h.rules; ring = h.ring; steps = h.steps; names = h.names; counts = h.counts; threads = threads }) m

-- so many names are placed under and started, one entry each
abbrev pub crowded : ℕ → Machine → Machine
crowded zero m = m
crowded (suc n) m = (dat (call n) (crowded n m)).machine

-- name index, place and thread number of each entry
abbrev pub told : List ℕ → List ℕ
told [] = []
told (w ∷ ws) = let e = unpacked_entry w in e.name ∷ e.place.0 ∷ e.thread ∷ told ws

-- what a call gives and leaves: its number and pushes, the entries, and the counts and next thread numbers of the first two names
abbrev pub leaves : Outcome → List ℕ
leaves o = let h = o.machine.header in o.number ∷ o.pushes ∷ (told (entries o.machine) ++ (take 2 h.counts ++ take 2 h.threads))

unfoldable pub processes : List Row
unfolding sound_word lawful lowest_fault cells register numbered entries pop push started sound_header sound_entry fresh placing place starting start operand effect_of effect core_after step_written counted executed step
processes =
    -- fresh: P is 1 to 4,095, with 16 times as many entries or more, of 65,535 at most
    record {
      got =
          made 0 16
          ∷ made 1 15
          ∷ made 1 16
          ∷ made 2 31
          ∷ made 2 32
          ∷ made 2 33
          ∷ made 4095 65519
          ∷ made 4095 65520
          ∷ made 4096 65535
          ∷ made 1 65535
          ∷ made 1 65536
          ∷ [];
      wanted = 2 ∷ 2 ∷ 0 ∷ 2 ∷ 0 ∷ 0 ∷ 2 ∷ 0 ∷ 2 ∷ 0 ∷ 2 ∷ [];
    }
    -- SPL $2 with P 1: (1, thread 0) alone, next thread 1
    ∷ record { got = leaves (step (split A 0 (eight 1)).machine); wanted = 0 ∷ 1 ∷ 0 ∷ 1 ∷ 0 ∷ 1 ∷ 0 ∷ 1 ∷ 0 ∷ [] }
    -- with P 2 and one entry the child is queued
    ∷ record {
      got = leaves (step (split A 0 (eight 2)).machine);
      wanted = 0 ∷ 2 ∷ 0 ∷ 1 ∷ 0 ∷ 0 ∷ 2 ∷ 1 ∷ 2 ∷ 0 ∷ 2 ∷ 0 ∷ [];
    }
    -- with two it is dropped, and no number used
    ∷ record {
      got = leaves (step (dat A (split A 0 (eight 2)).machine).machine);
      wanted = 0 ∷ 1 ∷ 0 ∷ 7 ∷ 1 ∷ 0 ∷ 1 ∷ 0 ∷ 2 ∷ 0 ∷ 2 ∷ 0 ∷ [];
    }
    -- two entries of the other name drop none of this one
    ∷ record {
      got = leaves (step (dat B (dat B (split A 0 (eight 2)).machine).machine).machine);
      wanted = 0 ∷ 2 ∷ 1 ∷ 7 ∷ 0 ∷ 1 ∷ 7 ∷ 1 ∷ 0 ∷ 1 ∷ 0 ∷ 0 ∷ 2 ∷ 1 ∷ 2 ∷ 2 ∷ 2 ∷ 2 ∷ [];
    }
    -- start: 6 when the name holds P, 0 of another name; with 16 names of one entry each, P 1: 6 of a held name and of a seventeenth
    ∷ record {
      got =
          (dat A (split A 0 (eight 1)).machine).number
          ∷ (dat B (split A 0 (eight 1)).machine).number
          ∷ (dat (call 15) (crowded 15 (eight 1))).number
          ∷ (dat (call 3) (crowded 16 (eight 1))).number
          ∷ (dat (call 3) (crowded 16 (eight 2))).number
          ∷ (dat (call 16) (crowded 16 (eight 2))).number
          ∷ [];
      wanted = 6 ∷ 0 ∷ 0 ∷ 6 ∷ 0 ∷ 6 ∷ [];
    }
    -- the last thread number: 8 of a step, also where its child would be dropped; of a start 8, but 6 of a name that holds P
    ∷ record {
      got =
          let one = with_threads (4294967295 ∷ replicate 15 0) (split A 0 (eight 1)).machine in
          let two = with_threads (4294967295 ∷ replicate 15 0) (split A 0 (eight 2)).machine in
          (step one).number ∷ (step two).number ∷ (dat A one).number ∷ (dat A two).number ∷ [];
      wanted = 8 ∷ 8 ∷ 6 ∷ 8 ∷ [];
    }
    -- in a header 9: a count over P, and a P that fresh does not take
    ∷ record {
      got = let m = (dat A (split A 0 (eight 2)).machine).machine in (step (with_P 2 m)).number ∷ (step (with_P 1 m)).number ∷ (step (with_P 3 m)).number ∷ [];
      wanted = 0 ∷ 9 ∷ 9 ∷ [];
    }
    -- the count of a slot that no name has plays no part: the header is sound, and a new name holds none
    ∷ record {
      got = let m = with_counts (1 ∷ 9 ∷ replicate 14 0) (split A 0 (eight 1)).machine in (step m).number ∷ leaves (dat B m);
      wanted = 0 ∷ 0 ∷ 1 ∷ 0 ∷ 0 ∷ 0 ∷ 1 ∷ 7 ∷ 0 ∷ 1 ∷ 1 ∷ 1 ∷ 1 ∷ [];
    }
    ∷ []

-- every row gives what is wanted
abbrev pub ProcessesHold : Type 0
ProcessesHold = map (λ (r : Row). r.got) processes ≡ map (λ (r : Row). r.wanted) processes
