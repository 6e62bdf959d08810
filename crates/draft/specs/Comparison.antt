-- What of a machine's step is compared with the draft's: the core's cells, and the places queued.
-- Believed. Assumes nothing. The draft's limits are the header's.
use Rattle.std.specs.Prelude.{ℕ, ◌-◌, List, map, get_or}
use Rattle.cell.specs.declared.Cell.{Cell}
use Rattle.cell.specs.Cells.{unpacked}
use Rattle.machine.specs.declared.Rules.{Rules}
use Rattle.machine.specs.State.{Machine}
use Rattle.machine.specs.Queue.{unpacked_entry, entries}
use Rattle.machine.specs.Step.{popped, pc}
use Rattle.draft.specs.Evaluation
use Rattle.draft.specs.Draft.{Done, step}

-- the core, unpacked
abbrev pub cells : Machine → List Cell
cells m = map unpacked m.core

-- the machine's rules as the draft's: M, the read limit and the write limit
abbrev pub draft_rules : Rules → Evaluation.Rules
draft_rules rules = record { M = rules.size; ReadLimit = rules.read; WriteLimit = rules.write }

-- the draft's step of the machine's core, from the front entry's place
abbrev pub drafted : Machine → Done
drafted m = step (draft_rules m.header.rules) (cells m) (pc m)

-- the places queued, in order
abbrev pub places : Machine → List ℕ
places m = map (λ w. (unpacked_entry w).place.0) (entries m)

-- how many entries the process limit has room for, of the front entry's name once that entry is popped
abbrev pub room : Machine → ℕ
room m = m.header.rules.processes - (get_or m.header.counts (popped m).name 0 - 1)
