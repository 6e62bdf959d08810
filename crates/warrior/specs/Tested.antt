-- Placing and starting past the test of the header, for any record (01, 'Load'; 02, A.4 and A.5). Where the header is sound they are `place` and `start` (proofs/Testing.antt).
-- Believed. Assumes nothing.
use Rattle.std.specs.Prelude.{ℕ, cond, ◌&&◌, List, leb, ltb, length}
use Rattle.program.specs.Program.{instructions, cells}
use Rattle.metadata.specs.Metadata.{called}
use Rattle.machine.specs.State.{Machine, under, with_core, Outcome, done, first, settle}
use Rattle.machine.specs.Names.{slot, registered}
use Rattle.machine.specs.Place.{placed}
use Rattle.lent.specs.Parts.{start_if}
use Rattle.warrior_checks.specs.Refusal.{tested_place_checks, tested_start_checks}

-- words placed from a place of the core on, where they are no more than its cells
unfoldable pub placed_if : List ℕ → ℕ → List ℕ → List ℕ
placed_if core at ws = cond (ltb at (length core) && leb (length ws) (length core)) (placed core at ws) core

-- `placing`, with the body placed where the core has the cells
unfoldable pub placing_if : Machine → List ℕ → List ℕ → ℕ → Outcome
placing_if m name body at =
    let h = m.header in
    done (with_core (placed_if m.core at (cells h.rules.size body)) (under (registered h name) m)) (instructions body) 0

-- order: 9 for more than 16 names, 3, 4, 5, 6
unfoldable pub place_tested : Machine → List ℕ → List ℕ → ℕ → Outcome
place_tested m given body at =
    settle (first (tested_place_checks m.header.rules.size m.header.names given body at)) m (placing_if m (called given) body at)

-- `starting`, where a process can be started
unfoldable pub starting_if : Machine → List ℕ → ℕ → Outcome
starting_if m name at = let h = m.header in done (start_if at (slot h.names name) (under (registered h name) m)) 0 1

-- order: 9 for more than 16 names, 5, 6, 8
unfoldable pub start_tested : Machine → List ℕ → ℕ → Outcome
start_tested m given at = settle (first (tested_start_checks m given at)) m (starting_if m (called given) at)
