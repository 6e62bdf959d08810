-- Placing a body under a name (01, 'Load'; 02, A.5).
-- Believed. Assumes nothing.
use Rattle.std.specs.Prelude.{ℕ, not, ◌||◌, List, [], ◌∷◌, ◌++◌, leb, ltb, length}
use Rattle.offset.specs.Offset.{ahead}
use Rattle.cell.specs.Cells.{store}
use Rattle.program.specs.Program.{instructions, lowest_fault, cells}
use Rattle.metadata.specs.Metadata.{valid_name, called}
use Rattle.machine.specs.declared.Roster.{Roster}
use Rattle.machine.specs.State.{Machine, under, with_core, Outcome, done, Check, check, first, settle}
use Rattle.machine.specs.Names.{seventeenth, registered}
use Rattle.machine.specs.Soundness.{sound_header}

-- the body goes to the part of the core that begins at the place, going on at cell 0 past the end
abbrev pub placed : List ℕ → ℕ → List ℕ → List ℕ
placed core at [] = core
placed core at (w ∷ ws) = placed (store core at w) (ahead (length core) at 1) ws

-- placing registers the name; a held name is shared. No process is started. Writes: body length
unfoldable pub placing : Machine → List ℕ → List ℕ → ℕ → Outcome
placing m name body at =
    let h = m.header in
    done (with_core (placed m.core at (cells h.rules.size body)) (under (registered h name) m)) (instructions body) 0

-- 5: the name is not valid, or the place is not below M
abbrev pub name_and_place_check : ℕ → List ℕ → ℕ → Check
name_and_place_check size given at = check (not (valid_name given) || leb size at) 5

-- of M and what is handed in: 3 longer than M, 4 a faulty instruction, with the lowest index, 5
abbrev pub warrior_checks : ℕ → List ℕ → List ℕ → ℕ → List Check
warrior_checks size given body at =
    check (ltb size (instructions body)) 3
    ∷ record { applies = ltb (lowest_fault body) (instructions body); number = 4; value = lowest_fault body }
    ∷ name_and_place_check size given at
    ∷ []

-- order of placing: 9 (header), and then of M and the names held: 3, 4, 5, and 6 for a seventeenth name; a name that holds P is placed under
abbrev pub place_rows : ℕ → Roster → List ℕ → List ℕ → ℕ → List Check
place_rows size names given body at = warrior_checks size given body at ++ (check (seventeenth names (called given)) 6 ∷ [])

abbrev pub place_checks : Machine → List ℕ → List ℕ → ℕ → List Check
place_checks m given body at = check (not (sound_header m)) 9 ∷ place_rows m.header.rules.size m.header.names given body at

unfoldable pub place : Machine → List ℕ → List ℕ → ℕ → Outcome
place m given body at = settle (first (place_checks m given body at)) m (placing m (called given) body at)
