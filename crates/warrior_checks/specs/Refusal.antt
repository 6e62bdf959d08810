-- What placing and starting answer past the test of the header, by their orders of checks (01, 'Load'; 02, A.4 and A.5), and what placing answers of M and a warrior.
-- Believed. Assumes nothing.
use Rattle.std.specs.Prelude.{ℕ, List, ◌∷◌, ltb}
use Rattle.answer.specs.Numbers.{Told}
use Rattle.machine.specs.declared.Roster.{Roster}
use Rattle.machine.specs.State.{Machine, Check, check, first, verdict_told}
use Rattle.machine.specs.Place.{warrior_checks, place_rows}
use Rattle.machine.specs.Start.{start_rows}

-- placing's order for any record, with one test of its header: 9 for more than 16 names, then 3, 4, 5, 6
abbrev pub tested_place_checks : ℕ → Roster → List ℕ → List ℕ → ℕ → List Check
tested_place_checks size names given body at = check (ltb 16 names.held) 9 ∷ place_rows size names given body at

-- starting's, with the same test: 9, then 5, 6, 8
abbrev pub tested_start_checks : Machine → List ℕ → ℕ → List Check
tested_start_checks m given at = check (ltb 16 m.header.names.held) 9 ∷ start_rows m given at

-- the number and value of the first row that applies, 0 where none does
unfoldable pub place_told : ℕ → Roster → List ℕ → List ℕ → ℕ → Told
place_told size names given body at = verdict_told (first (tested_place_checks size names given body at))

unfoldable pub start_told : Machine → List ℕ → ℕ → Told
start_told m given at = verdict_told (first (tested_start_checks m given at))

-- the same of M and a warrior alone: 3, 4, 5
unfoldable pub warrior_told : ℕ → List ℕ → List ℕ → ℕ → Told
warrior_told size given body at = verdict_told (first (warrior_checks size given body at))
