-- What writing gives, and its order of checks (01, 'Match file' and 'What a call gives back').
-- Believed. Assumes nothing.
use Rattle.std.specs.Prelude.{ℕ, Result, Ok, Err, not, ◌||◌, List, [], ◌∷◌, ◌++◌, leb, ltb, length, drop}
use Rattle.answer.specs.declared.Error.{Error}
use Rattle.answer.specs.Numbers.{Told, told_error, gives}
use Rattle.machine.specs.State.{Check, check, Verdict, accepted, refusal, first}
use Rattle.machine.specs.Soundness.{valid_size}
use Rattle.machine.specs.Place.{warrior_checks}

-- the answer, the length written, and the output afterwards
pub record Written : Type 0 where
  pub told : Told
  pub length : ℕ
  pub output : List ℕ

abbrev pub given : Result ℕ Error → List ℕ → Written
given (Ok n) output = record { told = gives 0 0; length = n; output = output }
given (Err error) output = record { told = told_error error; length = 0; output = output }

-- the output past the length written keeps its bytes; a refusal changes none, and gives the length 0
abbrev pub settle : Verdict → List ℕ → List ℕ → Written
settle accepted made output = record { told = gives 0 0; length = length made; output = made ++ drop (length made) output }
settle (refusal n v) made output = record { told = gives n v; length = 0; output = output }

-- order of writing past 13: 1, 3, 4, 5, 6. M and a new warrior, beside n others, as a file of that length, in an output of that room
abbrev pub write_checks : ℕ → ℕ → List ℕ → List ℕ → ℕ → ℕ → ℕ → List Check
write_checks size n name body place long room =
    check (not (valid_size size)) 1 ∷ (warrior_checks size name body place ++ (check (leb 16 n || ltb room long) 6 ∷ []))

-- the answer alone
unfoldable pub write_told : ℕ → ℕ → List ℕ → List ℕ → ℕ → ℕ → ℕ → Told
write_told size n name body place long room = (settle (first (write_checks size n name body place long room)) [] []).told
