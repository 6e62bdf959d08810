-- The row of 13, and what it is told by: the number is 13 with a fault and without, and without an answer there is none.
-- Assumes nothing.
use mathlib.Core.Path.{◌≡◌, refl}
use borrow.Author.Tests.{eqb-false}
use Rattle.std.specs.Prelude.{ℕ, Option, Some, None}
use Rattle.match_file.specs.Reading.{told_by}
use Rattle.match_file.specs.Refusal.{malformed}

-- the row has that number
pub thirteen : (x : Option ℕ) → (malformed x).number ≡ 13
thirteen None = refl
thirteen (Some p) = refl

-- a fault that is told by no number is none
pub not-told : (x : Option ℕ) → (told_by x).number ≡ 0 → x ≡ None
not-told None e = refl
not-told (Some p) e = absurd (eqb-false 13 0 refl e)
