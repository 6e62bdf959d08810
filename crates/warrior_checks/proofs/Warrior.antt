-- The checks of M and a warrior, before others: one of them applies, or none.
-- Assumes nothing.
use mathlib.Core.Path.{◌≡◌, refl, ap}
use mathlib.Core.Bool.{Bool, true, false, not, ◌||◌}
use mathlib.Core.List.{List, [], ◌∷◌, ◌++◌}
use Prim.Native.Nat.{ℕ}
use native.Mathlib.Omega.{arith}
use lib.Dec.{leb, ltb}
use Rattle.answer.specs.declared.Error.{Error}
use Rattle.answer.specs.Numbers.{Told, gives, told_error}
use Rattle.answer.proofs.Numbers.{not_zero}
use Rattle.program.specs.Program.{instructions, lowest_fault}
use Rattle.metadata.specs.Metadata.{valid_name}
use Rattle.machine.specs.State.{Check, check, first, verdict_told}
use Rattle.machine.specs.Place.{warrior_checks}
use Rattle.warrior_checks.specs.Refusal.{warrior_told}

abbrev rows : Bool → Bool → ℕ → Bool → List Check → List Check
rows a b v c rest = check a 3 ∷ record { applies = b; number = 4; value = v } ∷ check c 5 ∷ rest

one-applies : (a b c : Bool) (v : ℕ) (rest : List Check) (t : Told) → (t.number ≡ 0 → ⊥) → t ≡ verdict_told (first (rows a b v c []))
    → t ≡ verdict_told (first (rows a b v c rest))
one-applies true b c v rest t some e = e
one-applies false true c v rest t some e = e
one-applies false false true v rest t some e = e
one-applies false false false v rest t some e = absurd (some (ap (λ (t : Told). t.number) e))

none-applies : (a b c : Bool) (v : ℕ) (rest : List Check) → gives 0 0 ≡ verdict_told (first (rows a b v c [])) → first (rows a b v c rest) ≡ first rest
none-applies true b c v rest e = absurd (let z : 0 ≡ 3 = ap (λ (t : Told). t.number) e in omega arith)
none-applies false true c v rest e = absurd (let z : 0 ≡ 4 = ap (λ (t : Told). t.number) e in omega arith)
none-applies false false true v rest e = absurd (let z : 0 ≡ 5 = ap (λ (t : Told). t.number) e in omega arith)
none-applies false false false v rest e = refl

module _ (size : ℕ) (name body : List ℕ) (place : ℕ) (rest : List Check) where
  pub warrior-refused : (e : Error) → told_error e ≡ warrior_told size name body place → told_error e ≡ verdict_told (first (warrior_checks size name body place ++ rest))
  unfolding warrior_told
  warrior-refused e is =
      one-applies (ltb size (instructions body)) (ltb (lowest_fault body) (instructions body)) (not (valid_name name) || leb size place) (lowest_fault body) rest
      (told_error e) (not_zero e) is

  pub warrior-accepted : gives 0 0 ≡ warrior_told size name body place → first (warrior_checks size name body place ++ rest) ≡ first rest
  unfolding warrior_told
  warrior-accepted is =
      none-applies (ltb size (instructions body)) (ltb (lowest_fault body) (instructions body)) (not (valid_name name) || leb size place) (lowest_fault body) rest is
