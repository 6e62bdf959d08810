-- A call that settles by a list of checks, from the number and value that they tell.
-- Assumes nothing.
use mathlib.Core.Path.{◌≡◌, refl, sym, ap, ◌∙◌}
use mathlib.Core.Bool.{true, not}
use mathlib.Core.List.{List}
use lib.Dec.{eqb}
use Rattle.answer.specs.Numbers.{Told}
use Rattle.laws.specs.Lists.{every}
use Rattle.machine.specs.State.{Machine, Outcome, Check, Verdict, accepted, refusal, first, settle, verdict_told}
use Rattle.machine.proofs.Checks.{without, others}
use Rattle.lent.specs.Given.{given, given_by}

module _ (cs : List Check) {t : Told} (told : t ≡ verdict_told (first cs)) where
  told_in : (v : Verdict) → first cs ≡ v → t ≡ verdict_told v
  told_in v e = told ∙ ap verdict_told e

  -- a refusal
  pub refused-settles : (m : Machine) (o : Outcome) → (t.number ≡ 0 → ⊥) → given t 0 0 m ≡ given_by (settle (first cs) m o)
  refused-settles m o z = go (first cs) refl
    where
      go : (v : Verdict) → first cs ≡ v → given t 0 0 m ≡ given_by (settle (first cs) m o)
      go accepted e = absurd (z (ap (λ (x : Told). x.number) (told_in accepted e)))
      go (refusal n w) e =
          ap (λ (x : Told). given x 0 0 m) (told_in (refusal n w) e) ∙ ap (λ (v : Verdict). given_by (settle v m o)) {x = refusal n w} (sym e)

  -- none, where no row has the number 0
  pub none-applies : every (λ c. not (eqb c.number 0)) cs ≡ true → t.number ≡ 0 → first cs ≡ accepted
  none-applies some z = go (first cs) refl
    where
      go : (v : Verdict) → first cs ≡ v → first cs ≡ accepted
      go accepted e = e
      go (refusal n w) e = absurd (without 0 cs (others 0 cs some) n w e (sym (ap (λ (x : Told). x.number) (told_in (refusal n w) e)) ∙ z))

-- and where none applies
pub accepted-settles : (cs : List Check) (m : Machine) (o : Outcome) → first cs ≡ accepted → given_by o ≡ given_by (settle (first cs) m o)
accepted-settles cs m o e = ap (λ (v : Verdict). given_by (settle v m o)) {x = accepted} (sym e)
