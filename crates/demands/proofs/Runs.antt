-- Demand 1 of a run: it is refused by the row that applies to the step which it would take next, and there only.
-- Assumes nothing.
use Prim.Native.Nat.{ℕ, zero, suc, ◌-◌, ◌<◌}
use mathlib.Core.Path.{◌≡◌, refl, sym, ap, subst, ◌∙◌}
use mathlib.Core.Bool.{Bool, true, false, cond, true≢false}
use native.Mathlib.Omega.{arith}
use lib.Dec.{eqb}
use borrow.Author.Tests.{eqb-true, eq-eqb}
use Rattle.answer.specs.Numbers.{gives}
use Rattle.laws.proofs.Every.{◌and◌}
use Rattle.machine.specs.State.{Machine, Outcome, joined, told_by, Verdict, refusal, first, settle}
use Rattle.machine.specs.Soundness.{sound_header}
use Rattle.machine.specs.Step.{executed, step, step_checks}
use Rattle.machine.specs.Run.{Ceiling, plays, ceiling_of, run}
use Rattle.machine.proofs.Checks.{number_of}
use Rattle.machine.proofs.Run.{run-unsound, run-plays, step-counts-one, plays-refused}
use Rattle.lent.specs.Given.{Given, given_by}
use Rattle.account.specs.Calls.{Run}
use Rattle.demands.specs.Promise.{Promise}
use Rattle.demands.specs.Refusals.{RunRefused}

-- where a row applies to the step after k that are answered 0
abbrev There : ℕ → Machine → ℕ → ℕ → Outcome → Type 0
There k m n v o = (told_by o ≡ gives n v) × (o.steps ≡ k) × (o.machine ≡ (plays k m).machine)

there-step : (m : Machine) (n v : ℕ) → first (step_checks m) ≡ refusal n v → There 0 m n v (step m) × (eqb (step m).number 0 ≡ false)
unfolding step
there-step m n v e =
    subst (λ (w : Verdict). There 0 m n v (settle w m (executed m)) × (eqb (settle w m (executed m)).number 0 ≡ false)) (sym e)
    ((refl, refl, refl), number_of (λ n. eqb n 0 ≡ false) (step_checks m) (refl and refl and refl and refl and refl and refl and refl and tt) n v e)

-- a step answered 0, and then the others
first_done : (k : ℕ) (m : Machine) → (plays (suc k) m).number ≡ 0 → (step m).number ≡ 0
first_done k m = go (eqb (step m).number 0) refl
  where
    go : (b : Bool) → eqb (step m).number 0 ≡ b → (cond {A = Outcome} b (joined (step m) (plays k (step m).machine)) (step m)).number ≡ 0
        → (step m).number ≡ 0
    go true z d = eqb-true _ _ z
    go false z d = d

goes_on : (k : ℕ) (m : Machine) → (step m).number ≡ 0 → plays (suc k) m ≡ joined (step m) (plays k (step m).machine)
goes_on k m z = ap (λ (b : Bool). cond b (joined (step m) (plays k (step m).machine)) (step m)) (eq-eqb (step m).number 0 z)

there-plays : (k l : ℕ) (m : Machine) → k < l → (plays k m).number ≡ 0 → (n v : ℕ) → first (step_checks (plays k m).machine) ≡ refusal n v
    → There k m n v (plays l m)
there-plays k zero m h d n v e = absurd (let z : ⊥ = omega arith in z)
there-plays zero (suc l) m h d n v e =
    let s = there-step m n v e in
    subst (λ (b : Bool). There 0 m n v (cond b (joined (step m) (plays l (step m).machine)) (step m))) (sym s.1) s.0
there-plays (suc k) (suc l) m h d n v e =
    let z : (step m).number ≡ 0 = first_done k m d in
    let short : plays (suc k) m ≡ joined (step m) (plays k (step m).machine) = goes_on k m z in
    let long : plays (suc l) m ≡ joined (step m) (plays l (step m).machine) = goes_on l m z in
    let t =
    there-plays k l (step m).machine (omega arith) (sym (ap (λ (o : Outcome). o.number) short) ∙ d) n v
    (sym (ap (λ (o : Outcome). first (step_checks o.machine)) short) ∙ e) in (
      ap told_by long ∙ t.0,
      ap (λ (o : Outcome). o.steps) long ∙ step-counts-one m z (plays l (step m).machine).steps ∙ ap suc t.1,
      ap (λ (o : Outcome). o.machine) long ∙ t.2 ∙ sym (ap (λ (o : Outcome). o.machine) short),
    )

pub run-refuses : (ceiling : Ceiling) (m : Machine) (g : Given) → Promise (Run ceiling) m g → RunRefused ceiling m g
run-refuses ceiling m g e = subst (RunRefused ceiling m) (sym e) (go (sound_header m) refl)
  where
    k : ℕ
    k = ceiling_of ceiling - m.header.steps

    go : (b : Bool) → sound_header m ≡ b → RunRefused ceiling m (given_by (run ceiling m))
    go true s =
        subst (λ (o : Outcome). RunRefused ceiling m (given_by o)) (sym (run-plays ceiling m s))
        (record {
          header = λ f. absurd (true≢false (sym s ∙ f));
          inside = λ t f. plays-refused k m f;
          there = λ t j h d n v f. there-plays j k m h d n v f;
        })
    go false s =
        subst (λ (o : Outcome). RunRefused ceiling m (given_by o)) (sym (run-unsound ceiling m s))
        (record {
          header = λ f. refl;
          inside = λ t. absurd (true≢false (sym t ∙ s));
          there = λ t. absurd (true≢false (sym t ∙ s));
        })
