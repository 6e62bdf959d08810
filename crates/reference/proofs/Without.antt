-- A call that is answered 4, 5, 6, 8, 9 or 10: the machine is as it was, in a run since its last step, and the Rust is the same without it.
-- Assumes nothing.
use Rattle.std.specs.Prelude.{Some}
use Prim.Native.Nat.{ℕ, ◌-◌}
use mathlib.Core.Path.{◌≡◌, refl, sym, ap, subst, ◌∙◌}
use mathlib.Core.Bool.{Bool, true, false, ◌||◌, true≢false, false≢true}
use native.Mathlib.Omega.{arith}
use lib.Dec.{eqb}
use borrow.Author.Tests.{eqb-true}
use Rattle.machine.specs.State.{Machine}
use Rattle.machine.specs.Place.{place}
use Rattle.machine.specs.Start.{start}
use Rattle.machine.specs.Step.{step, executes}
use Rattle.machine.specs.Run.{Ceiling, plays, ceiling_of, run}
use Rattle.machine.specs.Whole.{Unlimited}
use Rattle.machine.proofs.Soundness.{header-sound}
use Rattle.machine.proofs.Place.{place-refused}
use Rattle.machine.proofs.Start.{start-refused}
use Rattle.machine.proofs.Step.{step-refused}
use Rattle.machine.proofs.Run.{run-plays, run-counts, RefusedInside, plays-refused}
use Rattle.machine.proofs.SoundMachine.{SoundMachine}
use Rattle.account.specs.Calls.{Place, Start, Step, Run}
use Rattle.reference.specs.Compared.{Compared, Load, Single, comes_to}
use Rattle.reference.specs.Core.{Core, Ok}
use Rattle.reference.specs.Same.{Same}
use Rattle.reference.specs.Refinement.{meets_plays, meets_before, body_stays, answered, answer_of, without}
use Rattle.reference.proofs.Stepping.{Agreed}
use Rattle.reference.proofs.Running.{run-agrees}

-- 0, 11 and 12 are not among these numbers
executes-answered : (n : ℕ) → executes n ≡ true → answered n ≡ true
executes-answered n = go (eqb n 0) (eqb n 11) (eqb n 12) refl refl refl
  where
    go : (a b c : Bool) → eqb n 0 ≡ a → eqb n 11 ≡ b → eqb n 12 ≡ c → (a || (b || (c || false))) ≡ true → answered n ≡ true
    go true b c p q r e = ap answered (eqb-true n 0 p)
    go false true c p q r e = ap answered (eqb-true n 11 q)
    go false false true p q r e = ap answered (eqb-true n 12 r)
    go false false false p q r e = absurd (false≢true e)

not-executed : (n : ℕ) → answered n ≡ false → executes n ≡ false
not-executed n a = go (executes n) refl
  where
    go : (b : Bool) → executes n ≡ b → b ≡ false
    go true e = absurd (true≢false (sym (executes-answered n e) ∙ a))
    go false e = refl

not_done : (n : ℕ) → answered n ≡ false → eqb n 0 ≡ false
not_done n a = go (eqb n 0) refl
  where
    go : (b : Bool) → eqb n 0 ≡ b → b ≡ false
    go true e = absurd (true≢false (sym (ap answered (eqb-true n 0 e)) ∙ a))
    go false e = refl

-- of a run, the Rust's run to its last step
run-without : (ceiling : Ceiling) (m : Machine) (c : Core) → SoundMachine m → Unlimited m.header.rules → Same m c → answered (run ceiling m).number ≡ false
    → meets_plays (run ceiling m).steps m ≡ false
    → ((without (Single (Run ceiling)) m c).answer ≡ Ok) × Same (run ceiling m).machine (without (Single (Run ceiling)) m c).core
run-without ceiling m c s u same a f =
    (agreed.answer ∙ ap (λ (n : ℕ). answer_of n (run to m).value) answer, subst (λ (n : Machine). Same n (without (Single (Run ceiling)) m c).core) leaves agreed.same)
  where
    k : ℕ
    k = (run ceiling m).steps

    to : Ceiling
    to = Some (run ceiling m).machine.header.steps

    inside : RefusedInside m (run ceiling m)
    inside =
        subst (RefusedInside m) (sym (run-plays ceiling m (header-sound m s.header)))
        (plays-refused (ceiling_of ceiling - m.header.steps) m
        (ap (λ n. executes n.number) (sym (run-plays ceiling m (header-sound m s.header))) ∙ not-executed (run ceiling m).number a))

    turns : ceiling_of to - m.header.steps ≡ k
    turns = let e = run-counts ceiling m in omega arith

    is : run to m ≡ plays k m
    is = run-plays to m (header-sound m s.header) ∙ ap (λ (n : ℕ). plays n m) turns

    answer : (run to m).number ≡ 0
    answer = ap (λ o. o.number) is ∙ inside.1

    leaves : (run to m).machine ≡ (run ceiling m).machine
    leaves = ap (λ o. o.machine) is ∙ sym inside.2

    agreed : Agreed (run to m) (without (Single (Run ceiling)) m c)
    agreed = run-agrees to m c s u same (ap answered answer) (ap (λ (n : ℕ). meets_plays n m) turns ∙ f)

pub without-agrees : (x : Compared) (m : Machine) (c : Core) → SoundMachine m → Unlimited m.header.rules → Same m c → answered (comes_to x m).number ≡ false
    → meets_before x m ≡ false → body_stays x m ≡ false
    → ((without x m c).answer ≡ Ok) × Same (comes_to x m).machine (without x m c).core
without-agrees (Load name body origin at start_at) m c s u same a f alone =
    (refl, rw alone (subst (λ (n : Machine). Same n c) (sym (place-refused m name body at alone).machine) same))
without-agrees (Single (Place name body at)) m c s u same a f alone =
    (refl, subst (λ (n : Machine). Same n c) (sym (place-refused m name body at (not_done (place m name body at).number a)).machine) same)
without-agrees (Single (Start name at)) m c s u same a f alone =
    (refl, subst (λ (n : Machine). Same n c) (sym (start-refused m name at (not_done (start m name at).number a)).machine) same)
without-agrees (Single Step) m c s u same a f alone = (refl, subst (λ (n : Machine). Same n c) (sym (step-refused m (not-executed (step m).number a)).machine) same)
without-agrees (Single (Run ceiling)) m c s u same a f alone = run-without ceiling m c s u same a f
