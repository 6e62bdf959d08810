-- A run, from a same state: to a same state, with the Rust's answer.
-- Assumes nothing.
use Rattle.std.specs.Prelude.{None, Some}
use Prim.Native.Nat.{ℕ, zero, suc, ◌+◌, ◌-◌}
use mathlib.Core.Path.{◌≡◌, refl, sym, ap, ap₂, subst, ◌∙◌}
use mathlib.Core.Bool.{Bool, true, false, cond}
use native.Mathlib.Omega.{arith}
use lib.Dec.{eqb, ltb}
use borrow.Author.Tests.{eqb-true, lt-ltb}
use Rattle.laws.proofs.Tests.{neither}
use Rattle.machine.specs.State.{Machine, joined}
use Rattle.machine.specs.Step.{step}
use Rattle.machine.specs.Run.{Ceiling, plays, ceiling_of, run}
use Rattle.machine.specs.Whole.{Unlimited}
use Rattle.machine.proofs.Soundness.{header-sound}
use Rattle.machine.proofs.Step.{step-executed, step-fixed}
use Rattle.machine.proofs.Run.{run-plays}
use Rattle.machine.proofs.SoundMachine.{SoundMachine, step_keeps}
use Rattle.reference.specs.Process.{NoRemainingProcesses, ExecuteDat, DivideByZero}
use Rattle.reference.specs.Core as Rust
use Rattle.reference.specs.Core.{Core, WarriorTooLong, Err, Panic, max_cycles, is_ok, loop}
use Rattle.reference.specs.Same.{Same}
use Rattle.reference.specs.Refinement.{meets_step, meets_plays, answered, cycles_of, answer_of}
use Rattle.reference.proofs.Stepping.{Agreed, step-agrees}

-- an answer that is not 0 is not Ok
not-ok : (n v : ℕ) → eqb n 0 ≡ false → is_ok (answer_of n v) ≡ false
not-ok n v e = simp e (go (eqb n 3) (eqb n 7) (eqb n 11) (eqb n 12))
  where
    go : (a b c d : Bool)
        → is_ok (cond a WarriorTooLong (cond b (Err NoRemainingProcesses) (cond c (Err (ExecuteDat v)) (cond d (Err DivideByZero) Panic)))) ≡ false
    go true b c d = refl
    go false true c d = refl
    go false false true d = refl
    go false false false true = refl
    go false false false false = refl

plays-agree : (k max : ℕ) (m : Machine) (c : Core) → SoundMachine m → Unlimited m.header.rules → Same m c → k ≡ max - m.header.steps
    → answered (plays k m).number ≡ true → meets_plays k m ≡ false → Agreed (plays k m) (loop k max c)
plays-agree zero max m c s u same q a f = record { answer = refl; same = same }
plays-agree (suc k) max m c s u same q a f =
    go (eqb (step m).number 0) refl a free.1
    (plays-agree k max (step m).machine (Rust.step c).core (step_keeps m s) (subst Unlimited (sym (step-fixed m).0) u))
  where
    Rest : Type 0
    Rest = Same (step m).machine (Rust.step c).core → k ≡ max - (step m).machine.header.steps → answered (plays k (step m).machine).number ≡ true
        → meets_plays k (step m).machine ≡ false → Agreed (plays k (step m).machine) (loop k max (Rust.step c).core)

    free : (meets_step m ≡ false) × (cond (eqb (step m).number 0) (meets_plays k (step m).machine) false ≡ false)
    free = neither (meets_step m) _ f

    turn : loop (suc k) max c ≡ cond (is_ok (Rust.step c).answer) (loop k max (Rust.step c).core) (Rust.step c)
    turn = simp (ap (λ (n : ℕ). ltb n max) same.steps_taken ∙ lt-ltb m.header.steps max (omega arith))

    go : (b : Bool) → eqb (step m).number 0 ≡ b
        → answered (cond b (joined (step m) (plays k (step m).machine)) (step m)).number ≡ true
        → cond b (meets_plays k (step m).machine) false ≡ false
        → Rest
        → Agreed (cond b (joined (step m) (plays k (step m).machine)) (step m)) (loop (suc k) max c)
    go true e a g r =
        rw (turn, ap is_ok (one.answer ∙ ap (λ (n : ℕ). answer_of n (step m).value) zero_is)) (record { answer = rest.answer; same = rest.same })
      where
        zero_is : (step m).number ≡ 0
        zero_is = eqb-true _ _ e

        one : Agreed (step m) (Rust.step c)
        one = step-agrees m c s u same (ap answered zero_is) free.0

        counts : (step m).machine.header.steps ≡ m.header.steps + 1
        counts = (step-executed m (rw zero_is)).1.steps

        rest : Agreed (plays k (step m).machine) (loop k max (Rust.step c).core)
        rest = r one.same (omega (arith, counts)) a g
    go false e a g r = rw (turn, ap is_ok one.answer ∙ not-ok (step m).number (step m).value e) one
      where
        one : Agreed (step m) (Rust.step c)
        one = step-agrees m c s u same a free.0

cycles-are : (ceiling : Ceiling) → max_cycles (cycles_of ceiling) ≡ ceiling_of ceiling
cycles-are None = refl
cycles-are (Some n) = refl

-- the loop goes round as often as our run steps
turns-are : (ceiling : Ceiling) (m : Machine) (c : Core) → Same m c
    → Rust.run (cycles_of ceiling) c ≡ loop (ceiling_of ceiling - m.header.steps) (ceiling_of ceiling) c
unfolding Rust.run
turns-are ceiling m c same = ap₂ (λ (x y : ℕ). loop (x - y) x c) (cycles-are ceiling) same.steps_taken

pub run-agrees : (ceiling : Ceiling) (m : Machine) (c : Core) → SoundMachine m → Unlimited m.header.rules → Same m c
    → answered (run ceiling m).number ≡ true → meets_plays (ceiling_of ceiling - m.header.steps) m ≡ false
    → Agreed (run ceiling m) (Rust.run (cycles_of ceiling) c)
run-agrees ceiling m c s u same =
    rw (run-plays ceiling m (header-sound m s.header), turns-are ceiling m c same)
    (plays-agree (ceiling_of ceiling - m.header.steps) (ceiling_of ceiling) m c s u same refl)
