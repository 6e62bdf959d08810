-- Laws of a run: it is 01's 'while' over its steps, and keeps what every step keeps.
-- Assumes nothing.
use Rattle.std.specs.Prelude.{Some}
use Prim.Native.Nat.{ℕ, zero, suc, ◌+◌, ◌-◌, ◌≤◌, ◌<◌}
use mathlib.Core.Path.{◌≡◌, refl, sym, ap, subst, ◌∙◌}
use mathlib.Core.Bool.{Bool, true, false, cond, not, true≢false}
use native.Mathlib.Nat.{add-zero}
use native.Mathlib.Omega.{arith}
use lib.Dec.{eqb}
use borrow.Author.Tests.{eqb-true}
use Rattle.machine.specs.State.{Machine, Outcome, done, joined, accepted, refusal, first, settle}
use Rattle.machine.specs.Soundness.{sound_header}
use Rattle.machine.specs.Step.{step, step_checks, executes}
use Rattle.machine.specs.Run.{Ceiling, plays, ceiling_of, run}
use Rattle.machine.proofs.Checks.{Refused, refused}
use Rattle.machine.proofs.Names.{Shape}
use Rattle.machine.proofs.Soundness.{SoundHeader, header-sound}
use Rattle.machine.proofs.Step.{is-executed, step-by-cases, step-executed, step_counts, step_value, step-fixed, ready, step-sound}

-- an unsound header: 9, and nothing is done
pub run-unsound : (c : Ceiling) (m : Machine) → sound_header m ≡ false → run c m ≡ settle (refusal 9 0) m (plays (ceiling_of c - m.header.steps) m)
unfolding run
run-unsound c m e = rw e

step-unsound : (m : Machine) (o : Outcome) → sound_header m ≡ false → step m ≡ settle (refusal 9 0) m o
unfolding step
step-unsound m o e = rw e

pub run-refused : (c : Ceiling) (m : Machine) → sound_header m ≡ false → Refused m (run c m)
run-refused c m e = rw (run-unsound c m e) (refused 9 0 m (plays (ceiling_of c - m.header.steps) m))

-- a sound one: its steps
pub run-plays : (c : Ceiling) (m : Machine) → sound_header m ≡ true → run c m ≡ plays (ceiling_of c - m.header.steps) m
unfolding run
run-plays c m e = rw e

module _ (c : Ceiling) (m : Machine) where
  -- the ceiling is reached: nothing is done
  pub run-done : sound_header m ≡ true → ceiling_of c ≤ m.header.steps
      → run c m ≡ done m 0 0
  run-done e h = run-plays c m e ∙ ap (λ (k : ℕ). plays k m) none
    where
      none : ceiling_of c - m.header.steps ≡ 0
      none = omega arith

  abbrev rest : Outcome
  rest = plays (ceiling_of c - (m.header.steps + 1)) (step m).machine

  run-suc : sound_header m ≡ true → m.header.steps < ceiling_of c → run c m ≡ cond (eqb (step m).number 0) (joined (step m) rest) (step m)
  run-suc e h = run-plays c m e ∙ ap (λ (k : ℕ). plays k m) one
    where
      one : ceiling_of c - m.header.steps ≡ suc (ceiling_of c - (m.header.steps + 1))
      one = omega arith

  -- the first answer not 0 ends it
  pub run-stop : m.header.steps < ceiling_of c → eqb (step m).number 0 ≡ false → run c m ≡ step m
  run-stop h e = go (sound_header m) refl
    where
      go : (b : Bool) → sound_header m ≡ b → run c m ≡ step m
      go true s = run-suc s h ∙ ap (λ (b : Bool). cond b (joined (step m) rest) (step m)) e
      go false s = run-unsound c m s ∙ sym (step-unsound m (plays (ceiling_of c - m.header.steps) m) s)

-- with a ceiling of one more step it is that step
pub run-one : (m : Machine) → run (Some (m.header.steps + 1)) m ≡ step m
run-one m = go (eqb (step m).number 0) (sound_header m) refl refl
  where
    below : m.header.steps < m.header.steps + 1
    below = omega arith

    none_left : (m.header.steps + 1) - (m.header.steps + 1) ≡ 0
    none_left = omega arith

    alone : (step m).number ≡ 0 → joined (step m) (plays 0 (step m).machine) ≡ step m
    alone z = λ i.
        record {
          machine = (step m).machine;
          number = sym z i;
          value = sym (step_value m z) i;
          writes = add-zero (step m).writes i;
          steps = add-zero (step m).steps i;
          pushes = add-zero (step m).pushes i;
        }

    go : (done sound : Bool) → eqb (step m).number 0 ≡ done → sound_header m ≡ sound → run (Some (m.header.steps + 1)) m ≡ step m
    go false s e f = run-stop (Some (m.header.steps + 1)) m below e
    go true false e f = run-unsound (Some (m.header.steps + 1)) m f ∙ sym (step-unsound m (plays ((m.header.steps + 1) - m.header.steps) m) f)
    go true true e f =
        run-suc (Some (m.header.steps + 1)) m f below
        ∙ ap (λ (b : Bool). cond b (joined (step m) (rest (Some (m.header.steps + 1)) m)) (step m)) e
        ∙ ap (λ (k : ℕ). joined (step m) (plays k (step m).machine)) none_left
        ∙ alone (eqb-true (step m).number 0 e)

-- else it goes on from where the step left the machine
pub run_on : (c : Ceiling) (m : Machine) → Shape m.header → m.header.steps < ceiling_of c → eqb (step m).number 0 ≡ true
    → run c m ≡ joined (step m) (run c (step m).machine)
run_on c m s h e =
    run-suc c m (header-sound m sound) h
    ∙ ap (λ (b : Bool). cond b (joined (step m) (rest c m)) (step m)) e
    ∙ ap (λ (k : ℕ). joined (step m) (plays (ceiling_of c - k) (step m).machine)) (sym steps)
    ∙ ap (joined (step m)) (sym (run-plays c (step m).machine (header-sound (step m).machine (step-sound m sound))))
  where
    zero_number : (step m).number ≡ 0
    zero_number = eqb-true _ _ e

    does : executes (step m).number ≡ true
    does = rw zero_number

    steps : (step m).machine.header.steps ≡ m.header.steps + 1
    steps = (step-executed m does).1.steps

    sound : SoundHeader m
    sound = (ready m s (step-executed m does).0).header

-- what every step keeps
module _ (P : Machine → Type 0) (kept : (m : Machine) → P m → P (step m).machine) where
  plays-keeps : (k : ℕ) (m : Machine) → P m → P (plays k m).machine
  plays-keeps zero m h = h
  plays-keeps (suc k) m h = go (eqb (step m).number 0) (kept m h) (plays-keeps k (step m).machine (kept m h))
    where
      go : (b : Bool) → P (step m).machine → P (plays k (step m).machine).machine
          → P (cond {A = Outcome} b (joined (step m) (plays k (step m).machine)) (step m)).machine
      go true x y = y
      go false x y = x

  pub run-keeps : (c : Ceiling) (m : Machine) → P m → P (run c m).machine
  unfolding run
  run-keeps c m h = go (sound_header m)
    where
      go : (b : Bool) → P (settle (cond (not b) (refusal 9 0) accepted) m (plays (ceiling_of c - m.header.steps) m)).machine
      go true = plays-keeps (ceiling_of c - m.header.steps) m h
      go false = h

  -- and what holds of 0 and of every step's answer holds of a run's
  module _ (Q : ℕ → Type 0) (done : Q 0) (answers : (m : Machine) → P m → Q (step m).number) where
    plays-answers : (k : ℕ) (m : Machine) → P m → Q (plays k m).number
    plays-answers zero m h = done
    plays-answers (suc k) m h = go (eqb (step m).number 0) (answers m h) (plays-answers k (step m).machine (kept m h))
      where
        go : (b : Bool) → Q (step m).number → Q (plays k (step m).machine).number
            → Q (cond {A = Outcome} b (joined (step m) (plays k (step m).machine)) (step m)).number
        go true x y = y
        go false x y = x

    pub run-answers : (c : Ceiling) (m : Machine) → sound_header m ≡ true → P m → Q (run c m).number
    run-answers c m e h = rw (run-plays c m e) (plays-answers (ceiling_of c - m.header.steps) m h)

-- the rules and the names stay
pub run-fixed : (c : Ceiling) (m : Machine) → ((run c m).machine.header.rules ≡ m.header.rules) × ((run c m).machine.header.names ≡ m.header.names)
run-fixed c m =
    run-keeps (λ n. (n.header.rules ≡ m.header.rules) × (n.header.names ≡ m.header.names)) (λ n h. let s = step-fixed n in (s.0 ∙ h.0, s.1 ∙ h.1))
    c m (refl, refl)

-- the steps that a run reports are those by which steps taken rise
plays-counts : (k : ℕ) (m : Machine) → (plays k m).machine.header.steps ≡ m.header.steps + (plays k m).steps
plays-counts zero m = sym (add-zero m.header.steps)
plays-counts (suc k) m = go (eqb (step m).number 0) one (plays-counts k (step m).machine)
  where
    one : (step m).machine.header.steps ≡ m.header.steps + (step m).steps
    one = (step_counts m).0 ∙ ap (λ (k : ℕ). m.header.steps + k) (sym (step_counts m).1)

    go : (b : Bool) → (step m).machine.header.steps ≡ m.header.steps + (step m).steps
        → (plays k (step m).machine).machine.header.steps ≡ (step m).machine.header.steps + (plays k (step m).machine).steps
        → (cond {A = Outcome} b (joined (step m) (plays k (step m).machine)) (step m)).machine.header.steps
        ≡ m.header.steps + (cond {A = Outcome} b (joined (step m) (plays k (step m).machine)) (step m)).steps
    go true x y = omega arith
    go false x y = x

pub run-counts : (c : Ceiling) (m : Machine) → (run c m).machine.header.steps ≡ m.header.steps + (run c m).steps
unfolding run
run-counts c m = go (sound_header m)
  where
    k : ℕ
    k = ceiling_of c - m.header.steps

    go : (b : Bool) → (settle (cond (not b) (refusal 9 0) accepted) m (plays k m)).machine.header.steps
        ≡ m.header.steps + (settle (cond (not b) (refusal 9 0) accepted) m (plays k m)).steps
    go true = plays-counts k m
    go false = sym (add-zero m.header.steps)

-- a step answered 0 counts one
pub step-counts-one : (m : Machine) → (step m).number ≡ 0 → (k : ℕ) → (step m).steps + k ≡ suc k
step-counts-one m z k = let c : (step m).steps ≡ 1 = (step-executed m (ap executes z)).1.counted in omega arith

-- a refusal inside a run: a row applies to the step which it would take next, and up to there the steps are answered 0 and leave the same machine
abbrev pub RefusedInside : Machine → Outcome → Type 0
RefusedInside m o =
    (first (step_checks o.machine) ≡ refusal o.number o.value) × ((plays o.steps m).number ≡ 0) × (o.machine ≡ (plays o.steps m).machine)

pub plays-refused : (k : ℕ) (m : Machine) → executes (plays k m).number ≡ false → RefusedInside m (plays k m)
plays-refused zero m f = absurd (true≢false f)
plays-refused (suc k) m f = go (eqb (step m).number 0) refl f (plays-refused k (step m).machine)
  where
    rest : Outcome
    rest = plays k (step m).machine

    at_once : executes (step m).number ≡ false → RefusedInside m (step m)
    at_once =
        step-by-cases (λ o. executes o.number ≡ false → RefusedInside m o) m (λ n v e x f. (e, refl, refl))
        (λ e f. absurd (true≢false (sym (is-executed m).executes ∙ f)))

    go : (b : Bool) → eqb (step m).number 0 ≡ b → executes (cond {A = Outcome} b (joined (step m) rest) (step m)).number ≡ false
        → (executes rest.number ≡ false → RefusedInside (step m).machine rest)
        → RefusedInside m (cond b (joined (step m) rest) (step m))
    go true z f r =
        let d : (step m).number ≡ 0 = eqb-true _ _ z in
        subst (λ (s : ℕ). (first (step_checks rest.machine) ≡ refusal rest.number rest.value) × ((plays s m).number ≡ 0) × (rest.machine ≡ (plays s m).machine))
        (sym (step-counts-one m d rest.steps))
        ((r f).0, rw z (r f).1, rw z (r f).2)
    go false z f r = at_once f
