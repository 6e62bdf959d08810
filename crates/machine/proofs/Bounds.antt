-- Steps taken and next thread numbers stay at most 4,294,967,295: the part of 01's sound header that the program has by its types.
-- Assumes nothing.
use Prim.Native.Nat.{ℕ, ◌≤◌, ◌<◌}
use mathlib.Core.Path.{◌≡◌, refl, sym, subst}
use mathlib.Core.Bool.{Bool, true, false, cond, not, ◌&&◌}
use mathlib.Core.List.{List}
use native.Mathlib.Omega.{arith}
use lib.Dec.{eqb}
use lib.ListN.{get_or, set}
use borrow.Author.Tests.{eqb-true, eqb-false}
use Rattle.laws.proofs.Tests.{neither}
use Rattle.laws.proofs.Lists.{zero-there}
use Rattle.laws.proofs.Every.{Every, every-or, every_set, every-replicate}
use Rattle.metadata.specs.Metadata.{called}
use Rattle.machine.specs.declared.Header.{Header}
use Rattle.machine.specs.declared.Rules.{Rules}
use Rattle.machine.specs.State.{Machine, accepted, first}
use Rattle.machine.specs.Names.{slot, is_new, register, registered, numbered}
use Rattle.machine.specs.Queue.{pop, push, started}
use Rattle.machine.specs.Fresh.{blank}
use Rattle.machine.specs.Place.{placing, place}
use Rattle.machine.specs.Start.{starting}
use Rattle.machine.specs.Step.{popped, effect, counted, executed, step_checks, step}
use Rattle.machine.specs.Run.{Ceiling, run}
use Rattle.machine.proofs.Checks.{passed}
use Rattle.machine.proofs.Registering.{naming}
use Rattle.machine.proofs.Start.{Startable}
use Rattle.machine.proofs.Queueing.{queued-by-cases, any-places}
use Rattle.machine.proofs.Step.{step-by-cases, counting}
use Rattle.machine.proofs.Run.{run-keeps}

pub record Bounded (h : Header) : Type 0 where
  pub steps : h.steps ≤ 4294967295
  pub threads : Every (λ k. k ≤ 4294967295) h.threads

pub blank-bounded : (rules : Rules) → Bounded (blank rules)
blank-bounded rules = record { steps = omega arith; threads = every-replicate (λ k. k ≤ 4294967295) 16 0 (omega arith) }

-- a next thread number at an index; one that is not the greatest is below it
pub thread-most : (h : Header) (i : ℕ) → Bounded h → get_or h.threads i 0 ≤ 4294967295
thread-most h i b = every-or (λ k. k ≤ 4294967295) h.threads i 0 b.threads (omega arith)

thread-below : (h : Header) (i : ℕ) → Bounded h → eqb (get_or h.threads i 0) 4294967295 ≡ false → get_or h.threads i 0 < 4294967295
thread-below h i b e =
    let l = thread-most h i b in
    let n : get_or h.threads i 0 ≡ 4294967295 → ⊥ = eqb-false _ _ e in
    omega arith

started-bounded : (place i : ℕ) (m : Machine) → get_or m.header.threads i 0 < 4294967295 → Bounded m.header → Bounded (started place i m).header
unfolding started push numbered
started-bounded place i m h b =
    record { steps = b.steps; threads = every_set (λ k. k ≤ 4294967295) m.header.threads i _ b.threads (omega arith) }

-- a step
pub executed-bounded : (m : Machine) → first (step_checks m) ≡ accepted → Bounded m.header → Bounded (executed m).machine.header
unfolding executed push counted pop
executed-bounded m e b =
    queued-by-cases (λ q. Bounded q.machine.header) (λ p. Unit {0}) (popped m) (counting m) one
    (λ p q. record { steps = one.steps; threads = one.threads })
    (λ p c q r f. started-bounded c (popped m).name _ below (record { steps = one.steps; threads = one.threads }))
    (effect m).next (any-places (effect m).next)
  where
    eight : (eqb m.header.steps 4294967295 ≡ false) × (eqb (get_or m.header.threads (popped m).name 0) 4294967295 ≡ false)
    eight = neither _ _ (passed (step_checks m) e).1.1.1.0

    below : get_or m.header.threads (popped m).name 0 < 4294967295
    below = thread-below m.header (popped m).name b eight.1

    one : Bounded (counting m).header
    one =
        let n : m.header.steps ≡ 4294967295 → ⊥ = eqb-false _ _ eight.0 in
        let l = b.steps in
        record { steps = omega arith; threads = b.threads }

pub step-bounded : (m : Machine) → Bounded m.header → Bounded (step m).machine.header
step-bounded m b = step-by-cases (λ o. Bounded o.machine.header) m (λ n v e x. b) (λ e. executed-bounded m e b)

pub run-bounded : (c : Ceiling) (m : Machine) → Bounded m.header → Bounded (run c m).machine.header
run-bounded c m b = run-keeps (λ n. Bounded n.header) step-bounded c m b

-- a name registered
module _ (h : Header) (n : List ℕ) (b : Bounded h) where
  registered-bounded : Bounded (registered h n)
  unfolding register
  registered-bounded = go (is_new h.names n)
    where
      go : (t : Bool) → Bounded (cond t (register h n) h)
      go true = record { steps = b.steps; threads = every_set (λ k. k ≤ 4294967295) h.threads h.names.held 0 b.threads (omega arith) }
      go false = b

  pub registered-below : (not (is_new h.names n) && eqb (get_or h.threads (slot h.names n) 0) 4294967295) ≡ false
      → get_or (registered h n).threads (slot h.names n) 0 < 4294967295
  unfolding register
  registered-below free = go (is_new h.names n) refl free
    where
      go : (t : Bool) → is_new h.names n ≡ t → (not t && eqb (get_or h.threads (slot h.names n) 0) 4294967295) ≡ false
          → get_or (cond t (register h n) h).threads (slot h.names n) 0 < 4294967295
      go false e f = thread-below h (slot h.names n) b f
      go true e f =
          let z : get_or (set h.threads h.names.held 0) (slot h.names n) 0 ≡ 0
          = subst (λ (i : ℕ). get_or (set h.threads h.names.held 0) i 0 ≡ 0) (sym (eqb-true _ _ e)) (zero-there h.threads h.names.held) in
          omega arith

-- a body placed, and a process started
module _ (m : Machine) (given : List ℕ) (at : ℕ) (b : Bounded m.header) where
  pub placing-bounded : (body : List ℕ) → Bounded (placing m (called given) body at).machine.header
  unfolding placing
  placing-bounded body = registered-bounded m.header (called given) b

  pub starting-bounded : Startable m given at → Bounded (starting m (called given) at).machine.header
  unfolding starting
  starting-bounded l =
      started-bounded at (slot m.header.names (called given)) (naming m given m.core) (registered-below m.header (called given) b l.number)
      (registered-bounded m.header (called given) b)
