-- The Rust's run ends by its loop's test or by a step that is not Ok: the turns that the definition allows are enough.
-- Assumes nothing.
use Prim.Native.Nat.{ℕ, zero, suc, ◌+◌, ◌-◌, ◌≤◌}
use mathlib.Core.Path.{◌≡◌, refl, sym, ◌∙◌}
use mathlib.Core.Bool.{Bool, true, false, cond, false≢true}
use mathlib.Core.Option.{Option}
use native.Mathlib.Omega.{arith}
use lib.Dec.{ltb}
use lib.ListN.{length}
use borrow.Author.Tests.{ltb-false}
use Rattle.reference.specs.Opcodes as Opcodes
use Rattle.reference.specs.Opcodes.{Result, execute}
use Rattle.reference.specs.Process as Process
use Rattle.reference.specs.Process.{Entry, Popped, pop}
use Rattle.reference.specs.Core.{Core, Ok, Returned, after, stepped, step, max_cycles, is_ok, loop, run}

after-counts : (m : ℕ) (r : Result) (e : Entry) (c : Core) → (after m r e c).core.steps_taken ≡ c.steps_taken
after-counts m (Opcodes.Ok x) e c = refl
after-counts m (Opcodes.Err x) e c = refl
after-counts m Opcodes.Panic e c = refl

step_counts : (c : Core) → is_ok (step c).answer ≡ true → (step c).core.steps_taken ≡ c.steps_taken + 1
unfolding step
step_counts c ok = go (pop c.process_queue) ok
  where
    go : (p : Popped) → is_ok (stepped c p).answer ≡ true → (stepped c p).core.steps_taken ≡ c.steps_taken + 1
    go (Process.Err err) h = absurd (false≢true h)
    go Process.Panic h = absurd (false≢true h)
    go (Process.Ok e q) h = after-counts (length c.instructions) (execute (length c.instructions) c.instructions e.offset).result e _

loop-ends : (k max : ℕ) (c : Core) → max ≤ c.steps_taken + k → is_ok (loop k max c).answer ≡ true → max ≤ (loop k max c).core.steps_taken
loop-ends zero max c h ok = omega arith
loop-ends (suc k) max c h ok = test (ltb c.steps_taken max) refl ok (loop-ends k max (step c).core)
  where
    Rest : Type 0
    Rest = max ≤ (step c).core.steps_taken + k → is_ok (loop k max (step c).core).answer ≡ true → max ≤ (loop k max (step c).core).core.steps_taken

    turn : (b : Bool) → is_ok (step c).answer ≡ b → is_ok (cond {A = Returned} b (loop k max (step c).core) (step c)).answer ≡ true → Rest
        → max ≤ (cond {A = Returned} b (loop k max (step c).core) (step c)).core.steps_taken
    turn true e ok r = r (let z = step_counts c e in omega arith) ok
    turn false e ok r = absurd (false≢true (sym e ∙ ok))

    more : Returned
    more = cond (is_ok (step c).answer) (loop k max (step c).core) (step c)

    test : (b : Bool) → ltb c.steps_taken max ≡ b → is_ok (cond b more (record { core = c; answer = Ok })).answer ≡ true → Rest
        → max ≤ (cond b more (record { core = c; answer = Ok })).core.steps_taken
    test true e ok r = turn (is_ok (step c).answer) refl ok r
    test false e ok r = ltb-false c.steps_taken max e

pub run_ends : (n : Option ℕ) (c : Core) → is_ok (run n c).answer ≡ true → max_cycles n ≤ (run n c).core.steps_taken
unfolding run
run_ends n c ok = loop-ends (max_cycles n - c.steps_taken) (max_cycles n) c (omega arith) ok
