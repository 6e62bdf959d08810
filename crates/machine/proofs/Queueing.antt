-- Laws of the pushes of a step: nothing, the next place, or it and a child. They change the queue, the counts and the thread numbers only.
-- Assumes nothing.
use Prim.Native.Nat.{ℕ, ◌≤◌, ◌<◌}
use mathlib.Core.Path.{◌≡◌, refl}
use mathlib.Core.Bool.{Bool, true, false, cond}
use native.Mathlib.Omega.{arith}
use Rattle.machine.specs.declared.Entry.{Entry}
use Rattle.machine.specs.State.{Machine}
use Rattle.machine.specs.Names.{numbered}
use Rattle.machine.specs.Queue.{entry, full, push, started}
use Rattle.machine.specs.Execution.{Next, ends, goes, splits}
use Rattle.machine.specs.Step.{Queued, queued}
use Rattle.machine.proofs.Soundness.{SoundHeader, push-sound, started-sound}
use Rattle.machine.proofs.Execution.{Places}

-- the three ways to queue: nothing; the next place; the next place and, where the name does not hold P, a child
module _ (P : Queued → Type 0) (Q : ℕ → Type 0) (e : Entry) (m : Machine) where
  abbrev next : ℕ → Machine
  next p = push (entry p e.thread e.name) m

  pub queued-by-cases : P (record { machine = m; pushes = 0 })
      → ((p : ℕ) → Q p → P (record { machine = next p; pushes = 1 }))
      → ((p c : ℕ) → Q p → Q c → full (next p) e.name ≡ false → P (record { machine = started c e.name (next p); pushes = 2 }))
      → (x : Next) → Places Q x → P (queued x e m)
  queued-by-cases nothing one two (ends x) q = nothing
  queued-by-cases nothing one two (goes p) q = one p q
  queued-by-cases nothing one two (splits p c) q = go (full (next p) e.name) refl
    where
      go : (b : Bool) → full (next p) e.name ≡ b
          → P (cond b (record { machine = next p; pushes = 1 }) (record { machine = started c e.name (next p); pushes = 2 }))
      go true f = one p q.0
      go false f = two p c q.0 q.1 f

-- of any places
pub any-places : (x : Next) → Places (λ p. Unit {0}) x
any-places (ends x) = tt
any-places (goes p) = tt
any-places (splits p c) = (tt, tt)

-- queueing changes the queue, the counts and the next thread numbers
pub record QueueOnly (m : Machine) (q : Queued) : Type 0 where
  pub core : q.machine.core ≡ m.core
  pub rules : q.machine.header.rules ≡ m.header.rules
  pub steps : q.machine.header.steps ≡ m.header.steps
  pub names : q.machine.header.names ≡ m.header.names
  pub pushes : q.pushes ≤ 2

pub queue-only : (x : Next) (e : Entry) (m : Machine) → QueueOnly m (queued x e m)
unfolding push started numbered
queue-only x e m =
    queued-by-cases (QueueOnly m) (λ p. Unit {0}) e m
    (record { core = refl; rules = refl; steps = refl; names = refl; pushes = omega arith })
    (λ p q. record { core = refl; rules = refl; steps = refl; names = refl; pushes = omega arith })
    (λ p c q r f. record {
      core = refl;
      rules = refl;
      steps = refl;
      names = refl;
      pushes = omega arith;
    }) x (any-places x)

-- a sound header stays sound
pub queued-sound : (x : Next) (e : Entry) (m : Machine) → SoundHeader m → e.name < m.header.names.held → full m e.name ≡ false
    → SoundHeader (queued x e m).machine
unfolding push
queued-sound x e m s held free =
    queued-by-cases (λ q. SoundHeader q.machine) (λ p. Unit {0}) e m s
    (λ p q. push-sound m s (entry p e.thread e.name) held free)
    (λ p c q r f.
    started-sound c e.name (push (entry p e.thread e.name) m) (push-sound m s (entry p e.thread e.name) held free) held f)
    x (any-places x)
