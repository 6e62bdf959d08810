-- Laws of starting. For every machine: refusals, lengths, what an accepted call leaves. A sound header stays sound.
-- Assumes nothing.
use Prim.Native.Nat.{ℕ, ◌<◌}
use mathlib.Core.Path.{◌≡◌, refl, sym, ap, ◌∙◌}
use mathlib.Core.Bool.{true, false, not, ◌&&◌, true≢false}
use mathlib.Core.List.{List}
use lib.Dec.{eqb}
use lib.ListN.{length, get_or, length-set}
use borrow.Author.Tests.{leb-false, not-false}
use Rattle.laws.proofs.Tests.{neither}
use Rattle.laws.proofs.Every.{◌and◌}
use Rattle.metadata.specs.Metadata.{valid_name, called}
use Rattle.machine.specs.State.{Machine, Outcome, accepted, refusal, first, settle}
use Rattle.machine.specs.Names.{slot, is_new, seventeenth, numbered}
use Rattle.machine.specs.Queue.{full, push, started}
use Rattle.machine.specs.Start.{starting, start_checks, start}
use Rattle.machine.proofs.Checks.{passed, settle-by-cases, Refused, refused}
use Rattle.machine.proofs.Soundness.{SoundHeader, started-sound}
use Rattle.machine.proofs.Registering.{renamed, naming, naming-sound, naming-held, naming-less}

-- an accepted call: what its checks told
pub record Startable (m : Machine) (given : List ℕ) (at : ℕ) : Type 0 where
  pub valid : valid_name given ≡ true
  pub inside : at < m.header.rules.size
  pub free : seventeenth m.header.names (called given) ≡ false
  pub less : (not (is_new m.header.names (called given)) && full m (slot m.header.names (called given))) ≡ false
  pub number : (not (is_new m.header.names (called given)) && eqb (get_or m.header.threads (slot m.header.names (called given)) 0) 4294967295) ≡ false

pub startable : (m : Machine) (given : List ℕ) (at : ℕ) → first (start_checks m given at) ≡ accepted → Startable m given at
startable m given at e =
    let p = passed (start_checks m given at) e in
    let five = neither _ _ p.1.0 in
    record {
      valid = not-false _ five.0;
      inside = leb-false _ _ five.1;
      free = p.1.1.0;
      less = p.1.1.1.0;
      number = p.1.1.1.1.0;
    }

-- what it leaves
pub record Started (m : Machine) (o : Outcome) : Type 0 where
  pub core : o.machine.core ≡ m.core
  pub queue : length o.machine.queue ≡ length m.queue
  pub rules : o.machine.header.rules ≡ m.header.rules
  pub steps : o.machine.header.steps ≡ m.header.steps
  pub number : o.number ≡ 0
  pub writes : o.writes ≡ 0
  pub counted : o.steps ≡ 0
  pub pushes : o.pushes ≡ 1

module _ (m : Machine) (given : List ℕ) (at : ℕ) where
  pub is-started : Started m (starting m (called given) at)
  unfolding starting started push numbered
  is-started =
      let r = renamed m.header (called given) in
      record { core = refl; queue = length-set m.queue _ _; rules = r.rules; steps = r.steps; number = refl; writes = refl; counted = refl; pushes = refl }

  -- a call is refused, and leaves the machine as it was, or it is accepted
  pub start-by-cases : (P : Outcome → Type 0)
      → ((n v : ℕ) → first (start_checks m given at) ≡ refusal n v → eqb n 0 ≡ false → P (settle (refusal n v) m (starting m (called given) at)))
      → (first (start_checks m given at) ≡ accepted → P (starting m (called given) at))
      → P (start m given at)
  unfolding start
  start-by-cases =
      settle-by-cases (λ n. eqb n 0 ≡ false) (start_checks m given at) m (starting m (called given) at)
      (refl and refl and refl and refl and refl and tt)

  pub start-refused : eqb (start m given at).number 0 ≡ false → Refused m (start m given at)
  start-refused =
      start-by-cases (λ o. eqb o.number 0 ≡ false → Refused m o) (λ n v e x f. refused n v m (starting m (called given) at))
      (λ e f. absurd (true≢false (sym (ap (λ (n : ℕ). eqb n 0) is-started.number) ∙ f)))

  -- the core, the length of the queue, the rules, and steps taken; and no writes
  pub start-fixed : ((start m given at).machine.core ≡ m.core)
      × (length (start m given at).machine.queue ≡ length m.queue)
      × ((start m given at).machine.header.rules ≡ m.header.rules)
      × ((start m given at).machine.header.steps ≡ m.header.steps)
      × ((start m given at).steps ≡ 0)
      × ((start m given at).writes ≡ 0)
  start-fixed =
      start-by-cases
      (λ o. (o.machine.core ≡ m.core) × (length o.machine.queue ≡ length m.queue) × (o.machine.header.rules ≡ m.header.rules)
      × (o.machine.header.steps ≡ m.header.steps) × (o.steps ≡ 0) × (o.writes ≡ 0))
      (λ n v e x. (refl, refl, refl, refl, refl, refl))
      (λ e. let i = is-started in (i.core, i.queue, i.rules, i.steps, i.counted, i.writes))

  -- a sound header stays sound
  pub starting-sound : SoundHeader m → Startable m given at → SoundHeader (starting m (called given) at).machine
  unfolding starting
  starting-sound s l =
      started-sound at (slot m.header.names (called given)) (naming m given m.core) (naming-sound m given m.core s l.valid l.free s.core)
      (naming-held m given m.core s l.valid l.free).below (naming-less m given m.core s l.valid l.free l.less)

  pub start-sound : SoundHeader m → SoundHeader (start m given at).machine
  start-sound s = start-by-cases (λ o. SoundHeader o.machine) (λ n v e x. s) (λ e. starting-sound s (startable m given at e))
