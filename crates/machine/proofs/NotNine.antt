-- A machine that is sound all through is answered no 9 by place, start, step and run, and 0 by cell reading.
-- Assumes nothing.
use Prim.Native.Nat.{ℕ}
use mathlib.Core.Path.{◌≡◌, refl, sym, ap, ◌∙◌}
use mathlib.Core.Bool.{not, true≢false}
use mathlib.Core.List.{List}
use mathlib.Core.Logic.{inl, inr}
use lib.IntN.{ℤ}
use lib.ListN.{drop}
use Rattle.laws.proofs.Every.{◌and◌}
use Rattle.offset.specs.Offset.{euclid}
use Rattle.offset.proofs.Offsets.{euclid-lt}
use Rattle.machine.specs.State.{Machine}
use Rattle.machine.specs.Queue.{front}
use Rattle.machine.specs.Place.{place_checks, place}
use Rattle.machine.specs.Start.{start_checks, start}
use Rattle.machine.specs.Step.{pc, step_checks, step, executes}
use Rattle.machine.specs.Run.{Ceiling, run, read}
use Rattle.machine.proofs.Checks.{other, Without, others, without}
use Rattle.machine.proofs.Soundness.{header-sound, size-positive, entry-sound}
use Rattle.machine.proofs.Pointers.{cell-at}
use Rattle.machine.proofs.Place.{is-placed, place-by-cases}
use Rattle.machine.proofs.Start.{is-started, start-by-cases}
use Rattle.machine.proofs.Step.{seen-sound, is-executed, step-by-cases, nonzero}
use Rattle.machine.proofs.Run.{run-answers}
use Rattle.machine.proofs.SoundMachine.{SoundMachine, sound-ready, step_keeps}

module _ (m : Machine) (s : SoundMachine m) where
  step-without-nine : Without 9 (step_checks m)
  step-without-nine =
      inl (ap not (header-sound m s.header))
      and λ a. inr (other tt)
      and λ b.
      let r = sound-ready m s (nonzero b) in
      inl (ap not (entry-sound m.header (front m) r.entry))
      and λ c. inr (other tt)
      and λ d. inl (ap not (cell-at m.header.rules.size m.core s.core (pc m) r.entry.place))
      and λ e. inr (other tt)
      and λ f. inl (ap not (seen-sound m s.core r.entry.place))
      and λ g. tt

  pub step-not-nine : (step m).number ≡ 9 → ⊥
  step-not-nine =
      step-by-cases (λ o. o.number ≡ 9 → ⊥) m (λ n v e x. without 9 (step_checks m) step-without-nine n v e)
      (λ e z. true≢false (sym (is-executed m).executes ∙ ap executes z))

  place-without-nine : (given body : List ℕ) (at : ℕ) → Without 9 (place_checks m given body at)
  place-without-nine given body at =
      inl (ap not (header-sound m s.header)) and λ a. others 9 (drop 1 (place_checks m given body at)) refl

  pub place-not-nine : (given body : List ℕ) (at : ℕ) → (place m given body at).number ≡ 9 → ⊥
  place-not-nine given body at =
      place-by-cases m given body at (λ o. o.number ≡ 9 → ⊥)
      (λ n v e x. without 9 (place_checks m given body at) (place-without-nine given body at) n v e)
      (λ e. other (rw (is-placed m given body at).number tt))

  start-without-nine : (given : List ℕ) (at : ℕ) → Without 9 (start_checks m given at)
  start-without-nine given at = inl (ap not (header-sound m s.header)) and λ a. others 9 (drop 1 (start_checks m given at)) refl

  pub start-not-nine : (given : List ℕ) (at : ℕ) → (start m given at).number ≡ 9 → ⊥
  start-not-nine given at =
      start-by-cases m given at (λ o. o.number ≡ 9 → ⊥)
      (λ n v e x. without 9 (start_checks m given at) (start-without-nine given at) n v e)
      (λ e. other (rw (is-started m given at).number tt))

pub run-not-nine : (c : Ceiling) (m : Machine) → SoundMachine m → (run c m).number ≡ 9 → ⊥
run-not-nine c m s = run-answers SoundMachine step_keeps (λ n. n ≡ 9 → ⊥) (other tt) step-not-nine c m (header-sound m s.header) s

pub read_done : (m : Machine) → SoundMachine m → (z : ℤ) → (read m z).number ≡ 0
unfolding read
read_done m s z =
    rw (header-sound m s.header, cell-at m.header.rules.size m.core s.core (euclid z m.header.rules.size) (euclid-lt z m.header.rules.size (size-positive m s.header)))
