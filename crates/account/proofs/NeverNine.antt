-- From fresh on the machine is sound all through, and no call answers 9.
-- Assumes nothing.
use Prim.Native.Nat.{ℕ, zero, suc, ◌+◌}
use mathlib.Core.Path.{◌≡◌, refl, ap, subst}
use mathlib.Core.Bool.{Bool, true, false, not}
use mathlib.Core.List.{List, [], ◌∷◌}
use mathlib.Core.Logic.{inl, inr}
use lib.Dec.{eqb}
use Rattle.laws.proofs.Every.{◌and◌}
use Rattle.machine.specs.declared.Rules.{Rules}
use Rattle.machine.specs.State.{Machine}
use Rattle.machine.specs.Fresh.{fresh}
use Rattle.machine.specs.Place.{place}
use Rattle.machine.specs.Start.{start}
use Rattle.machine.proofs.Checks.{other, Without, without}
use Rattle.machine.proofs.Soundness.{header-sound}
use Rattle.machine.proofs.SoundMachine.{SoundMachine, fresh-sound, place-keeps, start-keeps, step_keeps, run-keeps-sound}
use Rattle.machine.proofs.NotNine.{place-not-nine, start-not-nine, step-not-nine, run-not-nine, read_done}
use Rattle.match_format.specs.Faults.{fault}
use Rattle.match_file.specs.Reading.{warriors_in, warrior_of}
use Rattle.match_file.proofs.Refusal.{thirteen}
use Rattle.match_load.specs.Loading.{started_at, place_and_start, loads, match_checks}
use Rattle.match_load.proofs.Warrior.{place-start-by-cases}
use Rattle.match_load.proofs.Sound.{warrior-keeps}
use Rattle.account.specs.Calls.{Call, Place, Start, Step, Run, outcome, left}
use Rattle.account.specs.Lists.{Listed, One, LoadMatch, outcome_of, spread}
use Rattle.account.specs.Endings.{reached, NeverNine, ReadingDone}
use Rattle.account.proofs.Spread.{match-by-cases, spreads}

pub call-sound : (c : Call) (m : Machine) → SoundMachine m → SoundMachine (outcome c m).machine
call-sound (Place name body at) m s = place-keeps m name at s body
call-sound (Start name at) m s = start-keeps m name at s
call-sound Step m s = step_keeps m s
call-sound (Run c) m s = run-keeps-sound c m s

calls-sound : (calls : List Call) (m : Machine) → SoundMachine m → SoundMachine (left outcome calls m)
calls-sound [] m s = s
calls-sound (c ∷ cs) m s = calls-sound cs (outcome c m).machine (call-sound c m s)

call-not-nine : (c : Call) (m : Machine) → SoundMachine m → (outcome c m).number ≡ 9 → ⊥
call-not-nine (Place name body at) m s = place-not-nine m s name body at
call-not-nine (Start name at) m s = start-not-nine m s name at
call-not-nine Step m s = step-not-nine m s
call-not-nine (Run c) m s = run-not-nine c m s

-- nor a warrior placed and then started
warrior-not-nine : (f : List ℕ) (k : ℕ) (m : Machine) → SoundMachine m → (place_and_start f k m).number ≡ 9 → ⊥
warrior-not-nine f k m s =
    let w = warrior_of f k in
    let p = place m w.name w.body w.place in
    place-start-by-cases (λ o. o.number ≡ 9 → ⊥) p (start p.machine w.name (started_at f k)) (place-not-nine m s w.name w.body w.place)
    (start-not-nine p.machine (place-keeps m w.name w.place s w.body) w.name (started_at f k))

loads-not-nine : (f : List ℕ) (k n : ℕ) (m : Machine) → SoundMachine m → (loads f k n m).outcome.number ≡ 9 → ⊥
loads-not-nine f k zero m s = other tt
loads-not-nine f k (suc n) m s =
    go (eqb (place_and_start f k m).number 0) refl (warrior-not-nine f k m s)
    (loads-not-nine f (k + 1) n (place_and_start f k m).machine (warrior-keeps f k m s))
  where
    go : (b : Bool) → eqb (place_and_start f k m).number 0 ≡ b → ((place_and_start f k m).number ≡ 9 → ⊥)
        → ((loads f (k + 1) n (place_and_start f k m).machine).outcome.number ≡ 9 → ⊥) → (loads f k (suc n) m).outcome.number ≡ 9 → ⊥
    go true z x y = rw z y
    go false z x y = rw z x

match-without-nine : (f : List ℕ) (m : Machine) → SoundMachine m → Without 9 (match_checks m f)
match-without-nine f m s =
    inl (ap not (header-sound m s.header))
    and λ a. inr (other (rw (thirteen (fault f)) tt))
    and λ b. inr (other tt)
    and λ c. tt

listed-not-nine : (x : Listed) (m : Machine) → SoundMachine m → (outcome_of x m).number ≡ 9 → ⊥
listed-not-nine (One c) m s = call-not-nine c m s
listed-not-nine (LoadMatch f) m s =
    match-by-cases f m (λ b l. l.outcome.number ≡ 9 → ⊥) (λ n v e. without 9 (match_checks m f) (match-without-nine f m s) n v e)
    (λ e. loads-not-nine f 0 (warriors_in f) m s)

pub always-sound : (rules : Rules) (core queue : List ℕ) → (fresh rules core queue).number ≡ 0 → (calls : List Listed)
    → SoundMachine (reached rules core queue calls)
always-sound rules core queue ok calls =
    let m = (fresh rules core queue).machine in
    subst SoundMachine (spreads calls m).machine (calls-sound (spread calls m) m (fresh-sound rules core queue ok))

pub never_nine : NeverNine
never_nine rules core queue ok calls c = listed-not-nine c (reached rules core queue calls) (always-sound rules core queue ok calls)

-- and every cell reading is answered 0
pub reading_done : ReadingDone
reading_done rules core queue ok calls z = read_done (reached rules core queue calls) (always-sound rules core queue ok calls) z
