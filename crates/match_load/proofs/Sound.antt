-- A match loaded in one call keeps a machine sound all through.
-- Assumes nothing.
use Prim.Native.Nat.{ℕ, zero, suc, ◌+◌}
use mathlib.Core.Bool.{Bool, true, false, cond}
use mathlib.Core.List.{List}
use lib.Dec.{eqb}
use Rattle.machine.specs.State.{Machine, joined, Verdict, accepted, refusal, first}
use Rattle.machine.specs.Start.{start}
use Rattle.machine.specs.Place.{place}
use Rattle.machine.proofs.SoundMachine.{SoundMachine, place-keeps, start-keeps}
use Rattle.match_file.specs.Reading.{warriors_in, warrior_of}
use Rattle.match_load.specs.Loading.{Loads, started_at, place_and_start, loads, match_checks, after_checks, load_match}
use Rattle.match_load.proofs.Warrior.{place-start-by-cases}

either : (P : Loads → Type 0) (b : Bool) (x y : Loads) → P x → P y → P (cond b x y)
either P true x y p q = p
either P false x y p q = q

pub warrior-keeps : (f : List ℕ) (k : ℕ) (m : Machine) → SoundMachine m → SoundMachine (place_and_start f k m).machine
warrior-keeps f k m s =
    let w = warrior_of f k in
    let o = place m w.name w.body w.place in
    let p = place-keeps m w.name w.place s w.body in
    place-start-by-cases (λ x. SoundMachine x.machine) o (start o.machine w.name (started_at f k)) p (start-keeps o.machine w.name (started_at f k) p)

loads-keep : (f : List ℕ) (k n : ℕ) (m : Machine) → SoundMachine m → SoundMachine (loads f k n m).outcome.machine
loads-keep f k zero m s = s
loads-keep f k (suc n) m s =
    let o = place_and_start f k m in
    let more = loads f (k + 1) n o.machine in
    let next = warrior-keeps f k m s in
    either (λ (l : Loads). SoundMachine l.outcome.machine) (eqb o.number 0)
    (record { outcome = joined o more.outcome; warrior = more.warrior }) (record { outcome = o; warrior = k })
    (loads-keep f (k + 1) n o.machine next) next

pub match-keeps : (m : Machine) (f : List ℕ) → SoundMachine m → SoundMachine (load_match m f).outcome.machine
unfolding load_match
match-keeps m f s = go (first (match_checks m f))
  where
    go : (v : Verdict) → SoundMachine (after_checks v m (loads f 0 (warriors_in f) m)).outcome.machine
    go accepted = loads-keep f 0 (warriors_in f) m s
    go (refusal n v) = s
