-- A warrior of a match file placed and started: one outcome after another as the code gives them, and what a machine with a sound header keeps.
-- Assumes nothing.
use Prim.Native.Nat.{ℕ, ◌+◌, ◌≤◌}
use mathlib.Core.Path.{◌≡◌, refl, sym, ap, ap₂, ◌∙◌}
use mathlib.Core.Bool.{Bool, true, false, cond}
use mathlib.Core.List.{List}
use native.Mathlib.Omega.{arith}
use lib.Dec.{eqb}
use borrow.Author.Tests.{eq-eqb, ne_eqb}
use Rattle.answer.specs.Numbers.{Told}
use Rattle.offset.specs.Offset.{ahead}
use Rattle.program.specs.Program.{instructions}
use Rattle.machine.specs.State as state
use Rattle.machine.specs.State.{Machine, Outcome, joined, and_then}
use Rattle.machine.specs.Place.{place}
use Rattle.machine.specs.Start.{start}
use Rattle.machine.proofs.Soundness.{SoundHeader, header-sound, size-most}
use Rattle.machine.proofs.Place.{place-by-cases, is-placed, placeable, place-fixed, place-sound}
use Rattle.machine.proofs.Start.{start-fixed, start-sound}
use Rattle.lent.specs.Given.{Given, given, given_by}
use Rattle.warrior.specs.Tested.{start_tested}
use Rattle.warrior.proofs.Testing.{tested-place, tested-start}
use Rattle.match_format.specs.Format.{Warrior}
use Rattle.match_file.specs.Reading.{size_in, warrior_of}
use Rattle.match_load.specs.Loading.{origin_of, started_at, place_and_start}
use Rattle.match_load.specs.Inner.Tested.{tested}

-- the first outcome is refused, or the second follows
module _ {t : Told} {w s : ℕ} {n : Machine} (o : Outcome) (f : Machine → Outcome) (gave : given t w s n ≡ given_by o) where
  pub then-refused : (t.number ≡ 0 → ⊥) → given t w s n ≡ given_by (and_then o f)
  then-refused z = gave ∙ sym (ap given_by {x = and_then o f} {y = o} (simp (ne_eqb o.number 0 (λ q. z (ap (λ (g : Given). g.told.number) gave ∙ q)))))

  pub then-follows : {v : Told} {x y : ℕ} {k : Machine} → t.number ≡ 0 → given v x y k ≡ given_by (f n) → given v (w + x) (s + y) k ≡ given_by (and_then o f)
  then-follows {v} {x} {y} {k} z e =
      ap (λ (g : Given). given g.told (w + g.writes) (s + g.steps) g.machine) e
      ∙ ap (λ (m : Machine). given_by (after m)) (ap (λ (g : Given). g.machine) gave)
      ∙ ap₂ (λ (i j : ℕ). given (state.told_by (f o.machine)) (i + (f o.machine).writes) (j + (f o.machine).steps) (f o.machine).machine)
      (ap (λ (g : Given). g.writes) gave) (ap (λ (g : Given). g.steps) gave)
      ∙ sym (ap given_by {x = and_then o f} {y = joined o (f o.machine)} (simp (eq-eqb o.number 0 (sym (ap (λ (g : Given). g.told.number) gave) ∙ z))))
    where
      after : Machine → Outcome
      after m = record {
        machine = (f m).machine;
        number = (f m).number;
        value = (f m).value;
        writes = w + (f m).writes;
        steps = s + (f m).steps;
        pushes = (f m).pushes;
      }

-- under a sound header
module _ (m : Machine) (s : SoundHeader m) (name body : List ℕ) (at : ℕ) where
  abbrev first : Outcome
  first = place m name body at

  abbrev follows : Outcome → Outcome
  follows p = cond (eqb first.number 0) (joined first p) first

  tested-is : (origin : ℕ) → tested m name body origin at ≡ and_then first (λ n. start n name (ahead m.header.rules.size at (origin_of origin)))
  tested-is origin =
      ap (λ (o : Outcome). and_then o (λ n. start_tested n name (ahead m.header.rules.size at (origin_of origin)))) (tested-place m (header-sound m s) name body at)
      ∙ ap follows (tested-start first.machine (header-sound first.machine (place-sound m name body at s)) name (ahead m.header.rules.size at (origin_of origin)))

-- whatever holds of the place alone, and of the start after it
pub place-start-by-cases : (P : Outcome → Type 0) (o p : Outcome) → P o → P (joined o p) → P (cond (eqb o.number 0) (joined o p) o)
place-start-by-cases P o p x y = go (eqb o.number 0)
  where
    go : (b : Bool) → P (cond b (joined o p) o)
    go true = y
    go false = x

-- warrior k of a file
module _ (f : List ℕ) (k : ℕ) (m : Machine) where
  abbrev w : Warrior
  w = warrior_of f k

  abbrev placing : Outcome
  placing = place m w.name w.body w.place

  abbrev starting : Outcome
  starting = start placing.machine w.name (started_at f k)

  pub no-steps : (place_and_start f k m).steps ≡ 0
  no-steps =
      let p = (place-fixed m w.name w.body w.place).4 in
      let s = (start-fixed placing.machine w.name (started_at f k)).4 in
      place-start-by-cases (λ o. o.steps ≡ 0) placing starting p (rw (p, s) refl)

  placing-writes : SoundHeader m → placing.writes ≤ 46341
  placing-writes s =
      place-by-cases m w.name w.body w.place (λ o. o.writes ≤ 46341) (λ n v e x. omega arith)
      (λ e.
      let l : instructions w.body ≤ m.header.rules.size = (placeable m w.name w.body w.place e).short in
      omega (arith, (is-placed m w.name w.body w.place).writes, size-most m s))

  pub few-writes : SoundHeader m → (place_and_start f k m).writes ≤ 46341
  few-writes s =
      let p = placing-writes s in
      let q = (start-fixed placing.machine w.name (started_at f k)).5 in
      place-start-by-cases (λ o. o.writes ≤ 46341) placing starting p (omega (arith, p, q))

  pub stays-sound : SoundHeader m → SoundHeader (place_and_start f k m).machine
  stays-sound s =
      let p = place-sound m w.name w.body w.place s in
      place-start-by-cases (λ o. SoundHeader o.machine) placing starting p (start-sound placing.machine w.name (started_at f k) p)

  -- as the code gives it of a header that was tested before
  pub placed-and-started : {g : Given} (v : Warrior) → SoundHeader m → size_in f ≡ m.header.rules.size → v ≡ w
      → g ≡ given_by (tested m v.name v.body v.origin v.place) → g ≡ given_by (place_and_start f k m)
  placed-and-started v s size is e =
      e
      ∙ ap given_by (tested-is m s v.name v.body v.place v.origin
      ∙ ap (λ (x : Warrior). and_then (place m x.name x.body x.place) (λ n. start n x.name (ahead m.header.rules.size x.place (origin_of x.origin)))) is
      ∙ ap (λ (size : ℕ). and_then placing (λ n. start n w.name (ahead size w.place (origin_of w.origin)))) (sym size))
