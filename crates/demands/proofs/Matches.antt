-- Demand 1 of a match loaded in one call: it is refused by its own rows, or by the row that applies to the place or the start of the warrior whose number it tells, and there only.
-- Assumes nothing.
use Prim.Native.Nat.{ℕ, zero, suc, ◌+◌, ◌<◌}
use mathlib.Core.Path.{◌≡◌, refl, sym, ap, subst, ◌∙◌}
use mathlib.Core.Bool.{Bool, true, false, cond, true≢false}
use mathlib.Core.List.{List}
use native.Mathlib.Nat.{zero-add, add-zero, add_assoc}
use native.Mathlib.Omega.{arith}
use lib.Dec.{eqb}
use borrow.Author.Tests.{eqb-true, eq-eqb}
use mathlib.Core.Logic.{inl, inr}
use Rattle.answer.specs.Numbers.{Told}
use Rattle.machine.specs.State.{Machine, Outcome, joined, told_by, Check, Verdict, accepted, refusal, first, passes, settle, verdict_told}
use Rattle.machine.proofs.Checks.{is_accepted, passes-accepted}
use Rattle.machine.specs.Place.{place_checks, place}
use Rattle.machine.specs.Start.{start_checks, start}
use Rattle.machine.proofs.Place.{is-placed, place-by-cases}
use Rattle.machine.proofs.Start.{is-started, start-by-cases}
use Rattle.lent.specs.Given.{Given, given_by}
use Rattle.match_format.specs.Format.{Warrior}
use Rattle.match_file.specs.Reading.{warriors_in, warrior_of}
use Rattle.match_load.specs.Loading.{Loads, started_at, place_and_start, loads, match_checks, load_match}
use Rattle.account.proofs.Spread.{match-by-cases}
use Rattle.demands.specs.Promise.{MatchPromise}
use Rattle.demands.specs.Refusals.{WarriorRefused, MatchRefused}

-- a place and a start that are refused: a row applies, and nothing is done; and the other way round
abbrev RowOf : List Check → Machine → Outcome → Type 0
RowOf cs m o = (first cs ≡ refusal o.number o.value) × (o.machine ≡ m) × (o.writes ≡ 0)

abbrev RefusedBy : Machine → Told → Outcome → Type 0
RefusedBy m t o = (eqb o.number 0 ≡ false) × (told_by o ≡ t) × (o.machine ≡ m) × (o.writes ≡ 0)

module _ (m : Machine) (name : List ℕ) (at : ℕ) where
  place-row : (body : List ℕ) → eqb (place m name body at).number 0 ≡ false → RowOf (place_checks m name body at) m (place m name body at)
  place-row body =
      place-by-cases m name body at (λ o. eqb o.number 0 ≡ false → RowOf (place_checks m name body at) m o) (λ n v e x z. (e, refl, refl))
      (λ e z. absurd (true≢false (sym (eq-eqb _ 0 (is-placed m name body at).number) ∙ z)))

  row-of-place : (body : List ℕ) (t : Told) → first (place_checks m name body at) ≡ refusal t.number t.value → RefusedBy m t (place m name body at)
  row-of-place body t e =
      place-by-cases m name body at (RefusedBy m t) (λ a b d x. (x, ap verdict_told (sym d ∙ e), refl, refl)) (λ d. absurd (true≢false (ap is_accepted (sym d ∙ e))))

  start-row : eqb (start m name at).number 0 ≡ false → RowOf (start_checks m name at) m (start m name at)
  start-row =
      start-by-cases m name at (λ o. eqb o.number 0 ≡ false → RowOf (start_checks m name at) m o) (λ n v e x z. (e, refl, refl))
      (λ e z. absurd (true≢false (sym (eq-eqb _ 0 (is-started m name at).number) ∙ z)))

  row-of-start : (t : Told) → first (start_checks m name at) ≡ refusal t.number t.value → RefusedBy m t (start m name at)
  row-of-start t e =
      start-by-cases m name at (RefusedBy m t) (λ a b d x. (x, ap verdict_told (sym d ∙ e), refl, refl)) (λ d. absurd (true≢false (ap is_accepted (sym d ∙ e))))

module _ (f : List ℕ) where
  -- a warrior that is refused: a row applies to its place, or to its start
  warrior-by-row : (k : ℕ) (m : Machine) → let o = place_and_start f k m in eqb o.number 0 ≡ false → WarriorRefused f k m (told_by o) o.machine o.writes
  warrior-by-row k m = go (eqb p.number 0) refl
    where
      w : Warrior
      w = warrior_of f k

      p : Outcome
      p = place m w.name w.body w.place

      s : Outcome
      s = start p.machine w.name (started_at f k)

      go : (a : Bool) → eqb p.number 0 ≡ a → let o = cond a (joined p s) p in eqb o.number 0 ≡ false → WarriorRefused f k m (told_by o) o.machine o.writes
      go true a z =
          let r = start-row p.machine w.name (started_at f k) z in
          inr (eqb-true p.number 0 a, r.0, r.1, ap (λ (x : ℕ). p.writes + x) r.2 ∙ add-zero p.writes)
      go false a z = inl (place-row m w.name w.place w.body z)

  -- and a refusal of it is by such a row
  row-of-warrior : (k : ℕ) (m : Machine) (t : Told) (left : Machine) (writes : ℕ) → WarriorRefused f k m t left writes
      → let o = place_and_start f k m in (eqb o.number 0 ≡ false) × (told_by o ≡ t) × (o.machine ≡ left) × (o.writes ≡ writes)
  row-of-warrior k m t left writes (inl r) =
      let w = warrior_of f k in
      let q = row-of-place m w.name w.place w.body t r.0 in
      rw q.0 (q.0, q.1, q.2 ∙ sym r.1, q.3 ∙ sym r.2)
  row-of-warrior k m t left writes (inr r) =
      let w = warrior_of f k in
      let p = place m w.name w.body w.place in
      let q = row-of-start p.machine w.name (started_at f k) t r.1 in
      rw (eq-eqb p.number 0 r.0) (q.0, q.1, q.2 ∙ sym r.2, ap (λ (x : ℕ). p.writes + x) q.3 ∙ add-zero p.writes ∙ sym r.3)

  -- where the loads of n warriors from k on were refused: at the warrior that they tell, after j that were answered 0
  abbrev RefusedAfter : ℕ → ℕ → ℕ → Machine → Loads → Type 0
  RefusedAfter j k n m l =
      let o = (loads f k j m).outcome in
      (writes : ℕ) × (k + j ≡ l.warrior) × (j < n) × (o.number ≡ 0) × WarriorRefused f l.warrior o.machine (told_by l.outcome) l.outcome.machine writes
      × (l.outcome.writes ≡ o.writes + writes)

  loads-refused : (k n : ℕ) (m : Machine) → eqb (loads f k n m).outcome.number 0 ≡ false → (j : ℕ) × RefusedAfter j k n m (loads f k n m)
  loads-refused k zero m z = absurd (true≢false z)
  loads-refused k (suc n) m z = go (eqb (place_and_start f k m).number 0) refl z (loads-refused (k + 1) n (place_and_start f k m).machine)
    where
      go : (b : Bool) → eqb (place_and_start f k m).number 0 ≡ b → eqb (loads f k (suc n) m).outcome.number 0 ≡ false
          → (eqb (loads f (k + 1) n (place_and_start f k m).machine).outcome.number 0 ≡ false
          → (j : ℕ) × RefusedAfter j (k + 1) n (place_and_start f k m).machine (loads f (k + 1) n (place_and_start f k m).machine))
          → (j : ℕ) × RefusedAfter j k (suc n) m (loads f k (suc n) m)
      go true y z r =
          let a = r (rw y at z) in
          let o = place_and_start f k m in
          (suc a.0, rw y (a.1.0, omega (arith, a.1.1), omega (arith, a.1.2), a.1.3, a.1.4, ap (λ (w : ℕ). o.writes + w) a.1.5 ∙ sym (add_assoc o.writes _ _)))
      go false y z r = (0, rw y ((place_and_start f k m).writes, add-zero k, omega arith, refl, warrior-by-row k m y, sym (zero-add _)))

  abbrev RefusedAt : ℕ → Told → Machine → ℕ → Loads → Type 0
  RefusedAt w t left writes l = (told_by l.outcome ≡ t) × (l.warrior ≡ w) × (l.outcome.machine ≡ left) × (l.outcome.writes ≡ writes)

  loads-there : (w : ℕ) (t : Told) (left : Machine) (writes k j n : ℕ) (m : Machine) → k + j ≡ w → j < n → (loads f k j m).outcome.number ≡ 0
      → WarriorRefused f w (loads f k j m).outcome.machine t left writes → RefusedAt w t left ((loads f k j m).outcome.writes + writes) (loads f k n m)
  loads-there w t left writes k j zero m e h d r = absurd (let z : ⊥ = omega arith in z)
  loads-there w t left writes k zero (suc n) m e h d r =
      let q = row-of-warrior k m t left writes (subst (λ (w : ℕ). WarriorRefused f w m t left writes) (sym e ∙ add-zero k) r) in
      rw q.0 (q.1, sym (add-zero k) ∙ e, q.2, q.3 ∙ sym (zero-add writes))
  loads-there w t left writes k (suc j) (suc n) m e h d r =
      go (eqb (place_and_start f k m).number 0) refl d r (loads-there w t left writes (k + 1) j n (place_and_start f k m).machine (omega arith) (omega arith))
    where
      go : (b : Bool) → eqb (place_and_start f k m).number 0 ≡ b → (loads f k (suc j) m).outcome.number ≡ 0
          → WarriorRefused f w (loads f k (suc j) m).outcome.machine t left writes
          → ((loads f (k + 1) j (place_and_start f k m).machine).outcome.number ≡ 0
          → WarriorRefused f w (loads f (k + 1) j (place_and_start f k m).machine).outcome.machine t left writes
          → RefusedAt w t left ((loads f (k + 1) j (place_and_start f k m).machine).outcome.writes + writes) (loads f (k + 1) n (place_and_start f k m).machine))
          → RefusedAt w t left ((loads f k (suc j) m).outcome.writes + writes) (loads f k (suc n) m)
      go true y d r i =
          let q = i (rw y at d) (rw y at r) in
          let o = place_and_start f k m in
          rw y (q.0, q.1, q.2, ap (λ (x : ℕ). o.writes + x) q.3 ∙ sym (add_assoc o.writes _ writes))
      go false y d r i = absurd (true≢false (sym (eq-eqb _ 0 (rw y at d)) ∙ y))

  -- refused before the loads, and in them
  refused-before : (m : Machine) (n v : ℕ) → first (match_checks m f) ≡ refusal n v → (l : Loads) → MatchRefused f m (given_by (settle (refusal n v) m l.outcome)) 0
  refused-before m n v e l =
      record {
        by = λ a b d. (ap (λ (w : Verdict). given_by (settle w m l.outcome)) (sym e ∙ d), refl);
        inside = λ t. absurd (true≢false (sym t ∙ fails));
        there = λ t. absurd (true≢false (sym t ∙ fails));
      }
    where
      fails : passes (match_checks m f) ≡ false
      fails = passes-accepted (match_checks m f) ∙ ap is_accepted e

  refused-inside : (m : Machine) → first (match_checks m f) ≡ accepted
      → MatchRefused f m (given_by (loads f 0 (warriors_in f) m).outcome) (loads f 0 (warriors_in f) m).warrior
  refused-inside m e =
      record {
        by = λ n v d. absurd (true≢false (ap is_accepted (sym e ∙ d)));
        inside = λ t z.
            let r = loads-refused 0 (warriors_in f) m z in
            let a = subst (λ (j : ℕ). RefusedAfter j 0 (warriors_in f) m (loads f 0 (warriors_in f) m)) (sym (zero-add r.0) ∙ r.1.1) r.1 in
            (a.0, a.2, a.3, a.4, a.5);
        there = λ p k h d t left writes r. loads-there k t left writes 0 k (warriors_in f) m (zero-add k) h d r;
      }

pub match-refuses : (f : List ℕ) (m : Machine) (g : Given) (warrior : ℕ) → MatchPromise f m g warrior → MatchRefused f m g warrior
match-refuses f m g warrior e =
    subst (λ (x : Given). MatchRefused f m x warrior) (sym e.0)
    (subst (MatchRefused f m (given_by (load_match m f).outcome)) (sym e.1)
    (match-by-cases f m (λ b l. MatchRefused f m (given_by l.outcome) l.warrior)
    (λ n v e. refused-before f m n v e (loads f 0 (warriors_in f) m)) (refused-inside f m)))
