-- Names, slot by slot.
-- Assumes nothing.
use Rattle.std.proofs.Common.{◌≡◌, ℕ, ◌≤◌, ◌<◌, Bool, true, false, cond, not, ◌&&◌, List, length, Option, None, Some, MatchOption, sym, ◌∙◌, refl, arith}
use borrow.Author.Tests.{le-leb, lt-leb, lt-ltb, le-ltb, eqb-false, eq-eqb, ne_eqb}
use lib.Dec.{leb}
use Rattle.laws.specs.Lists.{same}
use Rattle.laws.proofs.Lowest.{lowest-le}
use Rattle.laws.proofs.Tables.{length-table}
use Rattle.laws.proofs.Loops.{lowest-from, lowest-nowhere, lowest-found}
use Rattle.laws.proofs.Tests.{and-false}
use Rattle.machine.specs.declared.Header.{Header}
use Rattle.machine.specs.declared.Roster.{Roster}
use Rattle.machine.specs.Names.{name_at, names, slot, is_new, register}
use Rattle.names.specs.Finding.{found}
use Rattle.lent.specs.Parts.{register_if}

-- a name registered, or not
module _ (h : Header) (name : List ℕ) where
  pub none_free : 16 ≤ h.names.held → h ≡ register_if h name
  unfolding register_if
  none_free l = simp (le-ltb _ _ l)

  pub too_long : 32 < length name → h ≡ register_if h name
  unfolding register_if
  too_long l = simp (lt-leb _ _ l, and-false)

  pub registered-is : {g : Header} → h.names.held < 16 → length name ≤ 32 → g ≡ register h name → g ≡ register_if h name
  unfolding register_if
  registered-is l k e = e ∙ simp (lt-ltb _ _ l, le-leb _ _ k)

-- the index of a name, by the first slot that holds it
module _ (r : Roster) (name : List ℕ) (few : r.held ≤ 16) where
  abbrev Held : ℕ → Type 0
  Held i = same name (name_at r i) ≡ true

  abbrev Other : ℕ → Type 0
  Other i = same name (name_at r i) ≡ false

  pub first_held : (o : Option ℕ) → MatchOption o ((k : ℕ) → 0 ≤ k → k < r.held → Other k) (λ i. (0 ≤ i) × (i < r.held) × Held i × ((k : ℕ) → 0 ≤ k → k < i → Other k))
      → o ≡ found r name
  first_held None h =
      let at : slot r name ≡ r.held = lowest-nowhere (name_at r) (same name) r.held (λ k l. h k (omega arith) l) in
      sym (simp (le-leb r.held 16 few, eq-eqb (slot r name) r.held at))
  first_held (Some i) h =
      let l : i < r.held = h.1 in
      let none : (k : ℕ) → 0 ≤ k → k < i → Other k = h.3 in
      let at : i ≡ slot r name = lowest-found (name_at r) (same name) r.held i (lowest-from (name_at r) (same name) r.held i (omega arith) (λ k h. none k (omega arith) h)) l h.2 in
      sym (rw (← at) (simp (le-leb r.held 16 few, ne_eqb i r.held (λ e. omega arith))))

-- what the index says
module _ (r : Roster) (name : List ℕ) where
  pub slot-le : slot r name ≤ r.held
  slot-le =
      let l : slot r name ≤ length (names r) = lowest-le (same name) (names r) in
      let n : length (names r) ≡ r.held = length-table (name_at r) 0 r.held in
      omega arith

  pub held_at : {i : ℕ} → Some i ≡ found r name → (is_new r name ≡ false) × (i ≡ slot r name)
  held_at {i} e = go (leb r.held 16) (is_new r name) refl e
    where
      go : (t b : Bool) → is_new r name ≡ b → Some i ≡ cond (t && not b) (Some (slot r name)) None → (is_new r name ≡ false) × (i ≡ slot r name)
      go true true n e = absurd (let f : ⊥ = cc in f)
      go true false n e = (n, cc)
      go false b n e = absurd (let f : ⊥ = cc in f)

  pub held-lt : {i : ℕ} → Some i ≡ found r name → i < r.held
  held-lt {i} e =
      let h = held_at e in
      let n : slot r name ≡ r.held → ⊥ = eqb-false _ _ h.0 in
      let q : i ≡ slot r name = h.1 in
      let l : slot r name ≤ r.held = slot-le in
      omega arith

  pub not_held : r.held ≤ 16 → None ≡ found r name → is_new r name ≡ true
  not_held few e = go (is_new r name) refl (rw (le-leb r.held 16 few) at e)
    where
      go : (b : Bool) → is_new r name ≡ b → None ≡ cond (not b) (Some (slot r name)) None → is_new r name ≡ true
      go true n e = n
      go false n e = absurd (let f : ⊥ = cc in f)
