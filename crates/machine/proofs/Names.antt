-- Laws of the names: registering puts a name last and keeps the others; a held name is found at its slot; one count changes at a time.
-- Assumes nothing.
use Prim.Native.Nat.{ℕ, suc, ◌+◌, ◌-◌, ◌*◌, ◌≤◌, ◌<◌}
use mathlib.Core.Path.{◌≡◌, refl, sym, ap, ap₂, subst, ◌∙◌}
use mathlib.Core.Bool.{Bool, true, false, cond, not, ◌&&◌, true≢false}
use mathlib.Core.List.{List, [], ◌∷◌, ◌++◌, append_assoc}
use native.Mathlib.Nat.{zero-add}
use native.Mathlib.Omega.{arith}
use native.Mathlib.Numerals.{add-one}
use lib.Dec.{eqb}
use lib.ListN.{length, get_or, take, drop, set, replicate, length-append, length-drop, length-set, length-replicate, take-append-drop}
use lib.Seq.{sets, sets-eq, length-sets, length-take-le, drop-append-le, take-append-le, take-append_seam, drop_at, get_or-set_same, get_or-set_other, get_or-take, get_or-append_seam, take-set-lt, take-suc-set}
use borrow.Author.Tests.{eqb-false}
use Rattle.laws.specs.Lists.{one_if, lowest, table, same, distinct}
use Rattle.laws.proofs.Tests.{and-true}
use Rattle.laws.proofs.Tables.{length-table, table-snoc, table-ext}
use Rattle.laws.proofs.Lowest.{lowest-le, lowest-hit, lowest-snoc, lowest-snoc-none, get_or-lowest-snoc}
use Rattle.laws.proofs.Same.{same_true, same_refl, same-sym, lowest-own}
use Rattle.machine.specs.declared.Header.{Header}
use Rattle.machine.specs.Names.{name_at, names, slot, is_new, count_of, register}

-- the lengths of the header's arrays, which the program has by their types
pub record Shape (h : Header) : Type 0 where
  pub names : length h.names.bytes ≡ 512
  pub lengths : length h.names.lengths ≡ 16
  pub counts : length h.counts ≡ 16
  pub threads : length h.threads ≡ 16

pub register-shape : (h : Header) (n : List ℕ) → Shape h → Shape (register h n)
unfolding register
register-shape h n s =
    record {
      names = length-sets h.names.bytes (32 * h.names.held) (n ++ replicate (32 - length n) 0) ∙ s.names;
      lengths = length-set h.names.lengths _ _ ∙ s.lengths;
      counts = length-set h.counts _ _ ∙ s.counts;
      threads = length-set h.threads _ _ ∙ s.threads;
    }

pub length-names : (h : Header) → length (names h.names) ≡ h.names.held
length-names h = length-table (name_at h.names) 0 h.names.held

-- a part of a list that ends before what changed
part-before : (l X : List ℕ) (n a k : ℕ) → a + n ≤ k → k ≤ length l → take n (drop a (take k l ++ X)) ≡ take n (drop a l)
part-before l X n a k h le = inner X ∙ sym (ap (λ (z : List ℕ). take n (drop a z)) (sym (take-append-drop k l)) ∙ inner (drop k l))
  where
    len : length (take k l) ≡ k
    len = length-take-le k l le

    inner : (Y : List ℕ) → take n (drop a (take k l ++ Y)) ≡ take n (drop a (take k l))
    inner Y =
        ap (take n) (drop-append-le a (take k l) Y (omega (arith, len)))
        ∙ take-append-le n (drop a (take k l)) Y (rw (length-drop a (take k l), len) (omega arith))

-- a slot set behind those in use is one more in use
pub take-held : (h : Header) (l : List ℕ) (v : ℕ) → h.names.held < length l → take (h.names.held + 1) (set l h.names.held v) ≡ take h.names.held l ++ (v ∷ [])
take-held h l v k = ap (λ (j : ℕ). take j (set l h.names.held v)) (add-one h.names.held) ∙ take-suc-set l h.names.held v k

module _ (h : Header) (n : List ℕ) (s : Shape h) (small : h.names.held < 16) (fits : length n ≤ 32) where
  abbrev rest : List ℕ
  rest = drop (32 * h.names.held + length (n ++ replicate (32 - length n) 0)) h.names.bytes

  padded-length : length (n ++ replicate (32 - length n) 0) ≡ 32
  padded-length = rw (length-append n (replicate (32 - length n) 0), length-replicate {A = ℕ} (32 - length n) 0) (omega arith)

  put-names : sets h.names.bytes (32 * h.names.held) (n ++ replicate (32 - length n) 0)
      ≡ take (32 * h.names.held) h.names.bytes ++ (n ++ replicate (32 - length n) 0 ++ rest)
  put-names =
      sets-eq (n ++ replicate (32 - length n) 0) h.names.bytes (32 * h.names.held) (rw padded-length (omega (arith, s.names)))
      ∙ append_assoc (take (32 * h.names.held) h.names.bytes) (n ++ replicate (32 - length n) 0) rest

  name-last : name_at (register h n).names h.names.held ≡ n
  unfolding register
  name-last =
      ap₂ (λ (k : ℕ) (l : List ℕ). take k (drop (32 * h.names.held) l)) (get_or-set_same h.names.lengths h.names.held (length n) 0 (omega (arith, s.lengths))) put-names
      ∙ ap (take (length n))
      (drop_at (take (32 * h.names.held) h.names.bytes) (n ++ replicate (32 - length n) 0 ++ rest) (32 * h.names.held)
      (length-take-le (32 * h.names.held) h.names.bytes (omega (arith, s.names)))
      ∙ append_assoc n (replicate (32 - length n) 0) rest)
      ∙ take-append_seam n (replicate (32 - length n) 0 ++ rest)

  name-kept : (i : ℕ) → i < h.names.held → get_or h.names.lengths i 0 ≤ 32 → name_at (register h n).names i ≡ name_at h.names i
  unfolding register
  name-kept i hi short =
      ap₂ (λ (k : ℕ) (l : List ℕ). take k (drop (32 * i) l)) (get_or-set_other h.names.lengths h.names.held i (length n) 0 (omega arith)) put-names
      ∙ part-before h.names.bytes (n ++ replicate (32 - length n) 0 ++ rest) (get_or h.names.lengths i 0) (32 * i) (32 * h.names.held) (omega arith) (omega (arith, s.names))

  held_one : names (register h n).names ≡ table (name_at (register h n).names) 0 (suc h.names.held)
  unfolding register
  held_one = ap (table (name_at (register h n).names) 0) (add-one h.names.held)

  -- the names after registering: those before, and the new one last
  pub names-register : ((i : ℕ) → i < h.names.held → get_or h.names.lengths i 0 ≤ 32) → names (register h n).names ≡ names h.names ++ (n ∷ [])
  names-register short =
      held_one
      ∙ table-snoc (name_at (register h n).names) 0 h.names.held
      ∙ ap₂ (λ (l : List (List ℕ)) (x : List ℕ). l ++ (x ∷ []))
      (table-ext (name_at (register h n).names) (name_at h.names) 0 h.names.held (λ i a b. name-kept i (omega arith) (short i (omega arith))))
      (ap (name_at (register h n).names) (zero-add h.names.held) ∙ name-last)

  -- no name's count changes
  pub count-register : ((i : ℕ) → i < h.names.held → get_or h.names.lengths i 0 ≤ 32) → (x : List ℕ) → count_of (register h n) x ≡ count_of h x
  unfolding register
  count-register short x =
      ap₂ (λ (l : List ℕ) (ns : List (List ℕ)). get_or l (lowest (same x) ns) 0)
      (take-held h h.counts 0 (omega (arith, s.counts))) (names-register short)
      ∙ get_or-lowest-snoc (same x) (names h.names) (take h.names.held h.counts) n
      (length-names h ∙ sym (length-take-le h.names.held h.counts (omega (arith, s.counts))))

-- the name t is held, at index i
pub record Held (h : Header) (i : ℕ) (t : List ℕ) : Type 0 where
  pub below : i < h.names.held
  pub own : slot h.names t ≡ i
  pub at : get_or (names h.names) i [] ≡ t

-- of names unlike each other, each is held at its own index
pub held_at : (h : Header) (i : ℕ) → distinct (names h.names) ≡ true → i < h.names.held → Held h i (get_or (names h.names) i [])
held_at h i d k = record { below = k; own = lowest-own (names h.names) i d (rw (length-names h) k); at = refl }

-- a name that is not new is held at its slot
pub held-slot : (h : Header) (n : List ℕ) → is_new h.names n ≡ false → Held h (slot h.names n) n
held-slot h n e =
    record { below = below; own = refl; at = sym (same_true n _ (lowest-hit (same n) (names h.names) [] (rw (length-names h) below))) }
  where
    below : slot h.names n < h.names.held
    below =
        let a : slot h.names n ≤ h.names.held = rw (length-names h) at (lowest-le (same n) (names h.names)) in
        let b : slot h.names n ≡ h.names.held → ⊥ = eqb-false _ _ e in
        omega arith

-- a new name, once registered, is held at the slot that was free
pub held-register : (h : Header) (n : List ℕ) → names (register h n).names ≡ names h.names ++ (n ∷ []) → slot h.names n ≡ h.names.held → Held (register h n) (slot h.names n) n
unfolding register
held-register h n news e =
    record {
      below = omega arith;
      own = ap (lowest (same n)) news ∙ lowest-snoc (same n) (names h.names) n (e ∙ sym (length-names h)) (same_refl n) ∙ length-names h ∙ sym e;
      at = ap₂ (λ (l : List (List ℕ)) (k : ℕ). get_or l k []) news (e ∙ sym (length-names h)) ∙ get_or-append_seam (names h.names) n [] [];
    }

-- the names that are new after registering t: those that were, but for t
pub new-register : (h : Header) (t : List ℕ) → names (register h t).names ≡ names h.names ++ (t ∷ []) → (n : List ℕ)
    → is_new (register h t).names n ≡ (is_new h.names n && not (same t n))
unfolding register
new-register h t news n =
    ap₂ (λ (l : List (List ℕ)) (k : ℕ). eqb (lowest (same n) l) k) news (add-one h.names.held ∙ ap suc (sym (length-names h)))
    ∙ lowest-snoc-none (same n) (names h.names) t
    ∙ ap₂ (λ (k : ℕ) (b : Bool). eqb (slot h.names n) k && not b) (length-names h) (same-sym n t)

-- a held name is not
pub held-not-new : (h : Header) (t : List ℕ) → is_new h.names t ≡ false → (n : List ℕ) → is_new h.names n ≡ (is_new h.names n && not (same t n))
held-not-new h t e n = go (same t n) refl
  where
    go : (b : Bool) → same t n ≡ b → is_new h.names n ≡ (is_new h.names n && not b)
    go true f = rw (← same_true t n f, e)
    go false f = sym (and-true (is_new h.names n))

-- the count at the slot of t, set
module _ (h : Header) (t : List ℕ) (i : ℕ) (r : Held h i t) (long : h.names.held ≤ length h.counts) where
  slot-other : (n : List ℕ) → same t n ≡ false → slot h.names n ≡ i → ⊥
  slot-other n f e =
      true≢false (sym (same_refl t) ∙ ap (same t) (at t r.own ∙ sym (at n e)) ∙ f)
    where
      at : (x : List ℕ) → slot h.names x ≡ i → x ≡ get_or (names h.names) i []
      at x e =
          same_true x (get_or (names h.names) i [])
          (subst (λ (k : ℕ). same x (get_or (names h.names) k []) ≡ true) e
          (lowest-hit (same x) (names h.names) [] (rw (e, length-names h) r.below)))

  count_set : (n : List ℕ) (v : ℕ) → get_or (take h.names.held (set h.counts i v)) (slot h.names n) 0 ≡ cond (same t n) v (count_of h n)
  count_set n v = ap (λ (l : List ℕ). get_or l (slot h.names n) 0) (take-set-lt h.names.held h.counts i v r.below) ∙ go (same t n) refl
    where
      go : (b : Bool) → same t n ≡ b → get_or (set (take h.names.held h.counts) i v) (slot h.names n) 0 ≡ cond b v (count_of h n)
      go true e =
          ap (λ (k : ℕ). get_or (set (take h.names.held h.counts) i v) k 0) (ap (slot h.names) (sym (same_true t n e)) ∙ r.own)
          ∙ get_or-set_same (take h.names.held h.counts) i v 0 (rw (length-take-le h.names.held h.counts long) r.below)
      go false e = get_or-set_other (take h.names.held h.counts) i (slot h.names n) v 0 (slot-other n e)

  -- the count of a held name is the one at its index
  pub count_at : count_of h t ≡ get_or h.counts i 0
  count_at = ap (λ (k : ℕ). get_or (take h.names.held h.counts) k 0) r.own ∙ get_or-take h.names.held h.counts i 0 r.below

  count-own : (n : List ℕ) → same t n ≡ true → count_of h n ≡ get_or h.counts i 0
  count-own n e = ap (count_of h) (sym (same_true t n e)) ∙ count_at

  pub count-lower : (n : List ℕ) → 1 ≤ get_or h.counts i 0
      → get_or (take h.names.held (set h.counts i (get_or h.counts i 0 - 1))) (slot h.names n) 0 + one_if (same t n) ≡ count_of h n
  count-lower n pos = ap (λ (k : ℕ). k + one_if (same t n)) (count_set n (get_or h.counts i 0 - 1)) ∙ go (same t n) refl
    where
      go : (b : Bool) → same t n ≡ b → cond b (get_or h.counts i 0 - 1) (count_of h n) + one_if b ≡ count_of h n
      go true e = rw (count-own n e) (omega arith)
      go false e = omega arith

  pub count-raise : (n : List ℕ)
      → get_or (take h.names.held (set h.counts i (get_or h.counts i 0 + 1))) (slot h.names n) 0 ≡ count_of h n + one_if (same t n)
  count-raise n = count_set n (get_or h.counts i 0 + 1) ∙ go (same t n) refl
    where
      go : (b : Bool) → same t n ≡ b → cond b (get_or h.counts i 0 + 1) (count_of h n) ≡ count_of h n + one_if b
      go true e = rw (count-own n e)
      go false e = omega arith
