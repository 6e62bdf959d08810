-- What a loop round the slots of a queue has left to do: a test of each entry, and a tally of each name's entries.
-- Assumes nothing.
use mathlib.Core.Path.{◌≡◌, refl, sym, ap, ◌∙◌}
use mathlib.Core.Bool.{Bool, true, false, ◌&&◌}
use mathlib.Core.List.{List, [], ◌∷◌}
use Prim.Native.Nat.{ℕ, zero, suc, ◌+◌, ◌-◌, ◌≤◌, ◌<◌}
use native.Mathlib.Omega.{arith}
use lib.Dec.{eqb}
use lib.ListN.{length, get_or, set}
use lib.Seq.{get_or-set_same, get_or-set_other}
use borrow.Author.Tests.{eqb-true, eqb-false, eq-eqb}
use Rattle.laws.specs.Lists.{one_if, every, tally}
use Rattle.laws.proofs.Lists.{fall, done}
use Rattle.offset.specs.Offset.{ahead}
use Rattle.machine.specs.Queue.{unpacked_entry, slots}

-- an entry of the name at an index
abbrev pub named : ℕ → ℕ → Bool
named k w = eqb (unpacked_entry w).name k

-- one more than a number below one of 32 bits
pub more-fits : {x n : ℕ} → x < n → n < 4294967296 → x + 1 < 4294967296
more-fits h l = omega arith

module _ (q : List ℕ) (head n : ℕ) where
  -- the slots left at i, from slot s on
  abbrev left : ℕ → ℕ → List ℕ
  left s i = slots q s (n - i)

  left-first : (s i : ℕ) → i < n → left s i ≡ get_or q s 0 ∷ left (ahead (length q) s 1) (i + 1)
  left-first s i h = ap (slots q s) (fall n i h)

  left-none : (s i : ℕ) → n ≤ i → left s i ≡ []
  left-none s i h = ap (slots q s) (done n i h)

  module _ (p : ℕ → Bool) where
    abbrev pub EveryLeft : ℕ → ℕ → Type 0
    EveryLeft s i = every p (slots q head n) ≡ every p (left s i)

    module _ (s i : ℕ) (so_far : EveryLeft s i) where
      pub every-stops : i < n → p (get_or q s 0) ≡ false → every p (slots q head n) ≡ false
      every-stops h e = so_far ∙ ap (every p) (left-first s i h) ∙ ap (λ (b : Bool). b && every p (left (ahead (length q) s 1) (i + 1))) e

      pub every-goes : i < n → p (get_or q s 0) ≡ true → EveryLeft (ahead (length q) s 1) (i + 1)
      every-goes h e = so_far ∙ ap (every p) (left-first s i h) ∙ ap (λ (b : Bool). b && every p (left (ahead (length q) s 1) (i + 1))) e

      pub every-ends : n ≤ i → every p (slots q head n) ≡ true
      every-ends h = so_far ∙ ap (every p) (left-none s i h)

  -- the numbers so far and the entries left are the tally of all, for each name
  abbrev pub TallyLeft : List ℕ → ℕ → ℕ → Type 0
  TallyLeft t s i = (k : ℕ) → get_or t k 0 + tally (named k) (left s i) ≡ tally (named k) (slots q head n)

  module _ (t : List ℕ) (s i : ℕ) (so_far : TallyLeft t s i) where
    pub tally-ends : n ≤ i → (k : ℕ) → get_or t k 0 ≡ tally (named k) (slots q head n)
    tally-ends h k = let e = ap (tally (named k)) (left-none s i h) in let f = so_far k in omega arith

    module _ (h : i < n) (who : ℕ) (e : who ≡ (unpacked_entry (get_or q s 0)).name) where
      after : (k : ℕ) → get_or t k 0 + (one_if (eqb who k) + tally (named k) (left (ahead (length q) s 1) (i + 1))) ≡ tally (named k) (slots q head n)
      after k =
          ap (λ (j : ℕ). get_or t k 0 + (one_if (eqb j k) + tally (named k) (left (ahead (length q) s 1) (i + 1)))) e
          ∙ sym (ap (λ (l : List ℕ). get_or t k 0 + tally (named k) l) (left-first s i h)) ∙ so_far k

      pub tally-goes : who < length t → TallyLeft (set t who (get_or t who 0 + 1)) (ahead (length q) s 1) (i + 1)
      tally-goes b k = go (eqb who k) refl (after k)
        where
          go : (x : Bool) → eqb who k ≡ x → get_or t k 0 + (one_if (eqb who k) + tally (named k) (left (ahead (length q) s 1) (i + 1))) ≡ tally (named k) (slots q head n)
              → get_or (set t who (get_or t who 0 + 1)) k 0 + tally (named k) (left (ahead (length q) s 1) (i + 1)) ≡ tally (named k) (slots q head n)
          go true f r =
              let is : get_or (set t who (get_or t who 0 + 1)) k 0 ≡ get_or t k 0 + 1
              = ap (λ (j : ℕ). get_or (set t who (get_or t who 0 + 1)) j 0) (sym (eqb-true who k f)) ∙ get_or-set_same t who (get_or t who 0 + 1) 0 b
              ∙ ap (λ (j : ℕ). get_or t j 0 + 1) (eqb-true who k f) in
              let r' : get_or t k 0 + (1 + tally (named k) (left (ahead (length q) s 1) (i + 1))) ≡ tally (named k) (slots q head n) = rw f at r in
              omega arith
          go false f r =
              let is : get_or (set t who (get_or t who 0 + 1)) k 0 ≡ get_or t k 0
              = get_or-set_other t who k (get_or t who 0 + 1) 0 (λ z. eqb-false who k f (sym z)) in
              let r' : get_or t k 0 + (0 + tally (named k) (left (ahead (length q) s 1) (i + 1))) ≡ tally (named k) (slots q head n) = rw f at r in
              omega arith

      -- so each number is at most n
      tally-few : (p : ℕ → Bool) (s j : ℕ) → tally p (slots q s j) ≤ j
      tally-few p s zero = omega arith
      tally-few p s (suc j) = go (p (get_or q s 0)) (tally-few p (ahead (length q) s 1) j)
        where
          go : (b : Bool) {x : ℕ} → x ≤ j → one_if b + x ≤ suc j
          go true r = omega arith
          go false r = omega arith

      pub tally-below : get_or t who 0 < n
      tally-below =
          let few : tally (named who) (slots q head n) ≤ n = tally-few (named who) head n in
          let all : get_or t who 0 + (1 + tally (named who) (left (ahead (length q) s 1) (i + 1))) ≡ tally (named who) (slots q head n) = rw (eq-eqb who who refl) at (after who) in
          omega arith
