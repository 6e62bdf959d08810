-- The Rust's offsets and our places mod M: in a core of at most 46,341 cells no sum, difference or product leaves 32 bits.
-- Assumes nothing.
use Prim.Native.Nat.{ℕ, zero, suc, ◌+◌, ◌-◌, ◌%◌, ◌^◌, ◌≤◌, ◌<◌}
use mathlib.Core.Path.{◌≡◌, refl, sym, ap, subst, ◌∙◌}
use mathlib.Core.Bool.{Bool, true, false, cond}
use native.Mathlib.Nat.{mod-lt, mod-eq_of_lt, mod-add-mod, add-mod-mod, add-mod_right, add-zero, sub-zero}
use native.Mathlib.Omega.{arith}
use lib.Dec.{ltb}
use lib.IntN.{ℤ, pos, negsuc, sub_ℕ, ◌+ℤ◌, ◌-ℤ◌}
use borrow.Author.Tests.{ltb-true, ltb-false, lt-ltb, le-ltb}
use Rattle.offset.specs.Offset.{euclid, ahead}
use Rattle.offset.proofs.Offsets.{euclid-pos, euclid-neg, ahead-lt}
use Rattle.encoding.specs.Bytes.{signed}
use Rattle.reference.specs.Offset.{offset, i32, add, sub, add_i32, sub_i32}

word_size : 2 ^ 32 ≡ 0 → ⊥
word_size e = omega arith

-- what fits in an i32 does not wrap
fit-pos : (n : ℕ) → n < 2 ^ 31 → i32 (pos n) ≡ pos n
fit-pos n h = ap signed (euclid-pos n (2 ^ 32) word_size ∙ mod-eq_of_lt (let f : n < 2 ^ 32 = omega arith in f)) ∙ simp (lt-ltb n (2 ^ 31) h)

fit-neg : (n : ℕ) → n < 2 ^ 31 → i32 (negsuc n) ≡ negsuc n
fit-neg n h =
    ap signed (euclid-neg n (2 ^ 32) word_size ∙ ap (λ (k : ℕ). 2 ^ 32 - 1 - k) (mod-eq_of_lt (let f : n < 2 ^ 32 = omega arith in f)))
    ∙ simp (le-ltb (2 ^ 32 - 1 - n) (2 ^ 31) (let f : 2 ^ 31 ≤ 2 ^ 32 - 1 - n = omega arith in f))
    (ap negsuc (let f : 2 ^ 32 - 1 - (2 ^ 32 - 1 - n) ≡ n = omega arith in f))

fit-sub : (a b : ℕ) → a < 2 ^ 31 → b < 2 ^ 31 → i32 (sub_ℕ a b) ≡ sub_ℕ a b
fit-sub a b ha hb = go (ltb a b)
  where
    go : (t : Bool) → i32 (cond t (negsuc (b - suc a)) (pos (a - b))) ≡ cond t (negsuc (b - suc a)) (pos (a - b))
    go true = fit-neg (b - suc a) (omega arith)
    go false = fit-pos (a - b) (omega arith)

sub_cases : (a b : ℕ) → pos a -ℤ pos b ≡ sub_ℕ a b
sub_cases a zero = ap pos (add-zero a) ∙ sym (simp (le-ltb a 0 (omega arith), sub-zero))
sub_cases a (suc b) = refl

module _ (m : ℕ) (some : 0 < m) (small : m ≤ 46341) where
  sum_fits : (a b : ℕ) → a < m → b < m → a + b < 2 ^ 31
  sum_fits a b ha hb = omega arith

  no_zero : m ≡ 0 → ⊥
  no_zero e = omega arith

  pub offset-pos : (n : ℕ) → offset m (pos n) ≡ n % m
  offset-pos n = euclid-pos n m no_zero

  pub offset-in : (n : ℕ) → n < m → offset m (pos n) ≡ n
  offset-in n h = offset-pos n ∙ mod-eq_of_lt h

  -- a difference
  euclid-sub : (a b : ℕ) → b ≤ m → euclid (sub_ℕ a b) m ≡ ahead m a (m - b)
  euclid-sub a b l = go (ltb a b) refl
    where
      go : (t : Bool) → ltb a b ≡ t → euclid (cond t (negsuc (b - suc a)) (pos (a - b))) m ≡ ahead m a (m - b)
      go true e =
          let h : a < b = ltb-true a b e in
          let f : b - suc a < m = omega arith in
          euclid-neg (b - suc a) m no_zero
          ∙ ap (λ (k : ℕ). m - 1 - k) (mod-eq_of_lt f)
          ∙ (let g : m - 1 - (b - suc a) ≡ a + (m - b) = omega arith in g)
          ∙ sym (mod-eq_of_lt (omega arith))
      go false e =
          let h : b ≤ a = ltb-false a b e in
          offset-pos (a - b) ∙ sym (add-mod_right (a - b) m) ∙ ap (λ (k : ℕ). k % m) (omega arith)

  pub add_is : (x y : ℕ) → x < m → y < m → add m x y ≡ ahead m x y
  add_is x y hx hy = ap (offset m) (fit-pos (x + y) (sum_fits x y hx hy)) ∙ offset-pos (x + y)

  pub sub_is : (x y : ℕ) → x < m → y ≤ m → sub m x y ≡ ahead m x (m - y)
  sub_is x y h l =
      ap (λ (z : ℤ). euclid (i32 z) m) (sub_cases x y) ∙ ap (λ (z : ℤ). euclid z m) (fit-sub x y (omega arith) (omega arith)) ∙ euclid-sub x y l

  -- an offset and an i32
  pub add-num : (x n : ℕ) → x < m → add_i32 m x (pos n) ≡ ahead m x n
  add-num x n h = ap (add m x) (offset-pos n) ∙ add_is x (n % m) h (mod-lt n some) ∙ add-mod-mod x n m

  -- at M = 1, too, where 1 is 0
  less_one : (m - 1 % m) % m ≡ (m - 1) % m
  less_one = go (ltb 1 m) refl
    where
      go : (t : Bool) → ltb 1 m ≡ t → (m - 1 % m) % m ≡ (m - 1) % m
      go true e = let h : 1 < m = ltb-true 1 m e in ap (λ (k : ℕ). (m - k) % m) (mod-eq_of_lt h)
      go false e =
          let h : m ≤ 1 = ltb-false 1 m e in
          let one : m ≡ 1 = omega arith in
          subst (λ (k : ℕ). (k - 1 % k) % k ≡ (k - 1) % k) (sym one) refl

  pub sub-one : (x : ℕ) → x < m → sub_i32 m x (pos 1) ≡ ahead m x (m - 1)
  sub-one x h =
      ap (sub m x) (offset-pos 1)
      ∙ sub_is x (1 % m) h (let l : 1 % m < m = mod-lt 1 some in omega arith)
      ∙ sym (add-mod-mod x (m - 1 % m) m)
      ∙ ap (λ (k : ℕ). (x + k) % m) less_one
      ∙ add-mod-mod x (m - 1) m

  -- the decrement and the increment of apply_pointer
  pub decremented : (x : ℕ) → sub_i32 m (offset m (pos x)) (pos 1) ≡ ahead m x (m - 1)
  decremented x = ap (λ (k : ℕ). sub_i32 m k (pos 1)) (offset-pos x) ∙ sub-one (x % m) (mod-lt x some) ∙ mod-add-mod x m (m - 1)

  pub incremented : (x : ℕ) → add_i32 m (offset m (pos x)) (pos 1) ≡ ahead m x 1
  incremented x = ap (λ (k : ℕ). add_i32 m k (pos 1)) (offset-pos x) ∙ add-num (x % m) 1 (mod-lt x some) ∙ mod-add-mod x m 1

  -- PC + (n + x), and PC + (n + x - 1)
  pub through-is : (p n x : ℕ) → p < m → n < m → x < m → add_i32 m p (i32 (pos n +ℤ pos x)) ≡ ahead m (ahead m p n) x
  through-is p n x hp hn hx =
      ap (add_i32 m p) (fit-pos (n + x) (sum_fits n x hn hx))
      ∙ add-num p (n + x) hp
      ∙ ap (λ (k : ℕ). k % m) (let h : p + (n + x) ≡ p + n + x = omega arith in h)
      ∙ sym (mod-add-mod (p + n) m x)

  pub before-is : (p n x : ℕ) → p < m → n < m → x < m
      → add_i32 m p (i32 (i32 (pos n +ℤ pos x) -ℤ pos 1)) ≡ ahead m (ahead m p n) (ahead m x (m - 1))
  before-is p n x hp hn hx =
      ap (λ (z : ℤ). add_i32 m p (i32 (z -ℤ pos 1))) (fit-pos (n + x) (sum_fits n x hn hx))
      ∙ ap (add_i32 m p) (fit-sub (n + x) 1 (sum_fits n x hn hx) (omega arith))
      ∙ ap (add m p) (euclid-sub (n + x) 1 (omega arith))
      ∙ add_is p (ahead m (n + x) (m - 1)) hp (ahead-lt m (n + x) (m - 1) some)
      ∙ add-mod-mod p (n + x + (m - 1)) m
      ∙ ap (λ (k : ℕ). k % m) (let h : p + (n + x + (m - 1)) ≡ p + n + (x + (m - 1)) = omega arith in h)
      ∙ sym (add-mod-mod (p + n) (x + (m - 1)) m)
      ∙ sym (mod-add-mod (p + n) m (ahead m x (m - 1)))

  -- PC + (pointer - PC)
  pub jump-is : (p q : ℕ) → p < m → q < m → add m p (sub m q p) ≡ q
  jump-is p q hp hq =
      ap (add m p) (sub_is q p hq (omega arith))
      ∙ add_is p (ahead m q (m - p)) hp (ahead-lt m q (m - p) some)
      ∙ add-mod-mod p (q + (m - p)) m
      ∙ ap (λ (k : ℕ). k % m) (let h : p + (q + (m - p)) ≡ q + m = omega arith in h)
      ∙ add-mod_right q m
      ∙ mod-eq_of_lt hq
