-- Laws of offsets: a reduced number is the Euclidean remainder, and below the size; the sum by compare and subtract.
-- Assumes nothing.
use mathlib.Core.Path.{◌≡◌, refl, sym, ap, ◌∙◌}
use mathlib.Core.Bool.{Bool, cond}
use Prim.Native.Nat.{ℕ, zero, suc, ◌+◌, ◌-◌, ◌*◌, ◌/◌, ◌%◌, ◌^◌, ◌<◌, ◌≤◌}
use native.Mathlib.Nat.{mod-lt, zero-lt-suc, div-add-mod', suc-mul, add-suc, mul-le-mul}
use native.Mathlib.Omega.{arith}
use lib.Dec.{eqb}
use lib.IntN.{ℤ, pos, negsuc, neg_ℤ, ◌+ℤ◌, ◌*ℤ◌}
use borrow.Author.Tests.{lt-ltb, ne_eqb}
use Rattle.offset.specs.Offset.{euclid, ahead}

pub euclid-pos : (n m : ℕ) → (m ≡ 0 → ⊥) → euclid (pos n) m ≡ n % m
euclid-pos n zero h = absurd (h refl)
euclid-pos n (suc m) h = refl

pub euclid-neg : (n m : ℕ) → (m ≡ 0 → ⊥) → euclid (negsuc n) m ≡ m - 1 - n % m
euclid-neg n zero h = absurd (h refl)
euclid-neg n (suc m) h = omega arith

-- a reduced number is below the size
pub euclid-lt : (z : ℤ) (m : ℕ) → 0 < m → euclid z m < m
euclid-lt z zero h = h
euclid-lt (pos n) (suc m) h = mod-lt n h
euclid-lt (negsuc n) (suc m) h = omega arith

pub ahead-lt : (size a r : ℕ) → 0 < size → ahead size a r < size
ahead-lt size a r h = mod-lt (a + r) h

-- two numbers below a valid size multiply to an i32
pub product-fits : {size : ℕ} (a b : ℕ) → a < size → b < size → size ≤ 46341 → a * b < 2 ^ 31
product-fits a b ha hb l =
    let x : a ≤ 46340 = omega arith in
    let y : b ≤ 46340 = omega arith in
    let h : a * b ≤ 46340 * 46340 = mul-le-mul x y in
    omega arith

-- what `remainder` and `ahead` promise for a size of some cells
pub some-cells : (size s n : ℕ) → (size ≡ 0 → ⊥) → s ≡ n % size → s ≡ cond (eqb size 0) 0 (n % size)
some-cells size s n h e = simp (ne_eqb size 0 h) e

pub sum_is : (size : ℕ) {s n : ℕ} → (size ≡ 0 → ⊥) → s ≡ cond (eqb size 0) 0 n → s ≡ n
sum_is size {s} {n} h e = e ∙ simp (ne_eqb size 0 h)

-- `-(y + 1) + b`, where b is at most y
less : (y b : ℕ) → b ≤ y → negsuc y +ℤ pos b ≡ negsuc (y - b)
less y b h =
    ap (λ (t : Bool). cond t (negsuc (suc y - suc b)) (pos (b - suc y))) (lt-ltb b (suc y) (omega arith))
    ∙ ap negsuc (let e : suc y - suc b ≡ y - b = omega arith in e)

-- the Euclidean remainder: the number is a multiple of the size and the remainder
pub euclid-split : (z : ℤ) (m : ℕ) → (m ≡ 0 → ⊥) → (q : ℤ) × (z ≡ (q *ℤ pos m) +ℤ pos (euclid z m))
euclid-split z zero h = absurd (h refl)
euclid-split (pos n) (suc m) h = (pos (n / suc m), ap pos (sym (div-add-mod' n (suc m))))
euclid-split (negsuc n) (suc m) h = (
  negsuc (n / suc m),
  sym (ap (λ (x : ℕ). neg_ℤ (pos x) +ℤ pos (m - n % suc m)) (suc-mul (n / suc m) (suc m) ∙ add-suc (n / suc m * suc m) m)
      ∙ less (n / suc m * suc m + m) (m - n % suc m) (omega arith)
      ∙ ap negsuc (back n m (n / suc m * suc m) (n % suc m) (div-add-mod' n (suc m)) (mod-lt n (zero-lt-suc m)))),
)
  where
    back : (n m p r : ℕ) → p + r ≡ n → r < suc m → p + m - (m - r) ≡ n
    back n m p r e l = omega arith

-- −1 → 7; M 7: −2,147,483,648 → 5; M 46,341: 2,147,483,647 → 41,707
minus_one : euclid (negsuc 0) 8 ≡ 7
minus_one = refl

least : euclid (negsuc 2147483647) 7 ≡ 5
least = refl

greatest : euclid (pos 2147483647) 46341 ≡ 41707
greatest = refl

-- 46,340 × 46,340 at 46,341 → 1
product : euclid (pos (46340 * 46340)) 46341 ≡ 1
product = refl
