-- The bytes that spell a number, as the code makes them.
-- Assumes nothing.
use mathlib.Core.Path.{◌≡◌, ap, ap₂, ◌∙◌}
use mathlib.Core.List.{List, [], ◌∷◌}
use Prim.Native.Nat.{ℕ, zero, suc, ◌-◌, ◌/◌, ◌%◌}
use native.Mathlib.Omega.{arith}
use lib.ListN.{replicate, take, drop, length-replicate}
use lib.Seq.{take_all}
use Rattle.encoding.specs.Bytes.{spelled}

pub two : (n : ℕ) {rest bs : List ℕ} → bs ≡ n % 256 ∷ n / 256 % 256 ∷ rest → take 2 bs ≡ spelled 2 n
two n e = ap (take 2) e

pub four : (n : ℕ) {rest bs : List ℕ} → bs ≡ n % 256 ∷ n / 256 % 256 ∷ n / 65536 % 256 ∷ n / 16777216 % 256 ∷ rest → take 4 bs ≡ spelled 4 n
four n e =
    let a : n / 65536 ≡ n / 256 / 256 = omega arith in
    let b : n / 16777216 ≡ n / 256 / 256 / 256 = omega arith in
    ap (take 4) e ∙ ap₂ (λ x y. n % 256 ∷ n / 256 % 256 ∷ x % 256 ∷ y % 256 ∷ []) a b

-- zeros past the first of them
later : (n k : ℕ) → drop {A = ℕ} k (replicate n 0) ≡ replicate (n - k) 0
later n zero = let e : n - 0 ≡ n = omega arith in rw e
later zero (suc k) = let e : 0 - suc k ≡ 0 = omega arith in rw e
later (suc n) (suc k) = let e : suc n - suc k ≡ n - k = omega arith in rw e (later n k)

pub zeros : (n k : ℕ) → take {A = ℕ} (n - k) (drop k (replicate n 0)) ≡ replicate (n - k) 0
zeros n k = ap (take (n - k)) (later n k) ∙ take_all (n - k) (replicate (n - k) 0) (omega (arith, length-replicate {A = ℕ}))
