-- The fewest digits that hold a number are its decimal digits, 20 at most.
-- Assumes nothing.
use Prim.Native.Nat.{ℕ, zero, suc, ◌+◌, ◌-◌, ◌*◌, ◌/◌, ◌%◌, ◌^◌, ◌≤◌, ◌<◌}
use mathlib.Core.Path.{◌≡◌, refl, sym, ap, ap₂, ◌∙◌, subst}
use mathlib.Core.Bool.{Bool, true, false, cond}
use mathlib.Core.List.{List, [], ◌∷◌, ◌++◌}
use native.Mathlib.Nat.{pow-suc, one-le-pow, pow-le-pow_right, zero-lt-suc}
use native.Mathlib.Omega.{arith}
use lib.Dec.{leb}
use borrow.Author.Tests.{lt-ltb, le-ltb, leb-true, leb-false}
use Rattle.io.specs.Digits as io
use Rattle.printing.specs.Text.{digits, decimal}

glyph-is : (n : ℕ) → io.hex_digit_ascii (n % 10) ≡ 48 + n % 10
glyph-is n = rw (lt-ltb (n % 10) 10 (omega arith))

same_digits : (k f n : ℕ) → n < 10 ^ suc k → (0 < k → 10 ^ k ≤ n) → k ≤ f → io.last_digits 10 (suc k) n ≡ digits (suc f) n
same_digits zero f n h l b =
    let s : n % 10 ≡ n = omega arith in
    ap (λ (d : ℕ). d ∷ []) (glyph-is n ∙ ap (λ (d : ℕ). 48 + d) s) ∙ sym (ap (λ b. cond b ((48 + n) ∷ []) (digits f (n / 10) ++ ((48 + n % 10) ∷ []))) (lt-ltb n 10 h))
same_digits (suc k) zero n h l b = absurd (omega arith)
same_digits (suc k) (suc f) n h l b =
    let lo : 10 ^ k * 10 ≤ n = subst (λ (x : ℕ). x ≤ n) (pow-suc 10 k) (l (zero-lt-suc k)) in
    let hi : n < 10 ^ suc k * 10 = subst (λ (x : ℕ). n < x) (pow-suc 10 (suc k)) h in
    let some : 1 ≤ 10 ^ k = one-le-pow k 10 (zero-lt-suc 9) in
    let up : n / 10 < 10 ^ suc k = omega arith in
    let down : 10 ^ k ≤ n / 10 = omega arith in
    let big : 10 ≤ n = omega arith in
    ap₂ (λ (ds : List ℕ) (d : ℕ). ds ++ (d ∷ [])) (same_digits k f (n / 10) up (λ _. down) (omega arith)) (glyph-is n)
    ∙ sym (ap (λ b. cond b ((48 + n) ∷ []) (digits (suc f) (n / 10) ++ ((48 + n % 10) ∷ []))) (le-ltb n 10 big))

-- 20 digits hold every number of 64 bits
pub few : (n k : ℕ) → io.IsDigitCount 10 1 n k → n < 2 ^ 64 → k ≤ 20
few n k f h = go (leb k 20) refl
  where
    go : (b : Bool) → leb k 20 ≡ b → k ≤ 20
    go true e = leb-true k 20 e
    go false e =
        let more = leb-false k 20 e in
        let past : 10 ^ 20 ≤ 10 ^ (k - 1) = pow-le-pow_right {n = 10} (zero-lt-suc 9) {i = 20} {j = k - 1} (omega arith) in
        let held = f.2 (omega arith) in
        absurd (omega arith)

-- the fewest digits are the number's
pub decimal-is : (n k : ℕ) → io.IsDigitCount 10 1 n k → n < 2 ^ 64 → io.last_digits 10 k n ≡ decimal n
unfolding decimal
decimal-is n zero f h = absurd (let z = f.0 in omega arith)
decimal-is n (suc k) f h =
    same_digits k 19 n f.1 (λ (s : 0 < k). subst (λ (x : ℕ). 10 ^ x ≤ n) one_less (f.2 (omega arith))) (let most = few n (suc k) f h in omega arith)
  where
    one_less : suc k - 1 ≡ k
    one_less = omega arith
