-- Little-endian numbers of k bytes: what is spelled reads back, what is read is spelled again, and the bound.
-- Assumes nothing.
use mathlib.Core.Path.{◌≡◌, refl, sym, ap, ◌∙◌, subst}
use mathlib.Core.List.{List, [], ◌∷◌}
use Prim.Native.Nat.{ℕ, zero, suc, ◌+◌, ◌*◌, ◌/◌, ◌%◌, ◌^◌, ◌≤◌, ◌<◌}
use native.Mathlib.Omega.{arith}
use lib.ListN.{length, take, drop}
use lib.Pow.{pow-add, shr_lt}
use lib.Seq.{get_or-drop}
use Rattle.encoding.specs.Bytes.{part, value, spelled}
use Rattle.match_format.specs.Format.{Bytes, number}
use Rattle.match_format.proofs.Parts.{length_part}

pub value-spelled : (k n : ℕ) → n < 2 ^ (8 * k) → value (spelled k n) ≡ n
value-spelled zero n h = omega arith
value-spelled (suc k) n h =
    let e : 8 * suc k ≡ 8 * k + 8 = omega arith in
    let g : n < 2 ^ (8 * k + 8) = subst (λ (j : ℕ). n < 2 ^ j) e h in
    rw (value-spelled k (n / 256) (shr_lt (8 * k) 8 g)) (omega arith)

spelled-value : (bs : List ℕ) → Bytes bs → spelled (length bs) (value bs) ≡ bs
spelled-value [] h = refl
spelled-value (b ∷ bs) h =
    let l : b < 256 = h 0 in
    let q : (b + 256 * value bs) / 256 ≡ value bs = omega arith in
    let r : (b + 256 * value bs) % 256 ≡ b = omega arith in
    rw (q, r) (ap (λ (x : List ℕ). b ∷ x) (spelled-value bs (λ i. h (suc i))))

value-lt : (bs : List ℕ) → Bytes bs → value bs < 2 ^ (8 * length bs)
value-lt [] h = omega arith
value-lt (x ∷ bs) h =
    let e : 8 * suc (length bs) ≡ 8 * length bs + 8 = omega arith in
    let i : value bs < 2 ^ (8 * length bs) = value-lt bs (λ j. h (suc j)) in
    let b : x < 256 = h 0 in
    rw (e, pow-add 2 (8 * length bs) 8) (omega arith)

-- the bytes of a part
bytes_take : (k : ℕ) (xs : List ℕ) → Bytes xs → Bytes (take k xs)
bytes_take zero xs h i = omega arith
bytes_take (suc k) [] h i = omega arith
bytes_take (suc k) (x ∷ xs) h zero = h 0
bytes_take (suc k) (x ∷ xs) h (suc i) = bytes_take k xs (λ j. h (suc j)) i

module _ (f : List ℕ) (p k : ℕ) (b : Bytes f) (l : p + k ≤ length f) where
  bytes-part : Bytes (part f p k)
  bytes-part = bytes_take k (drop p f) (λ i. subst (λ (x : ℕ). x < 256) (sym (get_or-drop p f i 0)) (b (p + i)))

  pub spelled-number : spelled k (number f p k) ≡ part f p k
  spelled-number = ap (λ (j : ℕ). spelled j (number f p k)) (sym (length_part f p k l)) ∙ spelled-value (part f p k) bytes-part

  pub number_lt : number f p k < 2 ^ (8 * k)
  number_lt = subst (λ (j : ℕ). number f p k < 2 ^ (8 * j)) (length_part f p k l) (value-lt (part f p k) bytes-part)
