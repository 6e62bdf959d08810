-- Bytes stored where there is room for them.
-- Assumes nothing.
use Rattle.std.proofs.Common.{◌≡◌, ℕ, zero, suc, ◌-◌, List, [], ◌∷◌, ◌++◌, length, set, take, drop, min, refl, sym, ap, ◌∙◌, arith}
use Rattle.std.proofs.lemmas.List.Edits.{sets}

-- stores past the first element
sets-cons : (x : ℕ) (l vs : List ℕ) (i : ℕ) → sets (x ∷ l) (suc i) vs ≡ x ∷ sets l i vs
sets-cons x l [] i = refl
sets-cons x l (v ∷ vs) i = sets-cons x (set l i v) vs (suc i)

-- and in no element at all
sets-none : (i : ℕ) (vs : List ℕ) → sets [] i vs ≡ []
sets-none i [] = refl
sets-none i (v ∷ vs) = sets-none (suc i) vs

-- the first n bytes stored at j, where the position is i
pub stored : (l vs : List ℕ) (i j n : ℕ) → j ≡ min i (length l) → n ≡ min (length vs) (length l - j)
    → take j l ++ (take n vs ++ drop n (drop j l)) ≡ sets l i vs
stored [] vs i j n e f =
    let z : j ≡ 0 = omega arith in
    let y : n ≡ 0 = omega arith in
    rw (z, y) (sym (sets-none i vs))
stored (x ∷ l) vs (suc i) j n e f =
    let k : ℕ = min i (length l) in
    let z : j ≡ suc k = omega arith in
    rw z (ap (λ r. x ∷ r) (stored l vs i k n refl (omega arith)) ∙ sym (sets-cons x l vs i))
stored (x ∷ l) [] zero j n e f =
    let z : j ≡ 0 = omega arith in
    let y : n ≡ 0 = omega arith in
    rw (z, y)
stored (x ∷ l) (v ∷ vs) zero j n e f =
    let k : ℕ = min (length vs) (length l) in
    let z : j ≡ 0 = omega arith in
    let y : n ≡ suc k = omega arith in
    rw (z, y) (ap (λ r. v ∷ r) (stored l vs 0 0 k (omega arith) (omega arith)) ∙ sym (sets-cons v l vs 0))
