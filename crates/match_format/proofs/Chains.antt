-- Chains of faults: a chain is nowhere where each of its parts is. Bytes that are all right, and the first that is not.
-- Assumes nothing.
use mathlib.Core.Path.{◌≡◌, refl, ap, ap₂, ◌∙◌}
use mathlib.Core.Bool.{Bool, true, false}
use mathlib.Core.List.{List, [], ◌∷◌}
use Prim.Native.Nat.{ℕ, zero, suc, ◌+◌, ◌≤◌}
use native.Mathlib.Omega.{arith}
use lib.Dec.{leb}
use lib.ListN.{length, replicate}
use borrow.Author.Tests.{leb-true}
use Rattle.laws.specs.Lists.{every}
use Rattle.laws.proofs.Tests.{both}
use Rattle.std.specs.Prelude.{Option, Some, None, option_map, position, not, cond}
use Rattle.std.specs.List.{position_from}
use Rattle.std.proofs.lemmas.Iterator.Adapters.{position_from-zero}
use Rattle.match_format.specs.Faults.{unless, ◌else◌, field, faulty, within}

-- a fault is not nowhere
pub somewhere : {X : Type 0} {p : ℕ} → Some p ≡ None → X
somewhere e = absurd (let z : ◌≡◌ {A = ℕ} 0 1 = cc in omega arith)

pub else-left : (g h : Option ℕ) → (g else h) ≡ None → g ≡ None
else-left None h e = refl
else-left (Some p) h e = somewhere e

pub else-right : (g h : Option ℕ) → (g else h) ≡ None → h ≡ None
else-right None h e = e
else-right (Some p) h e = somewhere e

pub unless-true : (b : Bool) (p : ℕ) → unless b p ≡ None → b ≡ true
unless-true true p e = refl
unless-true false p e = somewhere e

-- a field that is nowhere faulty is there, and is right
pub field_fits : (f : List ℕ) (p k : ℕ) (right : Bool) → field f p k right ≡ None → p + k ≤ length f
field_fits f p k right e =
    leb-true (p + k) (length f) (unless-true (leb (p + k) (length f)) (length f) (else-left (unless (leb (p + k) (length f)) (length f)) (unless right p) e))

pub field-right : (f : List ℕ) (p k : ℕ) (right : Bool) → field f p k right ≡ None → right ≡ true
field-right f p k right e = unless-true right p (else-right (unless (leb (p + k) (length f)) (length f)) (unless right p) e)

module _ (right : ℕ → Bool) where
  -- the first that is not right, counted from a position
  counted : (p i : ℕ) (bs : List ℕ) → option_map (λ k. p + k) (position_from (λ b. not (right b)) i bs) ≡ faulty right (p + i) bs
  counted p i [] = refl
  counted p i (b ∷ bs) = elim (right b) as (λ t. option_map (λ k. p + k) (cond (not t) (Some i) (position_from (λ b. not (right b)) (i + 1) bs)) ≡ (unless t (p + i) else faulty right (p + i + 1) bs)) [
    | true ↦ counted p (i + 1) bs ∙ (let e : p + (i + 1) ≡ p + i + 1 = omega arith in rw e)
    | false ↦ refl
  ]

  -- and as the code finds it
  pub found : (p : ℕ) (bs : List ℕ) (r : Option ℕ) → r ≡ position (λ b. not (right b)) bs → option_map (λ k. p + k) r ≡ faulty right p bs
  found p bs r e = ap (option_map (λ k. p + k)) (e ∙ position_from-zero (λ b. not (right b)) bs) ∙ counted p 0 bs ∙ (let z : p + 0 ≡ p = omega arith in rw z)

  -- every byte is right
  pub all_right : (p : ℕ) (bs : List ℕ) → faulty right p bs ≡ None → every right bs ≡ true
  all_right p [] e = refl
  all_right p (b ∷ bs) e =
      rw (unless-true (right b) p (else-left (unless (right b) p) (faulty right (p + 1) bs) e))
      (all_right (p + 1) bs (else-right (unless (right b) p) (faulty right (p + 1) bs) e))

  pub right-all : (p : ℕ) (bs : List ℕ) → every right bs ≡ true → faulty right p bs ≡ None
  right-all p [] e = refl
  right-all p (b ∷ bs) e = let k = both (right b) (every right bs) e in rw k.0 (right-all (p + 1) bs k.1)

-- bytes that are all 0
pub all-zero : (bs : List ℕ) → every (within 0 0) bs ≡ true → bs ≡ replicate (length bs) 0
all-zero [] e = refl
all-zero (b ∷ bs) e =
    let k = both (within 0 0 b) (every (within 0 0) bs) e in
    let z : b ≤ 0 = leb-true b 0 (both (leb 0 b) (leb b 0) k.0).1 in
    ap₂ (λ (x : ℕ) (y : List ℕ). x ∷ y) (omega arith) (all-zero bs k.1)

pub zero-all : (k : ℕ) → every (within 0 0) (replicate k 0) ≡ true
zero-all zero = refl
zero-all (suc k) = zero-all k
