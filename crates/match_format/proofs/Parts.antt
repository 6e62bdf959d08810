-- Laws of the parts of a file.
-- Assumes nothing.
use mathlib.Core.Path.{◌≡◌, sym, ap, ◌∙◌}
use mathlib.Core.List.{List, ◌∷◌, ◌++◌}
use Prim.Native.Nat.{ℕ, suc, ◌+◌, ◌≤◌, ◌<◌}
use native.Mathlib.Omega.{arith}
use native.Mathlib.Numerals.{add-one}
use lib.ListN.{length, get_or, take, drop, length-drop}
use lib.Seq.{drop-cons, length-take-le, drop-append-add, take-add, drop-drop}
use Rattle.encoding.specs.Bytes.{part}

module _ (f : List ℕ) where
  pub length_part : (p k : ℕ) → p + k ≤ length f → length (part f p k) ≡ k
  length_part p k h = length-take-le k (drop p f) (simp length-drop (omega arith))

  pub part-add : (p j k : ℕ) → part f p (j + k) ≡ part f p j ++ part f (p + j) k
  part-add p j k = take-add j k (drop p f) ∙ ap (λ (r : List ℕ). take j (drop p f) ++ take k r) (drop-drop j p f)

  -- the first byte of a part
  pub part-first : (p k : ℕ) → p < length f → part f p (suc k) ≡ get_or f p 0 ∷ part f (p + 1) k
  part-first p k h = rw (add-one, drop-cons f p 0)

  -- a part of what is left from a position on
  pub part-from : (p i k : ℕ) → part f (p + i) k ≡ part (drop p f) i k
  part-from p i k = ap (take k) (sym (drop-drop i p f))

-- a part of what follows a list
pub part-past : (xs ys : List ℕ) (i k : ℕ) → part (xs ++ ys) (length xs + i) k ≡ part ys i k
part-past xs ys i k = ap (take k) (drop-append-add xs ys i)
