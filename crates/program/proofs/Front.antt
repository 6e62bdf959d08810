-- One whole instruction: its codes and numbers, read byte by byte.
-- Assumes nothing.
use mathlib.Core.Path.{◌≡◌, refl, sym, ap, ◌∙◌}
use mathlib.Core.Bool.{Bool, true, false, cond, ◌&&◌}
use mathlib.Core.List.{List, [], ◌∷◌}
use Prim.Native.Nat.{ℕ, suc, ◌+◌, ◌<◌, ◌≤◌}
use native.Mathlib.Omega.{arith}
use lib.Dec.{eqb, leb, lit≤}
use Rattle.std.proofs.Common.{Result, Ok, Err}
use Rattle.std.specs.Result.{result_unwrap_or}
use Rattle.answer.specs.declared.Error.{Error}
use Rattle.answer.specs.declared.Error.TheVariants.{InvalidCode}
use lib.IntN.{ℤ}
use lib.ListN.{length, get_or, take, length-take}
use borrow.Author.Tests.{eqb-true, eq-eqb, ne_eqb}
use Rattle.laws.proofs.Tests.{and_assoc, and-true}
use Rattle.laws.proofs.Lists.{drop-first}
use Rattle.offset.specs.Offset.{euclid}
use Rattle.cell.specs.Cells.{packed, relative}
use Rattle.types.specs.Defaults.{ranged, default_of, defaulted}
use Rattle.cell.proofs.Words.{cell-ext}
use Rattle.encoding.specs.Bytes.{part, value, signed}
use Rattle.program.specs.Program.{modifier_of, lawful, cell_of}

-- what there is of a default, else 255
pub or_unnamed : (r : Result ℕ Error) (d m : ℕ) → r ≡ defaulted d → m ≡ result_unwrap_or r 255 → m ≡ d
or_unnamed r d m e f = f ∙ rw e (go (eqb d 255) refl)
  where
    go : (b : Bool) → eqb d 255 ≡ b → result_unwrap_or (cond b (Err (InvalidCode 0)) (Ok d)) 255 ≡ d
    go true t = sym (eqb-true d 255 t)
    go false t = refl

-- the first of a part
pub part-first : (bytes : List ℕ) (p k : ℕ) → p < length bytes → part bytes p (suc k) ≡ get_or bytes p 0 ∷ part bytes (p + 1) k
part-first bytes p k h = rw (drop-first bytes p 0)

-- an instruction cut short is faulty
pub cut_short : (x : List ℕ) → length x < 12 → false ≡ lawful (take 12 x)
unfolding lawful
cut_short x h = simp (ne_eqb (length (take 12 x)) 12 (λ e. let n : length (take 12 x) ≡ length x = short in omega arith))
  where
    short : length (take 12 x) ≡ length x
    short = length-take 12 x ∙ (omega arith)

module _ (x : List ℕ) where
  -- modifier 255 means the default
  pub resolved : {m : ℕ} → get_or x 1 0 ≡ 255 → m ≡ default_of (get_or x 0 0) (get_or x 2 0) (get_or x 3 0) → m ≡ modifier_of x
  resolved e p = simp (eq-eqb (get_or x 1 0) 255 e) p

  pub named : (get_or x 1 0 ≡ 255 → ⊥) → get_or x 1 0 ≡ modifier_of x
  named n = simp (ne_eqb (get_or x 1 0) 255 n)

  module _ (whole : length x ≡ 12) where
    codes : (m : ℕ) → m ≡ modifier_of x → (leb (get_or x 0 0) 18 && leb m 6 && leb (get_or x 2 0) 7 && leb (get_or x 3 0) 7) ≡ lawful x
    unfolding lawful
    codes m e = rw e (simp (eq-eqb (length x) 12 whole, and_assoc, and-true))

    -- it is faulty where one code is out of range, else its modifier decides
    abbrev pub in_range : Bool
    in_range = ranged (get_or x 0 0) (get_or x 2 0) (get_or x 3 0)

    pub out_of_range : in_range ≡ false → false ≡ lawful x
    out_of_range h = go (leb (get_or x 0 0) 18) (leb (modifier_of x) 6) (leb (get_or x 2 0) 7) (leb (get_or x 3 0) 7) h ∙ codes (modifier_of x) refl
      where
        go : (o m a b : Bool) → (o && a && b) ≡ false → false ≡ (o && m && a && b)
        go false m a b e = refl
        go true false a b e = refl
        go true true a b e = sym e

    pub modifier_decides : (m : ℕ) → m ≡ modifier_of x → in_range ≡ true → leb m 6 ≡ lawful x
    modifier_decides m e h = go (leb (get_or x 0 0) 18) (leb m 6) (leb (get_or x 2 0) 7) (leb (get_or x 3 0) 7) h ∙ codes m e
      where
        go : (o m a b : Bool) → (o && a && b) ≡ true → m ≡ (o && m && a && b)
        go true true a b e = sym e
        go true false a b e = refl
        go false m a b e = absurd (let f : ⊥ = cc in f)

    -- a number of four bytes
    pub number_at : (p : ℕ) → p + 4 ≤ 12
        → value (part x p 4) ≡ value (get_or x p 0 ∷ get_or x (p + 1) 0 ∷ get_or x (p + 1 + 1) 0 ∷ get_or x (p + 1 + 1 + 1) 0 ∷ [])
    number_at p l =
        rw (
          part-first x p 3 (omega arith),
          part-first x (p + 1) 2 (omega arith),
          part-first x (p + 1 + 1) 1 (omega arith),
          part-first x (p + 1 + 1 + 1) 0 (omega arith),
        )

    -- the word, from what was read
    pub word-is : (size : ℕ) {m na nb a b : ℕ} {za zb : ℤ} → m ≡ modifier_of x
        → na ≡ value (get_or x 4 0 ∷ get_or x 5 0 ∷ get_or x 6 0 ∷ get_or x 7 0 ∷ []) → za ≡ signed na → a ≡ euclid za size
        → nb ≡ value (get_or x 8 0 ∷ get_or x 9 0 ∷ get_or x 10 0 ∷ get_or x 11 0 ∷ []) → zb ≡ signed nb → b ≡ euclid zb size
        → packed (record { opcode = get_or x 0 0; modifier = m; a_mode = get_or x 2 0; b_mode = get_or x 3 0; a = relative a; b = relative b })
        ≡ packed (cell_of size x)
    word-is size p q r s t u v =
        ap packed
        (cell-ext refl p refl refl
        (s ∙ ap (λ (z : ℤ). euclid z size) (r ∙ ap signed (q ∙ sym (number_at 4 (lit≤ tt)))))
        (v ∙ ap (λ (z : ℤ). euclid z size) (u ∙ ap signed (t ∙ sym (number_at 8 (lit≤ tt))))))
