-- Laws of ADD, DIV and MOD on one pair: the value, whether there is one, and the target with it.
-- Assumes nothing.
use mathlib.Core.Path.{◌≡◌, refl, sym, ap, ◌∙◌}
use mathlib.Core.Bool.{Bool, true, false, cond}
use mathlib.Core.Option.{some}
use Prim.Native.Nat.{ℕ, zero, suc, ◌/◌, ◌%◌, ◌≤◌, ◌<◌}
use native.Mathlib.Nat.{lt_of_le_of_lt, div-le_self, mod-le}
use native.Mathlib.Omega.{arith}
use lib.Dec.{eqb}
use borrow.Author.Tests.{ne_eqb}
use Rattle.laws.proofs.Cases.{span}
use Rattle.laws.proofs.Modulo.{mod-small}
use Rattle.cell.specs.declared.Cell.{Cell}
use Rattle.types.specs.declared.field.Field.{Field}
use Rattle.cell.specs.Cells.{packed, unpacked, with_number}
use Rattle.cell.proofs.Words.{InRange, with-range}
use Rattle.machine.specs.Execution.{put, is_none}
use Rattle.word.specs.Words.{Reduced}
use Rattle.steps.specs.Inner.Acts.{value_by}

-- what ADD gives of a pair
pub value-sum : (op size a b : ℕ) {r : ℕ} → op ≡ 2 → Reduced size a b r → (some r ≡ value_by op size a b) × (r < size)
value-sum op size a b e h = (rw e (ap some h.is), h.below)

-- DIV and MOD: none for a zero b
pub none_is : (op size a b : ℕ) → 5 ≤ op → op < 7 → is_none (value_by op size a b) ≡ eqb b 0
none_is op size a zero l h = span op 5 2 l h (λ e. rw e, (λ e. rw e, tt))
none_is op size a (suc b) l h = span op 5 2 l h (λ e. rw e, (λ e. rw e, tt)) ∙ sym (ne_eqb (suc b) 0 (λ e. omega arith))

abbrev ratio : ℕ → ℕ → ℕ → ℕ
ratio op a b = cond (eqb op 5) (a / b) (a % b)

ratio-le : (op a b : ℕ) → ratio op a b ≤ a
ratio-le op a b = by (eqb op 5)
  where
    by : (t : Bool) → cond t (a / b) (a % b) ≤ a
    by true = div-le_self a b
    by false = mod-le a b

ratio-is : (op size a b : ℕ) → 5 ≤ op → op < 7 → a < size → (b ≡ 0 → ⊥) → value_by op size a b ≡ some (ratio op a b)
ratio-is op size a zero l h u n = absurd (n refl)
ratio-is op size a (suc b) l h u n =
    span op 5 2 l h (
      λ e. rw e (ap some (sym (mod-small (lt_of_le_of_lt (div-le_self a (suc b)) u)))),
      (λ e. rw e (ap some (sym (mod-small (lt_of_le_of_lt (mod-le a (suc b)) u)))), tt),
    )

-- a target field divided
pub part-is : (op size a b : ℕ) (f : Field) (t r : ℕ) → 5 ≤ op → op < 7 → a < size → packed (unpacked t) ≡ t
    → r ≡ cond (eqb b 0) t (packed (with_number f (cond (eqb op 5) (a / b) (a % b)) (unpacked t)))
    → r ≡ packed (put (value_by op size a b) f (unpacked t))
part-is op size a zero f t r l h u e er = er ∙ sym e ∙ span op 5 2 l h (λ g. rw g, (λ g. rw g, tt))
part-is op size a (suc b) f t r l h u e er =
    er ∙ simp (ne_eqb (suc b) 0 (λ g. omega arith)) (rw (ratio-is op size a (suc b) l h u (λ g. omega arith)))

pub put-range : (op size a b : ℕ) (f : Field) (c : Cell) → 5 ≤ op → op < 7 → a < size → size ≤ 46341 → InRange c → InRange (put (value_by op size a b) f c)
put-range op size a zero f c l h u v r = span op 5 2 l h (λ e. rw e r, (λ e. rw e r, tt))
put-range op size a (suc b) f c l h u v r =
    rw (ratio-is op size a (suc b) l h u (λ g. omega arith)) (with-range f _ c (let q = ratio-le op a (suc b) in omega arith) r)
