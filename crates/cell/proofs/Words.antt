-- Laws of the packed cell.
-- Assumes nothing.
use mathlib.Core.Path.{◌≡◌}
use Prim.Native.Nat.{ℕ, ◌+◌, ◌*◌, ◌/◌, ◌%◌, ◌^◌, ◌<◌}
use native.Mathlib.Nat.{mod-mod, mod-eq_of_lt}
use native.Mathlib.Omega.{arith}
use Rattle.laws.proofs.Fields.{beside, beside-low}
use Rattle.cell.specs.declared.Cell.{Cell}
use Rattle.types.specs.declared.field.Field.{Field}
use Rattle.types.specs.declared.field.Field.TheVariants.{A, B}
use Rattle.cell.specs.Cells.{packed, unpacked, with_number}

-- the fields, one put beside the other, are the sum
pub sums : (op md am bm a b : ℕ)
    → ((((op * 2 ^ 3 + md) * 2 ^ 3 + am) * 2 ^ 3 + bm) * 2 ^ 16 + a) * 2 ^ 16 + b
    ≡ op * 2 ^ 41 + md * 2 ^ 38 + am * 2 ^ 35 + bm * 2 ^ 32 + a * 2 ^ 16 + b
sums op md am bm a b = omega arith

-- the four codes are one field of 14 bits
pub codes : (w : ℕ) → w / 2 ^ 41 % 2 ^ 5 * 2 ^ 41 + w / 2 ^ 38 % 2 ^ 3 * 2 ^ 38 + w / 2 ^ 35 % 2 ^ 3 * 2 ^ 35 + w / 2 ^ 32 % 2 ^ 3 * 2 ^ 32
    ≡ w / 2 ^ 32 % 2 ^ 14 * 2 ^ 32
codes w = rw (beside w 5 3 38, beside w 8 3 35, beside w 11 3 32)

-- the numbers that a word holds
pub record InRange (c : Cell) : Type 0 where
  pub opcode : c.opcode < 32
  pub modifier : c.modifier < 8
  pub a_mode : c.a_mode < 8
  pub b_mode : c.b_mode < 8
  pub a : c.a.0 < 65536
  pub b : c.b.0 < 65536

-- the cell of a word is in range, and stays so with a number that is
pub word-range : (w : ℕ) → InRange (unpacked w)
word-range w = record { opcode = omega arith; modifier = omega arith; a_mode = omega arith; b_mode = omega arith; a = omega arith; b = omega arith }

pub with-range : (f : Field) (x : ℕ) (c : Cell) → x < 65536 → InRange c → InRange (with_number f x c)
with-range A x c h r = record { opcode = r.opcode; modifier = r.modifier; a_mode = r.a_mode; b_mode = r.b_mode; a = h; b = r.b }
with-range B x c h r = record { opcode = r.opcode; modifier = r.modifier; a_mode = r.a_mode; b_mode = r.b_mode; a = r.a; b = h }

-- equal field by field
pub cell-ext : {c d : Cell} → c.opcode ≡ d.opcode → c.modifier ≡ d.modifier → c.a_mode ≡ d.a_mode → c.b_mode ≡ d.b_mode
    → c.a.0 ≡ d.a.0 → c.b.0 ≡ d.b.0 → c ≡ d
cell-ext p q r s t u =
    λ i. record { opcode = p i; modifier = q i; a_mode = r i; b_mode = s i; a = record { 0 = t i }; b = record { 0 = u i } }

pub unpack-pack : (c : Cell) → InRange c → unpacked (packed c) ≡ c
unpack-pack c h = cell-ext (omega arith) (omega arith) (omega arith) (omega arith) (omega arith) (omega arith)

pub pack-unpack : (w : ℕ) → w < 2 ^ 46 → packed (unpacked w) ≡ w
pack-unpack w h = simp mod-mod (rw (codes w, beside w 14 16 16, beside-low w 30 16) (mod-eq_of_lt h))
