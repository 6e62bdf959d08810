-- A law of cells stored: a cell copied over another.
-- Assumes nothing.
use mathlib.Core.Path.{◌≡◌, sym}
use Prim.Native.Nat.{ℕ, ◌+◌, ◌*◌, ◌/◌, ◌%◌, ◌^◌}
use native.Mathlib.Nat.{mod-mod}
use native.Mathlib.Omega.{arith}
use Rattle.laws.proofs.Fields.{beside, beside-low}
use Rattle.cell.specs.Cells.{packed, unpacked}
use Rattle.steps.specs.Inner.Acts.{copy_of}

-- `from & 0x3fc0_ffff_ffff | ((to >> 32) & 0x3f) << 32`
regroup : (p q r s t u x y z : ℕ) → p + q ≡ x → r + s ≡ y → t + u ≡ z → x + (y + z) ≡ p + q + r + s + t + u
regroup p q r s t u x y z e f g = omega arith

pub copy_is : (to from : ℕ) → from / 2 ^ 38 % 2 ^ 8 * 2 ^ 38 + (to / 2 ^ 32 % 2 ^ 6 * 2 ^ 32 + from % 2 ^ 32) ≡ packed (copy_of (unpacked to) (unpacked from))
copy_is to from =
    sym (simp mod-mod (sym (regroup _ _ _ _ _ _ _ _ _ (beside from 5 3 38) (beside to 3 3 32) (beside-low from 16 16))))
