-- A refused cell reading has no value.
-- Assumes nothing.
use mathlib.Core.Path.{◌≡◌, refl, sym, ap, ◌∙◌}
use mathlib.Core.Bool.{Bool, true, false}
use Prim.Native.Nat.{ℕ}
use lib.IntN.{ℤ}
use Rattle.answer.specs.declared.Error.{Error}
use Rattle.answer.specs.Numbers.{Told, gives, told_error}
use Rattle.answer.proofs.Numbers.{not_zero}
use Rattle.cell.specs.Cells.{unpacked, sound_word}
use Rattle.machine.specs.State.{Machine}
use Rattle.machine.specs.Soundness.{sound_header}
use Rattle.machine.specs.Run.{word_at, read}
use Rattle.sumacadze.specs.Report.{cell_of}

no_value : (m : Machine) (z : ℤ) → ((read m z).number ≡ 0 → ⊥) → (read m z).value ≡ 0
unfolding read
no_value m z refused = go (sound_header m) (sound_word m.header.rules.size (word_at m z)) refl refl
  where
    go : (s w : Bool) → sound_header m ≡ s → sound_word m.header.rules.size (word_at m z) ≡ w → (read m z).value ≡ 0
    go true true e f = absurd (refused (simp (e, f)))
    go true false e f = simp (e, f)
    go false w e f = simp e

-- so it is told by its number, and a cell of zeros
pub refused-cell : (m : Machine) (z : ℤ) (e : Error) {n : ℕ} → n ≡ (told_error e).number → told_error e ≡ gives (read m z).number 0
    → (n ≡ (read m z).number) × (cell_of 0 0 0 0 0 0 ≡ unpacked (read m z).value)
refused-cell m z e is told_is =
    let number = ap (λ (t : Told). t.number) told_is in (
      is ∙ number,
      ap unpacked (sym (no_value m z (λ q. not_zero e (number ∙ q)))),
    )
