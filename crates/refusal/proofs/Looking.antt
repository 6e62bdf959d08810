-- Laws of one operand looked at: the cells that it reads, and the word that it leaves at its location, for each return of the code.
-- Assumes nothing.
use mathlib.Core.Path.{◌≡◌, refl, sym, ap, ◌∙◌}
use mathlib.Core.Bool.{Bool, true, false, ◌&&◌}
use mathlib.Core.List.{List}
use Prim.Native.Nat.{ℕ, ◌≤◌, ◌<◌, zero-le}
use native.Mathlib.Omega.{arith}
use lib.ListN.{length, get_or}
use lib.Seq.{set-get_or}
use Rattle.laws.proofs.Cases.{span}
use Rattle.offset.specs.Offset.{ahead}
use Rattle.types.specs.declared.field.Field.{Field}
use Rattle.cell.specs.Cells.{packed, unpacked, sound_word, number, with_number, store}
use Rattle.machine.specs.declared.Rules.{Rules}
use Rattle.machine.specs.Pointers.{Reach, here, there, through, Shift, keeps, lowers, raises, reaches, shifts, field_of, before, after, site_at}
use Rattle.machine.specs.Whole.{used, pointer_of, former}
use Rattle.word.proofs.Cells.{ahead-below, number-below, with-sound}
use Rattle.address.specs.Rounding.{decremented, incremented, field_through, aimed}
use Rattle.address.specs.Inner.Operands.{sound_seen, Ready}
use Rattle.address.proofs.Pointing.{goes_through, shift-keeps, shift-lowers, shift-raises, is-less, is-more, is-used, still-sound, sound-is}
use Rattle.refusal.specs.Inner.Looking.{sound_pointed, sound_both, left_by, left}

module _ (size : ℕ) (core : List ℕ) (location w mode : ℕ) where
  pub unsound-location : sound_word size w ≡ false → false ≡ sound_both size core location w mode
  unfolding sound_both
  unsound-location h = simp h

  module _ (h : sound_word size w ≡ true) where
    pub no-further : mode < 2 → true ≡ sound_both size core location w mode
    unfolding sound_both
    no-further l = span mode 0 2 zero-le l (λ e. rw e (sym (simp h)), (λ e. rw e (sym (simp h)), tt))

    pub further : 2 ≤ mode → mode < 8 → {found to pointer : ℕ} {r : Bool} → found ≡ number (field_through mode) (unpacked w)
        → to ≡ aimed (get_or shifts mode keeps) size found → pointer ≡ ahead size location to → r ≡ sound_word size (get_or core pointer 0)
        → r ≡ sound_both size core location w mode
    unfolding sound_both
    further two eight {found} ef et ep er =
        let b : found < size = rw ef (number-below (field_through mode) size w h) in
        er ∙ rw (ep, et ∙ is-used (get_or shifts mode keeps) size found b, ef, goes_through mode two eight) (sym (simp h))

module _ (size w mode : ℕ) where
  pub left_alone : mode < 4 → w ≡ left size w mode
  unfolding left
  left_alone l = rw (shift-keeps mode l)

  module _ (h : sound_word size w ≡ true) {found : ℕ} (ef : found ≡ number (field_through mode) (unpacked w)) where
    below : found < size
    below = rw ef (number-below (field_through mode) size w h)

    pub left-lower : 4 ≤ mode → mode < 6 → {to r : ℕ} → to ≡ decremented size found → r ≡ packed (with_number (field_through mode) to (unpacked w))
        → r ≡ left size w mode
    unfolding left
    left-lower p q et er =
        er ∙ rw (et ∙ is-less size found below, ef, shift-lowers mode p q, goes_through mode (omega arith) (omega arith))

    pub left-higher : 6 ≤ mode → mode < 8 → {to r : ℕ} → to ≡ incremented size found → r ≡ packed (with_number (field_through mode) to (unpacked w))
        → r ≡ left size w mode
    unfolding left
    left-higher p q et er =
        er ∙ rw (et ∙ is-more size found below, ef, shift-raises mode p q, goes_through mode (omega arith) q)

  -- a sound word is left sound
  pub left-sound : size ≤ 46341 → sound_word size w ≡ true → sound_word size (left size w mode) ≡ true
  unfolding left
  left-sound l h = by (get_or shifts mode keeps) (field_of (get_or reaches mode here))
    where
      by : (t : Shift) (f : Field) → sound_word size (left_by t size w f) ≡ true
      by keeps f = h
      by lowers f = with-sound f size w _ l h (ahead-below _ _ (number-below f size w h))
      by raises f = with-sound f size w _ l h (ahead-below _ _ (number-below f size w h))

-- with sound words stored over sound ones, both cells are sound just where they were
pub both_stored : (size : ℕ) (core : List ℕ) (i v location w mode : ℕ) → i < length core → sound_word size (get_or core i 0) ≡ true → sound_word size v ≡ true
    → sound_both size (store core i v) location w mode ≡ sound_both size core location w mode
unfolding sound_both
both_stored size core i v location w mode l s h = ap (λ (b : Bool). sound_word size w && b) (by (get_or reaches mode here))
  where
    by : (r : Reach) → sound_pointed r (get_or shifts mode keeps) size (store core i v) location w ≡ sound_pointed r (get_or shifts mode keeps) size core location w
    by here = refl
    by there = refl
    by (through f) = still-sound size core i _ v l s h

module _ (rules : Rules) (core : List ℕ) (pc mode n : ℕ) where
  abbrev size : ℕ
  size = rules.size

  abbrev word : ℕ
  word = get_or core (ahead size pc n) 0

  -- the cells that the machine's operand reads, where the executed one is sound
  pub seen-both : Ready rules core pc n → sound_word size (get_or core pc 0) ≡ true
      → sound_seen size (former (site_at rules pc) core mode n) ≡ sound_both size core (ahead size pc n) word mode
  unfolding former sound_both
  seen-both k h = sound-is rules core pc mode n k _ refl ∙ by (get_or reaches mode here)
    where
      twice : (b : Bool) → (b && b) ≡ (b && true)
      twice true = refl
      twice false = refl

      by : (r : Reach) → (sound_word size word && sound_word size (get_or core (pointer_of r size pc (ahead size pc n) (used (get_or shifts mode keeps) size (number (field_of r) (unpacked word)))) 0))
          ≡ (sound_word size word && sound_pointed r (get_or shifts mode keeps) size core (ahead size pc n) word)
      by here = ap (λ (b : Bool). sound_word size word && b) h
      by there = twice (sound_word size word)
      by (through f) = refl

  -- and the core after it
  pub core-left : (former (site_at rules pc) core mode n).core ≡ store core (ahead size pc n) (left size word mode)
  unfolding former left
  core-left = by (get_or shifts mode keeps) (field_of (get_or reaches mode here))
    where
      by : (t : Shift) (f : Field) → after t size (before t size core (ahead size pc n) f (number f (unpacked word))) (ahead size pc n) f (number f (unpacked word))
          ≡ store core (ahead size pc n) (left_by t size word f)
      by keeps f = sym (set-get_or core (ahead size pc n) 0)
      by lowers f = refl
      by raises f = refl
