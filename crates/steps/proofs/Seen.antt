-- Laws of one operand, with any limits, whose cells read are sound: what it leaves sound, its register and its writes.
-- Assumes nothing.
use mathlib.Core.Path.{◌≡◌, refl}
use mathlib.Core.Bool.{true}
use mathlib.Core.List.{List}
use Prim.Native.Nat.{ℕ, ◌≤◌, ◌<◌}
use lib.ListN.{length, get_or}
use Rattle.laws.proofs.Every.{every-passes}
use Rattle.types.specs.declared.field.Field.{Field}
use Rattle.cell.specs.Cells.{unpacked, sound_word, number, cell_at}
use Rattle.word.proofs.Cells.{ahead-below, with-sound}
use Rattle.machine.specs.declared.Rules.{Rules}
use Rattle.machine.specs.Pointers as machine
use Rattle.machine.specs.Pointers.{Shift, keeps, lowers, raises, shifts, here, reaches, field_of, located, before, after, shifted, site_at, operand}
use Rattle.machine.proofs.Pointers.{pointed-lt}
use Rattle.address.specs.Inner.Operands.{sound_seen}
use Rattle.address.proofs.Pointing.{on-set}

module _ (rules : Rules) (core : List ℕ) (pc mode n : ℕ) where
  abbrev size : ℕ
  size = rules.size

  abbrev its : machine.Operand
  its = operand (site_at rules pc) core mode n

  abbrev t : Shift
  t = get_or shifts mode keeps

  abbrev f : Field
  f = field_of (get_or reaches mode here)

  -- the write location, and the core after the decrement
  abbrev location : ℕ
  location = located (site_at rules pc) rules.write n

  abbrev lowered : List ℕ
  lowered = before t size core location f (number f (cell_at core location))

  -- the register is the cell at the read pointer
  pub register-whole : unpacked (get_or its.seen 2 0) ≡ its.register
  unfolding operand
  register-whole = refl

  pub writes_are : length (shifted t 0) ≡ length its.written
  unfolding operand
  writes_are = by t
    where
      by : (t : Shift) → length (shifted t 0) ≡ length (shifted t location)
      by keeps = refl
      by lowers = refl
      by raises = refl

  module _ (place : pc < size) where
    -- both pointers are places
    pub read_below : its.read < size
    unfolding operand
    read_below = pointed-lt (get_or reaches mode here) (site_at rules pc) rules.read n lowered place

    pub write-below : its.write < size
    unfolding operand
    write-below = pointed-lt (get_or reaches mode here) (site_at rules pc) rules.write n lowered place

    module _ (valid : size ≤ 46341) (e : sound_seen size its ≡ true) where
      old-sound : sound_word size (get_or core location 0) ≡ true
      unfolding operand
      old-sound = (every-passes (sound_word size) its.seen e).1.0

      pub register-sound : sound_word size (get_or its.seen 2 0) ≡ true
      unfolding operand
      register-sound = (every-passes (sound_word size) its.seen e).1.1.0

      there-sound : sound_word size (get_or its.seen 3 0) ≡ true
      unfolding operand
      there-sound = (every-passes (sound_word size) its.seen e).1.1.1.0

      -- another number at the write location keeps a sound cell sound, wherever it is
      changed-sound : (k i : ℕ) → k < size → sound_word size (get_or core i 0) ≡ true → sound_word size (get_or (machine.changed core location f k) i 0) ≡ true
      changed-sound k i h s =
          on-set (λ (w : ℕ). sound_word size w ≡ true) core location i _ 0 (with-sound f size (get_or core location 0) k valid old-sound h) s

      pub sound-after : (i : ℕ) → sound_word size (get_or core i 0) ≡ true → sound_word size (get_or its.core i 0) ≡ true
      unfolding operand
      sound-after i s = by t
        where
          by : (t : Shift) → sound_word size (get_or (after t size (before t size core location f (number f (cell_at core location))) location f (number f (cell_at core location))) i 0) ≡ true
          by keeps = s
          by lowers = changed-sound _ i (ahead-below _ _ place) s
          by raises = changed-sound _ i (ahead-below _ _ place) s

      -- so does the increment
      lowered-after : (i : ℕ) → sound_word size (get_or lowered i 0) ≡ true → sound_word size (get_or its.core i 0) ≡ true
      unfolding operand
      lowered-after i = by t
        where
          by : (t : Shift) → sound_word size (get_or (before t size core location f (number f (cell_at core location))) i 0) ≡ true
              → sound_word size (get_or (after t size (before t size core location f (number f (cell_at core location))) location f (number f (cell_at core location))) i 0) ≡ true
          by keeps s = s
          by lowers s = s
          by raises s = changed-sound _ i (ahead-below _ _ place) s

      at_read : sound_word size (get_or lowered its.read 0) ≡ true
      unfolding operand
      at_read = register-sound

      at-write : sound_word size (get_or lowered its.write 0) ≡ true
      unfolding operand
      at-write = there-sound

      -- the cells at both pointers are sound afterwards
      pub live-sound : sound_word size (get_or its.core its.read 0) ≡ true
      live-sound = lowered-after its.read at_read

      pub target_sound : sound_word size (get_or its.core its.write 0) ≡ true
      target_sound = lowered-after its.write at-write
