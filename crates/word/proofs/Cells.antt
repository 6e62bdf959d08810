-- Laws of words and sums: what a reducing addition gives, what a sound word holds, a sound word with another number, a field by its first bit.
-- Assumes nothing.
use mathlib.Core.Path.{◌≡◌, refl, ap, ◌∙◌}
use mathlib.Core.Bool.{true, cond}
use Prim.Native.Nat.{ℕ, ◌+◌, ◌≤◌, ◌<◌}
use lib.Dec.{eqb}
use native.Mathlib.Nat.{mod-lt}
use native.Mathlib.Omega.{arith}
use Rattle.offset.specs.Offset.{ahead}
use Rattle.types.specs.declared.field.Field.{Field}
use Rattle.types.specs.declared.field.Field.TheVariants.{A, B}
use Rattle.types.specs.Types.{first_bit}
use Rattle.cell.specs.Cells.{packed, unpacked, sound_word, number, with_number}
use Rattle.offset.proofs.Offsets.{sum_is}
use Rattle.cell.proofs.Words.{pack-unpack}
use Rattle.cell.proofs.Soundness.{sound-fields, fields-sound}
use Rattle.word.specs.Words.{field_by, Reduced}

-- what lies ahead of a place of the core is one
pub ahead-below : {size k : ℕ} (a b : ℕ) → k < size → ahead size a b < size
ahead-below {size} {k} a b h = mod-lt (a + b) (omega arith)

-- what a reducing addition promises, in a core of some cells
pub reduced : {size k : ℕ} (a b : ℕ) {r : ℕ} → k < size → r ≡ cond (eqb size 0) 0 (ahead size a b) → Reduced size a b r
reduced {size} {k} a b {r} h e = record { is = is; below = rw is (ahead-below a b h) }
  where
    is : r ≡ ahead size a b
    is = sum_is size (λ z. omega arith) e

-- a sound word is the word of its cell
pub whole : (size w : ℕ) → sound_word size w ≡ true → packed (unpacked w) ≡ w
whole size w e = pack-unpack w (sound-fields size w e).0

pub number-below : (f : Field) (size w : ℕ) → sound_word size w ≡ true → number f (unpacked w) < size
number-below A size w e = (sound-fields size w e).1.a
number-below B size w e = (sound-fields size w e).1.b

pub with-sound : (f : Field) (size w n : ℕ) → size ≤ 46341 → sound_word size w ≡ true → n < size
    → sound_word size (packed (with_number f n (unpacked w))) ≡ true
with-sound A size w n l e h =
    let s = (sound-fields size w e).1 in
    fields-sound size _ (omega arith)
    (record { opcode = s.opcode; modifier = s.modifier; a_mode = s.a_mode; b_mode = s.b_mode; a = h; b = s.b })
with-sound B size w n l e h =
    let s = (sound-fields size w e).1 in
    fields-sound size _ (omega arith)
    (record { opcode = s.opcode; modifier = s.modifier; a_mode = s.a_mode; b_mode = s.b_mode; a = s.a; b = h })

-- a field is the one that begins at its first bit
pub field_at : (f : Field) → field_by (first_bit f) ≡ f
field_at A = refl
field_at B = refl

-- a number read, and a number written, by the first bit of a field
pub number_by : (f : Field) (w : ℕ) {bit n : ℕ} → bit ≡ first_bit f → n ≡ number (field_by bit) (unpacked w) → n ≡ number f (unpacked w)
number_by f w e h = h ∙ ap (λ (g : Field). number g (unpacked w)) (ap field_by e ∙ field_at f)

pub with-by : (f : Field) (w n : ℕ) {bit v : ℕ} → bit ≡ first_bit f → v ≡ packed (with_number (field_by bit) n (unpacked w))
    → v ≡ packed (with_number f n (unpacked w))
with-by f w n e h = h ∙ ap (λ (g : Field). packed (with_number g n (unpacked w))) (ap field_by e ∙ field_at f)
