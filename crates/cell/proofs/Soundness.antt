-- What a sound word is, field by field, and that what is packed of sound fields is sound.
-- Assumes nothing.
use mathlib.Core.Path.{◌≡◌, ap, ◌∙◌}
use mathlib.Core.Bool.{true, false, ◌&&◌}
use Prim.Native.Nat.{ℕ, ◌*◌, ◌/◌, ◌%◌, ◌^◌, ◌≤◌, ◌<◌}
use native.Mathlib.Omega.{arith}
use lib.Dec.{eqb, leb, ltb}
use borrow.Author.Tests.{eqb-true, leb-true, ltb-true, eq-eqb, le-leb, lt-ltb}
use Rattle.laws.proofs.Tests.{both, iff, never}
use Rattle.cell.specs.declared.Cell.{Cell}
use Rattle.cell.specs.Cells.{packed, unpacked, legal, sound_word}
use Rattle.cell.proofs.Words.{InRange, unpack-pack}

-- a sound cell
pub record Sound (size : ℕ) (c : Cell) : Type 0 where
  pub opcode : c.opcode ≤ 18
  pub modifier : c.modifier ≤ 6
  pub a_mode : c.a_mode < 8
  pub b_mode : c.b_mode < 8
  pub a : c.a.0 < size
  pub b : c.b.0 < size

pub legal-fields : (size w : ℕ) → legal size (unpacked w) ≡ true → Sound size (unpacked w)
legal-fields size w e =
    let p = both (leb (unpacked w).opcode 18 && leb (unpacked w).modifier 6 && ltb (unpacked w).a.0 size) (ltb (unpacked w).b.0 size) e in
    let q = both (leb (unpacked w).opcode 18 && leb (unpacked w).modifier 6) (ltb (unpacked w).a.0 size) p.0 in
    let r = both (leb (unpacked w).opcode 18) (leb (unpacked w).modifier 6) q.0 in
    record {
      opcode = leb-true _ _ r.0;
      modifier = leb-true _ _ r.1;
      a_mode = omega arith;
      b_mode = omega arith;
      a = ltb-true _ _ q.1;
      b = ltb-true _ _ p.1;
    }

pub fields-legal : (size : ℕ) (c : Cell) → Sound size c → legal size c ≡ true
fields-legal size c h = simp (le-leb _ _ h.opcode, le-leb _ _ h.modifier, lt-ltb _ _ h.a, lt-ltb _ _ h.b)

pub sound-fields : (size w : ℕ) → sound_word size w ≡ true → (w < 2 ^ 46) × Sound size (unpacked w)
unfolding sound_word
sound-fields size w e =
    let p = both (legal size (unpacked w)) (eqb (w / 2 ^ 46) 0) e in
    (top (eqb-true (w / 2 ^ 46) 0 p.1), legal-fields size w p.0)
  where
    top : {w : ℕ} → w / 2 ^ 46 ≡ 0 → w < 2 ^ 46
    top h = omega arith

-- its fields are in range
pub in-range : {size : ℕ} (c : Cell) → size ≤ 65536 → Sound size c → InRange c
in-range c l h = record { opcode = omega arith; modifier = omega arith; a_mode = h.a_mode; b_mode = h.b_mode; a = omega arith; b = omega arith }

pub fields-sound : (size : ℕ) (c : Cell) → size ≤ 65536 → Sound size c → sound_word size (packed c) ≡ true
unfolding sound_word
fields-sound size c l h =
    ap (λ (d : Cell). legal size d && eqb (packed c / 2 ^ 46) 0) (unpack-pack c (in-range c l h))
    ∙ simp (fields-legal size c h, eq-eqb (packed c / 2 ^ 46) 0 (top c))
  where
    top : (c : Cell) → packed c / 2 ^ 46 ≡ 0
    top c = omega arith

-- a word whose B number, whose two numbers or whose modifier are too large is not sound
pub over-b : (size w : ℕ) → size ≤ w % 2 ^ 16 → false ≡ sound_word size w
over-b size w h = never (sound_word size w) (λ e. let f = (sound-fields size w e).1.b in omega arith)

pub over-numbers : (size w : ℕ) → size * 65536 ≤ w % 2 ^ 32 → false ≡ sound_word size w
over-numbers size w h = never (sound_word size w) (λ e. against size w h (sound-fields size w e).1.a)
  where
    against : (size w : ℕ) → size * 65536 ≤ w % 2 ^ 32 → w / 2 ^ 16 % 2 ^ 16 < size → ⊥
    against size w h a = omega arith

pub over-modifier : (size w : ℕ) → 6 < w / 2 ^ 38 % 2 ^ 3 → false ≡ sound_word size w
over-modifier size w h = never (sound_word size w) (λ e. let f = (sound-fields size w e).1.modifier in omega arith)

-- where they are not, its opcode decides, tested with the bits above it
pub opcode-decides : (size w : ℕ)
    → w % 2 ^ 16 < size → w % 2 ^ 32 < size * 65536 → w / 2 ^ 38 % 2 ^ 3 ≤ 6 → leb (w / 2 ^ 41) 18 ≡ sound_word size w
unfolding sound_word
opcode-decides size w b numbers modifier =
    iff
    _ _
    (λ e. let o = leb-true _ _ e in
    simp (
      le-leb (unpacked w).opcode 18 (low w o),
      le-leb (unpacked w).modifier 6 modifier,
      lt-ltb (unpacked w).a.0 size (number size w numbers),
      lt-ltb (unpacked w).b.0 size b,
      eq-eqb (w / 2 ^ 46) 0 (top w o),
    ))
    (λ e. let f = sound-fields size w e in le-leb _ _ (high w f.0 f.1.opcode))
  where
    high : (w : ℕ) → w < 2 ^ 46 → w / 2 ^ 41 % 2 ^ 5 ≤ 18 → w / 2 ^ 41 ≤ 18
    high w t h = omega arith

    low : (w : ℕ) → w / 2 ^ 41 ≤ 18 → w / 2 ^ 41 % 2 ^ 5 ≤ 18
    low w h = omega arith

    top : (w : ℕ) → w / 2 ^ 41 ≤ 18 → w / 2 ^ 46 ≡ 0
    top w h = omega arith

    number : (size w : ℕ) → w % 2 ^ 32 < size * 65536 → w / 2 ^ 16 % 2 ^ 16 < size
    number size w h = omega arith
