-- Our words and the Rust's instructions: a cell read, a cell stored, two cells compared.
-- Assumes nothing.
use Prim.Native.Nat.{ℕ, zero, suc, ◌≤◌, ◌<◌}
use mathlib.Core.Path.{◌≡◌, refl, sym, ap, ◌∙◌}
use mathlib.Core.Bool.{Bool, true, false, true≢false}
use mathlib.Core.List.{List, [], ◌∷◌, map}
use native.Mathlib.Nat.{le_of_suc-le-suc, not-suc-le-zero}
use native.Mathlib.Omega.{arith}
use lib.Dec.{eqb}
use lib.ListN.{length, get_or, set, length-map, get_or-map}
use borrow.Author.Tests.{eqb-true, eq-eqb, ne_eqb}
use Rattle.laws.proofs.Tests.{both}
use Rattle.laws.proofs.Lists.{map-set}
use Rattle.laws.proofs.Numbers.{below}
use Rattle.laws.proofs.Every.{◌and◌}
use Rattle.cell.specs.declared.Cell.{Cell}
use Rattle.cell.specs.Cells.{packed, unpacked}
use Rattle.cell.proofs.Words.{InRange, unpack-pack, cell-ext}
use Rattle.cell.proofs.Soundness.{Sound, in-range}
use Rattle.reference.specs.Types.{default, opcode_number, modifier_number, mode_number, field_eq, instruction_eq}
use Rattle.reference.specs.Address.{get_offset}
use Rattle.reference.specs.Same.{opcode_of, modifier_of, mode_of, instruction_of, word_of}

get_d_any : {X : Type 0} (l : List X) (i : ℕ) (d e : X) → i < length l → get_or l i d ≡ get_or l i e
get_d_any [] i d e h = absurd (not-suc-le-zero h)
get_d_any (x ∷ xs) zero d e h = refl
get_d_any (x ∷ xs) (suc i) d e h = get_d_any xs i d e (le_of_suc-le-suc h)

-- the cell at a place
pub get-word : (core : List ℕ) (i : ℕ) → i < length core → get_offset (map word_of core) i ≡ word_of (get_or core i 0)
get-word core i h = get_d_any (map word_of core) i default (word_of 0) (rw (length-map core word_of) h) ∙ get_or-map word_of core i 0

-- a cell stored
pub set_word : (core : List ℕ) (i : ℕ) (c : Cell) → InRange c → map word_of (set core i (packed c)) ≡ set (map word_of core) i (instruction_of c)
set_word core i c h = map-set word_of core i (packed c) ∙ ap (λ (d : Cell). set (map word_of core) i (instruction_of d)) (unpack-pack c h)

-- codes and back: no code is there twice
abbrev opcode-back : List ℕ
opcode-back = 2 ∷ 11 ∷ 0 ∷ 5 ∷ 10 ∷ 9 ∷ 7 ∷ 8 ∷ 17 ∷ 6 ∷ 1 ∷ 4 ∷ 16 ∷ 12 ∷ 14 ∷ 13 ∷ 15 ∷ 18 ∷ 3 ∷ []

opcode-there : (k : ℕ) → k < 19 → get_or opcode-back (opcode_number (opcode_of k)) 0 ≡ k
opcode-there =
    below _ 19
    (refl and refl and refl and refl and refl and refl and refl and refl and refl and refl
    and refl and refl and refl and refl and refl and refl and refl and refl and refl and tt)

modifier-there : (k : ℕ) → k < 7 → modifier_number (modifier_of k) ≡ k
modifier-there = below _ 7 (refl and refl and refl and refl and refl and refl and refl and tt)

pub mode-there : (k : ℕ) → k < 8 → mode_number (mode_of k) ≡ k
mode-there = below _ 8 (refl and refl and refl and refl and refl and refl and refl and refl and tt)

-- two instructions are equal exactly if their words are
module _ (size : ℕ) (c d : Cell) (small : size ≤ 65536) (hc : Sound size c) (hd : Sound size d) where
  fields-same : instruction_eq (instruction_of c) (instruction_of d) ≡ true → c ≡ d
  fields-same e =
      let p = both _ (field_eq (instruction_of c).b_field (instruction_of d).b_field) e in
      let q = both _ (field_eq (instruction_of c).a_field (instruction_of d).a_field) p.0 in
      let r = both (eqb (opcode_number (opcode_of c.opcode)) (opcode_number (opcode_of d.opcode))) _ q.0 in
      let s = both (eqb (mode_number (mode_of c.a_mode)) (mode_number (mode_of d.a_mode))) _ q.1 in
      let t = both (eqb (mode_number (mode_of c.b_mode)) (mode_number (mode_of d.b_mode))) _ p.1 in
      cell-ext
      (sym (opcode-there _ (omega (arith, hc.opcode)))
      ∙ ap (λ (k : ℕ). get_or opcode-back k 0) (eqb-true (opcode_number (opcode_of c.opcode)) (opcode_number (opcode_of d.opcode)) r.0)
      ∙ opcode-there _ (omega (arith, hd.opcode)))
      (sym (modifier-there _ (omega (arith, hc.modifier))) ∙ eqb-true _ _ r.1 ∙ modifier-there _ (omega (arith, hd.modifier)))
      (sym (mode-there _ hc.a_mode) ∙ eqb-true _ _ s.0 ∙ mode-there _ hd.a_mode)
      (sym (mode-there _ hc.b_mode) ∙ eqb-true _ _ t.0 ∙ mode-there _ hd.b_mode)
      (eqb-true _ _ s.1)
      (eqb-true _ _ t.1)

  same-fields : instruction_eq (instruction_of c) (instruction_of c) ≡ true
  same-fields =
      simp (
        eq-eqb (opcode_number (opcode_of c.opcode)) _ refl,
        eq-eqb (modifier_number (modifier_of c.modifier)) _ refl,
        eq-eqb (mode_number (mode_of c.a_mode)) _ refl,
        eq-eqb (mode_number (mode_of c.b_mode)) _ refl,
        eq-eqb c.a.0 _ refl,
        eq-eqb c.b.0 _ refl,
      )

  same-cell : packed c ≡ packed d → c ≡ d
  same-cell q = sym (unpack-pack c (in-range c small hc)) ∙ ap unpacked q ∙ unpack-pack d (in-range d small hd)

  pub eq-words : eqb (packed c) (packed d) ≡ instruction_eq (instruction_of c) (instruction_of d)
  eq-words = go (instruction_eq (instruction_of c) (instruction_of d)) refl
    where
      go : (t : Bool) → instruction_eq (instruction_of c) (instruction_of d) ≡ t → eqb (packed c) (packed d) ≡ t
      go true e = eq-eqb (packed c) (packed d) (ap packed (fields-same e))
      go false e =
          ne_eqb (packed c) (packed d)
          (λ q. true≢false (sym same-fields ∙ ap (λ (x : Cell). instruction_eq (instruction_of c) (instruction_of x)) (same-cell q) ∙ e))
