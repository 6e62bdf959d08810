-- A body: our cells, placed from cell 0 on, are the Rust's normalized instructions.
-- Assumes nothing.
use Prim.Native.Nat.{ℕ, suc, ◌+◌, ◌/◌, ◌%◌, ◌≤◌, ◌<◌}
use mathlib.Core.Path.{◌≡◌, refl, sym, ap, ap₂, ◌∙◌}
use mathlib.Core.Bool.{Bool, true, false, cond, not}
use mathlib.Core.List.{List, [], ◌∷◌, map}
use mathlib.Core.Option.{Option, some}
use native.Mathlib.Nat.{mod-eq_of_lt}
use native.Mathlib.Numerals.{add-one}
use native.Mathlib.Omega.{arith}
use lib.Dec.{eqb, ltb}
use lib.IntN.{pos}
use lib.ListN.{length, get_or, set, length-set, length-map}
use borrow.Author.Tests.{le-leb}
use Rattle.laws.proofs.Numbers.{below}
use Rattle.laws.proofs.Every.{◌and◌, Every}
use Rattle.offset.specs.Offset.{euclid, ahead}
use Rattle.cell.specs.Cells.{packed}
use Rattle.types.specs.Defaults.{unnamed, default_modifier, default_of}
use Rattle.types.specs.Modifier as modifier
use Rattle.cell.proofs.Soundness.{in-range}
use Rattle.encoding.specs.Bytes.{part, value, signed}
use Rattle.program.specs.Program as Program
use Rattle.program.specs.Program.{instructions, split, a_mode_of, b_mode_of, lawful, lowest_fault, cell_of, cells}
use Rattle.program.proofs.Program.{length-split, Lawful, lawful-fields, all-lawful, twelve-each, lawful-cell}
use Rattle.machine.specs.Place.{placed}
use Rattle.reference.specs.Types.{Modifier, AB, B, mode_number, default_88_to_94}
use Rattle.reference.specs.Core.{normalize, written_from}
use Rattle.reference.specs.Same.{opcode_of, modifier_of, mode_of, instruction_of, word_of, or_f, read_modifier, read_instruction}
use Rattle.reference.proofs.Cells.{set_word, mode-there}

-- the default modifier
module _ (a b : ℕ) (ha : a < 8) (hb : b < 8) where
  by_tests : (p q : Bool) (x : Option Modifier) (k : ℕ) → or_f x ≡ modifier_of k
      → or_f (cond p (some AB) (cond q (some B) x)) ≡ modifier_of (cond p modifier.AB (cond q modifier.B k))
  by_tests true q x k e = refl
  by_tests false true x k e = refl
  by_tests false false x k e = e

  -- of an opcode whose default is by the modes
  by_modes : (x : Option Modifier) (k : ℕ) → or_f x ≡ modifier_of k
      → or_f (cond (eqb (mode_number (mode_of a)) 0) (some AB) (cond (eqb (mode_number (mode_of b)) 0) (some B) x))
      ≡ modifier_of (cond (eqb a 0) modifier.AB (cond (eqb b 0) modifier.B k))
  by_modes x k e =
      ap₂ (λ (p q : ℕ). or_f (cond (eqb p 0) (some AB) (cond (eqb q 0) (some B) x))) (mode-there a ha) (mode-there b hb)
      ∙ by_tests (eqb a 0) (eqb b 0) x k e

  -- DAT MOV ADD SUB MUL DIV MOD JMP JMZ JMN DJN CMP SEQ SNE SLT SPL NOP LDP STP
  default-is : (o : ℕ) → o < 19 → or_f (default_88_to_94 (opcode_of o) (mode_of a) (mode_of b)) ≡ modifier_of (default_modifier o a b)
  default-is =
      below _ 19
      (refl
      and by_modes _ modifier.I refl
      and by_modes _ modifier.F refl
      and by_modes _ modifier.F refl
      and by_modes _ modifier.F refl
      and by_modes _ modifier.F refl
      and by_modes _ modifier.F refl
      and refl
      and refl
      and refl
      and refl
      and by_modes _ modifier.I refl
      and by_modes _ modifier.I refl
      and by_modes _ modifier.I refl
      and by_modes _ modifier.B refl
      and refl
      and refl
      and by_modes _ unnamed refl
      and by_modes _ unnamed refl
      and tt)

-- a lawful instruction, normalized
module _ (size : ℕ) (positive : 0 < size) (small : size ≤ 65536) where
  module _ (x : List ℕ) (h : Lawful x) where
    modifier-is : read_modifier (opcode_of (Program.opcode_of x)) (mode_of (a_mode_of x)) (mode_of (b_mode_of x)) (get_or x 1 0) ≡ modifier_of (Program.modifier_of x)
    modifier-is = go (eqb (get_or x 1 0) unnamed)
      where
        ranged-default : default_of (Program.opcode_of x) (a_mode_of x) (b_mode_of x) ≡ default_modifier (Program.opcode_of x) (a_mode_of x) (b_mode_of x)
        ranged-default = simp (le-leb _ _ h.opcode, le-leb _ _ h.a_mode, le-leb _ _ h.b_mode)

        go : (t : Bool) → cond t (or_f (default_88_to_94 (opcode_of (Program.opcode_of x)) (mode_of (a_mode_of x)) (mode_of (b_mode_of x)))) (modifier_of (get_or x 1 0))
            ≡ modifier_of (cond t (default_of (Program.opcode_of x) (a_mode_of x) (b_mode_of x)) (get_or x 1 0))
        go true =
            default-is (a_mode_of x) (b_mode_of x) (omega (arith, h.a_mode)) (omega (arith, h.b_mode)) (Program.opcode_of x) (omega (arith, h.opcode))
            ∙ ap modifier_of (sym ranged-default)
        go false = refl

    normal : normalize size (read_instruction x) ≡ instruction_of (cell_of size x)
    normal = λ i. record {
      opcode = opcode_of (Program.opcode_of x);
      modifier = modifier-is i;
      a_field = record { address_mode = mode_of (a_mode_of x); value = pos (euclid (signed (value (part x 4 4))) size) };
      b_field = record { address_mode = mode_of (b_mode_of x); value = pos (euclid (signed (value (part x 8 4))) size) };
    }

  -- the index past the last cell is never used
  same_index : (ws core : List ℕ) (i : ℕ) → suc i + length ws ≤ length core → placed core (ahead (length core) i 1) ws ≡ placed core (suc i) ws
  same_index [] core i h = refl
  same_index (w ∷ ws) core i h =
      ap (λ (j : ℕ). placed core j (w ∷ ws)) (ap (λ (j : ℕ). j % length core) (add-one i) ∙ mod-eq_of_lt (omega arith))

  abbrev words : List (List ℕ) → List ℕ
  words xs = map (λ x. packed (cell_of size x)) xs

  written_is : (xs : List (List ℕ)) (core : List ℕ) (i : ℕ) → Every (λ x. not (lawful x) ≡ false) xs → i + length xs ≤ length core
      → written_from size i (map read_instruction xs) (map word_of core) ≡ map word_of (placed core i (words xs))
  written_is [] core i h l = refl
  written_is (x ∷ xs) core i h l =
      ap (written_from size (suc i) (map read_instruction xs))
      (ap (set (map word_of core) i) (normal x (lawful-fields x h.0)) ∙ sym (set_word core i (cell_of size x) (in-range _ small (lawful-cell size positive small x h.0))))
      ∙ written_is xs next (suc i) h.1 (rw long (omega arith))
      ∙ ap (map word_of) (sym (ap (λ (n : ℕ). placed next (ahead n i 1) (words xs)) (sym long)
      ∙ same_index (words xs) next i (rw (long, length-map xs (λ x. packed (cell_of size x))) (omega arith))))
    where
      next : List ℕ
      next = set core i (packed (cell_of size x))

      long : length next ≡ length core
      long = length-set core i (packed (cell_of size x))

  pub body_is : (body core : List ℕ) → ltb (lowest_fault body) (instructions body) ≡ false → instructions body ≤ length core
      → written_from size 0 (map read_instruction (split (instructions body) body)) (map word_of core) ≡ map word_of (placed core 0 (cells size body))
  unfolding cells
  body_is body core e l =
      let h = all-lawful body e in
      let w = twelve-each (instructions body) body h in
      written_is (split (instructions body) body) core 0 h (rw (length-split (instructions body) body) (omega arith))
      ∙ ap (λ (n : ℕ). map word_of (placed core 0 (words (split n body)))) (let q : instructions body ≡ length body / 12 = omega arith in q)
