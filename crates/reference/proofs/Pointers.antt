-- A pointer resolved and applied, by the Rust's mode: 01's pointer, decrement and increment.
-- Assumes nothing.
use Prim.Native.Nat.{ℕ, ◌%◌, ◌≤◌, ◌<◌}
use mathlib.Core.Path.{◌≡◌, refl, sym, ap, ap₂, ◌∙◌}
use mathlib.Core.List.{List, map}
use native.Mathlib.Nat.{mod-lt, mod-eq_of_lt, add-zero}
use native.Mathlib.Omega.{arith}
use lib.IntN.{pos}
use lib.ListN.{get_or, set}
use lib.Seq.{set-get_or}
use Rattle.laws.proofs.Numbers.{below}
use Rattle.laws.proofs.Every.{◌and◌}
use Rattle.cell.specs.declared.Cell.{Cell}
use Rattle.offset.specs.Offset.{ahead}
use Rattle.types.specs.declared.field.Field.{Field}
use Rattle.types.specs.declared.field.Field.TheVariants.{A, B}
use Rattle.cell.specs.Cells.{unpacked, number, with_number}
use Rattle.offset.proofs.Offsets.{ahead-lt}
use Rattle.cell.proofs.Words.{word-range, with-range}
use Rattle.cell.proofs.Soundness.{Sound}
use Rattle.machine.specs.Pointers.{Reach, here, there, through, reaches, Shift, keeps, lowers, raises, shifts, field_of, changed, before, after}
use Rattle.machine.specs.Whole.{used, pointer_of}
use Rattle.machine.proofs.Pointers.{SoundCore, fields_at}
use Rattle.reference.specs.Types as Rust
use Rattle.reference.specs.Types.{AddressMode, Immediate, Direct, IndirectA, IndirectB, PreDecIndirectA, PreDecIndirectB, PostIncIndirectA, PostIncIndirectB, Instruction, default, set_a, set_b}
use Rattle.reference.specs.Offset.{offset, add_i32}
use Rattle.reference.specs.Address.{get_offset, relative, resolve_pointer, EvalTime, Pre, Post, applied, apply_pointer}
use Rattle.reference.specs.Same.{mode_of, instruction_of, word_of}
use Rattle.reference.proofs.Offsets.{add-num, decremented, incremented, through-is, before-is}
use Rattle.reference.proofs.Cells.{get-word, set_word}

-- a field of the Rust's
abbrev pub field_at : AddressMode → ℕ → Rust.Field
field_at mode n = record { address_mode = mode; value = pos n }

-- where a mode points, and what it does to the number that it goes through
abbrev pub reach_of : AddressMode → Reach
reach_of Immediate = here
reach_of Direct = there
reach_of IndirectA = through A
reach_of IndirectB = through B
reach_of PreDecIndirectA = through A
reach_of PreDecIndirectB = through B
reach_of PostIncIndirectA = through A
reach_of PostIncIndirectB = through B

abbrev pub shift_of : AddressMode → Shift
shift_of Immediate = keeps
shift_of Direct = keeps
shift_of IndirectA = keeps
shift_of IndirectB = keeps
shift_of PreDecIndirectA = lowers
shift_of PreDecIndirectB = lowers
shift_of PostIncIndirectA = raises
shift_of PostIncIndirectB = raises

-- the core after either of them
abbrev pub shift_at : EvalTime → Shift → ℕ → List ℕ → ℕ → Field → ℕ → List ℕ
shift_at Pre = before
shift_at Post = after

pub reach-is : (k : ℕ) → k < 8 → get_or reaches k here ≡ reach_of (mode_of k)
reach-is = below _ 8 (refl and refl and refl and refl and refl and refl and refl and refl and tt)

pub shift_is : (k : ℕ) → k < 8 → get_or shifts k keeps ≡ shift_of (mode_of k)
shift_is = below _ 8 (refl and refl and refl and refl and refl and refl and refl and refl and tt)

-- a cell set to what it is
pub same_set : (core : List Instruction) (i : ℕ) → set core i (get_offset core i) ≡ core
same_set core i = set-get_or core i default

-- a number of the cell at a place, changed
changed-is : (core : List ℕ) (i : ℕ) (f : Field) (x : ℕ) → x < 65536
    → map word_of (changed core i f x) ≡ set (map word_of core) i (instruction_of (with_number f x (unpacked (get_or core i 0))))
changed-is core i f x h = set_word core i _ (with-range f x _ h (word-range (get_or core i 0)))

module _ (size : ℕ) (small : size ≤ 46341) (core : List ℕ) (sound : SoundCore size core) (pc n : ℕ) (pc-in : pc < size) (n-in : n < size) where
  some : 0 < size
  some = omega arith

  -- the location, the core and the cell there
  abbrev location : ℕ
  location = ahead size pc n

  abbrev instructions : List Instruction
  instructions = map word_of core

  abbrev cell : Cell
  cell = unpacked (get_or core location 0)

  cell_in : Sound size cell
  cell_in = fields_at size core sound location (ahead-lt size pc n some)

  location-is : add_i32 size pc (pos n) ≡ location
  location-is = add-num size some small pc n pc-in

  there-is : get_offset instructions location ≡ instruction_of cell
  there-is = get-word core location (rw sound.length (ahead-lt size pc n some))

  found : get_offset instructions (add_i32 size pc (pos n)) ≡ instruction_of cell
  found = ap (get_offset instructions) location-is ∙ there-is

  fits : (x : ℕ) → x % size < 65536
  fits x = let h : x % size < size = mod-lt x some in omega arith

  -- resolve_pointer
  pub pointer_is : (mode : AddressMode) → resolve_pointer size instructions pc (field_at mode n)
      ≡ pointer_of (reach_of mode) size pc location (used (shift_of mode) size (number (field_of (reach_of mode)) cell))
  pointer_is mode =
      ap (λ (i : Instruction). add_i32 size pc (relative mode (pos n) i.a_field.value i.b_field.value)) found ∙ go mode
    where
      go : (mode : AddressMode) → add_i32 size pc (relative mode (pos n) (pos cell.a.0) (pos cell.b.0))
          ≡ pointer_of (reach_of mode) size pc location (used (shift_of mode) size (number (field_of (reach_of mode)) cell))
      go Immediate = add-num size some small pc 0 pc-in ∙ ap (λ (k : ℕ). k % size) (add-zero pc) ∙ mod-eq_of_lt pc-in
      go Direct = location-is
      go IndirectA = through-is size some small pc n cell.a.0 pc-in n-in cell_in.a
      go IndirectB = through-is size some small pc n cell.b.0 pc-in n-in cell_in.b
      go PostIncIndirectA = through-is size some small pc n cell.a.0 pc-in n-in cell_in.a
      go PostIncIndirectB = through-is size some small pc n cell.b.0 pc-in n-in cell_in.b
      go PreDecIndirectA = before-is size some small pc n cell.a.0 pc-in n-in cell_in.a
      go PreDecIndirectB = before-is size some small pc n cell.b.0 pc-in n-in cell_in.b

  -- apply_pointer, its location found
  apply-is : (mode : AddressMode) (t : EvalTime)
      → apply_pointer size instructions pc (field_at mode n) t
      ≡ set instructions location (applied size t mode (offset size (pos cell.a.0)) (offset size (pos cell.b.0)) (instruction_of cell))
  apply-is mode t =
      ap₂ (λ (i : ℕ) (x : Instruction). set instructions i (applied size t mode (offset size x.a_field.value) (offset size x.b_field.value) x))
      location-is found

  kept : set instructions location (instruction_of cell) ≡ instructions
  kept = ap (set instructions location) (sym there-is) ∙ same_set instructions location

  -- a field set to another number
  a-set : {x y : ℕ} → x ≡ y → y < 65536 → set instructions location (set_a (instruction_of cell) x) ≡ map word_of (changed core location A y)
  a-set e h = ap (λ (x : ℕ). set instructions location (set_a (instruction_of cell) x)) e ∙ sym (changed-is core location A _ h)

  b-set : {x y : ℕ} → x ≡ y → y < 65536 → set instructions location (set_b (instruction_of cell) x) ≡ map word_of (changed core location B y)
  b-set e h = ap (λ (x : ℕ). set instructions location (set_b (instruction_of cell) x)) e ∙ sym (changed-is core location B _ h)

  -- the decrement, or the increment
  pub applied-is : (t : EvalTime) (mode : AddressMode) → apply_pointer size instructions pc (field_at mode n) t
      ≡ map word_of (shift_at t (shift_of mode) size core location (field_of (reach_of mode)) (number (field_of (reach_of mode)) cell))
  applied-is t mode = apply-is mode t ∙ go t mode
    where
      go : (t : EvalTime) (mode : AddressMode)
          → set instructions location (applied size t mode (offset size (pos cell.a.0)) (offset size (pos cell.b.0)) (instruction_of cell))
          ≡ map word_of (shift_at t (shift_of mode) size core location (field_of (reach_of mode)) (number (field_of (reach_of mode)) cell))
      go Pre Immediate = kept
      go Pre Direct = kept
      go Pre IndirectA = kept
      go Pre IndirectB = kept
      go Pre PreDecIndirectA = a-set (decremented size some small cell.a.0) (fits _)
      go Pre PreDecIndirectB = b-set (decremented size some small cell.b.0) (fits _)
      go Pre PostIncIndirectA = kept
      go Pre PostIncIndirectB = kept
      go Post Immediate = kept
      go Post Direct = kept
      go Post IndirectA = kept
      go Post IndirectB = kept
      go Post PreDecIndirectA = kept
      go Post PreDecIndirectB = kept
      go Post PostIncIndirectA = a-set (incremented size some small cell.a.0) (fits _)
      go Post PostIncIndirectB = b-set (incremented size some small cell.b.0) (fits _)
