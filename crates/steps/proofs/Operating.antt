-- Laws of one operand that reads sound cells, where both limits are M: what the code gives of it is the machine's.
-- Assumes nothing.
use mathlib.Core.Path.{◌≡◌, sym, ap, ap₂, ◌∙◌}
use mathlib.Core.Bool.{true}
use mathlib.Core.List.{List}
use Prim.Native.Nat.{ℕ, ◌≤◌, ◌<◌}
use lib.ListN.{get_or, set}
use Rattle.offset.specs.declared.Absolute.{Absolute}
use Rattle.offset.specs.Offset.{ahead}
use Rattle.cell.specs.Cells.{packed, unpacked, sound_word, number, with_number}
use Rattle.machine.specs.declared.Rules.{Rules}
use Rattle.machine.specs.Pointers as machine
use Rattle.machine.specs.Pointers.{Shift, shifts, keeps, lowers, raises, less, more, site_at}
use Rattle.machine.specs.Whole.{former}
use Rattle.address.specs.Rounding.{incremented, field_through, aimed}
use Rattle.address.specs.Inner.Operands.{sound_seen, Ready}
use Rattle.address.proofs.Pointing as law
use Rattle.steps.specs.declared.operand.Operand.{Operand}
use Rattle.steps.specs.Inner.Instruction.{operand_of}

module _ (rules : Rules) (core : List ℕ) (pc mode n : ℕ) where
  abbrev its : machine.Operand
  its = former (site_at rules pc) core mode n

  abbrev size : ℕ
  size = rules.size

  -- an operand, and the core after it
  abbrev Gives : Operand → List ℕ → Type 0
  Gives r l = (r ≡ operand_of its) × (l ≡ its.core)

  gives : {pointer : Absolute} {register : ℕ} {l : List ℕ} → law.Points rules core pc mode n pointer.0 register l → Gives (record { pointer = pointer; register = register }) l
  gives p = (λ i. record { pointer = record { 0 = sym p.reads i }; register = p.copies i }, p.leaves)

  pub hash : (pc' : Absolute) → pc'.0 ≡ pc → (here : ℕ) → here ≡ get_or core pc 0 → sound_word size here ≡ true → mode ≡ 0
      → Gives (record { pointer = pc'; register = here }) core
  hash pc' ep here eh s e = gives {pointer = pc'} (rw (ep, eh) (law.hash rules core pc mode n (rw eh at s) e))

  module _ (seen : sound_seen size its ≡ true) (location : Absolute) (is : location.0 ≡ ahead size pc n) where
    there-sound : sound_word size (get_or core location.0 0) ≡ true
    there-sound = rw is (law.read-sound rules core pc mode n seen)

    pub dollar : mode ≡ 1 → Gives (record { pointer = location; register = get_or core location.0 0 }) core
    dollar e = gives {pointer = location} (law.dollar rules core pc mode n location.0 is there-sound e)

    module _ (k : Ready rules core pc n) (two : 2 ≤ mode) (eight : mode < 8) (found to : ℕ) (pointer : Absolute)
        (es : found ≡ number (field_through mode) (unpacked (get_or core location.0 0))) (et : to ≡ aimed (get_or shifts mode keeps) size found)
        (ep : pointer.0 ≡ ahead size location.0 to) where
      pointed : sound_word size (get_or core pointer.0 0) ≡ true
      pointed =
          rw (← law.points rules core pc mode n location.0 is there-sound two eight found to pointer.0 es et ep)
          (law.pointer-sound rules core pc mode n k seen)

      pub plain : mode < 4 → Gives (record { pointer = pointer; register = get_or core pointer.0 0 }) core
      plain l = gives {pointer = pointer} (law.plain rules core pc mode n location.0 is there-sound two eight found to pointer.0 es et ep pointed l)

      module _ (l : List ℕ) (word : ℕ) (el : l ≡ set core location.0 word) where
        pub lower : 4 ≤ mode → mode < 6 → word ≡ packed (with_number (field_through mode) to (unpacked (get_or core location.0 0)))
            → (register : ℕ) → register ≡ get_or (set core location.0 word) pointer.0 0
            → Gives (record { pointer = pointer; register = register }) l
        lower p q ew register er =
            gives {pointer = pointer} (law.lower rules core pc mode n location.0 is there-sound two eight found to pointer.0 es et ep pointed l word el k.valid p q ew register er)

        pub raise : 6 ≤ mode → (up : ℕ) → up ≡ incremented size found → word ≡ packed (with_number (field_through mode) up (unpacked (get_or core location.0 0)))
            → (register : ℕ) → register ≡ get_or core pointer.0 0
            → Gives (record { pointer = pointer; register = register }) l
        raise p up eu ew register er =
            gives {pointer = pointer} (law.raise rules core pc mode n location.0 is there-sound two eight found to pointer.0 es et ep pointed l word el p up eu ew register er)

-- the same mode and number by other names
pub same_operand : (rules : Rules) (core : List ℕ) (pc : ℕ) {m n m' n' : ℕ} → m ≡ m' → n ≡ n' → former (site_at rules pc) core m n ≡ former (site_at rules pc) core m' n'
same_operand rules core pc e f = ap₂ (λ (i j : ℕ). former (site_at rules pc) core i j) e f

pub still_seen : (size : ℕ) {o p : machine.Operand} → o ≡ p → sound_seen size p ≡ true → sound_seen size o ≡ true
still_seen size e h = ap (sound_seen size) e ∙ h
