-- Laws of the executed cell: its numbers are such as an operand asks, and which of its opcodes reach for private memory.
-- Assumes nothing.
use mathlib.Core.Path.{◌≡◌}
use mathlib.Core.Bool.{true, false}
use mathlib.Core.List.{List}
use Prim.Native.Nat.{ℕ, ◌≤◌, ◌<◌}
use native.Mathlib.Omega.{arith}
use lib.ListN.{get_or}
use borrow.Author.Tests.{le-leb, ne_eqb}
use Rattle.laws.proofs.Cases.{span}
use Rattle.cell.specs.Cells.{unpacked, sound_word}
use Rattle.cell.proofs.Soundness.{sound-fields}
use Rattle.types.specs.declared.field.Field.TheVariants.{A, B}
use Rattle.word.proofs.Cells.{number-below}
use Rattle.machine.specs.declared.Rules.{Rules}
use Rattle.machine.specs.Soundness.{valid_size}
use Rattle.machine.specs.Instruction.{fetched}
use Rattle.address.specs.Inner.Operands.{Ready, Fetched, private}

-- the A and the B number of the executed cell
pub ready-a : {rules : Rules} {core : List ℕ} {pc here n : ℕ} → Fetched rules core pc here → n ≡ (unpacked here).a.0 → Ready rules core pc n
ready-a {rules} {here = here} f e = record { valid = f.valid; cells = f.cells; place = f.place; number = rw e (number-below A rules.size here f.sound) }

pub ready-b : {rules : Rules} {core : List ℕ} {pc here n : ℕ} → Fetched rules core pc here → n ≡ (unpacked here).b.0 → Ready rules core pc n
ready-b {rules} {here = here} f e = record { valid = f.valid; cells = f.cells; place = f.place; number = rw e (number-below B rules.size here f.sound) }

-- a core with an executed cell has a valid size
pub valid-size : {rules : Rules} {core : List ℕ} {pc here : ℕ} → Fetched rules core pc here → valid_size rules.size ≡ true
valid-size {rules} f = let h = f.place in rw (le-leb 1 rules.size (omega arith), le-leb rules.size 46341 f.valid)

-- a sound cell is LDP or STP where its opcode is over 16
pub over-private : (size : ℕ) (core : List ℕ) (pc : ℕ) → sound_word size (get_or core pc 0) ≡ true → 16 < (fetched core pc).opcode → private core pc ≡ true
over-private size core pc s h =
    span (fetched core pc).opcode 17 2 h (let t = (sound-fields size (get_or core pc 0) s).1.opcode in omega arith) (λ g. rw g, (λ g. rw g, tt))

-- and neither where it is at most 16
pub few-public : (core : List ℕ) (pc : ℕ) → (fetched core pc).opcode ≤ 16 → private core pc ≡ false
few-public core pc h =
    simp (ne_eqb (fetched core pc).opcode 17 (λ q. omega arith), ne_eqb (fetched core pc).opcode 18 (λ q. omega arith))
