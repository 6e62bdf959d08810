-- Execution: our effects, by opcode number and field pairs, are what the Rust's closures do, by opcode and modifier.
-- Assumes nothing.
use Prim.Native.Nat.{ℕ, ◌-◌, ◌<◌}
use mathlib.Core.Path.{◌≡◌, refl, sym, ◌∙◌}
use mathlib.Core.List.{List, map}
use mathlib.Core.Option.{Option, none, some}
use native.Mathlib.Omega.{arith}
use lib.ListN.{set}
use Rattle.laws.proofs.Numbers.{below}
use Rattle.laws.proofs.Every.{◌and◌}
use Rattle.cell.specs.declared.Cell.{Cell}
use Rattle.offset.specs.Offset.{ahead}
use Rattle.cell.proofs.Soundness.{in-range}
use Rattle.machine.specs.Execution.{dat, ends, goes, splits, Effect, quotient, remainder, effect_of}
use Rattle.machine.specs.Instruction.{store_to}
use Rattle.machine.proofs.Execution.{SoundStore, effect-sound}
use Rattle.reference.specs.Offset.{add, sub, div, rem}
use Rattle.reference.specs.Opcodes as Opcodes
use Rattle.reference.specs.Opcodes.{by_opcode}
use Rattle.reference.specs.Same.{opcode_of, instruction_of, word_of}
use Rattle.reference.proofs.Offsets.{add_is, sub_is}
use Rattle.reference.proofs.Cells.{set_word}
use Rattle.reference.proofs.Registers.{Matches, cell_of, Registers, live, executor, scene, Does, kept, live_in, onward, jump_offset, jumps, idle, positive}
use Rattle.reference.proofs.Arithmetic.{sums, moves-done, multiplied, parts, quotient_is, remainder_is}
use Rattle.reference.proofs.Branches.{zeroes, nonzeroes, counts, equals, differs, lesser}

pub record Done (size pc target : ℕ) (words : List ℕ) (x : Opcodes.Execution) (f : Effect) : Type 0 where
  pub core : x.core ≡ map word_of (store_to f.cell words target)
  pub next : Matches size pc f.next x.result

module _ (its : Registers) where
  -- the seventeen opcodes: DAT MOV ADD SUB MUL DIV MOD JMP JMZ JMN DJN CMP SEQ SNE SLT SPL NOP
  rows : (o : ℕ) → o < 17 → Does its (by_opcode (opcode_of o) its.size its.pc (executor its)) (effect_of o (scene its))
  unfolding effect_of
  rows =
      below _ 17
      (idle its _ (ends dat) refl
      and moves-done its
      and sums its (add its.size) (λ m a b. ahead m a b) (λ a b ha hb. add_is its.size (positive its) its.small a b ha hb)
      and sums its (λ a b. sub its.size b a) (λ m a b. ahead m b (m - a)) (λ a b ha hb. sub_is its.size (positive its) its.small b a hb (omega arith))
      and multiplied its
      and parts its (div its.size) quotient (quotient_is its)
      and parts its (rem its.size) remainder (remainder_is its)
      and idle its _ (goes its.jump) (some (jump_offset its), refl, jumps its)
      and zeroes its
      and nonzeroes its
      and counts its
      and equals its
      and equals its
      and differs its
      and lesser its
      and idle its _ (splits (ahead its.size its.pc 1) its.jump) (some (jump_offset its), refl, onward its, jumps its)
      and idle its _ (goes (ahead its.size its.pc 1)) (none, refl, onward its)
      and tt)

  -- what is stored is a cell of this core
  stored_is : (o : Option Cell) → SoundStore its.size o → set (map word_of its.core) its.target (instruction_of (cell_of o (live its))) ≡ map word_of (store_to o its.core its.target)
  stored_is none s = kept its
  stored_is (some c) s = sym (set_word its.core its.target c (in-range c (omega arith) s))

  pub executes : (o : ℕ) → o < 17 → Done its.size its.pc its.target its.core (by_opcode (opcode_of o) its.size its.pc (executor its)) (effect_of o (scene its))
  executes o l =
      let d = rows o l in
      record { core = d.core ∙ stored_is (effect_of o (scene its)).cell (effect-sound (scene its) its.jump_in its.ra-in its.rb-in (live_in its) o).cell; next = d.next }
