-- What an operand and an instruction give as the code has them, and what an instruction asks.
-- Inner. Assumes nothing.
use Rattle.std.specs.Prelude.{ℕ, ◌≤◌, ◌≡◌, true, List}
use Rattle.laws.specs.Lists.{every}
use Rattle.cell.specs.Cells.{packed, unpacked, sound_word}
use Rattle.machine.specs.declared.Rules.{Rules}
use Rattle.machine.specs.Soundness.{valid_limits}
use Rattle.machine.specs.Pointers as machine
use Rattle.machine.specs.Execution.{dat, divisor, Next, ends, goes, splits}
use Rattle.machine.specs.Instruction.{seen_at}
use Rattle.address.specs.Inner.Operands.{Fetched}
use Rattle.chain.specs.Operands.{absolute}
use Rattle.steps.specs.declared.operand.Operand.{Operand}
use Rattle.steps.specs.declared.opcode.Executed.{Executed}
use Rattle.steps.specs.declared.opcode.Executed.TheVariants.{Goes, Splits, Dat, DivideByZero}

-- the pointer and register where both limits are M
abbrev pub operand_of : machine.Operand → Operand
operand_of o = record { pointer = absolute o.read; register = packed o.register }

-- the instruction at PC is not refused: its cell is sound and not LDP or STP, the other cells that it reads are sound, and so are the limits
pub record Executable (rules : Rules) (core : List ℕ) (pc here : ℕ) : Type 0 where
  pub cell : Fetched rules core pc here
  pub few : (unpacked here).opcode ≤ 16
  pub read : every (sound_word rules.size) (seen_at (machine.site_at rules pc) core) ≡ true
  pub limits : valid_limits rules ≡ true

-- where the process goes on, or how it ends; the writes
abbrev pub answered : Next → ℕ → Executed
answered (ends dat) writes = Dat writes
answered (ends divisor) writes = DivideByZero writes
answered (goes p) writes = Goes (absolute p) writes
answered (splits p c) writes = Splits (absolute p) (absolute c) writes
