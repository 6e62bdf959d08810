-- What the code asks of an operand and of the executed cell, and which cells an operand reads.
-- Inner. Assumes nothing.
use Rattle.std.specs.Prelude.{ℕ, ◌≤◌, ◌<◌, ◌≡◌, Bool, true, List, [], ◌∷◌, length, get_or}
use Rattle.laws.specs.Lists.{among, every}
use Rattle.cell.specs.Cells.{sound_word}
use Rattle.types.specs.Opcode.{LDP, STP}
use Rattle.machine.specs.declared.Rules.{Rules}
use Rattle.machine.specs.Pointers.{Operand}
use Rattle.machine.specs.Instruction.{fetched}

-- a core of its size, a place of it, a number
pub record Ready (rules : Rules) (core : List ℕ) (pc n : ℕ) : Type 0 where
  pub valid : rules.size ≤ 46341
  pub cells : length core ≡ rules.size
  pub place : pc < rules.size
  pub number : n < rules.size

-- the executed cell
pub record Fetched (rules : Rules) (core : List ℕ) (pc here : ℕ) : Type 0 where
  pub valid : rules.size ≤ 46341
  pub cells : length core ≡ rules.size
  pub place : pc < rules.size
  pub is : here ≡ get_or core pc 0
  pub sound : sound_word rules.size here ≡ true

-- the cells that an operand read
abbrev pub sound_seen : ℕ → Operand → Bool
sound_seen size o = every (sound_word size) o.seen

-- the executed cell reaches for private memory
abbrev pub private : List ℕ → ℕ → Bool
private core pc = among (LDP ∷ STP ∷ []) (fetched core pc).opcode
