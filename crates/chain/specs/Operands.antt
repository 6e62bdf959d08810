-- What the code has of the two operands of an instruction (02, A.2), in a core that has its place.
-- Believed. Assumes nothing.
use Rattle.std.specs.Prelude.{ℕ, Bool, cond, ◌&&◌, List, [], ◌∷◌, eqb, leb, ltb, length, get_or}
use Rattle.laws.specs.Lists.{among}
use Rattle.offset.specs.declared.Absolute.{Absolute}
use Rattle.types.specs.Opcode.{CMP, SEQ, SNE}
use Rattle.machine.specs.declared.Rules.{Rules}
use Rattle.machine.specs.Pointers.{Site, Operand}
use Rattle.machine.specs.Instruction.{fetched, a_operand, b_operand}
use Rattle.chain.specs.declared.Operands.{Operands}

-- the core has M cells, PC is one of them, and no limit is 0
abbrev pub is_place : Rules → List ℕ → ℕ → Bool
is_place rules core pc = eqb (length core) rules.size && ltb pc rules.size && leb 1 rules.read && leb 1 rules.write

-- the opcodes that look at a live cell
abbrev pub compares : ℕ → Bool
compares opcode = among (CMP ∷ SEQ ∷ SNE ∷ []) opcode

abbrev pub absolute : ℕ → Absolute
absolute n = record { 0 = n }

-- where the A operand reads and the B operand meets the instruction; the registers as words: of the cells read, the one at the read pointer
abbrev pub operands_of : ℕ → Operand → Operand → Operands
operands_of opcode a b =
    record {
      jump = absolute a.read;
      ra = get_or a.seen 2 0;
      target = cond (compares opcode) (absolute b.read) (absolute b.write);
      rb = get_or b.seen 2 0;
    }

abbrev pub operands_at : Site → List ℕ → Operands
operands_at s core = operands_of (fetched core s.pc).opcode (a_operand s core) (b_operand s core)

-- of a core that has no such place
abbrev pub nothing : Operands
nothing = record { jump = absolute 0; ra = 0; target = absolute 0; rb = 0 }
