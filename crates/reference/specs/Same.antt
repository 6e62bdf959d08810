-- What of our machine is the same as what of the Rust's: cells, queue in order, count and next thread number of every name, steps taken.
-- And what the Rust is given for a load.
-- Believed. Assumes nothing.
use Rattle.std.specs.Prelude.{ℕ, ◌≡◌, cond, List, [], ◌∷◌, map, eqb, pos, get_or}
use Rattle.std.proofs.Math.Option.{Option, none, some}
use Rattle.cell.specs.declared.Cell.{Cell}
use Rattle.cell.specs.Cells.{unpacked}
use Rattle.types.specs.Defaults.{unnamed}
use Rattle.encoding.specs.Bytes.{part, value, signed}
use Rattle.program.specs.Program as Program
use Rattle.program.specs.Program.{instructions, split}
use Rattle.machine.specs.declared.Header.{Header}
use Rattle.machine.specs.State.{Machine}
use Rattle.machine.specs.Names.{names}
use Rattle.machine.specs.Queue.{unpacked_entry, entries}
use Rattle.reference.specs.Types.{Opcode, Add, Cmp, Dat, Div, Djn, Jmn, Jmp, Jmz, Ldp, Mod, Mov, Mul, Nop, Seq, Slt, Sne, Spl, Stp, Sub, Modifier, A, B, AB, BA, F, X, I, AddressMode, Immediate, Direct, IndirectA, IndirectB, PreDecIndirectA, PreDecIndirectB, PostIncIndirectA, PostIncIndirectB, Instruction, Warrior, default_88_to_94}
use Rattle.reference.specs.Process.{Entry, Pair}
use Rattle.reference.specs.Core.{Core}

-- 01's codes
abbrev pub opcodes : List Opcode
opcodes = Dat ∷ Mov ∷ Add ∷ Sub ∷ Mul ∷ Div ∷ Mod ∷ Jmp ∷ Jmz ∷ Jmn ∷ Djn ∷ Cmp ∷ Seq ∷ Sne ∷ Slt ∷ Spl ∷ Nop ∷ Ldp ∷ Stp ∷ []

abbrev pub modifiers : List Modifier
modifiers = A ∷ B ∷ AB ∷ BA ∷ F ∷ X ∷ I ∷ []

abbrev pub modes : List AddressMode
modes = Immediate ∷ Direct ∷ IndirectA ∷ IndirectB ∷ PreDecIndirectA ∷ PreDecIndirectB ∷ PostIncIndirectA ∷ PostIncIndirectB ∷ []

abbrev pub opcode_of : ℕ → Opcode
opcode_of n = get_or opcodes n Dat

abbrev pub modifier_of : ℕ → Modifier
modifier_of n = get_or modifiers n F

abbrev pub mode_of : ℕ → AddressMode
mode_of n = get_or modes n Direct

-- a cell, a word of the core, an entry of the queue
abbrev pub instruction_of : Cell → Instruction
instruction_of c =
    record {
      opcode = opcode_of c.opcode;
      modifier = modifier_of c.modifier;
      a_field = record { address_mode = mode_of c.a_mode; value = pos c.a.0 };
      b_field = record { address_mode = mode_of c.b_mode; value = pos c.b.0 };
    }

abbrev pub word_of : ℕ → Instruction
word_of w = instruction_of (unpacked w)

abbrev pub entry_of : Header → ℕ → Entry
entry_of h w =
    record { name = get_or (names h.names) (unpacked_entry w).name []; thread = (unpacked_entry w).thread; offset = (unpacked_entry w).place.0 }

-- a number for each name
abbrev pub pairs : List (List ℕ) → List ℕ → List Pair
pairs [] vs = []
pairs (n ∷ ns) [] = []
pairs (n ∷ ns) (v ∷ vs) = record { key = n; value = v } ∷ pairs ns vs

pub record Same (m : Machine) (c : Core) : Type 0 where
  pub instructions : c.instructions ≡ map word_of m.core
  pub queue : c.process_queue.queue ≡ map (entry_of m.header) (entries m)
  pub processes : c.process_queue.processes ≡ pairs (names m.header.names) m.header.counts
  pub next_thread_id : c.process_queue.next_thread_id ≡ pairs (names m.header.names) m.header.threads
  pub steps_taken : c.steps_taken ≡ m.header.steps

-- an instruction of a body: its codes by their names, its modifier or the Rust's default (F where there is none: 01 answers 4), its numbers as they are
abbrev pub or_f : Option Modifier → Modifier
or_f none = F
or_f (some x) = x

abbrev pub read_modifier : Opcode → AddressMode → AddressMode → ℕ → Modifier
read_modifier o a b n = cond (eqb n unnamed) (or_f (default_88_to_94 o a b)) (modifier_of n)

abbrev pub read_instruction : List ℕ → Instruction
read_instruction x =
    let o = opcode_of (Program.opcode_of x) in
    let a = mode_of (Program.a_mode_of x) in
    let b = mode_of (Program.b_mode_of x) in
    record {
      opcode = o;
      modifier = read_modifier o a b (get_or x 1 0);
      a_field = record { address_mode = a; value = signed (value (part x 4 4)) };
      b_field = record { address_mode = b; value = signed (value (part x 8 4)) };
    }

-- an empty name is given to the Rust as no name
abbrev pub read_name : List ℕ → Option (List ℕ)
read_name [] = none
read_name (b ∷ bs) = some (b ∷ bs)

-- origin 65,535 is none
abbrev pub read_origin : ℕ → Option ℕ
read_origin o = cond (eqb o 65535) none (some o)

abbrev pub warrior_of : List ℕ → List ℕ → ℕ → Warrior
warrior_of name body origin =
    record { instructions = map read_instruction (split (instructions body) body); origin = read_origin origin; name = read_name name }
