-- types.rs, load_file.rs, program.rs, metadata.rs: codes, fields, instructions, the default modifier, what of a warrior is loaded.
-- Believed. Assumes nothing. A Value is its literal: what has a label is not loaded.
use Rattle.std.specs.Prelude.{ℕ, Bool, false, cond, ◌&&◌, List, eqb, ℤ, pos, negsuc}
use Rattle.std.proofs.Math.Option.{Option, none, some}

-- types.rs
pub data Opcode : Type 0 where
  Add Cmp Dat Div Djn Jmn Jmp Jmz Ldp Mod Mov Mul Nop Seq Slt Sne Spl Stp Sub : Opcode

pub data Modifier : Type 0 where
  A B AB BA F X I : Modifier

pub data AddressMode : Type 0 where
  Immediate Direct IndirectA IndirectB PreDecIndirectA PreDecIndirectB PostIncIndirectA PostIncIndirectB : AddressMode

-- load_file.rs
pub record Field : Type 0 where
  pub address_mode : AddressMode
  pub value : ℤ

pub record Instruction : Type 0 where
  pub opcode : Opcode
  pub modifier : Modifier
  pub a_field : Field
  pub b_field : Field

-- the default of an Instruction, by the defaults of its parts
abbrev pub default : Instruction
default =
    record {
      opcode = Dat;
      modifier = F;
      a_field = record { address_mode = Direct; value = pos 0 };
      b_field = record { address_mode = Direct; value = pos 0 };
    }

-- equality as derived: of codes by their place in the enum, of records field by field
abbrev pub opcode_number : Opcode → ℕ
opcode_number Add = 0
opcode_number Cmp = 1
opcode_number Dat = 2
opcode_number Div = 3
opcode_number Djn = 4
opcode_number Jmn = 5
opcode_number Jmp = 6
opcode_number Jmz = 7
opcode_number Ldp = 8
opcode_number Mod = 9
opcode_number Mov = 10
opcode_number Mul = 11
opcode_number Nop = 12
opcode_number Seq = 13
opcode_number Slt = 14
opcode_number Sne = 15
opcode_number Spl = 16
opcode_number Stp = 17
opcode_number Sub = 18

abbrev pub modifier_number : Modifier → ℕ
modifier_number A = 0
modifier_number B = 1
modifier_number AB = 2
modifier_number BA = 3
modifier_number F = 4
modifier_number X = 5
modifier_number I = 6

abbrev pub mode_number : AddressMode → ℕ
mode_number Immediate = 0
mode_number Direct = 1
mode_number IndirectA = 2
mode_number IndirectB = 3
mode_number PreDecIndirectA = 4
mode_number PreDecIndirectB = 5
mode_number PostIncIndirectA = 6
mode_number PostIncIndirectB = 7

abbrev pub value_eq : ℤ → ℤ → Bool
value_eq (pos x) (pos y) = eqb x y
value_eq (pos x) (negsuc y) = false
value_eq (negsuc x) (pos y) = false
value_eq (negsuc x) (negsuc y) = eqb x y

abbrev pub field_eq : Field → Field → Bool
field_eq x y = eqb (mode_number x.address_mode) (mode_number y.address_mode) && value_eq x.value y.value

abbrev pub instruction_eq : Instruction → Instruction → Bool
instruction_eq x y =
    eqb (opcode_number x.opcode) (opcode_number y.opcode) && eqb (modifier_number x.modifier) (modifier_number y.modifier)
    && field_eq x.a_field y.a_field && field_eq x.b_field y.b_field

-- types.rs, default_88_to_94: nothing where it panics as unreachable
abbrev pub by_opcode : Opcode → Option Modifier
by_opcode Mov = some I
by_opcode Cmp = some I
by_opcode Seq = some I
by_opcode Sne = some I
by_opcode Slt = some B
by_opcode Add = some F
by_opcode Sub = some F
by_opcode Mul = some F
by_opcode Div = some F
by_opcode Mod = some F
by_opcode Dat = none
by_opcode Jmp = none
by_opcode Jmz = none
by_opcode Jmn = none
by_opcode Djn = none
by_opcode Spl = none
by_opcode Nop = none
by_opcode Ldp = none
by_opcode Stp = none

abbrev pub by_modes : Opcode → AddressMode → AddressMode → Option Modifier
by_modes o a b =
    cond (eqb (mode_number a) (mode_number Immediate)) (some AB) (cond (eqb (mode_number b) (mode_number Immediate)) (some B) (by_opcode o))

abbrev pub default_88_to_94 : Opcode → AddressMode → AddressMode → Option Modifier
default_88_to_94 Dat a b = some F
default_88_to_94 Jmp a b = some B
default_88_to_94 Jmz a b = some B
default_88_to_94 Jmn a b = some B
default_88_to_94 Djn a b = some B
default_88_to_94 Spl a b = some B
default_88_to_94 Nop a b = some B
default_88_to_94 Add a b = by_modes Add a b
default_88_to_94 Cmp a b = by_modes Cmp a b
default_88_to_94 Div a b = by_modes Div a b
default_88_to_94 Ldp a b = by_modes Ldp a b
default_88_to_94 Mod a b = by_modes Mod a b
default_88_to_94 Mov a b = by_modes Mov a b
default_88_to_94 Mul a b = by_modes Mul a b
default_88_to_94 Seq a b = by_modes Seq a b
default_88_to_94 Slt a b = by_modes Slt a b
default_88_to_94 Sne a b = by_modes Sne a b
default_88_to_94 Stp a b = by_modes Stp a b
default_88_to_94 Sub a b = by_modes Sub a b

-- load_file.rs, set_value of a field, by an offset
abbrev pub set_value : Field → ℕ → Field
set_value f v = record { address_mode = f.address_mode; value = pos v }

abbrev pub set_a : Instruction → ℕ → Instruction
set_a i v = record { opcode = i.opcode; modifier = i.modifier; a_field = set_value i.a_field v; b_field = i.b_field }

abbrev pub set_b : Instruction → ℕ → Instruction
set_b i v = record { opcode = i.opcode; modifier = i.modifier; a_field = i.a_field; b_field = set_value i.b_field v }

-- load_file.rs, program.rs, metadata.rs: what of a warrior is loaded
pub record Warrior : Type 0 where
  pub instructions : List Instruction
  pub origin : Option ℕ
  pub name : Option (List ℕ)
