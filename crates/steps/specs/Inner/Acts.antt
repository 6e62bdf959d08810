-- The machine's scene and effects as the code has them: registers as words, the field pairs as two, the first and the last, one cell for the live one and the target.
-- Inner. Assumes nothing.
use Rattle.std.specs.Prelude.{ℕ, ◌+◌, ◌<◌, ◌≡◌, [], ◌∷◌, get_or}
use Rattle.std.proofs.Math.Option.{Option, none, some}
use Rattle.cell.specs.declared.Cell.{Cell}
use Rattle.types.specs.declared.field.Field.{Field}
use Rattle.types.specs.declared.field.Field.TheVariants.{A}
use Rattle.types.specs.Types.{field_pairs}
use Rattle.cell.specs.Cells.{packed, unpacked, number, relative}
use Rattle.machine.specs.Execution as machine
use Rattle.steps.specs.declared.opcode.Executed.{Executed}
use Rattle.steps.specs.declared.modifier.Met.{Met}
use Rattle.steps.specs.declared.scene.Scene.{Scene}
use Rattle.steps.specs.Inner.Instruction.{answered}

-- a cell's opcode, modifier and numbers, with the modes of another
abbrev pub copy_of : Cell → Cell → Cell
copy_of to from =
    record { opcode = from.opcode; modifier = from.modifier; a_mode = to.a_mode; b_mode = to.b_mode; a = from.a; b = from.b }

-- the numbers in these fields of both registers
abbrev pub met_by : Field → Field → ℕ → ℕ → Met
met_by a b ra rb = record { a = relative (number a (unpacked ra)); b = relative (number b (unpacked rb)); target = b }

-- the first and the last pair that meet
unfoldable pub first_of : ℕ → ℕ → ℕ → Met
first_of modifier ra rb = let row = get_or field_pairs modifier [] in met_by (get_or row 0 A) (get_or row 1 A) ra rb

unfoldable pub last_of : ℕ → ℕ → ℕ → Met
last_of modifier ra rb = let row = get_or field_pairs modifier [] in met_by (get_or row 2 A) (get_or row 3 A) ra rb

-- as the machine has it
abbrev pub plain : Met → machine.Met
plain p = record { a = p.a.0; b = p.b.0; target = p.target }

-- numbers below the size
pub record Below (size : ℕ) (p : Met) : Type 0 where
  pub a : p.a.0 < size
  pub b : p.b.0 < size

-- what the machine computes, by opcode number: MOV ADD SUB MUL DIV MOD
abbrev pub value_by : ℕ → ℕ → ℕ → ℕ → Option ℕ
value_by opcode =
    get_or
    (machine.moved ∷ machine.moved ∷ machine.sum ∷ machine.difference ∷ machine.product ∷ machine.quotient ∷ machine.remainder ∷ [])
    opcode machine.moved

abbrev pub scene_of : Scene → ℕ → machine.Scene
scene_of s live =
    record {
      size = s.size;
      modifier = s.modifier;
      pc = s.pc.0;
      jump = s.jump.0;
      ra = unpacked s.ra;
      rb = unpacked s.rb;
      live = unpacked live;
      target = unpacked live;
    }

-- one write if any target field is stored
abbrev pub store_writes : Option Cell → ℕ
store_writes none = 0
store_writes (some c) = 1

-- the target's word afterwards
abbrev pub over : Option Cell → ℕ → ℕ
over none live = live
over (some c) live = packed c

-- the answer of a scene's effect
abbrev pub Answers : ℕ → Scene → ℕ → Executed → Type 0
Answers opcode s live r =
    let e = machine.effect_of opcode (scene_of s live) in
    r ≡ answered e.next (s.writes + store_writes e.cell)

-- and the target's word
abbrev pub Does : ℕ → Scene → ℕ → Executed → ℕ → Type 0
Does opcode s live r after = Answers opcode s live r × (after ≡ over (machine.effect_of opcode (scene_of s live)).cell live)
