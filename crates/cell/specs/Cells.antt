-- The 64-bit word of a core cell, and the record of its fields (01, 'Cells').
-- Believed. Assumes nothing.
use Rattle.std.specs.Prelude.{ℕ, ◌+◌, ◌*◌, ◌/◌, ◌%◌, ◌^◌, Bool, ◌&&◌, List, eqb, leb, ltb, get_or, set}
use Rattle.cell.specs.declared.Cell.{Cell}
use Rattle.offset.specs.declared.Relative.{Relative}
use Rattle.types.specs.declared.field.Field.{Field}
use Rattle.types.specs.declared.field.Field.TheVariants.{A, B}
use Rattle.types.specs.Opcode.{DAT, STP}
use Rattle.types.specs.Modifier.{F, I}
use Rattle.types.specs.Mode.{Direct}

abbrev pub relative : ℕ → Relative
relative n = record { 0 = n }

-- B number in bits 0–15, A number 16–31, B mode 32–34, A mode 35–37, modifier 38–40, opcode 41–45, else zero
abbrev pub packed : Cell → ℕ
packed c =
    c.opcode % 2 ^ 5 * 2 ^ 41 + c.modifier % 2 ^ 3 * 2 ^ 38 + c.a_mode % 2 ^ 3 * 2 ^ 35 + c.b_mode % 2 ^ 3 * 2 ^ 32
    + c.a.0 % 2 ^ 16 * 2 ^ 16 + c.b.0 % 2 ^ 16

abbrev pub unpacked : ℕ → Cell
unpacked w =
    record {
      opcode = w / 2 ^ 41 % 2 ^ 5;
      modifier = w / 2 ^ 38 % 2 ^ 3;
      a_mode = w / 2 ^ 35 % 2 ^ 3;
      b_mode = w / 2 ^ 32 % 2 ^ 3;
      a = relative (w / 2 ^ 16 % 2 ^ 16);
      b = relative (w % 2 ^ 16);
    }

-- numbers below M, codes legal: every mode of three bits is
abbrev pub legal : ℕ → Cell → Bool
legal size c = leb c.opcode STP && leb c.modifier I && ltb c.a.0 size && ltb c.b.0 size

-- a sound cell: other bits zero, too
unfoldable pub sound_word : ℕ → ℕ → Bool
sound_word size w = legal size (unpacked w) && eqb (w / 2 ^ 46) 0

abbrev pub number : Field → Cell → ℕ
number A c = c.a.0
number B c = c.b.0

abbrev pub with_number : Field → ℕ → Cell → Cell
with_number A x c =
    record { opcode = c.opcode; modifier = c.modifier; a_mode = c.a_mode; b_mode = c.b_mode; a = relative x; b = c.b }
with_number B x c =
    record { opcode = c.opcode; modifier = c.modifier; a_mode = c.a_mode; b_mode = c.b_mode; a = c.a; b = relative x }

-- DAT.F $0,$0
abbrev pub fresh_cell : ℕ
fresh_cell = packed (record { opcode = DAT; modifier = F; a_mode = Direct; b_mode = Direct; a = relative 0; b = relative 0 })

-- the cell at a place of the core
abbrev pub cell_at : List ℕ → ℕ → Cell
cell_at core place = unpacked (get_or core place 0)

-- the core with that word at a place
abbrev pub store : List ℕ → ℕ → ℕ → List ℕ
store core place w = set core place w
