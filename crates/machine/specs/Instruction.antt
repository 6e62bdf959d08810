-- One instruction, from the core and its site alone: both operands, then what it does (01, 'Pointers', 'One step'; 02, A.2).
-- Believed. Assumes nothing.
use Rattle.std.specs.Prelude.{ℕ, List, [], ◌∷◌, ◌++◌}
use Rattle.std.proofs.Math.Option.{Option, none, some}
use Rattle.cell.specs.declared.Cell.{Cell}
use Rattle.cell.specs.Cells.{packed, cell_at, store}
use Rattle.machine.specs.Pointers.{Site, Operand, operand}
use Rattle.machine.specs.Execution.{Effect, Scene, effect_of}

-- the instruction at PC
abbrev pub fetched : List ℕ → ℕ → Cell
fetched core pc = cell_at core pc

-- the A operand comes first
abbrev pub a_operand : Site → List ℕ → Operand
a_operand s core = operand s core (fetched core s.pc).a_mode (fetched core s.pc).a.0

-- the B operand follows, its number read again from the core
abbrev pub b_operand : Site → List ℕ → Operand
b_operand s core =
    let a = a_operand s core in
    operand s a.core (fetched core s.pc).b_mode (fetched a.core s.pc).b.0

-- copies and jumps use the read pointer, stores the write pointer; the live cell is the one at the B read pointer
abbrev pub scene_of : Site → Cell → Operand → Operand → Scene
scene_of s ir a b =
    record {
      size = s.rules.size;
      modifier = ir.modifier;
      pc = s.pc;
      jump = a.read;
      ra = a.register;
      rb = b.register;
      live = cell_at b.core b.read;
      target = cell_at b.core b.write;
    }

-- the target cell, stored; one write if any target field is stored
abbrev pub store_to : Option Cell → List ℕ → ℕ → List ℕ
store_to none core place = core
store_to (some c) core place = store core place (packed c)

abbrev pub stored_at : Option Cell → ℕ → List ℕ
stored_at none place = []
stored_at (some c) place = place ∷ []

-- the instruction executed with its two operands: its effect, the core afterwards, the words of the other cells read;
-- and the places written: by the A operand, by the B operand, by the store
pub record Instructed : Type 0 where
  pub effect : Effect
  pub core : List ℕ
  pub seen : List ℕ
  pub written : List ℕ

abbrev pub instructed : Site → Cell → Operand → Operand → Instructed
instructed s ir a b =
    let e = effect_of ir.opcode (scene_of s ir a b) in
    record {
      effect = e;
      core = store_to e.cell b.core b.write;
      seen = a.seen ++ b.seen;
      written = a.written ++ (b.written ++ stored_at e.cell b.write);
    }

-- the instruction at PC
abbrev pub instructed_at : Site → List ℕ → Instructed
instructed_at s core = instructed s (fetched core s.pc) (a_operand s core) (b_operand s core)

abbrev pub scene_at : Site → List ℕ → Scene
scene_at s core = scene_of s (fetched core s.pc) (a_operand s core) (b_operand s core)

abbrev pub effect_at : Site → List ℕ → Effect
effect_at s core = (instructed_at s core).effect

abbrev pub core_at : Site → List ℕ → List ℕ
core_at s core = (instructed_at s core).core

abbrev pub seen_at : Site → List ℕ → List ℕ
seen_at s core = (instructed_at s core).seen

abbrev pub written_at : Site → List ℕ → List ℕ
written_at s core = (instructed_at s core).written
