-- A departure applies: 01, 'Departures from the draft', 1 to 6, in its words, and 02, A.2, in its words for 1 and 3. They are wider than the true differences.
-- Believed. Assumes nothing. 7, one queue over all names, is outside the step comparison.
use Rattle.std.specs.Prelude.{ℕ, Bool, not, ◌&&◌, ◌||◌, [], ◌∷◌, eqb}
use Rattle.laws.specs.Lists.{among}
use Rattle.cell.specs.declared.Cell.{Cell}
use Rattle.types.specs.Opcode.{MOV, DIV, MOD, JMZ, DJN, CMP, SEQ, SNE}
use Rattle.types.specs.Modifier.{F, X, I}
use Rattle.types.specs.Mode.{PreDecIndirectB, PostIncIndirectA, PostIncIndirectB}
use Rattle.machine.specs.State.{Machine}
use Rattle.machine.specs.Pointers.{fold, located}
use Rattle.machine.specs.Execution.{Scene}
use Rattle.machine.specs.Instruction.{fetched, scene_at}
use Rattle.machine.specs.Step.{pc, site, instruction, operand_a, operand_b}

-- the machine's registers, its live cell and its target
abbrev pub scene : Machine → Scene
scene m = scene_at (site m) m.core

-- CMP, SEQ, SNE under I
abbrev pub compares_whole : Cell → Bool
compares_whole c = among (CMP ∷ SEQ ∷ SNE ∷ []) c.opcode && eqb c.modifier I

-- 1. A mode `<` or `>` with an A number whose write fold is 0
abbrev pub reads_again : Machine → Bool
reads_again m =
    let rules = m.header.rules in
    among (PreDecIndirectB ∷ PostIncIndirectB ∷ []) (instruction m).a_mode && eqb (fold rules.write rules.size (instruction m).a.0) 0

-- 2. MOV.I where modes differ: those of the A register and of the target, the cell at the B write pointer
abbrev pub keeps_modes : Machine → Bool
keeps_modes m =
    let s = scene m in
    eqb (instruction m).opcode MOV && eqb (instruction m).modifier I
    && not (eqb s.ra.a_mode s.target.a_mode && eqb s.ra.b_mode s.target.b_mode)

-- 3. CMP, SEQ, SNE under I, or DJN, when B's increment, made at B's write location, hits the live cell, the one at the B read pointer;
-- or for DJN also B pointers that differ
abbrev pub location_b : Machine → ℕ
location_b m = located (site m) m.header.rules.write (fetched (operand_a m).core (pc m)).b.0

abbrev pub hits_live : Machine → Bool
hits_live m = among (PostIncIndirectA ∷ PostIncIndirectB ∷ []) (instruction m).b_mode && eqb (location_b m) (operand_b m).read

abbrev pub pointers_differ : Machine → Bool
pointers_differ m = not (eqb (operand_b m).read (operand_b m).write)

abbrev pub unlike_register : Machine → Bool
unlike_register m =
    compares_whole (instruction m) && hits_live m
    || eqb (instruction m).opcode DJN && (hits_live m || pointers_differ m)

-- 4. DIV, MOD
abbrev pub is_division : Machine → Bool
is_division m = among (DIV ∷ MOD ∷ []) (instruction m).opcode

-- 5. JMZ under F, X, I
abbrev pub tests_both : Machine → Bool
tests_both m = eqb (instruction m).opcode JMZ && among (F ∷ X ∷ I ∷ []) (instruction m).modifier

-- 6. A CMP cell compared with a SEQ cell: cells are compared under I, the A register with the live cell
abbrev pub twins : Cell → Cell → Bool
twins c d = eqb c.opcode CMP && eqb d.opcode SEQ || eqb c.opcode SEQ && eqb d.opcode CMP

abbrev pub compares_twins : Machine → Bool
compares_twins m = compares_whole (instruction m) && twins (scene m).ra (scene m).live

-- a departure applies
abbrev pub departs : Machine → Bool
departs m = reads_again m || keeps_modes m || unlike_register m || is_division m || tests_both m || compares_twins m
