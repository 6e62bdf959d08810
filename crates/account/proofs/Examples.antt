-- What the program's record and the log of 01's machine come to for five lists of calls, computed.
-- Assumes nothing.
use Rattle.std.specs.Prelude.{Some}
use Prim.Native.Nat.{ℕ}
use mathlib.Core.Path.{◌≡◌, refl}
use mathlib.Core.List.{List, [], ◌∷◌, ◌++◌}
use lib.ListN.{replicate}
use Rattle.laws.specs.Lists.{tally}
use Rattle.cell.specs.Cells.{sound_word}
use Rattle.types.specs.Defaults.{unnamed}
use Rattle.types.specs.Opcode.{DAT, JMP, SPL}
use Rattle.types.specs.Mode.{Direct, PreDecIndirectB}
use Rattle.program.specs.Program.{lawful, lowest_fault, cells}
use Rattle.metadata.specs.Metadata.{called}
use Rattle.machine.specs.State.{of_size, Machine}
use Rattle.machine.specs.Names.{count_of, register, numbered}
use Rattle.machine.specs.Queue.{entries, entries_of, pop, push, started}
use Rattle.machine.specs.Soundness.{sound_header, sound_entry}
use Rattle.machine.specs.Fresh.{fresh}
use Rattle.machine.specs.Place.{placing, place}
use Rattle.machine.specs.Start.{starting, start}
use Rattle.machine.specs.Pointers.{operand}
use Rattle.machine.specs.Execution.{effect_of}
use Rattle.machine.specs.Step.{effect, core_after, step_written, counted, executed, step}
use Rattle.machine.specs.Run.{run}
use Rattle.machine.specs.Battles.{bytes, datum}
use Rattle.match_format.specs.Format.{warrior, line, file}
use Rattle.match_format.specs.Faults.{line_fault, lines_fault, fault}
use Rattle.match_load.specs.Loading.{load_match}
use Rattle.account.specs.Calls as Calls
use Rattle.account.specs.Calls.{Call, Place, Start, Step, Run, outcome, left, reported, logged}
use Rattle.account.specs.Lists.{Listed, One, LoadMatch, outcome_of, spread, logged_of}
use Rattle.account.specs.Account.{ending_of}

-- M 8, P 4
abbrev eight : Machine
eight = (fresh (of_size 8 4) (replicate 8 7) (replicate 64 9)).machine

-- every unnamed warrior is called Warrior0
abbrev Warrior0 : List ℕ
Warrior0 = called []

-- two unnamed warriors: the first ends on a DAT, the second jumps to itself and runs on
abbrev unnamed_pair : List Call
unnamed_pair = Place [] (datum 0 0) 0 ∷ Start [] 0 ∷ Place [] (bytes JMP unnamed Direct 0 Direct 0) 4 ∷ Start [] 4 ∷ Step ∷ Step ∷ []

pub unnamed-pair : (count_of (left outcome unnamed_pair eight).header Warrior0 ≡ 1)
    × (entries_of (left outcome unnamed_pair eight) Warrior0 ≡ 1)
    × (logged unnamed_pair eight []
    ≡ Calls.executed Warrior0 1 0 ∷ Calls.executed Warrior0 0 0
    ∷ Calls.started Warrior0 0 ∷ Calls.placed Warrior0 1 1 ∷ Calls.started Warrior0 0 ∷ Calls.placed Warrior0 1 1 ∷ [])
    × (tally (ending_of Warrior0) (logged unnamed_pair eight []) ≡ 1)
unfolding sound_word lawful lowest_fault cells register numbered entries pop push started sound_header sound_entry fresh placing place starting start operand effect_of effect core_after step_written counted executed step
unnamed-pair = (refl, refl, refl, refl)

-- SPL $2, DAT, DAT <1,$0: a refused place and a refused start, a step, a run to the last ending and a step on an empty queue
abbrev splitting : List Call
splitting =
    Place [] (bytes SPL unnamed Direct 2 Direct 0 ++ datum 0 0 ++ bytes DAT unnamed PreDecIndirectB 1 Direct 0) 0
    ∷ Start [] 0
    ∷ Place [] [] 8
    ∷ Start [] 8
    ∷ Step
    ∷ Run (Some 9)
    ∷ Step
    ∷ []

splitting-log : logged splitting eight []
    ≡ Calls.executed Warrior0 0 1 ∷ Calls.executed Warrior0 0 0 ∷ Calls.executed Warrior0 2 0 ∷ Calls.started Warrior0 0 ∷ Calls.placed Warrior0 3 3 ∷ []
unfolding sound_word lawful lowest_fault cells register numbered entries pop push started sound_header sound_entry fresh placing place starting start operand effect_of effect core_after step_written counted executed step run
splitting-log = refl

-- a match of two warriors, the second with no such opcode: the first stands, and ends on its DAT
abbrev stopped : List Listed
stopped = LoadMatch (file 8 (warrior (65 ∷ []) (datum 0 0) 0 0 ∷ warrior (66 ∷ []) (bytes 19 unnamed Direct 0 Direct 0) 0 4 ∷ [])) ∷ One Step ∷ []

stopped-match : (spread stopped eight ≡ Place (65 ∷ []) (datum 0 0) 0 ∷ Start (65 ∷ []) 0 ∷ Place (66 ∷ []) (bytes 19 unnamed Direct 0 Direct 0) 4 ∷ Step ∷ [])
    × (logged_of stopped eight [] ≡ Calls.executed (65 ∷ []) 0 0 ∷ Calls.started (65 ∷ []) 0 ∷ Calls.placed (65 ∷ []) 1 1 ∷ [])
unfolding sound_word lawful lowest_fault cells register numbered pop push started sound_header sound_entry fresh placing place starting start operand effect_of effect core_after step_written counted executed step line file line_fault lines_fault fault load_match
stopped-match = (refl, refl)

-- with P 1, two warriors of one name: the second start is refused, and its body counts
abbrev one : Machine
one = (fresh (of_size 8 1) (replicate 8 7) (replicate 16 9)).machine

abbrev twice : List Listed
twice = LoadMatch (file 8 (warrior (65 ∷ []) (datum 0 0) 0 0 ∷ warrior (65 ∷ []) (datum 1 1) 3 7 ∷ [])) ∷ []

twice-match : (spread twice one ≡ Place (65 ∷ []) (datum 0 0) 0 ∷ Start (65 ∷ []) 0 ∷ Place (65 ∷ []) (datum 1 1) 7 ∷ Start (65 ∷ []) 2 ∷ [])
    × (logged_of twice one [] ≡ Calls.placed (65 ∷ []) 1 1 ∷ Calls.started (65 ∷ []) 0 ∷ Calls.placed (65 ∷ []) 1 1 ∷ [])
    × (reported outcome_of twice one ≡ 2)
unfolding lawful lowest_fault cells register numbered push started sound_header fresh placing place starting start line file line_fault lines_fault fault load_match
twice-match = (refl, refl, refl)

-- A is placed under, and B is started in its body: B runs it, and A has run nothing
abbrev borrowed : List Call
borrowed = Place (65 ∷ []) (bytes JMP unnamed Direct 0 Direct 0) 0 ∷ Start (66 ∷ []) 0 ∷ Step ∷ []

borrowed-log : (logged borrowed eight [] ≡ Calls.executed (66 ∷ []) 1 0 ∷ Calls.started (66 ∷ []) 0 ∷ Calls.placed (65 ∷ []) 1 1 ∷ [])
    × (entries_of (left outcome borrowed eight) (65 ∷ []) ≡ 0)
unfolding sound_word lawful lowest_fault cells register numbered entries pop push started sound_header sound_entry fresh placing place starting start operand effect_of effect core_after step_written counted executed step
borrowed-log = (refl, refl)
