-- Files, and what is printed for them: 01's example, and a refusal of each kind. The theorem is in proofs/Games.antt.
-- Inner. Assumes nothing.
use Rattle.std.specs.Prelude.{ℕ, List, [], ◌∷◌, replicate}
use Rattle.cell.specs.Cells.{sound_word}
use Rattle.program.specs.Program.{lawful, lowest_fault, cells}
use Rattle.machine.specs.Queue.{pop, push, started}
use Rattle.machine.specs.Names.{register, numbered}
use Rattle.machine.specs.Soundness.{sound_header, sound_entry}
use Rattle.machine.specs.Pointers.{operand}
use Rattle.machine.specs.Execution.{effect_of}
use Rattle.machine.specs.Step.{effect, core_after, step_written, counted, executed, step}
use Rattle.machine.specs.Run.{run}
use Rattle.machine.specs.Fresh.{fresh}
use Rattle.machine.specs.Place.{placing, place}
use Rattle.machine.specs.Start.{starting, start}
use Rattle.match_format.specs.Format.{warrior, line, file}
use Rattle.match_format.specs.Faults.{line_fault, lines_fault, fault}
use Rattle.match_load.specs.Loading.{load_match}
use Rattle.battle.specs.Match.{result}
use Rattle.printing.specs.Text.{decimal, line_of}
use Rattle.battle.specs.Text.{printed}

pub record Row : Type 0 where
  pub got : List ℕ
  pub wanted : List ℕ

-- a file of M and one unnamed warrior of one instruction, .F $0,$0, of an opcode
abbrev alone : ℕ → ℕ → ℕ → List ℕ
alone size opcode place = file size (warrior [] (opcode ∷ 4 ∷ 1 ∷ 1 ∷ replicate 8 0) 0 place ∷ [])

unfoldable pub games : List Row
unfolding sound_word lawful lowest_fault cells register numbered pop push started sound_header sound_entry fresh placing place starting start operand effect_of effect core_after step_written counted executed step run line file line_fault lines_fault fault load_match result decimal line_of printed
games =
    -- M 8 and one unnamed DAT.F $0,$0: `11 1 0`, then `Warrior0 0`
    record {
      got = printed (alone 8 0 0);
      wanted = 49 ∷ 49 ∷ 32 ∷ 49 ∷ 32 ∷ 48 ∷ 10 ∷ 87 ∷ 97 ∷ 114 ∷ 114 ∷ 105 ∷ 111 ∷ 114 ∷ 48 ∷ 32 ∷ 48 ∷ 10 ∷ [];
    }
    -- an empty file: `13 0`; one byte too long: `13 32768`
    ∷ record { got = printed []; wanted = 49 ∷ 51 ∷ 32 ∷ 48 ∷ 10 ∷ [] }
    ∷ record { got = printed (replicate 32769 0); wanted = 49 ∷ 51 ∷ 32 ∷ 51 ∷ 50 ∷ 55 ∷ 54 ∷ 56 ∷ 10 ∷ [] }
    -- M 0 and M 8,001: `1`
    ∷ record { got = printed (alone 0 0 0); wanted = 49 ∷ 10 ∷ [] }
    ∷ record { got = printed (alone 8001 0 0); wanted = 49 ∷ 10 ∷ [] }
    -- a warrior longer than M: `3`
    ∷ record { got = printed (file 1 (warrior [] (replicate 24 0) 0 0 ∷ [])); wanted = 51 ∷ 10 ∷ [] }
    -- an opcode over 18: `4`; a place not below M: `5`
    ∷ record { got = printed (alone 8 19 0); wanted = 52 ∷ 10 ∷ [] }
    ∷ record { got = printed (alone 8 0 8); wanted = 53 ∷ 10 ∷ [] }
    ∷ []
