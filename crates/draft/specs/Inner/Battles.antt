-- For each departure 1 to 6 battles in which the machine and the draft differ, for 1 and 3 also with limits, and two to which none applies: one table.
-- Inner. Assumes nothing. M 8, PC 0, P 2 or 1, untold limits are M, untold cells are fresh; the theorem is in proofs/Battles.antt.
use Rattle.std.specs.Prelude.{ℕ, suc, Bool, true, false, cond, not, ◌&&◌, List, [], ◌∷◌, ◌++◌, map, take}
use Rattle.laws.specs.Lists.{same}
use Rattle.cell.specs.Cells.{packed, fresh_cell, sound_word}
use Rattle.types.specs.Opcode.{MOV, DIV, MOD, JMZ, DJN, CMP, SEQ, SPL}
use Rattle.types.specs.Modifier as modifier
use Rattle.types.specs.Mode as mode
use Rattle.program.specs.Program.{lawful, lowest_fault, cells}
use Rattle.machine.specs.declared.Rules.{Rules}
use Rattle.machine.specs.State.{of_size}
use Rattle.machine.specs.Names.{register, numbered}
use Rattle.machine.specs.Queue.{entries, pop, push, started}
use Rattle.machine.specs.Soundness.{sound_header, sound_entry}
use Rattle.machine.specs.Fresh.{fresh}
use Rattle.machine.specs.Place.{placing, place}
use Rattle.machine.specs.Start.{starting, start}
use Rattle.machine.specs.Pointers.{operand}
use Rattle.machine.specs.Execution.{effect_of}
use Rattle.machine.specs.Step.{effect, core_after, step_written, counted, executed, step}
use Rattle.machine.specs.Battles.{bytes, word, datum, cell}
use Rattle.machine.specs.Inner.Limits.{limited, board_at}
use Rattle.draft.specs.Draft
use Rattle.draft.specs.Comparison.{drafted, places}
use Rattle.draft.specs.Departures.{reads_again, keeps_modes, unlike_register, is_division, tests_both, compares_twins}

-- the departures that apply; the first three cells afterwards and the next places, of the machine and of the draft
pub record Seen : Type 0 where
  pub departures : List ℕ
  pub core : List ℕ
  pub next : List ℕ
  pub draft_core : List ℕ
  pub draft_next : List ℕ

-- rules, a warrior, and what is told of its first step
pub record Battle : Type 0 where
  pub rules : Rules
  pub warrior : List ℕ
  pub told : Seen

-- the numbers, from i on, of those that are true
abbrev numbers_from : ℕ → List Bool → List ℕ
numbers_from i [] = []
numbers_from i (b ∷ bs) = cond b (i ∷ numbers_from (suc i) bs) (numbers_from (suc i) bs)

unfoldable pub seen : Rules → List ℕ → Seen
unfolding sound_word lawful lowest_fault cells register numbered entries pop push started sound_header sound_entry fresh placing place starting start operand effect_of effect core_after step_written counted executed step Draft.step
seen rules warrior =
    let m = board_at 0 rules warrior in
    record {
      departures = numbers_from 1 (reads_again m ∷ keeps_modes m ∷ unlike_register m ∷ is_division m ∷ tests_both m ∷ compares_twins m ∷ []);
      core = take 3 (step m).machine.core;
      next = places (step m).machine;
      draft_core = take 3 (map packed (drafted m).core);
      draft_next = (drafted m).next;
    }

abbrev pub empty : List ℕ → Bool
empty [] = true
empty (x ∷ xs) = false

-- they differ where a departure applies, and agree where none does
abbrev pub apart : Seen → Bool
apart s =
    let alike = same s.core s.draft_core && same s.next s.draft_next in
    cond (empty s.departures) alike (not alike)

abbrev pub battles : List Battle
battles =
    -- 1: MOV.B <0,$1, cell 1 (B 5): the draft's target is cell 1, the machine's cell 0
    record {
      rules = of_size 8 2;
      warrior = bytes MOV modifier.B mode.PreDecIndirectB 0 mode.Direct 1 ++ datum 0 5;
      told =
          record {
            departures = 1 ∷ [];
            core = word MOV modifier.B mode.PreDecIndirectB 0 mode.Direct 0 ∷ cell 0 5 ∷ fresh_cell ∷ [];
            next = 1 ∷ [];
            draft_core = word MOV modifier.B mode.PreDecIndirectB 0 mode.Direct 0 ∷ cell 0 0 ∷ fresh_cell ∷ [];
            draft_next = 1 ∷ [];
          };
    }
    -- 1: MOV.B <4,$1, write limit 4, cell 1 (B 5): the A number is not 0 but its write fold is
    ∷ record {
      rules = limited 8 8 4;
      warrior = bytes MOV modifier.B mode.PreDecIndirectB 4 mode.Direct 1 ++ datum 0 5;
      told =
          record {
            departures = 1 ∷ [];
            core = word MOV modifier.B mode.PreDecIndirectB 4 mode.Direct 0 ∷ cell 0 5 ∷ fresh_cell ∷ [];
            next = 1 ∷ [];
            draft_core = word MOV modifier.B mode.PreDecIndirectB 4 mode.Direct 0 ∷ cell 0 0 ∷ fresh_cell ∷ [];
            draft_next = 1 ∷ [];
          };
    }
    -- 2: MOV.I #3,$1: the draft copies the modes
    ∷ record {
      rules = of_size 8 2;
      warrior = bytes MOV modifier.I mode.Immediate 3 mode.Direct 1;
      told =
          record {
            departures = 2 ∷ [];
            core = word MOV modifier.I mode.Immediate 3 mode.Direct 1 ∷ word MOV modifier.I mode.Direct 3 mode.Direct 1 ∷ fresh_cell ∷ [];
            next = 1 ∷ [];
            draft_core = word MOV modifier.I mode.Immediate 3 mode.Direct 1 ∷ word MOV modifier.I mode.Immediate 3 mode.Direct 1 ∷ fresh_cell ∷ [];
            draft_next = 1 ∷ [];
          };
    }
    -- 3: SEQ.I $1,>1: the draft compares the register
    ∷ record {
      rules = of_size 8 2;
      warrior = bytes SEQ modifier.I mode.Direct 1 mode.PostIncIndirectB 1;
      told =
          record {
            departures = 3 ∷ [];
            core = word SEQ modifier.I mode.Direct 1 mode.PostIncIndirectB 1 ∷ cell 0 1 ∷ fresh_cell ∷ [];
            next = 1 ∷ [];
            draft_core = word SEQ modifier.I mode.Direct 1 mode.PostIncIndirectB 1 ∷ cell 0 1 ∷ fresh_cell ∷ [];
            draft_next = 2 ∷ [];
          };
    }
    -- 3: DJN.B $3,>1: the draft decrements the live cell
    ∷ record {
      rules = of_size 8 2;
      warrior = bytes DJN modifier.B mode.Direct 3 mode.PostIncIndirectB 1;
      told =
          record {
            departures = 3 ∷ [];
            core = word DJN modifier.B mode.Direct 3 mode.PostIncIndirectB 1 ∷ cell 0 7 ∷ fresh_cell ∷ [];
            next = 3 ∷ [];
            draft_core = word DJN modifier.B mode.Direct 3 mode.PostIncIndirectB 1 ∷ cell 0 0 ∷ fresh_cell ∷ [];
            draft_next = 3 ∷ [];
          };
    }
    -- 3: SEQ.I $1,>3, write limit 2, cells 1 (B 1) and 3 (B 6): B's write location and read pointer are cell 1, its write pointer is cell 0
    ∷ record {
      rules = limited 8 8 2;
      warrior = bytes SEQ modifier.I mode.Direct 1 mode.PostIncIndirectB 3 ++ (datum 0 1 ++ (datum 0 0 ++ datum 0 6));
      told =
          record {
            departures = 3 ∷ [];
            core = word SEQ modifier.I mode.Direct 1 mode.PostIncIndirectB 3 ∷ cell 0 2 ∷ fresh_cell ∷ [];
            next = 1 ∷ [];
            draft_core = word SEQ modifier.I mode.Direct 1 mode.PostIncIndirectB 3 ∷ cell 0 2 ∷ fresh_cell ∷ [];
            draft_next = 2 ∷ [];
          };
    }
    -- 3: DJN.B $3,$2, write limit 2, cell 2 (B 5): the B read pointer is cell 2, the write pointer cell 0
    ∷ record {
      rules = limited 8 8 2;
      warrior = bytes DJN modifier.B mode.Direct 3 mode.Direct 2 ++ (datum 0 0 ++ datum 0 5);
      told =
          record {
            departures = 3 ∷ [];
            core = word DJN modifier.B mode.Direct 3 mode.Direct 4 ∷ fresh_cell ∷ cell 0 5 ∷ [];
            next = 3 ∷ [];
            draft_core = word DJN modifier.B mode.Direct 3 mode.Direct 1 ∷ fresh_cell ∷ cell 0 5 ∷ [];
            draft_next = 3 ∷ [];
          };
    }
    -- 4: DIV.B $1,$2 with B numbers 6, 4: the draft has 4/6
    ∷ record {
      rules = of_size 8 2;
      warrior = bytes DIV modifier.B mode.Direct 1 mode.Direct 2 ++ (datum 0 6 ++ datum 0 4);
      told =
          record {
            departures = 4 ∷ [];
            core = word DIV modifier.B mode.Direct 1 mode.Direct 2 ∷ cell 0 6 ∷ cell 0 1 ∷ [];
            next = 1 ∷ [];
            draft_core = word DIV modifier.B mode.Direct 1 mode.Direct 2 ∷ cell 0 6 ∷ cell 0 0 ∷ [];
            draft_next = 1 ∷ [];
          };
    }
    -- 4: MOD.B $1,$2 with B numbers 0, 4: in the draft zero a ends
    ∷ record {
      rules = of_size 8 2;
      warrior = bytes MOD modifier.B mode.Direct 1 mode.Direct 2 ++ (datum 0 0 ++ datum 0 4);
      told =
          record {
            departures = 4 ∷ [];
            core = word MOD modifier.B mode.Direct 1 mode.Direct 2 ∷ cell 0 0 ∷ cell 0 0 ∷ [];
            next = 1 ∷ [];
            draft_core = word MOD modifier.B mode.Direct 1 mode.Direct 2 ∷ cell 0 0 ∷ cell 0 4 ∷ [];
            draft_next = [];
          };
    }
    -- 5: JMZ.F $3,$1, cell 1 (A 0, B 5): the draft wants both zero
    ∷ record {
      rules = of_size 8 2;
      warrior = bytes JMZ modifier.F mode.Direct 3 mode.Direct 1 ++ datum 0 5;
      told =
          record {
            departures = 5 ∷ [];
            core = word JMZ modifier.F mode.Direct 3 mode.Direct 1 ∷ cell 0 5 ∷ fresh_cell ∷ [];
            next = 3 ∷ [];
            draft_core = word JMZ modifier.F mode.Direct 3 mode.Direct 1 ∷ cell 0 5 ∷ fresh_cell ∷ [];
            draft_next = 1 ∷ [];
          };
    }
    -- 6: SEQ.I $1,$2, cells CMP.I $0,$0 and SEQ.I $0,$0: the draft has one opcode
    ∷ record {
      rules = of_size 8 2;
      warrior =
          bytes SEQ modifier.I mode.Direct 1 mode.Direct 2
          ++ (bytes CMP modifier.I mode.Direct 0 mode.Direct 0 ++ bytes SEQ modifier.I mode.Direct 0 mode.Direct 0);
      told =
          record {
            departures = 6 ∷ [];
            core =
                word SEQ modifier.I mode.Direct 1 mode.Direct 2
                ∷ word CMP modifier.I mode.Direct 0 mode.Direct 0
                ∷ word SEQ modifier.I mode.Direct 0 mode.Direct 0
                ∷ [];
            next = 1 ∷ [];
            draft_core =
                word SEQ modifier.I mode.Direct 1 mode.Direct 2
                ∷ word CMP modifier.I mode.Direct 0 mode.Direct 0
                ∷ word SEQ modifier.I mode.Direct 0 mode.Direct 0
                ∷ [];
            draft_next = 2 ∷ [];
          };
    }
    -- none: MOV.I $0,$1
    ∷ record {
      rules = of_size 8 2;
      warrior = bytes MOV modifier.I mode.Direct 0 mode.Direct 1;
      told =
          record {
            departures = [];
            core = word MOV modifier.I mode.Direct 0 mode.Direct 1 ∷ word MOV modifier.I mode.Direct 0 mode.Direct 1 ∷ fresh_cell ∷ [];
            next = 1 ∷ [];
            draft_core = word MOV modifier.I mode.Direct 0 mode.Direct 1 ∷ word MOV modifier.I mode.Direct 0 mode.Direct 1 ∷ fresh_cell ∷ [];
            draft_next = 1 ∷ [];
          };
    }
    -- none: SPL.B $2,$0
    ∷ record {
      rules = of_size 8 2;
      warrior = bytes SPL modifier.B mode.Direct 2 mode.Direct 0;
      told =
          record {
            departures = [];
            core = word SPL modifier.B mode.Direct 2 mode.Direct 0 ∷ fresh_cell ∷ fresh_cell ∷ [];
            next = 1 ∷ 2 ∷ [];
            draft_core = word SPL modifier.B mode.Direct 2 mode.Direct 0 ∷ fresh_cell ∷ fresh_cell ∷ [];
            draft_next = 1 ∷ 2 ∷ [];
          };
    }
    ∷ []
