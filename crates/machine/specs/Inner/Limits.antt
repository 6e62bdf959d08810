-- Steps with read and write limits (02, A.2), one for each place that could be read otherwise: what the definitions give, and what is wanted. The theorem is in proofs/Battles.antt.
-- Inner. Assumes nothing.
use Rattle.std.specs.Prelude.{ℕ, ◌*◌, ◌≡◌, List, [], ◌∷◌, ◌++◌, map, get_or, set, replicate}
use Rattle.cell.specs.Cells.{sound_word}
use Rattle.types.specs.Opcode.{ADD, JMP, DJN, SEQ, NOP}
use Rattle.types.specs.Modifier as modifier
use Rattle.types.specs.Mode as mode
use Rattle.program.specs.Program.{lawful, lowest_fault, cells}
use Rattle.machine.specs.declared.Rules.{Rules}
use Rattle.machine.specs.State.{of_size, Machine, with_core, under}
use Rattle.machine.specs.Names.{register, numbered}
use Rattle.machine.specs.Queue.{unpacked_entry, entries, pop, push, started}
use Rattle.machine.specs.Soundness.{sound_header, sound_entry}
use Rattle.machine.specs.Fresh.{blank, fresh}
use Rattle.machine.specs.Place.{placing, place}
use Rattle.machine.specs.Start.{starting, start}
use Rattle.machine.specs.Pointers.{fold, operand}
use Rattle.machine.specs.Execution.{effect_of}
use Rattle.machine.specs.Step.{effect, core_after, step_written, counted, executed, step}
use Rattle.machine.specs.Battles.{Row, bytes, word, datum, cell}

abbrev pub limited : ℕ → ℕ → ℕ → Rules
limited size read write = record { size = size; read = read; write = write; processes = 1 }

-- the number that fresh gives, of rules and memories
abbrev told : Rules → ℕ → ℕ → ℕ
told rules cells slots = (fresh rules (replicate cells 0) (replicate slots 0)).number

-- a fresh machine of these rules, with 16 times P entries of queue memory, a body at a place and a process started there
abbrev pub board_at : ℕ → Rules → List ℕ → Machine
board_at at rules body = (start (place (fresh rules (replicate rules.size 0) (replicate (16 * rules.processes) 0)).machine [] body at).machine [] at).machine

-- the same with a word at a place that is no cell
abbrev broken : ℕ → Machine → Machine
broken place m = with_core (set m.core place 70368744177664) m

-- a step's number, its writes and where it goes on; and the words of some cells
abbrev goes_to : Machine → List ℕ
goes_to m = let o = step m in o.number ∷ o.writes ∷ map (λ w. (unpacked_entry w).place.0) (entries o.machine)

abbrev cells_of : Machine → List ℕ → List ℕ
cells_of m places = let o = step m in map (λ p. get_or o.machine.core p 0) places

-- JMP by a mode and number, with one datum after it
abbrev jump : ℕ → Rules → ℕ → ℕ → List ℕ → Machine
jump place rules ma a after = board_at place rules (bytes JMP modifier.B ma a mode.Direct 0 ++ after)

unfoldable pub limits : List Row
unfolding sound_word lawful lowest_fault cells register numbered entries pop push started sound_header sound_entry fresh placing place starting start operand effect_of effect core_after step_written counted executed step
limits =
    -- over half, halved downward: limit 4: 2 stays, 3 is −1; limit 5: 2 stays, 3 is −2; limit 2: 1 stays; limit 1: always 0; limit M: mod M
    record {
      got = fold 4 20 2 ∷ fold 4 20 3 ∷ fold 4 20 4 ∷ fold 5 20 2 ∷ fold 5 20 3 ∷ fold 2 20 1 ∷ fold 1 20 7 ∷ fold 20 20 27 ∷ fold 20 20 19 ∷ [];
      wanted = 2 ∷ 19 ∷ 0 ∷ 2 ∷ 18 ∷ 1 ∷ 0 ∷ 7 ∷ 19 ∷ [];
    }
    -- fresh: divisors are taken, each limit by itself; 0, one over M and others are 14, after 1 and 2
    ∷ record {
      got =
          told (limited 8 1 8) 8 16
          ∷ told (limited 8 2 4) 8 16
          ∷ told (limited 8 0 8) 8 16
          ∷ told (limited 8 8 0) 8 16
          ∷ told (limited 8 3 8) 8 16
          ∷ told (limited 8 8 16) 8 16
          ∷ told (limited 8 3 3) 7 16
          ∷ told (limited 8 3 3) 8 0
          ∷ told (limited 8 3 3) 8 15
          ∷ told (limited 0 0 0) 0 16
          ∷ [];
      wanted = 0 ∷ 0 ∷ 14 ∷ 14 ∷ 14 ∷ 14 ∷ 2 ∷ 2 ∷ 2 ∷ 1 ∷ [];
    }
    -- in a header such a limit is 9
    ∷ record { got = (step (under (blank (limited 8 8 3)) (jump 0 (of_size 8 1) mode.Direct 1 []))).number ∷ []; wanted = 9 ∷ [] }
    -- taken from PC: JMP $3 at 5, read limit 4
    ∷ record { got = goes_to (jump 5 (limited 20 4 20) mode.Direct 3 []); wanted = 0 ∷ 0 ∷ 4 ∷ [] }
    -- JMP $2, read limit 4
    ∷ record { got = goes_to (jump 0 (limited 20 4 20) mode.Direct 2 []); wanted = 0 ∷ 0 ∷ 2 ∷ [] }
    -- JMP @2 with 1 found, read limit 4: the sum is folded
    ∷ record { got = goes_to (jump 0 (limited 20 4 20) mode.IndirectB 2 (datum 0 0 ++ datum 0 1)); wanted = 0 ∷ 0 ∷ 19 ∷ [] }
    -- JMP.B <2,$5, cell 2's B 1, limits 4 and 2: cell 0's B is lowered to 4, the read chain finds 1
    ∷ record {
      got =
          let m = board_at 0 (limited 20 4 2) (bytes JMP modifier.B mode.PreDecIndirectB 2 mode.Direct 5 ++ (datum 0 0 ++ datum 0 1)) in
          goes_to m ++ cells_of m (0 ∷ 2 ∷ []);
      wanted = 0 ∷ 1 ∷ 19 ∷ word JMP modifier.B mode.PreDecIndirectB 2 mode.Direct 4 ∷ cell 0 1 ∷ [];
    }
    -- the same with limits 4 and 4: both chains find the 0 that is left, with no further minus 1
    ∷ record {
      got =
          let m = board_at 0 (limited 20 4 4) (bytes JMP modifier.B mode.PreDecIndirectB 2 mode.Direct 5 ++ (datum 0 0 ++ datum 0 1)) in
          goes_to m ++ cells_of m (0 ∷ 2 ∷ []);
      wanted = 0 ∷ 1 ∷ 2 ∷ word JMP modifier.B mode.PreDecIndirectB 2 mode.Direct 5 ∷ cell 0 0 ∷ [];
    }
    -- SEQ.I $1,>1, write limit 1: cell 0's B rises, so that the live cell is still cell 1: next 2
    ∷ record {
      got =
          let m = board_at 0 (limited 8 8 1) (bytes SEQ modifier.I mode.Direct 1 mode.PostIncIndirectB 1) in
          goes_to m ++ cells_of m (0 ∷ 1 ∷ []);
      wanted = 0 ∷ 1 ∷ 2 ∷ word SEQ modifier.I mode.Direct 1 mode.PostIncIndirectB 2 ∷ cell 0 0 ∷ [];
    }
    -- NOP @9,#0, M 24, write limit 6, cell 9's B 2, cell 3's B 5: A's write pointer is cell 2
    ∷ record {
      got =
          let m = board_at 0 (limited 24 24 6) (bytes NOP modifier.B mode.IndirectB 9 mode.Immediate 0 ++ (datum 0 0 ++ (datum 0 0 ++ (datum 0 5 ++ (datum 0 0 ++ (datum 0 0 ++ (datum 0 0 ++ (datum 0 0 ++ (datum 0 0 ++ datum 0 2))))))))) in
          (step m).number ∷ (step (broken 2 m)).number ∷ (step (broken 11 m)).number ∷ (step (broken 3 m)).number ∷ (step (broken 9 m)).number ∷ (step (broken 5 m)).number ∷ [];
      wanted = 0 ∷ 9 ∷ 9 ∷ 9 ∷ 9 ∷ 0 ∷ [];
    }
    -- NOP #9,#0: the locations of `#` are read
    ∷ record {
      got =
          let m = board_at 0 (limited 24 24 6) (bytes NOP modifier.B mode.Immediate 9 mode.Immediate 0) in
          (step (broken 3 m)).number ∷ (step (broken 9 m)).number ∷ (step (broken 2 m)).number ∷ [];
      wanted = 9 ∷ 9 ∷ 0 ∷ [];
    }
    -- DJN.B $2,$3, cell 3's B 9, write limit 4: 8 is stored at 19
    ∷ record {
      got =
          let m = board_at 0 (limited 20 20 4) (bytes DJN modifier.B mode.Direct 2 mode.Direct 3 ++ (datum 0 0 ++ (datum 0 0 ++ datum 0 9))) in
          goes_to m ++ cells_of m (3 ∷ 19 ∷ []);
      wanted = 0 ∷ 1 ∷ 2 ∷ cell 0 9 ∷ cell 0 8 ∷ [];
    }
    -- ADD.AB #3,$6, cell 6's B 5, write limit 4: 8 is stored at 2
    ∷ record {
      got =
          let m = board_at 0 (limited 20 20 4) (bytes ADD modifier.AB mode.Immediate 3 mode.Direct 6 ++ (datum 0 0 ++ (datum 1 0 ++ (datum 0 0 ++ (datum 0 0 ++ (datum 0 0 ++ datum 0 5)))))) in
          goes_to m ++ cells_of m (2 ∷ 6 ∷ []);
      wanted = 0 ∷ 1 ∷ 1 ∷ cell 1 8 ∷ cell 0 5 ∷ [];
    }
    ∷ []

-- every row gives what is wanted
abbrev pub LimitsHold : Type 0
LimitsHold = map (λ (r : Row). r.got) limits ≡ map (λ (r : Row). r.wanted) limits
