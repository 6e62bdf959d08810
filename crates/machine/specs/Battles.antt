-- 01, 'Battles to prove' (its queue of 1 entry is a P of 1: 02, A.4): one table. Each row has what the definitions give, and what 01 says. The theorem is in proofs/Battles.antt.
-- Believed. Assumes nothing.
use Rattle.std.specs.Prelude.{ℕ, ◌-◌, ◌*◌, ◌^◌, ◌≡◌, List, [], ◌∷◌, ◌++◌, map, pos, negsuc, length, get_or, replicate}
use Rattle.offset.specs.Offset.{euclid}
use Rattle.cell.specs.Cells.{packed, relative, fresh_cell, sound_word}
use Rattle.types.specs.Defaults.{unnamed}
use Rattle.types.specs.Opcode.{DAT, MOV, MUL, DIV, JMZ, SEQ, SPL}
use Rattle.types.specs.Modifier as modifier
use Rattle.types.specs.Mode as mode
use Rattle.encoding.specs.Bytes.{spelled}
use Rattle.program.specs.Program.{lawful, lowest_fault, cells}
use Rattle.machine.specs.State.{of_size, Machine}
use Rattle.machine.specs.Names.{register, numbered}
use Rattle.machine.specs.Queue.{unpacked_entry, entries, pop, push, started}
use Rattle.machine.specs.Soundness.{sound_header, sound_entry}
use Rattle.machine.specs.Fresh.{fresh}
use Rattle.machine.specs.Place.{placing, place}
use Rattle.machine.specs.Start.{starting, start}
use Rattle.machine.specs.Pointers.{operand}
use Rattle.machine.specs.Execution.{effect_of}
use Rattle.machine.specs.Step.{operand_b, effect, core_after, step_written, counted, executed, step}

pub record Row : Type 0 where
  pub got : List ℕ
  pub wanted : List ℕ

-- an instruction as it is handed in, and its word: opcode, modifier, A mode and number, B mode and number
abbrev pub bytes : ℕ → ℕ → ℕ → ℕ → ℕ → ℕ → List ℕ
bytes op m ma a mb b = op ∷ m ∷ ma ∷ mb ∷ (spelled 4 a ++ spelled 4 b)

abbrev pub word : ℕ → ℕ → ℕ → ℕ → ℕ → ℕ → ℕ
word op m ma a mb b = packed (record { opcode = op; modifier = m; a_mode = ma; b_mode = mb; a = relative a; b = relative b })

-- DAT.F with direct numbers
abbrev pub datum : ℕ → ℕ → List ℕ
datum a b = bytes DAT modifier.F mode.Direct a mode.Direct b

abbrev pub cell : ℕ → ℕ → ℕ
cell a b = word DAT modifier.F mode.Direct a mode.Direct b

-- a fresh machine of that size, P and 16 times P entries of queue memory, with a body placed at 0 and a process started there
abbrev pub board : ℕ → ℕ → List ℕ → Machine
board size processes body =
    (start (place (fresh (of_size size processes) (replicate size 0) (replicate (16 * processes) 0)).machine [] body 0).machine [] 0).machine

-- place and thread number of each entry
abbrev pub threads : List ℕ → List ℕ
threads [] = []
threads (w ∷ ws) = (unpacked_entry w).place.0 ∷ (unpacked_entry w).thread ∷ threads ws

-- one step of M 8: number, value, writes, the core and the queue
abbrev pub battle : ℕ → List ℕ → List ℕ
battle processes body = let o = step (board 8 processes body) in o.number ∷ o.value ∷ o.writes ∷ (o.machine.core ++ threads (entries o.machine))

-- the same as 01 says it; untold cells are fresh
abbrev pub says : ℕ → ℕ → ℕ → List ℕ → List ℕ → List ℕ
says number value writes told queue = number ∷ value ∷ writes ∷ (told ++ (replicate (8 - length told) fresh_cell ++ queue))

unfoldable pub battles : List Row
unfolding sound_word lawful lowest_fault cells register numbered entries pop push started sound_header sound_entry fresh placing place starting start operand effect_of effect core_after step_written counted executed step
battles =
    -- −1 → 7; M 7: −2,147,483,648 → 5; M 46,341: 2,147,483,647 → 41,707
    record { got = euclid (negsuc 0) 8 ∷ euclid (negsuc 2147483647) 7 ∷ euclid (pos 2147483647) 46341 ∷ []; wanted = 7 ∷ 5 ∷ 41707 ∷ [] }
    -- sizes 0, 46,342 refused; 1, 46,341 accepted
    ∷ record {
      got =
          (fresh (of_size 0 1) [] (replicate 16 0)).number
          ∷ (fresh (of_size 46342 1) (replicate 46342 0) (replicate 16 0)).number
          ∷ (fresh (of_size 1 1) (0 ∷ []) (replicate 16 0)).number
          ∷ (fresh (of_size 46341 1) (replicate 46341 0) (replicate 16 0)).number
          ∷ [];
      wanted = 1 ∷ 1 ∷ 0 ∷ 0 ∷ [];
    }
    -- 46,340 × 46,340 at 46,341 → 1: MUL.AB #−1,$1, cell 1 (B −1)
    ∷ record {
      got =
          get_or
          (step (board 46341 1 (bytes MUL modifier.AB mode.Immediate (2 ^ 32 - 1) mode.Direct 1 ++ datum 0 (2 ^ 32 - 1)))).machine.core
          1 0
          ∷ [];
      wanted = cell 0 1 ∷ [];
    }
    -- MOV.I $0,$1: cell 1 is a copy; next 1; 1 write
    ∷ record {
      got = battle 8 (bytes MOV modifier.I mode.Direct 0 mode.Direct 1);
      wanted = says 0 0 1 (word MOV modifier.I mode.Direct 0 mode.Direct 1 ∷ word MOV modifier.I mode.Direct 0 mode.Direct 1 ∷ []) (1 ∷ 0 ∷ []);
    }
    -- MOV.I #3,$1: cell 1 is MOV.I $3,$1
    ∷ record {
      got = battle 8 (bytes MOV modifier.I mode.Immediate 3 mode.Direct 1);
      wanted = says 0 0 1 (word MOV modifier.I mode.Immediate 3 mode.Direct 1 ∷ word MOV modifier.I mode.Direct 3 mode.Direct 1 ∷ []) (1 ∷ 0 ∷ []);
    }
    -- MOV.A <0,$1: B number 0, target cell 0, 2 writes. The number moved is 0, so the target is the B pointer, given first
    ∷ record {
      got =
          (operand_b (board 8 8 (bytes MOV modifier.A mode.PreDecIndirectB 0 mode.Direct 1))).write
          ∷ battle 8 (bytes MOV modifier.A mode.PreDecIndirectB 0 mode.Direct 1);
      wanted = 0 ∷ says 0 0 2 (word MOV modifier.A mode.PreDecIndirectB 0 mode.Direct 0 ∷ []) (1 ∷ 0 ∷ []);
    }
    -- DIV.B $1,$2 with b-numbers 6, 4: 1
    ∷ record {
      got = battle 8 (bytes DIV modifier.B mode.Direct 1 mode.Direct 2 ++ (datum 0 6 ++ datum 0 4));
      wanted = says 0 0 1 (word DIV modifier.B mode.Direct 1 mode.Direct 2 ∷ cell 0 6 ∷ cell 0 1 ∷ []) (1 ∷ 0 ∷ []);
    }
    -- DIV.F $1,$2, cells (A 6, B 6) and (A 0, B 4): B 1, answer 12
    ∷ record {
      got = battle 8 (bytes DIV modifier.F mode.Direct 1 mode.Direct 2 ++ (datum 6 6 ++ datum 0 4));
      wanted = says 12 0 1 (word DIV modifier.F mode.Direct 1 mode.Direct 2 ∷ cell 6 6 ∷ cell 0 1 ∷ []) [];
    }
    -- JMZ.F $3,$1, cell 1 (A 0, B 5): next 3
    ∷ record {
      got = battle 8 (bytes JMZ modifier.F mode.Direct 3 mode.Direct 1 ++ datum 0 5);
      wanted = says 0 0 0 (word JMZ modifier.F mode.Direct 3 mode.Direct 1 ∷ cell 0 5 ∷ []) (3 ∷ 0 ∷ []);
    }
    -- DAT <1,$0: cell 1's B number 7; answer 11 at 0; 1 write
    ∷ record {
      got = battle 8 (bytes DAT unnamed mode.PreDecIndirectB 1 mode.Direct 0);
      wanted = says 11 0 1 (word DAT modifier.F mode.PreDecIndirectB 1 mode.Direct 0 ∷ cell 0 7 ∷ []) [];
    }
    -- SEQ.I $1,>1: next 1
    ∷ record {
      got = battle 8 (bytes SEQ modifier.I mode.Direct 1 mode.PostIncIndirectB 1);
      wanted = says 0 0 1 (word SEQ modifier.I mode.Direct 1 mode.PostIncIndirectB 1 ∷ cell 0 1 ∷ []) (1 ∷ 0 ∷ []);
    }
    -- SPL $2: (1, thread 0), (2, thread 1); P 1 (02, A.4): the first
    ∷ record {
      got = battle 8 (bytes SPL unnamed mode.Direct 2 mode.Direct 0);
      wanted = says 0 0 0 (word SPL modifier.B mode.Direct 2 mode.Direct 0 ∷ []) (1 ∷ 0 ∷ 2 ∷ 1 ∷ []);
    }
    ∷ record {
      got = battle 1 (bytes SPL unnamed mode.Direct 2 mode.Direct 0);
      wanted = says 0 0 0 (word SPL modifier.B mode.Direct 2 mode.Direct 0 ∷ []) (1 ∷ 0 ∷ []);
    }
    ∷ []

-- every battle gives what is wanted
abbrev pub BattlesHold : Type 0
BattlesHold = map (λ (r : Row). r.got) battles ≡ map (λ (r : Row). r.wanted) battles
