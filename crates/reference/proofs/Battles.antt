-- What the Rust gives in battles of 01: one table, one theorem.
-- Assumes nothing.
use Prim.Native.Nat.{ℕ, ◌-◌}
use mathlib.Core.Path.{◌≡◌, refl}
use mathlib.Core.List.{List, [], ◌∷◌, ◌++◌, map}
use mathlib.Core.Option.{Option, none, some}
use lib.ListN.{length, replicate}
use Rattle.cell.specs.Cells.{fresh_cell}
use Rattle.types.specs.Defaults.{unnamed}
use Rattle.types.specs.Opcode.{DAT, MOV, DIV, JMZ, SEQ, SPL}
use Rattle.types.specs.Modifier as modifier
use Rattle.types.specs.Mode as mode
use Rattle.machine.specs.Battles.{bytes, datum, word, cell}
use Rattle.reference.specs.Types.{Instruction}
use Rattle.reference.specs.Modifiers.{evaluate_a, evaluate_b}
use Rattle.reference.specs.Opcodes.{execute}
use Rattle.reference.specs.Process.{Entry, ExecuteDat, DivideByZero, push}
use Rattle.reference.specs.Core.{Core, Answer, Ok, Err, Returned, new, load_warrior, step}
use Rattle.reference.specs.Same.{word_of, warrior_of}

-- the answer, the core, and the offset and thread number of each entry
record Left : Type 0 where
  answer : Answer
  instructions : List Instruction
  queue : List (List ℕ)

abbrev left_by : Returned → Left
left_by r =
    record {
      answer = r.answer;
      instructions = r.core.instructions;
      queue = map (λ (e : Entry). e.offset ∷ e.thread ∷ []) r.core.process_queue.queue;
    }

-- one step of a core with a body loaded
abbrev stepped : List ℕ → Option Core → List Left
stepped body none = []
stepped body (some c) = left_by (step (load_warrior (warrior_of [] body 65535) c).core) ∷ []

-- a body in a core of 8 cells; the answer, the cells told, and the entries: places and thread numbers
record Battle : Type 0 where
  body : List ℕ
  answer : Answer
  told : List ℕ
  queue : List (List ℕ)

-- untold cells are fresh
abbrev said : Battle → List Left
said b = record { answer = b.answer; instructions = map word_of (b.told ++ replicate (8 - length b.told) fresh_cell); queue = b.queue } ∷ []

abbrev battles : List Battle
battles =
    -- MOV.I $0,$1: cell 1 is a copy; next 1
    record {
      body = bytes MOV modifier.I mode.Direct 0 mode.Direct 1;
      answer = Ok;
      told = word MOV modifier.I mode.Direct 0 mode.Direct 1 ∷ word MOV modifier.I mode.Direct 0 mode.Direct 1 ∷ [];
      queue = (1 ∷ 0 ∷ []) ∷ [];
    }
    -- MOV.I #3,$1: cell 1 is MOV.I $3,$1
    ∷ record {
      body = bytes MOV modifier.I mode.Immediate 3 mode.Direct 1;
      answer = Ok;
      told = word MOV modifier.I mode.Immediate 3 mode.Direct 1 ∷ word MOV modifier.I mode.Direct 3 mode.Direct 1 ∷ [];
      queue = (1 ∷ 0 ∷ []) ∷ [];
    }
    -- MOV.A <0,$1: B number 0, target cell 0
    ∷ record {
      body = bytes MOV modifier.A mode.PreDecIndirectB 0 mode.Direct 1;
      answer = Ok;
      told = word MOV modifier.A mode.PreDecIndirectB 0 mode.Direct 0 ∷ [];
      queue = (1 ∷ 0 ∷ []) ∷ [];
    }
    -- DIV.B $1,$2 with b-numbers 6, 4: 1
    ∷ record {
      body = bytes DIV modifier.B mode.Direct 1 mode.Direct 2 ++ (datum 0 6 ++ datum 0 4);
      answer = Ok;
      told = word DIV modifier.B mode.Direct 1 mode.Direct 2 ∷ cell 0 6 ∷ cell 0 1 ∷ [];
      queue = (1 ∷ 0 ∷ []) ∷ [];
    }
    -- DIV.F $1,$2, cells (A 6, B 6) and (A 0, B 4): B 1, and the error
    ∷ record {
      body = bytes DIV modifier.F mode.Direct 1 mode.Direct 2 ++ (datum 6 6 ++ datum 0 4);
      answer = Err DivideByZero;
      told = word DIV modifier.F mode.Direct 1 mode.Direct 2 ∷ cell 6 6 ∷ cell 0 1 ∷ [];
      queue = [];
    }
    -- JMZ.F $3,$1, cell 1 (A 0, B 5): next 3
    ∷ record {
      body = bytes JMZ modifier.F mode.Direct 3 mode.Direct 1 ++ datum 0 5;
      answer = Ok;
      told = word JMZ modifier.F mode.Direct 3 mode.Direct 1 ∷ cell 0 5 ∷ [];
      queue = (3 ∷ 0 ∷ []) ∷ [];
    }
    -- DAT <1,$0: cell 1's B number 7; the error at 0
    ∷ record {
      body = bytes DAT unnamed mode.PreDecIndirectB 1 mode.Direct 0;
      answer = Err (ExecuteDat 0);
      told = word DAT modifier.F mode.PreDecIndirectB 1 mode.Direct 0 ∷ cell 0 7 ∷ [];
      queue = [];
    }
    -- SEQ.I $1,>1: next 1
    ∷ record {
      body = bytes SEQ modifier.I mode.Direct 1 mode.PostIncIndirectB 1;
      answer = Ok;
      told = word SEQ modifier.I mode.Direct 1 mode.PostIncIndirectB 1 ∷ cell 0 1 ∷ [];
      queue = (1 ∷ 0 ∷ []) ∷ [];
    }
    -- SPL $2: (1, thread 0), (2, thread 1)
    ∷ record {
      body = bytes SPL unnamed mode.Direct 2 mode.Direct 0;
      answer = Ok;
      told = word SPL modifier.B mode.Direct 2 mode.Direct 0 ∷ [];
      queue = (1 ∷ 0 ∷ []) ∷ (2 ∷ 1 ∷ []) ∷ [];
    }
    ∷ []

the-rust-gives : map (λ (b : Battle). stepped b.body (new 8)) battles ≡ map said battles
unfolding evaluate_a evaluate_b execute push load_warrior step
the-rust-gives = refl
