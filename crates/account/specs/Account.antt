-- Demand 3 of the mission, sentence by sentence, with the words of 02, A.5: starts replace a name's loads, and placed instructions loaded ones.
-- Believed. Assumes nothing.
use Rattle.std.specs.Prelude.{ℕ, ◌+◌, ◌*◌, ◌≤◌, ◌≡◌, Bool, true, false, cond, not, ◌&&◌, List, [], ◌∷◌, map, eqb, length}
use Rattle.laws.specs.Lists.{one_if, tally, total, same}
use Rattle.cell.specs.Cells.{fresh_cell}
use Rattle.machine.specs.declared.Rules.{Rules}
use Rattle.machine.specs.State.{Machine}
use Rattle.machine.specs.Names.{is_new, count_of}
use Rattle.machine.specs.Queue.{entries_of}
use Rattle.machine.specs.Fresh.{fresh}
use Rattle.account.specs.Calls.{left, reported, Event, placed, started, executed}
use Rattle.account.specs.Lists.{Listed, outcome_of, logged_of}

-- an accepted start of n
abbrev pub start_of : List ℕ → Event → Bool
start_of n (placed name instructions writes) = false
start_of n (started name writes) = same name n
start_of n (executed name pushes writes) = false

-- an accepted call that has the name n: placing, or starting
abbrev pub call_of : List ℕ → Event → Bool
call_of n (placed name instructions writes) = same name n
call_of n (started name writes) = same name n
call_of n (executed name pushes writes) = false

-- a child of n queued: SPL's second push
abbrev pub child_of : List ℕ → Event → Bool
child_of n (placed name instructions writes) = false
child_of n (started name writes) = false
child_of n (executed name pushes writes) = eqb pushes 2 && same name n

-- an ending of n: nothing is pushed
abbrev pub ending_of : List ℕ → Event → Bool
ending_of n (placed name instructions writes) = false
ending_of n (started name writes) = false
ending_of n (executed name pushes writes) = eqb pushes 0 && same name n

-- an instruction executed, and one of n
abbrev pub instruction : Event → Bool
instruction (placed name instructions writes) = false
instruction (started name writes) = false
instruction (executed name pushes writes) = true

abbrev pub instruction_of : List ℕ → Event → Bool
instruction_of n (placed name instructions writes) = false
instruction_of n (started name writes) = false
instruction_of n (executed name pushes writes) = same name n

-- writes, and instructions placed
abbrev pub writes_in : Event → ℕ
writes_in (placed name instructions writes) = writes
writes_in (started name writes) = writes
writes_in (executed name pushes writes) = writes

abbrev pub placed_in : Event → ℕ
placed_in (placed name instructions writes) = instructions
placed_in (started name writes) = 0
placed_in (executed name pushes writes) = 0

-- the instructions that n has executed since its last ending, or ever if it has none
abbrev pub since_ending : List ℕ → List Event → ℕ
since_ending n [] = 0
since_ending n (x ∷ log) = cond (ending_of n x) 0 (one_if (instruction_of n x) + since_ending n log)

-- cells differing from a fresh core
abbrev pub differing : List ℕ → ℕ
differing core = tally (λ w. not (eqb w fresh_cell)) core

-- m is the program's record after the calls, w the writes that they reported, log what 01's machine tells of the same calls
pub record Account (m : Machine) (w : ℕ) (log : List Event) : Type 0 where
  -- The number of each name's queue entries equals its accepted starts plus children queued minus endings
  pub entries : (n : List ℕ) → entries_of m n + tally (ending_of n) log ≡ tally (start_of n) log + tally (child_of n) log
  -- and so does its count
  pub counts : (n : List ℕ) → count_of m.header n + tally (ending_of n) log ≡ tally (start_of n) log + tally (child_of n) log
  -- Steps taken equal instructions executed
  pub steps : m.header.steps ≡ tally instruction log
  -- The writes reported by the list's calls sum to those of 01's machine for the same list
  pub writes : w ≡ total (map writes_in log)
  -- and to at most 3 × steps taken + instructions placed
  pub bound : w ≤ 3 * m.header.steps + total (map placed_in log)
  -- Cells differing from a fresh core number at most these writes
  pub cells : differing m.core ≤ w
  -- A name without entries has executed nothing since its last ending, or ever if it has none
  pub idle : (n : List ℕ) → entries_of m n ≡ 0 → since_ending n log ≡ 0
  -- Names are those of accepted calls (01): the record holds a name exactly if an accepted call of placing or starting has it
  pub names : (n : List ℕ) → is_new m.header.names n ≡ eqb (tally (call_of n) log) 0
  -- no other has entries (01); the next sentence says more
  pub others : (n : List ℕ) → tally (call_of n) log ≡ 0 → entries_of m n ≡ 0
  -- A name never started has run nothing (02, A.5), and has no entries
  pub never_started : (n : List ℕ) → tally (start_of n) log ≡ 0 → (tally (instruction_of n) log ≡ 0) × (entries_of m n ≡ 0)

-- DEMAND 3 over the definitions; of the program it stands in crates/demands/specs/Demands.antt. Fresh was lent a core and a queue memory and answered 0; 01's machine keeps a record of its own, of the same lengths, whatever
-- was in it. After every list of calls, refused ones included, the account holds of the program's record, of the writes that the calls
-- reported, and of what 01's machine tells
abbrev pub EveryAccount : Type 0
EveryAccount =
    (rules : Rules) (core queue : List ℕ) → (fresh rules core queue).number ≡ 0
    → (own_core own_queue : List ℕ) → length own_core ≡ length core → length own_queue ≡ length queue
    → (calls : List Listed)
    → Account (left outcome_of calls (fresh rules core queue).machine) (reported outcome_of calls (fresh rules core queue).machine)
    (logged_of calls (fresh rules own_core own_queue).machine [])
