-- Single calls: what the program does with a list of them, and the log that 01's machine keeps (the mission, demand 3; 01, 'One step', last paragraph; 02, A.5).
-- Believed. Assumes nothing.
use Rattle.std.specs.Prelude.{ℕ, zero, suc, ◌+◌, ◌-◌, cond, List, [], ◌∷◌, eqb}
use Rattle.program.specs.Program.{instructions}
use Rattle.metadata.specs.Metadata.{called}
use Rattle.machine.specs.State.{Machine, Outcome}
use Rattle.machine.specs.Queue.{front, name_of}
use Rattle.machine.specs.Soundness.{sound_header}
use Rattle.machine.specs.Place.{place}
use Rattle.machine.specs.Start.{start}
use Rattle.machine.specs.Step.{step, executes}
use Rattle.machine.specs.Run.{Ceiling, ceiling_of, run}

-- a single call with its arguments
pub data Call : Type 0 where
  Place : (name body : List ℕ) (at : ℕ) → Call
  Start : (name : List ℕ) (at : ℕ) → Call
  Step : Call
  Run : (ceiling : Ceiling) → Call

abbrev pub outcome : Call → Machine → Outcome
outcome (Place name body at) m = place m name body at
outcome (Start name at) m = start m name at
outcome Step m = step m
outcome (Run ceiling) m = run ceiling m

-- THE PROGRAM, over calls of any kind whose outcomes are told. Each call gets the record as the one before left it
abbrev pub left : {C : Type 0} → (C → Machine → Outcome) → List C → Machine → Machine
left does [] m = m
left does (c ∷ cs) m = left does cs (does c m).machine

-- the writes reported by the list's calls
abbrev pub reported : {C : Type 0} → (C → Machine → Outcome) → List C → Machine → ℕ
reported does [] m = 0
reported does (c ∷ cs) m = (does c m).writes + reported does cs (does c m).machine

-- 01'S MACHINE. Its log has a body that was placed: name, instructions, writes; a process that was started: name, writes; and an instruction
-- that was executed: the popped entry's name, pushes, writes. The newest stands first
pub data Event : Type 0 where
  placed : (name : List ℕ) (instructions writes : ℕ) → Event
  started : (name : List ℕ) (writes : ℕ) → Event
  executed : (name : List ℕ) (pushes writes : ℕ) → Event

-- an accepted call is one it answers 0
abbrev pub log_if : Outcome → Event → List Event → List Event
log_if o x log = cond (eqb o.number 0) (x ∷ log) log

-- a step to which it answers 0, 11 or 12 executes one instruction of the popped entry's name
abbrev pub log_step : Machine → List Event → List Event
log_step m log = let o = step m in cond (executes o.number) (executed (name_of m (front m)) o.pushes o.writes ∷ log) log

-- in a run too: up to k steps, up to the first answer not 0
abbrev pub log_steps : ℕ → Machine → List Event → List Event
log_steps zero m log = log
log_steps (suc k) m log = let more = log_steps k (step m).machine (log_step m log) in cond (eqb (step m).number 0) more (log_step m log)

abbrev pub log_run : Ceiling → Machine → List Event → List Event
log_run ceiling m log = cond (sound_header m) (log_steps (ceiling_of ceiling - m.header.steps) m log) log

abbrev pub log_call : Call → Machine → List Event → List Event
log_call (Place name body at) m log = let o = place m name body at in log_if o (placed (called name) (instructions body) o.writes) log
log_call (Start name at) m log = let o = start m name at in log_if o (started (called name) o.writes) log
log_call Step m log = log_step m log
log_call (Run ceiling) m log = log_run ceiling m log

abbrev pub logged : List Call → Machine → List Event → List Event
logged [] m log = log
logged (c ∷ cs) m log = logged cs (outcome c m).machine (log_call c m log)
