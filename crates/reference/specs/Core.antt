-- core.rs: the core, load_warrior, step and run.
-- Believed. Assumes nothing.
use Rattle.std.specs.Prelude.{ℕ, zero, suc, ◌+◌, ◌-◌, ◌^◌, Bool, true, false, cond, List, [], ◌∷◌, eqb, leb, ltb, pos, length, set, replicate}
use Rattle.std.proofs.Math.Option.{Option, none, some}
use Rattle.reference.specs.Types.{Instruction, default, set_a, set_b, Warrior}
use Rattle.reference.specs.Offset.{offset, no_offset, add, add_i32}
use Rattle.reference.specs.Opcodes as Opcodes
use Rattle.reference.specs.Opcodes.{Result, execute}
use Rattle.reference.specs.Process as Process
use Rattle.reference.specs.Process.{Entry, Queue, Error, NoRemainingProcesses, ProcessNameExists, ExecuteDat, DivideByZero, Popped, pop, push, thread_count}

pub record Core : Type 0 where
  pub instructions : List Instruction
  pub process_queue : Queue
  pub steps_taken : ℕ

-- what a call returns: a result with core.rs's error or with process.rs's, or a panic
pub data Answer : Type 0 where
  Ok : Answer
  WarriorTooLong : Answer
  Err : Error → Answer
  Panic : Answer

-- the core after a call, and its answer
pub record Returned : Type 0 where
  pub core : Core
  pub answer : Answer

-- new: nothing for the one size that is an error
abbrev pub new : ℕ → Option Core
new core_size =
    cond (eqb core_size (2 ^ 32 - 1)) none
    (some (record {
      instructions = replicate core_size default;
      process_queue = record { queue = []; processes = []; next_thread_id = [] };
      steps_taken = 0;
    }))

-- normalize
abbrev pub normalize : ℕ → Instruction → Instruction
normalize m i = set_b (set_a i (offset m i.a_field.value)) (offset m i.b_field.value)

-- the instructions written from the first cell on
abbrev pub written_from : ℕ → ℕ → List Instruction → List Instruction → List Instruction
written_from m i [] core = core
written_from m i (x ∷ xs) core = written_from m (suc i) xs (set core i (normalize m x))

-- Warrior0 where there is no name
abbrev pub name_of : Option (List ℕ) → List ℕ
name_of none = 87 ∷ 97 ∷ 114 ∷ 114 ∷ 105 ∷ 111 ∷ 114 ∷ 48 ∷ []
name_of (some name) = name

abbrev pub origin_or_zero : Option ℕ → ℕ
origin_or_zero none = 0
origin_or_zero (some origin) = origin

-- the same core with other instructions, and with another queue
abbrev pub with_instructions : Core → List Instruction → Core
with_instructions c l = record { instructions = l; process_queue = c.process_queue; steps_taken = c.steps_taken }

abbrev pub with_queue : Core → Queue → Core
with_queue c q = record { instructions = c.instructions; process_queue = q; steps_taken = c.steps_taken }

-- load_warrior. A size without offsets panics before anything is written, an origin that is no i32 after the instructions are
unfoldable pub load_warrior : Warrior → Core → Returned
load_warrior w c =
    let m = length c.instructions in
    let origin = origin_or_zero w.origin in
    let loaded = with_instructions c (written_from m 0 w.instructions c.instructions) in
    cond (ltb m (length w.instructions)) (record { core = c; answer = WarriorTooLong })
    (cond (no_offset m) (record { core = c; answer = Panic })
    (cond (leb (2 ^ 31) origin) (record { core = loaded; answer = Panic })
    (record { core = with_queue loaded (push (name_of w.name) (offset m (pos origin)) none c.process_queue); answer = Ok })))

-- step, where execution was an error: it is returned unless the name has a process left
abbrev pub unless_alive : Option ℕ → Error → Answer
unless_alive none err = Panic
unless_alive (some count) err = cond (ltb count 1) (Err err) Ok

abbrev pub ended : Core → Entry → Error → Answer
ended c current_process NoRemainingProcesses = Panic
ended c current_process (ProcessNameExists name) = Panic
ended c current_process (ExecuteDat at) = unless_alive (thread_count current_process.name c.process_queue) (ExecuteDat at)
ended c current_process DivideByZero = unless_alive (thread_count current_process.name c.process_queue) DivideByZero

-- where it ended well: one place on where program_counter_offset is not set
abbrev pub or_one : ℕ → Option ℕ → ℕ
or_one m none = offset m (pos 1)
or_one m (some offset) = offset

-- of a split, the place after with the same thread number goes first, the other gets a new number
abbrev pub pushed : ℕ → Bool → ℕ → Entry → Queue → Queue
pushed m true to e q =
    let one = push e.name (add_i32 m e.offset (pos 1)) (some e.thread) q in
    push e.name (add m e.offset to) none one
pushed m false to e q = push e.name (add m e.offset to) (some e.thread) q

abbrev pub after : ℕ → Result → Entry → Core → Returned
after m (Opcodes.Err err) e c = record { core = c; answer = ended c e err }
after m Opcodes.Panic e c = record { core = c; answer = Panic }
after m (Opcodes.Ok x) e c =
    record { core = with_queue c (pushed m x.should_split (or_one m x.program_counter_offset) e c.process_queue); answer = Ok }

-- popped and counted before execution
abbrev pub stepped : Core → Popped → Returned
stepped c (Process.Err err) = record { core = c; answer = Err err }
stepped c Process.Panic = record { core = c; answer = Panic }
stepped c (Process.Ok e q) =
    let m = length c.instructions in
    let x = execute m c.instructions e.offset in
    after m x.result e (record { instructions = x.core; process_queue = q; steps_taken = c.steps_taken + 1 })

unfoldable pub step : Core → Returned
step c = stepped c (pop c.process_queue)

-- run: max_cycles, or the default
abbrev pub max_cycles : Option ℕ → ℕ
max_cycles none = 10000
max_cycles (some n) = n

abbrev pub is_ok : Answer → Bool
is_ok Ok = true
is_ok WarriorTooLong = false
is_ok (Err err) = false
is_ok Panic = false

-- its loop, at most so many times round: as long as steps_taken is below the ceiling and each step is Ok
abbrev pub loop : ℕ → ℕ → Core → Returned
loop zero max c = record { core = c; answer = Ok }
loop (suc turns) max c =
    let more = cond (is_ok (step c).answer) (loop turns max (step c).core) (step c) in
    cond (ltb c.steps_taken max) more (record { core = c; answer = Ok })

-- a step that is Ok counts one, so the steps that are left are turns enough (proofs/Loops)
unfoldable pub run : Option ℕ → Core → Returned
run n c = loop (max_cycles n - c.steps_taken) (max_cycles n) c
