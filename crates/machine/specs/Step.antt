-- One step (01, 'One step'; 02, A.4).
-- Believed. Assumes nothing.
use Rattle.std.specs.Prelude.{ℕ, ◌+◌, Bool, cond, not, ◌||◌, List, [], ◌∷◌, eqb, length, get_or}
use Rattle.answer.specs.Numbers.{Told, gives}
use Rattle.laws.specs.Lists.{among, every}
use Rattle.cell.specs.declared.Cell.{Cell}
use Rattle.cell.specs.Cells.{sound_word}
use Rattle.types.specs.Opcode.{LDP, STP}
use Rattle.machine.specs.declared.Entry.{Entry}
use Rattle.machine.specs.State.{Machine, under, with_core, Outcome, Check, check, first, settle}
use Rattle.machine.specs.Queue.{entry, unpacked_entry, front, full, pop, push, started}
use Rattle.machine.specs.Soundness.{sound_header, sound_front}
use Rattle.machine.specs.Pointers.{Site, site_at, Operand}
use Rattle.machine.specs.Execution.{Ending, dat, divisor, Next, ends, goes, splits, Effect}
use Rattle.machine.specs.Instruction.{fetched, a_operand, b_operand, effect_at, core_at, seen_at, written_at}

-- the entry popped, its place PC, and the instruction there
abbrev pub popped : Machine → Entry
popped m = unpacked_entry (front m)

abbrev pub pc : Machine → ℕ
pc m = (popped m).place.0

abbrev pub instruction : Machine → Cell
instruction m = fetched m.core (pc m)

abbrev pub site : Machine → Site
site m = site_at m.header.rules (pc m)

-- evaluate both operands, and execute
abbrev pub operand_a : Machine → Operand
operand_a m = a_operand (site m) m.core

abbrev pub operand_b : Machine → Operand
operand_b m = b_operand (site m) m.core

unfoldable pub effect : Machine → Effect
effect m = effect_at (site m) m.core

unfoldable pub core_after : Machine → List ℕ
core_after m = core_at (site m) m.core

-- the places written; writes are their number
unfoldable pub step_written : Machine → List ℕ
step_written m = written_at (site m) m.core

abbrev pub step_writes : Machine → ℕ
step_writes m = length (step_written m)

-- count one step
unfoldable pub counted : List ℕ → Machine → Machine
counted core m =
    let h = m.header in
    with_core core
    (under (record { rules = h.rules; ring = h.ring; steps = h.steps + 1; names = h.names; counts = h.counts; threads = h.threads }) m)

pub record Queued : Type 0 where
  pub machine : Machine
  pub pushes : ℕ

-- an ended process pushes nothing; others push the next place
-- SPL pushes PC+1 with its thread number, then the A pointer with a new one; the child is dropped, and no number used, when its name already holds
-- P entries after PC+1 is queued
abbrev pub queued : Next → Entry → Machine → Queued
queued (ends x) e m = record { machine = m; pushes = 0 }
queued (goes p) e m = record { machine = push (entry p e.thread e.name) m; pushes = 1 }
queued (splits p c) e m =
    let n = push (entry p e.thread e.name) m in
    cond (full n e.name) (record { machine = n; pushes = 1 }) (record { machine = started c e.name n; pushes = 2 })

-- 11, with place: DAT ended the name's last entry; 12: a zero divisor did
abbrev pub end_told : Ending → ℕ → Told
end_told dat place = gives 11 place
end_told divisor place = gives 12 0

-- the answer is 0 if the name has entries left
abbrev pub next_told : Next → ℕ → ℕ → Told
next_told (ends x) left place = cond (eqb left 0) (end_told x place) (gives 0 0)
next_told (goes p) left place = gives 0 0
next_told (splits p c) left place = gives 0 0

-- pop, count one step, execute, push: of the effect, the core afterwards and the writes
abbrev pub executed_by : Effect → List ℕ → ℕ → Machine → Outcome
executed_by x core writes m =
    let e = popped m in
    let n = counted core (pop m) in
    let q = queued x.next e n in
    let left = get_or n.header.counts e.name 0 in
    let answer = next_told x.next left (pc m) in
    record {
      machine = q.machine;
      number = answer.number;
      value = answer.value;
      writes = writes;
      steps = 1;
      pushes = q.pushes;
    }

unfoldable pub executed : Machine → Outcome
executed m = executed_by (effect m) (core_after m) (step_writes m) m

-- after the header's 9: 7, 9 (front entry), 8, 9 (executed cell), 10, 9 (other cells read, told whether they are sound)
abbrev pub checks_by : Bool → Machine → List Check
checks_by sound m =
    let h = m.header in
    check (eqb h.ring.length 0) 7
    ∷ check (not (sound_front m)) 9
    ∷ check (eqb h.steps 4294967295 || eqb (get_or h.threads (popped m).name 0) 4294967295) 8
    ∷ check (not (sound_word h.rules.size (get_or m.core (pc m) 0))) 9
    ∷ check (among (LDP ∷ STP ∷ []) (instruction m).opcode) 10
    ∷ check (not sound) 9
    ∷ []

abbrev pub next_checks : Machine → List Check
next_checks m = checks_by (every (sound_word m.header.rules.size) (seen_at (site m) m.core)) m

-- 9 (header) comes first
abbrev pub step_checks : Machine → List Check
step_checks m = check (not (sound_header m)) 9 ∷ next_checks m

unfoldable pub step : Machine → Outcome
step m = settle (first (step_checks m)) m (executed m)

-- a step answered 0, 11 or 12 executes one instruction
abbrev pub executes : ℕ → Bool
executes number = among (0 ∷ 11 ∷ 12 ∷ []) number
