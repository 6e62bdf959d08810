-- A queue with its front entry and its tail, the slot that the next entry goes to, and what an executed instruction does to it.
-- Inner. Assumes nothing.
use Rattle.std.specs.Prelude.{ℕ, ◌-◌, ◌/◌, ◌^◌, ◌<◌, ◌≤◌, ◌≡◌, List, [], length, get_or, set}
use Rattle.answer.specs.Numbers.{told}
use Rattle.offset.specs.Offset.{ahead}
use Rattle.machine.specs.declared.Processes.{Processes}
use Rattle.machine.specs.declared.Ring.{Ring}
use Rattle.machine.specs.State.{of_size, Machine}
use Rattle.machine.specs.Queue.{pop}
use Rattle.machine.specs.Execution.{dat, divisor, Next, ends, goes, splits}
use Rattle.machine.specs.Step.{popped, pc, queued, next_told}
use Rattle.lent.specs.Parts.{unnamed}
use Rattle.steps.specs.declared.opcode.Executed.{Executed}
use Rattle.steps.specs.declared.opcode.Executed.TheVariants.{Goes, Splits, Dat, DivideByZero}
use Rattle.steps.specs.declared.ring.Stepped.{Stepped}

abbrev pub ring_of : ℕ → ℕ → Ring
ring_of head length = record { head = head; length = length }

-- a queue alone with a process limit
abbrev pub limited_queue : ℕ → List ℕ → Processes → Machine
limited_queue processes queue p = unnamed [] queue (of_size 0 processes) 0 p

-- the slot that the next entry goes to
abbrev pub tail_of : Machine → ℕ
tail_of m = ahead (length m.queue) m.header.ring.head m.header.ring.length

-- the front entry's upper bits are zero, its name is counted and has a thread number left, and the next entry goes to the tail
pub record Front (m : Machine) (tail : ℕ) : Type 0 where
  pub slots : length m.queue ≤ 65535
  pub head : m.header.ring.head < length m.queue
  pub some : 0 < m.header.ring.length
  pub fits : m.header.ring.length ≤ length m.queue
  pub behind : tail ≡ tail_of m
  pub upper : get_or m.queue m.header.ring.head 0 / 2 ^ 52 ≡ 0
  pub sixteen : length m.header.counts ≡ 16
  pub count : 0 < get_or m.header.counts (popped m).name 0
  pub counted : get_or m.header.counts (popped m).name 0 ≤ length m.queue
  pub number : get_or m.header.threads (popped m).name 0 ≡ 4294967295 → ⊥

-- the next places and the writes of an executed instruction
abbrev pub next_of : Executed → Next
next_of (Goes p w) = goes p.0
next_of (Splits p c w) = splits p.0 c.0
next_of (Dat w) = ends dat
next_of (DivideByZero w) = ends divisor

abbrev pub writes_of : Executed → ℕ
writes_of (Goes p w) = w
writes_of (Splits p c w) = w
writes_of (Dat w) = w
writes_of (DivideByZero w) = w

-- the place at which the process goes on fits an entry
abbrev pub Near : Executed → Type 0
Near (Goes p w) = p.0 < 65536
Near (Splits p c w) = p.0 < 65536
Near (Dat w) = Unit {0}
Near (DivideByZero w) = Unit {0}

-- a process of a name popped and not pushed again, the head already moved on
abbrev pub ended : ℕ → Processes → Processes
ended name p =
    record {
      ring = ring_of p.ring.head (p.ring.length - 1);
      steps = p.steps;
      counts = set p.counts name (get_or p.counts name 0 - 1);
      threads = p.threads;
    }

-- the front entry popped, and the next places pushed
pub record Requeued (m : Machine) (x : Executed) (r : Stepped) (n : Machine) : Type 0 where
  pub machine : n ≡ (queued (next_of x) (popped m) (pop m)).machine
  pub answer : told r.answer ≡ next_told (next_of x) (get_or (pop m).header.counts (popped m).name 0) (pc m)
  pub writes : r.writes ≡ writes_of x
  pub tail : r.tail ≡ tail_of n
