-- The machine, what a call gives back, and the order of its refusals (01, 'What a call gives back').
-- Believed. Assumes nothing.
use Rattle.std.specs.Prelude.{ℕ, ◌+◌, Bool, cond, not, List, [], ◌∷◌, eqb}
use Rattle.answer.specs.Numbers.{Told, gives}
use Rattle.laws.specs.Lists.{every}
use Rattle.machine.specs.declared.Header.{Header}
use Rattle.machine.specs.declared.Rules.{Rules}

-- the rules of a core of that size and a process limit, with both other limits M
abbrev pub of_size : ℕ → ℕ → Rules
of_size size processes = record { size = size; read = size; write = size; processes = processes }

-- the core memory, the queue memory and the header
pub record Machine : Type 0 where
  pub core : List ℕ
  pub queue : List ℕ
  pub header : Header

-- the same memories with another header
abbrev pub under : Header → Machine → Machine
under h m = record { core = m.core; queue = m.queue; header = h }

-- the same machine with another core
abbrev pub with_core : List ℕ → Machine → Machine
with_core core m = record { core = core; queue = m.queue; header = m.header }

-- the same core with another queue memory and header
abbrev pub with_queue : List ℕ → Header → Machine → Machine
with_queue queue h m = record { core = m.core; queue = queue; header = h }

-- the machine afterwards; 01's number and value; writes; steps; entries pushed
pub record Outcome : Type 0 where
  pub machine : Machine
  pub number : ℕ
  pub value : ℕ
  pub writes : ℕ
  pub steps : ℕ
  pub pushes : ℕ

abbrev pub told_by : Outcome → Told
told_by o = gives o.number o.value

-- a call that is answered 0 and leaves m, with its writes and entries pushed
abbrev pub done : Machine → ℕ → ℕ → Outcome
done m writes pushes = record { machine = m; number = 0; value = 0; writes = writes; steps = 0; pushes = pushes }

-- one outcome before another
abbrev pub joined : Outcome → Outcome → Outcome
joined o r =
    record {
      machine = r.machine;
      number = r.number;
      value = r.value;
      writes = o.writes + r.writes;
      steps = o.steps + r.steps;
      pushes = o.pushes + r.pushes;
    }

-- and then f on what it leaves, up to the first answer not 0
abbrev pub and_then : Outcome → (Machine → Outcome) → Outcome
and_then o f = let more = joined o (f o.machine) in cond (eqb o.number 0) more o

-- a row of 01's order: the number that is given where the test passes, and its value
pub record Check : Type 0 where
  pub applies : Bool
  pub number : ℕ
  pub value : ℕ

abbrev pub check : Bool → ℕ → Check
check b n = record { applies = b; number = n; value = 0 }

pub data Verdict : Type 0 where
  accepted : Verdict
  refusal : ℕ → ℕ → Verdict

-- the first row that applies
abbrev pub first : List Check → Verdict
first [] = accepted
first (c ∷ cs) = cond c.applies (refusal c.number c.value) (first cs)

-- no row applies
abbrev pub passes : List Check → Bool
passes cs = every (λ c. not c.applies) cs

-- a refusal leaves the machine unchanged and reports 0 of its own
abbrev pub settle : Verdict → Machine → Outcome → Outcome
settle accepted m o = o
settle (refusal n v) m o = record { machine = m; number = n; value = v; writes = 0; steps = 0; pushes = 0 }

-- what a verdict tells: the number and value of the row that applies, 0 where none does
abbrev pub verdict_told : Verdict → Told
verdict_told accepted = gives 0 0
verdict_told (refusal n v) = gives n v
