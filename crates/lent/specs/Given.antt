-- What a call gives back, put together with the record that it leaves.
-- Believed. Assumes nothing.
use Rattle.std.specs.Prelude.{ℕ, Result, Ok, Err}
use Rattle.answer.specs.declared.Error.{Error}
use Rattle.answer.specs.Numbers.{Told}
use Rattle.machine.specs.State.{Machine, Outcome, told_by}

-- the answer, the writes and the steps that it carries, and the record afterwards
pub record Given : Type 0 where
  pub told : Told
  pub writes : ℕ
  pub steps : ℕ
  pub machine : Machine

abbrev pub given : Told → ℕ → ℕ → Machine → Given
given told writes steps m = record { told = told; writes = writes; steps = steps; machine = m }

-- the same of an outcome
abbrev pub given_by : Outcome → Given
given_by o = given (told_by o) o.writes o.steps o.machine

-- the writes of a call that gives them or an error, which reports 0 of its own
abbrev pub writes_of : Result ℕ Error → ℕ
writes_of (Ok writes) = writes
writes_of (Err _) = 0
