-- What the run loop asks of the parts that it is lent, which have no names, and what it promises of them.
-- Inner. Assumes nothing.
use Rattle.std.specs.Prelude.{ℕ, zero, suc, ◌+◌, ◌-◌, ◌≤◌, ◌<◌, ◌≡◌, true, ◌⊎◌, leb, length, take, Result}
use Rattle.answer.specs.declared.Error.{Error}
use Rattle.laws.specs.Lists.{every, total}
use Rattle.machine.specs.State.{Machine, Outcome, done, and_then, refusal, first, passes, settle}
use Rattle.machine.specs.Soundness.{fresh_checks}
use Rattle.machine.specs.Step.{next_checks, executed}
use Rattle.scan.specs.Scanning.{scanned}
use Rattle.steps.specs.declared.Ran.{Ran}

-- the tests of its header that a step uses, all but those of the names' bytes, and arrays of their lengths
pub record Ready (m : Machine) : Type 0 where
  pub taken : passes (fresh_checks m.header.rules m.core m.queue) ≡ true
  pub fits : m.header.ring.length ≤ length m.queue
  pub head : m.header.ring.head < length m.queue
  pub few : m.header.names.held ≤ 16
  pub sum : total (take m.header.names.held m.header.counts) ≡ m.header.ring.length
  pub within : every (λ c. leb c m.header.rules.processes) (take m.header.names.held m.header.counts) ≡ true
  pub counts : length m.header.counts ≡ 16
  pub threads : length m.header.threads ≡ 16

-- one step after the test of the header, and up to k steps, up to the first answer not 0
unfoldable pub step_of : Machine → Outcome
step_of m = settle (first (next_checks m)) m (executed m)

unfoldable pub plays_of : ℕ → Machine → Outcome
plays_of zero m = done m 0 0
plays_of (suc k) m = and_then (step_of m) (plays_of k)

-- its next step can be refused by 10 only
pub record Playable (m : Machine) : Type 0 where
  pub only : (n v : ℕ) → first (next_checks m) ≡ refusal n v → n ≡ 10

-- an entry is queued, and the record was looked through for the steps up to a ceiling
pub record Scanned (ceiling : ℕ) (m : Machine) : Type 0 where
  pub all : scanned (ceiling - m.header.steps) m ≡ true
  pub some : 0 < m.header.ring.length

-- so it was, or there is one step and that one can be refused by 10 only
abbrev pub Plays : ℕ → Machine → Type 0
Plays ceiling m = Scanned ceiling m ⊎ ((ceiling ≡ m.header.steps + 1) × Playable m)

-- what a run gives back
abbrev pub ran_of : Result (Unit {0}) Error → ℕ → ℕ → ℕ → Ran
ran_of answer writes before taken = record { answer = answer; writes = writes; steps = taken - before }
