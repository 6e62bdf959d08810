-- The process limit belongs to each warrior (02, A.4): the queue has room for every name, and a name's children are dropped by its own count alone.
-- Believed. Assumes nothing. The theorem is in proofs/ProcessLimit.antt.
use Rattle.std.specs.Prelude.{ℕ, ◌<◌, ◌≡◌, Bool, true, false, ◌&&◌, List, eqb, length, get_or}
use Rattle.machine.specs.State.{Machine}
use Rattle.machine.specs.Names.{seventeenth, count_of}
use Rattle.machine.specs.Queue.{front, full}
use Rattle.machine.specs.Soundness.{sound_header}
use Rattle.machine.specs.Execution.{is_split}
use Rattle.machine.specs.Step.{popped, effect, step, executes}

-- a step drops a child: SPL is executed, and PC+1 alone is pushed
abbrev pub drops : Machine → Bool
drops m = is_split (effect m).next && eqb (step m).pushes 1

-- two machines in which the same process of a name is at the front, in the same core and by the same rules, and that name holds as many entries:
-- what other names hold, how many they are and where the ring lies may differ
pub record SameOwn (m n : Machine) : Type 0 where
  pub rules : m.header.rules ≡ n.header.rules
  pub core : m.core ≡ n.core
  pub front : front m ≡ front n
  pub count : get_or m.header.counts (popped m).name 0 ≡ get_or n.header.counts (popped m).name 0

pub record ProcessLimit : Type 0 where
  -- under a sound header the queue has room for an entry of every name that may be held and holds fewer than P
  pub room : (m : Machine) (name : List ℕ) → sound_header m ≡ true → seventeenth m.header.names name ≡ false
      → count_of m.header name < m.header.rules.processes → m.header.ring.length < length m.queue
  -- a step drops its child exactly where its name held P entries before the step
  pub exactly : (m : Machine) → executes (step m).number ≡ true → drops m ≡ (is_split (effect m).next && full m (popped m).name)
  -- so two machines that differ only in what other names hold drop the child of a step of this name both or neither
  pub alone : (m n : Machine) → SameOwn m n → executes (step m).number ≡ true → executes (step n).number ≡ true → drops m ≡ drops n
