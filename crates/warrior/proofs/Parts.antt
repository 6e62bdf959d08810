-- The parts of a record: a name registered in them, and a process started.
-- Assumes nothing.
use mathlib.Core.Path.{◌≡◌, refl}
use mathlib.Core.Bool.{Bool, true, false, cond}
use mathlib.Core.List.{List}
use Prim.Native.Nat.{ℕ, ◌<◌}
use native.Mathlib.Omega.{arith}
use lib.ListN.{length}
use borrow.Author.Tests.{eqb-true, le-leb, lt-ltb}
use Rattle.machine.specs.declared.Header.{Header}
use Rattle.machine.specs.declared.Processes.{Processes}
use Rattle.machine.specs.declared.Roster.{Roster}
use Rattle.machine.specs.declared.Rules.{Rules}
use Rattle.machine.specs.State.{Machine, with_core}
use Rattle.machine.specs.Names.{slot, is_new, register, registered, numbered}
use Rattle.machine.specs.Queue.{push, started}
use Rattle.lent.specs.Parts.{processes_of, header_of, parts, named_of, queue_of, can_start, start_if, register_if}
use Rattle.warrior.specs.Inner.Accepted.{Accepted}

-- the processes of a record's part, in the record
module _ (core : List ℕ) (rules : Rules) (names : Roster) where
  abbrev pub within : Machine → Machine
  within q = parts core q.queue rules names (processes_of q.header)

  pub starts_within : (at i : ℕ) (queue : List ℕ) (p : Processes) → within (start_if at i (queue_of queue p)) ≡ start_if at i (parts core queue rules names p)
  unfolding start_if started push numbered
  starts_within at i queue p = go (can_start (queue_of queue p) i)
    where
      go : (b : Bool) → within (cond b (started at i (queue_of queue p)) (queue_of queue p))
          ≡ cond b (started at i (parts core queue rules names p)) (parts core queue rules names p)
      go true = refl
      go false = refl

-- and whatever the core is
pub start-beside : (core : List ℕ) (at i : ℕ) (m : Machine) → with_core core (start_if at i m) ≡ start_if at i (with_core core m)
unfolding start_if started push numbered
start-beside core at i m = go (can_start m i)
  where
    go : (b : Bool) → with_core core (cond b (started at i m) m) ≡ cond b (started at i (with_core core m)) (with_core core m)
    go true = refl
    go false = refl

-- the names of a record's part, under its rules
abbrev pub under_rules : Rules → Header → Header
under_rules rules g = header_of rules g.names (processes_of g)

-- the names after registering, from their parts
pub registered-is : (rules : Rules) (names : Roster) (p : Processes) (name : List ℕ) → Accepted names name
    → under_rules rules (cond (is_new names name) (register_if (named_of names p) name) (named_of names p)) ≡ registered (header_of rules names p) name
unfolding register_if register
registered-is rules names p name a = go (is_new names name) refl
  where
    go : (b : Bool) → is_new names name ≡ b → under_rules rules (cond b (register_if (named_of names p) name) (named_of names p))
        ≡ cond b (register (header_of rules names p) name) (header_of rules names p)
    go true e =
        let k : slot names name ≡ names.held = eqb-true (slot names name) names.held e in
        let f : slot names name < 16 = a.free in
        simp (lt-ltb names.held 16 (omega arith), le-leb (length name) 32 a.short)
    go false e = refl
