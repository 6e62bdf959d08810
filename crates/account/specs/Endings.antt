-- Two facts that are not the same: a name has no entry left; one entry of a name, perhaps shared, has ended. And that no call ever answers 9.
-- The theorems are in proofs/Endings.antt and proofs/NeverNine.antt.
-- Believed. Assumes nothing.
use Rattle.std.specs.Prelude.{ℕ, ◌+◌, ◌≤◌, ◌<◌, ◌≡◌, true, not, List, eqb, ℤ}
use Rattle.laws.specs.Lists.{one_if, tally, same}
use Rattle.machine.specs.declared.Rules.{Rules}
use Rattle.machine.specs.State.{Machine}
use Rattle.machine.specs.Names.{count_of}
use Rattle.machine.specs.Queue.{name_of, entries_of, front}
use Rattle.machine.specs.Fresh.{fresh}
use Rattle.machine.specs.Step.{step, executes}
use Rattle.machine.specs.Run.{read}
use Rattle.account.specs.Calls.{left, Event}
use Rattle.account.specs.Lists.{Listed, outcome_of}
use Rattle.account.specs.Account.{Account, start_of, child_of, ending_of, since_ending}

-- where the account holds of a record and of what 01's machine tells: a name has no entry left exactly when it has as many endings as accepted starts and children;
-- then its count is 0, and it has executed nothing since its last ending
abbrev pub NoEntryLeft : Type 0
NoEntryLeft =
    (m : Machine) (w : ℕ) (log : List Event) → Account m w log → (n : List ℕ)
    → tally (ending_of n) log ≡ tally (start_of n) log + tally (child_of n) log → entries_of m n ≡ 0

abbrev pub NoEntryLeftSays : Type 0
NoEntryLeftSays =
    (m : Machine) (w : ℕ) (log : List Event) → Account m w log → (n : List ℕ)
    → entries_of m n ≡ 0 → (tally (ending_of n) log ≡ tally (start_of n) log + tally (child_of n) log) × (count_of m.header n ≡ 0) × (since_ending n log ≡ 0)

-- with fewer endings the name runs on, whatever ended: it has entries, as many as its count
abbrev pub RunsOn : Type 0
RunsOn =
    (m : Machine) (w : ℕ) (log : List Event) → Account m w log → (n : List ℕ)
    → tally (ending_of n) log < tally (start_of n) log + tally (child_of n) log → (1 ≤ entries_of m n) × (count_of m.header n ≡ entries_of m n)

-- after every list of calls from a machine just made
abbrev pub reached : Rules → List ℕ → List ℕ → List Listed → Machine
reached rules core queue calls = left outcome_of calls (fresh rules core queue).machine

-- an ending takes one entry from its name, and none from another
abbrev pub EndedOne : Type 0
EndedOne =
    (rules : Rules) (core queue : List ℕ) → (fresh rules core queue).number ≡ 0 → (calls : List Listed)
    → let m = reached rules core queue calls in executes (step m).number ≡ true → (step m).pushes ≡ 0
    → (n : List ℕ) → entries_of (step m).machine n + one_if (same (name_of m (front m)) n) ≡ entries_of m n

-- the answer tells whether the name has entries left, not whether one ended: 0 where it has some, 11 or 12 where it has none
abbrev pub AnswerSays : Type 0
AnswerSays =
    (rules : Rules) (core queue : List ℕ) → (fresh rules core queue).number ≡ 0 → (calls : List Listed)
    → let m = reached rules core queue calls in executes (step m).number ≡ true
    → eqb (step m).number 0 ≡ not (eqb (entries_of (step m).machine (name_of m (front m))) 0)

-- no call answers 9, and every cell reading is answered 0
abbrev pub NeverNine : Type 0
NeverNine =
    (rules : Rules) (core queue : List ℕ) → (fresh rules core queue).number ≡ 0
    → (calls : List Listed) (c : Listed) → (outcome_of c (reached rules core queue calls)).number ≡ 9 → ⊥

abbrev pub ReadingDone : Type 0
ReadingDone =
    (rules : Rules) (core queue : List ℕ) → (fresh rules core queue).number ≡ 0
    → (calls : List Listed) (z : ℤ) → (read (reached rules core queue calls) z).number ≡ 0
