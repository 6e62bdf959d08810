-- The theorems of specs/Endings.antt: a name has no entry left; one entry of a name, perhaps shared, has ended.
-- Assumes nothing.
use native.Mathlib.Nat.{zero-mul, add-zero}
use native.Mathlib.Omega.{arith}
use Rattle.machine.specs.State.{Machine}
use Rattle.machine.proofs.ByName.{step-entries, step-answered}
use Rattle.machine.proofs.SoundMachine.{SoundMachine}
use Rattle.account.specs.Endings.{NoEntryLeft, NoEntryLeftSays, RunsOn, reached, EndedOne, AnswerSays}
use Rattle.account.proofs.NeverNine.{always-sound}

pub no_entry_left : NoEntryLeft
no_entry_left m w log a n e = let b = a.entries n in omega arith

pub no_entry_left_says : NoEntryLeftSays
no_entry_left_says m w log a n e = let b = a.entries n in let c = a.counts n in (omega arith, omega arith, a.idle n e)

pub runs_on : RunsOn
runs_on m w log a n e = let b = a.entries n in let c = a.counts n in (omega arith, omega arith)

pub ended_one : EndedOne
ended_one rules core queue ok calls x p n =
    let m : Machine = reached rules core queue calls in
    let s : SoundMachine m = always-sound rules core queue ok calls in
    rw (p, zero-mul, add-zero) at ((step-entries m s.header.shape s.agree x).entries n)

pub answer_says : AnswerSays
answer_says rules core queue ok calls x =
    let s = always-sound rules core queue ok calls in
    step-answered (reached rules core queue calls) s.header.shape s.agree x
