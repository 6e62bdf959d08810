-- The goals of `steps::ring::requeue` that the check leaves.
use mathlib.Core.Path.{ap, ◌∙◌}
use Rattle.machine.specs.declared.Entry.{Entry}
use Rattle.machine.specs.Queue.{unpacked_entry}
use Rattle.machine.specs.Execution.{dat, divisor}
use Rattle.steps.specs.Inner.Queueing.{next_of, writes_of}
use Rattle.steps.proofs.Queueing.{moved-is, child-asks, goes_on, splits-on, ended-on}
use Rattle.steps.proofs.ring.requeue.Goals as goal

pub start_child-requires : goal.start_child-requires
start_child-requires c =
    child-asks c.requires.0 _ c.slot_after-processes.ensures c.push-after.ensures (c.unpack.ensures ∙ ap unpacked_entry c.requires.1)

pub returns-in-Goes : goal.returns-in-Goes
returns-in-Goes c =
    let push = c.push.ensures in
    goes_on c.requires.0 c.in-Goes.is c.slot_after-processes.ensures push.0 (push.1 ∙ moved-is c.requires.0 _ c.requires.1 c.moved.ensures)

pub returns-in-Splits : goal.returns-in-Splits
returns-in-Splits c =
    splits-on c.requires.0 c.in-Splits.is c.slot_after-processes.ensures (ap (λ (e : Entry). e.name) (c.unpack.ensures ∙ ap unpacked_entry c.requires.1))
    (c.push-after.ensures.1 ∙ moved-is c.requires.0 _ c.requires.1 c.moved-in-Splits.ensures) c.start_child.ensures

pub returns-in-Dat : goal.returns-in-Dat
returns-in-Dat c =
    let is = c.in-Dat.is in
    ended-on c.requires.0 dat (ap next_of is) (ap writes_of is) c.slot_after-processes.ensures (c.unpack-e.ensures ∙ ap unpacked_entry c.requires.1) c.end_process.ensures

pub returns-in-DivideByZero : goal.returns-in-DivideByZero
returns-in-DivideByZero c =
    let is = c.in-DivideByZero.is in
    ended-on c.requires.0 divisor (ap next_of is) (ap writes_of is) c.slot_after-processes.ensures (c.unpack-in-DivideByZero.ensures ∙ ap unpacked_entry c.requires.1)
    c.end_process-in-DivideByZero.ensures
