-- The goals of `sumacadze::sumacadze_step` that the check leaves.
use Rattle.machine.specs.Step.{step}
use Rattle.machine.proofs.Step.{step-fixed}
use Rattle.lent.specs.Parts.{machine_of}
use Rattle.sumacadze.proofs.Changed.{changed-in_numbers}
use Rattle.sumacadze.proofs.sumacadze_step.Goals as goal

pub returns : goal.returns
returns c =
    let a = c.args in
    let m = machine_of a.core.now a.queue.now a.header.now in
    changed-in_numbers a.header.now (step m) c.step-s.result.answer c.hand_back.ensures.changed c.hand_back.ensures.told c.step-s.ensures (step-fixed m)
