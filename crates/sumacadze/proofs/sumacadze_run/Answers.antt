-- The goals of `sumacadze::sumacadze_run` that the check leaves.
use Rattle.machine.specs.Run.{run}
use Rattle.machine.proofs.Run.{run-fixed}
use Rattle.lent.specs.Parts.{machine_of}
use Rattle.sumacadze.specs.Report.{ceiling_if}
use Rattle.sumacadze.proofs.Changed.{changed-in_numbers}
use Rattle.sumacadze.proofs.sumacadze_run.Goals as goal

pub returns : goal.returns
returns c =
    let a = c.args in
    let m = machine_of a.core.now a.queue.now a.header.now in
    let ceiling = ceiling_if a.said a.ceiling in
    let ran = rw c.ceiling_if.ensures at c.run-s.ensures in
    changed-in_numbers a.header.now (run ceiling m) c.run-s.result.answer c.hand_back.ensures.changed c.hand_back.ensures.told ran (run-fixed ceiling m)
