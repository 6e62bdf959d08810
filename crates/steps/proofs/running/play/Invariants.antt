-- What the loop of `steps::running::play` keeps, and its measure.
use Prim.Native.Nat.{◌-◌}
use Rattle.lent.specs.Parts.{unnamed}
use Rattle.steps.proofs.Rounds.{Round}
use Rattle.steps.proofs.running.play.Given as goal

abbrev pub invariant-loop-processes : goal.invariant-loop-processes
invariant-loop-processes l =
    let i = l.initial in
    Round l.until (unnamed i.core i.queue l.setting.rules l.setting.held i.processes) (unnamed l.core l.queue l.setting.rules l.setting.held l.processes) l.writes l.tail

abbrev pub decreases-loop-processes : goal.decreases-loop-processes
decreases-loop-processes l = l.until - l.processes.steps
