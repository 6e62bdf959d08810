-- What the loop of `steps::running::run_loop` keeps, and its measure.
use Prim.Native.Nat.{◌-◌, ◌≤◌}
use Rattle.lent.specs.Parts.{unnamed}
use Rattle.steps.proofs.Loop.{Going}
use Rattle.steps.proofs.Rounds.{Trusting}
use Rattle.steps.proofs.running.run_loop.Given as goal

abbrev pub invariant-loop-processes : goal.invariant-loop-processes
invariant-loop-processes l =
    let i = l.initial in
    let m = unnamed l.core l.queue l.setting.rules l.setting.held l.processes in
    Going l.ceiling (unnamed i.core i.queue l.setting.rules l.setting.held i.processes) m l.writes × Trusting l.ceiling l.trusted m × (l.processes.steps ≤ 4294967295)

abbrev pub decreases-loop-processes : goal.decreases-loop-processes
decreases-loop-processes l = l.ceiling - l.processes.steps
