-- The goals of `cycle::step` that the check leaves.
use mathlib.Core.Path.{ap, ◌∙◌}
use Rattle.machine.proofs.Run.{run-one}
use Rattle.lent.specs.Parts.{machine_of}
use Rattle.lent.specs.Given.{given_by}
use Rattle.cycle.proofs.step.Goals as goal

pub returns : goal.returns
returns c =
    let a = c.args in
    c.run_to.ensures ∙ ap given_by (run-one (machine_of a.core.now a.queue.now a.h))
