-- The goals of `cycle::run` that the check leaves.
use Rattle.std.specs.Prelude.{Some, None, unwrap_or}
use mathlib.Core.Path.{◌≡◌, refl, ◌∙◌}
use Rattle.machine.specs.Run.{Ceiling, ceiling_of}
use Rattle.lent.specs.Parts.{machine_of}
use Rattle.steps.proofs.Calls.{run_by}
use Rattle.cycle.proofs.run.Goals as goal

ceiling-is : (c : Ceiling) → unwrap_or c 10000 ≡ ceiling_of c
ceiling-is None = refl
ceiling-is (Some n) = refl

pub returns : goal.returns
returns c =
    let a = c.args in
    c.run_to.ensures ∙ run_by a.ceiling (machine_of a.core.now a.queue.now a.h) (c.unwrap_or.ensures ∙ ceiling-is a.ceiling)
