-- The goals of `steps::opcode::copy` that the check leaves.
use mathlib.Core.Path.{◌∙◌}
use Rattle.laws.proofs.Fields.{replace}
use Rattle.steps.proofs.Copies.{copy_is}
use Rattle.steps.proofs.opcode.copy.Goals as goal

pub returns : goal.returns
returns c = replace 8 6 32 _ _ tt ∙ copy_is _ _
