-- The goals of `steps::modifier::meet` that the check leaves.
use Rattle.std.proofs.Common.{rules}
use Rattle.steps.specs.Inner.Acts.{first_of, last_of}
use Rattle.steps.proofs.modifier.meet.Goals as goal

pub returns : goal.returns
unfolding first_of last_of
returns c = search rules
