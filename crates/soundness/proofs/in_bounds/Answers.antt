-- The goals of `soundness::in_bounds` that the check leaves.
use Rattle.soundness.proofs.Headers.{in-bounds-tests}
use Rattle.soundness.proofs.in_bounds.Goals as goal

pub returns : goal.returns
returns c = let a = c.args in in-bounds-tests a.core.now a.queue.now a.rules a.ring.head c.valid_limits-limits.ensures
