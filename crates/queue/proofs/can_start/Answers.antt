-- The goals of `queue::can_start` that the check leaves.
use Rattle.lent.specs.Parts.{queue_of}
use Rattle.queue.proofs.Rings.{tests}
use Rattle.queue.proofs.can_start.Goals as goal

pub returns : goal.returns
returns c = let a = c.args in tests (queue_of a.queue.now a.processes.now) a.name c.if-name.false c.headed.ensures
