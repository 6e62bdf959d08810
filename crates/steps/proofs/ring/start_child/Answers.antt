-- The goals of `steps::ring::start_child` that the check leaves.
use borrow.Author.Tests.{le-leb, lt-leb}
use Rattle.steps.proofs.Queueing.{keeps, starts, started-tail}
use Rattle.steps.proofs.ring.start_child.Goals as goal

pub returns-then-processes-who : goal.returns-then-processes-who
returns-then-processes-who c =
    let a = c.args in
    (keeps a.limit a.queue.now a.processes.now a.place.0 a.name (le-leb _ _ c.if-processes-who.true), c.requires.2)

pub returns : goal.returns
returns c =
    let a = c.args in
    let push = c.push-after.ensures in (
      starts a.limit a.queue.now a.processes.now a.place.0 a.name (lt-leb _ _ c.if-processes-who.false) c.requires.2 c.pack.ensures push.1,
      started-tail a.limit a.queue.now a.processes.now a.place.0 a.name _ c.requires.2 push.1 push.0,
    )
