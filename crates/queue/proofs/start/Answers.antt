-- The goals of `queue::start` that the check leaves.
use mathlib.Core.Path.{sym, ◌∙◌}
use Rattle.queue.proofs.Rings.{not_started, is-started}
use Rattle.queue.proofs.start.Goals as goal

pub returns-then-not-can_start : goal.returns-then-not-can_start
returns-then-not-can_start c =
    let a = c.args in
    not_started a.queue.now a.processes.now a.place.0 a.name (sym c.can_start.ensures ∙ c.if-not-can_start.true)

pub returns : goal.returns
returns c =
    let a = c.args in
    is-started a.queue.now a.processes.now a.place.0 a.name (sym c.can_start.ensures ∙ c.if-not-can_start.false) c.ahead-at.ensures c.pack.ensures
