-- The goals of `sim::fresh` that the check leaves.
use mathlib.Core.Bool.{not}
use Rattle.std.proofs.Common.{rules}
use mathlib.Core.Path.{ap, ◌∙◌, sym}
use Rattle.sim.proofs.Refusals.{refusing}
use Rattle.sim.proofs.FreshMachine.{bad-size, bad-memory, bad-limit, made}
use Rattle.sim.proofs.fresh.Goals as goal

pub returns-then-not-size : goal.returns-then-not-size
returns-then-not-size c =
    let s = c.args in
    refusing s.core.now s.queue.now c.no_machine.ensures (bad-size s.rules s.core.now s.queue.now (ap not c.if-not-size.true))

pub returns-then-core-size : goal.returns-then-core-size
returns-then-core-size c =
    let s = c.args in
    refusing s.core.now s.queue.now c.no_machine-then-core-size.ensures
    (bad-memory s.rules s.core.now s.queue.now (ap not c.if-not-size.false) c.valid_processes-processes.ensures c.if-core-size.true)

pub returns-then-not-valid_limits : goal.returns-then-not-valid_limits
returns-then-not-valid_limits c =
    let s = c.args in
    refusing s.core.now s.queue.now c.no_machine-then-not-valid_limits.ensures
    (bad-limit s.rules s.core.now s.queue.now (ap not c.if-not-size.false) c.valid_processes-processes.ensures c.if-core-size.false (sym c.valid_limits.ensures ∙ c.if-not-valid_limits.true))

pub returns : goal.returns
returns c =
    let s = c.args in
    made s.rules s.core.now s.queue.now (ap not c.if-not-size.false) c.valid_processes-processes.ensures c.if-core-size.false (sym c.valid_limits.ensures ∙ c.if-not-valid_limits.false)
    c.fresh_cell.ensures (c.fill.ensures.after (λ y e. search rules)) (c.fill-2.ensures.after (λ y e. search rules)) c.blank.ensures
