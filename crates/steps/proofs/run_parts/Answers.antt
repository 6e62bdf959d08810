-- The goals of `steps::run_parts` that the check leaves.
use Rattle.std.specs.Prelude.{Some}
use mathlib.Core.Path.{sym, ap, ◌∙◌}
use Rattle.lent.specs.Parts.{parts, unnamed}
use Rattle.lent.specs.Given.{Given, given, given_by}
use Rattle.steps.proofs.Calls.{unsound-run, is-sound}
use Rattle.steps.proofs.Naming.{naming, sound-ready, unnamed-ready, run-named}
use Rattle.steps.proofs.run_parts.Goals as goal

pub returns-then-not-sound_header : goal.returns-then-not-sound_header
returns-then-not-sound_header c =
    let a = c.args in
    unsound-run (Some a.ceiling) (parts a.core.now a.queue.now a.rules a.names.now a.processes.now) (sym c.sound_header.ensures ∙ c.if-not-sound_header.true)

pub run_loop-requires : goal.run_loop-requires
run_loop-requires c =
    let a = c.args in
    let m = parts a.core.now a.queue.now a.rules a.names.now a.processes.now in
    let sound = is-sound m (sym c.sound_header.ensures ∙ c.if-not-sound_header.false) c.sized.ensures in
    unnamed-ready (unnamed a.core.now a.queue.now a.rules a.names.now.held a.processes.now) a.names.now.bytes a.names.now.lengths (sound-ready m sound)

pub returns : goal.returns
returns c =
    let a = c.args in
    let m = parts a.core.now a.queue.now a.rules a.names.now a.processes.now in
    let sound = is-sound m (sym c.sound_header.ensures ∙ c.if-not-sound_header.false) c.sized.ensures in
    let lent = unnamed a.core.now a.queue.now a.rules a.names.now.held a.processes.now in
    ap (λ (x : Given). given x.told x.writes x.steps (naming a.names.now.bytes a.names.now.lengths x.machine)) c.run_loop.ensures
    ∙ sym (ap given_by (run-named a.names.now.bytes a.names.now.lengths a.ceiling lent sound))
