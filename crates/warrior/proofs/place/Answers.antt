-- The goals of `warrior::place` that the check leaves.
use mathlib.Core.Path.{◌≡◌, sym, ◌∙◌, ap}
use mathlib.Core.Bool.{true}
use Rattle.answer.specs.Numbers.{gives, told_error}
use Rattle.machine.specs.Soundness.{sound_header}
use Rattle.lent.specs.Parts.{machine_of}
use Rattle.lent.specs.Given.{given, given_by}
use Rattle.lent.proofs.Parts.{whole}
use Rattle.sim.proofs.Refusals.{refusing}
use Rattle.warrior.specs.Tested.{place_tested}
use Rattle.warrior.proofs.Placing.{place-beside-queue}
use Rattle.warrior.proofs.Testing.{tested-place, unsound-place}
use Rattle.warrior.proofs.place.Goals as goal

pub returns-then-not-sound_header : goal.returns-then-not-sound_header
returns-then-not-sound_header c =
    let a = c.args in
    refusing a.core.now a.queue.now c.unsound.ensures
    (unsound-place (machine_of a.core.now a.queue.now a.h)
    (sym (c.sound_header.ensures ∙ ap sound_header (whole a.core.now a.queue.now a.h c.processes_of-processes.ensures)) ∙ c.if-not-sound_header.true)
    a.name.now a.place a.body.now)

pub returns-in-Ok : goal.returns-in-Ok
returns-in-Ok c =
    let a = c.args in
    let w = whole a.core.now a.queue.now a.h c.processes_of-processes.ensures in
    let sound : sound_header (machine_of a.core.now a.queue.now a.h) ≡ true = sym (c.sound_header.ensures ∙ ap sound_header w) ∙ c.if-not-sound_header.false in
    ap (λ h. given (gives 0 0) c.in-Ok.writes 0 (machine_of c.place_parts.new.core a.queue.now h)) c.header_of.ensures
    ∙ place-beside-queue a.core.now a.queue.now a.h.rules a.h.names c.processes_of-processes.result a.name.now a.body.now a.place c.in-Ok.ensures
    ∙ ap (λ m. given_by (place_tested m a.name.now a.body.now a.place)) w
    ∙ ap given_by (tested-place (machine_of a.core.now a.queue.now a.h) sound a.name.now a.body.now a.place)

pub returns-in-Err : goal.returns-in-Err
returns-in-Err c =
    let a = c.args in
    let w = whole a.core.now a.queue.now a.h c.processes_of-processes.ensures in
    let sound : sound_header (machine_of a.core.now a.queue.now a.h) ≡ true = sym (c.sound_header.ensures ∙ ap sound_header w) ∙ c.if-not-sound_header.false in
    refusing c.place_parts.new.core a.queue.now c.refuse.ensures
    (ap (λ h. given (told_error c.in-Err.error) 0 0 (machine_of c.place_parts.new.core a.queue.now h)) c.header_of-in-Err.ensures
    ∙ place-beside-queue a.core.now a.queue.now a.h.rules a.h.names c.processes_of-processes.result a.name.now a.body.now a.place c.in-Err.ensures
    ∙ ap (λ m. given_by (place_tested m a.name.now a.body.now a.place)) w
    ∙ ap given_by (tested-place (machine_of a.core.now a.queue.now a.h) sound a.name.now a.body.now a.place))
