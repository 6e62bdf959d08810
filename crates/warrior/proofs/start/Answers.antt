-- The goals of `warrior::start` that the check leaves.
use mathlib.Core.Path.{◌≡◌, sym, ◌∙◌, ap}
use mathlib.Core.Bool.{true}
use Rattle.answer.specs.Numbers.{told}
use Rattle.machine.specs.Soundness.{sound_header}
use Rattle.lent.specs.Parts.{machine_of}
use Rattle.lent.specs.Given.{given, given_by}
use Rattle.lent.proofs.Parts.{whole}
use Rattle.sim.proofs.Refusals.{refusing}
use Rattle.warrior.specs.Tested.{start_tested}
use Rattle.warrior.proofs.Starting.{start-beside-core}
use Rattle.warrior.proofs.Testing.{tested-start, unsound-start}
use Rattle.warrior.proofs.start.Goals as goal

pub returns-then-not-sound_header : goal.returns-then-not-sound_header
returns-then-not-sound_header c =
    let a = c.args in
    refusing a.core.now a.queue.now c.unsound.ensures
    (unsound-start (machine_of a.core.now a.queue.now a.h)
    (sym (c.sound_header.ensures ∙ ap sound_header (whole a.core.now a.queue.now a.h c.processes_of-processes.ensures)) ∙ c.if-not-sound_header.true)
    a.name.now a.place)

pub returns : goal.returns
returns c =
    let a = c.args in
    let w = whole a.core.now a.queue.now a.h c.processes_of-processes.ensures in
    let sound : sound_header (machine_of a.core.now a.queue.now a.h) ≡ true = sym (c.sound_header.ensures ∙ ap sound_header w) ∙ c.if-not-sound_header.false in
    ap (λ h. given (told c.start_parts-answer.result) 0 0 (machine_of a.core.now c.start_parts-answer.new.queue h)) c.header_of.ensures
    ∙ start-beside-core a.core.now a.queue.now a.h.rules a.h.names c.processes_of-processes.result a.name.now a.place c.start_parts-answer.ensures
    ∙ ap (λ m. given_by (start_tested m a.name.now a.place)) w
    ∙ ap given_by (tested-start (machine_of a.core.now a.queue.now a.h) sound a.name.now a.place)
