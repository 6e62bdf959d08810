-- The goals of `warrior::start_parts` that the check leaves.
use mathlib.Core.Path.{◌≡◌, ◌∙◌, ap, refl}
use mathlib.Core.List.{[]}
use Rattle.std.proofs.Common.{rules, Err}
use Rattle.answer.proofs.Numbers.{not_zero}
use Rattle.answer.specs.Numbers.{told}
use Rattle.lent.specs.Parts.{parts}
use Rattle.lent.specs.Given.{given}
use Rattle.warrior.proofs.Starting.{ready, start-refused, start-passed, start-done}
use Rattle.warrior.proofs.start_parts.Goals as goal

pub returns-in_err-start_refusal : goal.returns-in_err-start_refusal
returns-in_err-start_refusal c =
    let a = c.args in
    let m = parts [] a.queue.now a.rules a.names.now a.processes.now in
    let is : c.from_residual.result ≡ Err c.in_err-start_refusal.field-0.0 = search rules in
    ap (λ r. given (told r) 0 0 m) is
    ∙ start-refused [] a.queue.now a.rules a.names.now a.processes.now a.name.now a.place (c.in_err-start_refusal.ensures) (not_zero c.in_err-start_refusal.field-0.0)

pub slot_of-i-requires : goal.slot_of-i-requires
slot_of-i-requires c =
    let a = c.args in
    (ready (parts [] a.queue.now a.rules a.names.now a.processes.now) a.name.now a.place
    (start-passed [] a.queue.now a.rules a.names.now a.processes.now a.name.now a.place c.in_ok-start_refusal.ensures refl)).held.few

pub returns : goal.returns
returns c =
    let a = c.args in
    let index = rw c.called.ensures at c.slot_of-i.ensures.slot in
    let named = rw c.called.ensures at c.slot_of-i.ensures.named in
    let passed = start-passed [] a.queue.now a.rules a.names.now a.processes.now a.name.now a.place c.in_ok-start_refusal.ensures refl in
    start-done [] a.queue.now a.rules a.names.now a.processes.now a.name.now a.place passed index named c.start.ensures
