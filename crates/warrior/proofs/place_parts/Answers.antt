-- The goals of `warrior::place_parts` that the check leaves.
use mathlib.Core.Path.{◌≡◌, ◌∙◌, ap, refl}
use mathlib.Core.List.{[]}
use Rattle.std.proofs.Common.{rules, Err}
use Rattle.answer.proofs.Numbers.{not_zero}
use Rattle.answer.specs.Numbers.{told}
use Rattle.lent.specs.Parts.{parts}
use Rattle.lent.specs.Given.{given, writes_of}
use Rattle.warrior.proofs.Placing.{fitting, place-refused, place-passed, place-done}
use Rattle.warrior.proofs.place_parts.Goals as goal

pub returns-in_err-place_refusal : goal.returns-in_err-place_refusal
returns-in_err-place_refusal c =
    let a = c.args in
    let m = parts a.core.now [] a.rules a.names.now a.processes.now in
    let is : c.from_residual.result ≡ Err c.in_err-place_refusal.field-0.0 = search rules in
    ap (λ r. given (told r) (writes_of r) 0 m) is
    ∙ place-refused a.core.now [] a.rules a.names.now a.processes.now a.name.now a.body.now a.place (c.in_err-place_refusal.ensures) (not_zero c.in_err-place_refusal.field-0.0)

pub slot_of-requires : goal.slot_of-requires
slot_of-requires c =
    let a = c.args in
    (fitting a.rules.size a.names.now a.name.now a.body.now a.place
    (place-passed a.core.now [] a.rules a.names.now a.processes.now a.name.now a.body.now a.place c.in_ok-place_refusal.ensures refl)).name.few

pub returns : goal.returns
returns c =
    let a = c.args in
    let named = rw c.called.ensures at c.slot_of.ensures.named in
    let passed = place-passed a.core.now [] a.rules a.names.now a.processes.now a.name.now a.body.now a.place c.in_ok-place_refusal.ensures refl in
    place-done a.core.now [] a.rules a.names.now a.processes.now a.name.now a.body.now a.place passed named c.place_body.ensures c.len.ensures
