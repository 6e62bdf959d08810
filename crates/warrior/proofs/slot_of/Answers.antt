-- The goals of `warrior::slot_of` that the check leaves.
use Rattle.std.proofs.Common.{arith, ◌<◌, ◌∙◌, sym, ap, cond}
use borrow.Author.Tests.{eqb-true}
use Rattle.lent.specs.Parts.{named_of, register_if}
use Rattle.names.proofs.Naming.{held_at, held-lt, not_held}
use Rattle.warrior.proofs.slot_of.Goals as goal

pub overflow_cast-result : goal.overflow_cast-result
overflow_cast-result c =
    let l : c.in-Some.i < c.args.names.now.held = held-lt c.args.names.now c.args.name.now (sym c.in-Some.is ∙ c.find.ensures) in
    record { fits = omega arith }

pub returns-in-Some-clause-slot : goal.returns-in-Some-clause-slot
returns-in-Some-clause-slot c = (held_at c.args.names.now c.args.name.now (sym c.in-Some.is ∙ c.find.ensures)).1

pub returns-in-Some-clause-named : goal.returns-in-Some-clause-named
returns-in-Some-clause-named c =
    let a = c.args in
    let h = named_of a.names.now a.processes.now in
    sym (ap (λ b. cond b (register_if h a.name.now) h) (held_at a.names.now a.name.now (sym c.in-Some.is ∙ c.find.ensures)).0)

pub returns-clause-slot : goal.returns-clause-slot
returns-clause-slot c =
    let a = c.args in
    sym (eqb-true _ _ (not_held a.names.now a.name.now (omega arith) (sym c.in_default.is ∙ c.find.ensures)))

pub returns-clause-named : goal.returns-clause-named
returns-clause-named c =
    let a = c.args in
    let h = named_of a.names.now a.processes.now in
    c.register.ensures ∙ sym (ap (λ b. cond b (register_if h a.name.now) h) (not_held a.names.now a.name.now (omega arith) (sym c.in_default.is ∙ c.find.ensures)))
