-- The goals of `steps::operand::indirect` that the check leaves.
use mathlib.Core.Path.{refl, ap, ◌∙◌}
use lib.ListN.{get_or}
use Rattle.types.specs.declared.field.Field.{Field}
use Rattle.cell.specs.Cells.{packed, unpacked, number, with_number}
use Rattle.word.proofs.Cells.{reduced}
use Rattle.steps.proofs.Operating.{plain, lower, raise}
use Rattle.steps.proofs.operand.indirect.Goals as goal

pub returns-then-mode-lt-PRE_DEC_INDIRECT_A : goal.returns-then-mode-lt-PRE_DEC_INDIRECT_A
returns-then-mode-lt-PRE_DEC_INDIRECT_A c =
    let a = c.args in
    let found = c.number_in-found.ensures ∙ ap (λ (f : Field). number f (unpacked (get_or a.core.now c.add-location.result.0 0))) c.field_of-field.ensures in
    plain a.rules a.core.now a.pc.0 a.mode a.n.0 c.requires.3 c.add-location.result
    (reduced _ _ c.requires.0.place c.add-location.ensures).is c.requires.0 c.requires.1 c.requires.2 _ _ c.add-pointer.result found c.aim-to.ensures
    (reduced _ _ c.requires.0.place c.add-pointer.ensures).is c.if-mode-lt-PRE_DEC_INDIRECT_A.true

pub returns-then-mode-lt-POST_INC_INDIRECT_A : goal.returns-then-mode-lt-POST_INC_INDIRECT_A
returns-then-mode-lt-POST_INC_INDIRECT_A c =
    let a = c.args in
    let found = c.number_in-found.ensures ∙ ap (λ (f : Field). number f (unpacked (get_or a.core.now c.add-location.result.0 0))) c.field_of-field.ensures in
    let word = c.with_number_in.ensures ∙ ap (λ (f : Field). packed (with_number f c.aim-to.result.0 (unpacked (get_or a.core.now c.add-location.result.0 0)))) c.field_of-field.ensures in
    lower a.rules a.core.now a.pc.0 a.mode a.n.0 c.requires.3 c.add-location.result
    (reduced _ _ c.requires.0.place c.add-location.ensures).is c.requires.0 c.requires.1 c.requires.2 _ _ c.add-pointer.result found c.aim-to.ensures
    (reduced _ _ c.requires.0.place c.add-pointer.ensures).is _ _ refl c.if-mode-lt-PRE_DEC_INDIRECT_A.false c.if-mode-lt-POST_INC_INDIRECT_A.true word _ refl

pub returns : goal.returns
returns c =
    let a = c.args in
    let found = c.number_in-found.ensures ∙ ap (λ (f : Field). number f (unpacked (get_or a.core.now c.add-location.result.0 0))) c.field_of-field.ensures in
    let word = c.with_number_in-2.ensures ∙ ap (λ (f : Field). packed (with_number f c.increment.result.0 (unpacked (get_or a.core.now c.add-location.result.0 0)))) c.field_of-field.ensures in
    raise a.rules a.core.now a.pc.0 a.mode a.n.0 c.requires.3 c.add-location.result
    (reduced _ _ c.requires.0.place c.add-location.ensures).is c.requires.0 c.requires.1 c.requires.2 _ _ c.add-pointer.result found c.aim-to.ensures
    (reduced _ _ c.requires.0.place c.add-pointer.ensures).is _ _ refl c.if-mode-lt-POST_INC_INDIRECT_A.false _ c.increment.ensures word _ refl
