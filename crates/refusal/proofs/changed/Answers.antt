-- The goals of `refusal::changed` that the check leaves.
use mathlib.Core.Path.{ap, ◌∙◌}
use Rattle.types.specs.declared.field.Field.{Field}
use Rattle.cell.specs.Cells.{packed, unpacked, number, with_number}
use Rattle.refusal.proofs.Looking.{left_alone, left-lower, left-higher}
use Rattle.refusal.proofs.changed.Goals as goal

pub returns-then-mode-lt-PRE_DEC_INDIRECT_A : goal.returns-then-mode-lt-PRE_DEC_INDIRECT_A
returns-then-mode-lt-PRE_DEC_INDIRECT_A c = left_alone _ _ _ c.if-mode-lt-PRE_DEC_INDIRECT_A.true

pub returns-then-mode-lt-POST_INC_INDIRECT_A : goal.returns-then-mode-lt-POST_INC_INDIRECT_A
returns-then-mode-lt-POST_INC_INDIRECT_A c =
    left-lower _ _ _ c.requires.0 (c.number_in-found.ensures ∙ ap (λ (f : Field). number f (unpacked c.args.word)) c.field_of-field.ensures)
    c.if-mode-lt-PRE_DEC_INDIRECT_A.false c.if-mode-lt-POST_INC_INDIRECT_A.true c.decrement.ensures
    (c.with_number_in.ensures ∙ ap (λ (f : Field). packed (with_number f c.decrement.result.0 (unpacked c.args.word))) c.field_of-field.ensures)

pub returns : goal.returns
returns c =
    left-higher _ _ _ c.requires.0 (c.number_in-found.ensures ∙ ap (λ (f : Field). number f (unpacked c.args.word)) c.field_of-field.ensures)
    c.if-mode-lt-POST_INC_INDIRECT_A.false c.requires.1 c.increment.ensures
    (c.with_number_in-2.ensures ∙ ap (λ (f : Field). packed (with_number f c.increment.result.0 (unpacked c.args.word))) c.field_of-field.ensures)
