-- The goals of `refusal::look` that the check leaves.
use mathlib.Core.Path.{ap, ◌∙◌, sym}
use Rattle.types.specs.declared.field.Field.{Field}
use Rattle.cell.specs.Cells.{unpacked, number}
use Rattle.word.proofs.Cells.{reduced}
use Rattle.refusal.proofs.Looking.{unsound-location, no-further, further}
use Rattle.refusal.proofs.look.Goals as goal

pub returns-then-not-sound : goal.returns-then-not-sound
returns-then-not-sound c = unsound-location _ c.args.core.now _ _ _ (sym c.sound.ensures ∙ c.if-not-sound.true)

pub returns-then-mode-lt-INDIRECT_A : goal.returns-then-mode-lt-INDIRECT_A
returns-then-mode-lt-INDIRECT_A c =
    no-further _ c.args.core.now _ _ _ (sym c.sound.ensures ∙ c.if-not-sound.false) c.if-mode-lt-INDIRECT_A.true

pub returns : goal.returns
returns c =
    further _ c.args.core.now _ _ _ (sym c.sound.ensures ∙ c.if-not-sound.false) c.if-mode-lt-INDIRECT_A.false c.requires.2
    (c.number_in.ensures ∙ ap (λ (f : Field). number f (unpacked c.args.word)) c.field_of-field.ensures) c.aim-to.ensures
    (reduced _ _ c.requires.1 c.add-pointer.ensures).is c.sound-2.ensures
