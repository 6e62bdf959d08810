-- The goals of `refusal::cell_refusal` that the check leaves.
use mathlib.Core.Path.{◌∙◌, sym}
use Rattle.refusal.proofs.Refusing.{private-cell}
use Rattle.refusal.proofs.cell_refusal.Goals as goal

pub returns-then-opcode-gt-NOP : goal.returns-then-opcode-gt-NOP
returns-then-opcode-gt-NOP c =
    private-cell c.args.rules c.args.core.now c.args.pc.0 (sym c.sound.ensures ∙ c.if-not-sound.false)
    (rw c.opcode.ensures at c.if-opcode-gt-NOP.true)
