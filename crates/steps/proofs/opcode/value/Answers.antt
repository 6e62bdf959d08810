-- The goals of `steps::opcode::value` that the check leaves.
use Rattle.word.proofs.Cells.{reduced}
use Rattle.steps.proofs.Arithmetic.{value-sum}
use Rattle.steps.proofs.opcode.value.Goals as goal

pub returns-then-opcode-eq-ADD : goal.returns-then-opcode-eq-ADD
returns-then-opcode-eq-ADD c = value-sum _ _ _ _ c.if-opcode-eq-ADD.true (reduced _ _ c.requires.0 c.plus.ensures)
