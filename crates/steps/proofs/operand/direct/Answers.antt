-- The goals of `steps::operand::direct` that the check leaves.
use mathlib.Core.Path.{refl}
use native.Mathlib.Omega.{arith}
use Rattle.word.proofs.Cells.{reduced}
use Rattle.steps.proofs.Operating.{hash, dollar}
use Rattle.steps.proofs.operand.direct.Goals as goal

pub returns-then-mode-eq-IMMEDIATE : goal.returns-then-mode-eq-IMMEDIATE
returns-then-mode-eq-IMMEDIATE c =
    hash c.args.rules c.args.core.now c.args.pc.0 c.args.mode c.args.n.0 c.args.pc refl _ refl c.requires.2 c.if-mode-eq-IMMEDIATE.true

pub returns : goal.returns
returns c =
    let one = c.if-mode-eq-IMMEDIATE.false in
    dollar c.args.rules c.args.core.now c.args.pc.0 c.args.mode c.args.n.0 c.requires.3 c.add-location.result
    (reduced _ _ c.requires.0.place c.add-location.ensures).is (omega arith)
