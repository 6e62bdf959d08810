-- The goals of `steps::execute::whole_operands` that the check leaves.
use mathlib.Core.Path.{refl}
use Rattle.steps.proofs.Whole.{asks-a, asks-b, given}
use Rattle.steps.proofs.execute.whole_operands.Goals as goal

pub one_operand-a-requires : goal.one_operand-a-requires
one_operand-a-requires c =
    let a = c.args in
    asks-a a.rules a.core.now a.pc.0 a.here c.requires.0 c.requires.1 _ _ c.a_mode.ensures c.number-n.ensures

pub one_operand-b-requires : goal.one_operand-b-requires
one_operand-b-requires c =
    let a = c.args in
    asks-b a.rules a.core.now a.pc.0 a.here c.requires.0 c.requires.1 _ _ c.a_mode.ensures c.number-n.ensures _ _ c.one_operand-a.ensures
    _ _ _ refl c.b_mode.ensures c.number-m.ensures

pub returns : goal.returns
returns c =
    let a = c.args in
    given a.rules a.core.now a.pc.0 a.here c.requires.0 c.requires.1 _ _ c.a_mode.ensures c.number-n.ensures _ _ c.one_operand-a.ensures
    _ _ _ refl c.b_mode.ensures c.number-m.ensures _ _ c.one_operand-b.ensures
