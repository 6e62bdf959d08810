-- The goals of `offset::ahead` that the check leaves.
use native.Mathlib.Omega.{arith}
use Rattle.laws.proofs.Modulo.{mod-small}
use Rattle.offset.proofs.Offsets.{some-cells}
use Rattle.offset.proofs.ahead.Goals as goal

pub returns-then-whole-m : goal.returns-then-whole-m
returns-then-whole-m c = some-cells _ _ _ (omega arith) (mod-small c.if-whole-m.true)
