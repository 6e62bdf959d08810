-- The goals of `offset::remainder` that the check leaves.
use native.Mathlib.Omega.{arith}
use Rattle.laws.proofs.Modulo.{mod-small}
use Rattle.offset.proofs.Offsets.{some-cells}
use Rattle.offset.proofs.remainder.Goals as goal

pub returns-then-n-m : goal.returns-then-n-m
returns-then-n-m c = some-cells _ _ _ (omega arith) (mod-small c.if-n-m.true)
