-- What a loop of `program::write_cells` keeps.
use Rattle.program.proofs.Bodies.{Left}
use Rattle.program.proofs.write_cells.Given as goal

abbrev pub invariant-loop-i : goal.invariant-loop-i
invariant-loop-i l = Left l.size l.body l.fn.core l.core l.i
