-- The goals of `program::write_cells` that the check leaves.
use mathlib.Core.Path.{ap, ◌∙◌}
use native.Mathlib.Omega.{arith}
use lib.ListN.{length-take}
use Rattle.std.proofs.lemmas.List.{get_or-take}
use Rattle.cell.specs.Cells.{packed}
use Rattle.program.specs.Program.{cell_of}
use Rattle.program.proofs.Bodies.{none_written, written, complete, chunk_of}
use Rattle.program.proofs.write_cells.Goals as goal

pub loop-i-init : goal.loop-i-init
loop-i-init c = none_written _ _ _

pub loop-i-preserved : goal.loop-i-preserved
loop-i-preserved c =
    let l = length-take c.min-count.result c.as_chunks.result.0.now in
    written _ _ _ _ _ c.loop-i.invariant _ (omega (arith, l))
    (c.word_of.ensures ∙ ap (λ x. packed (cell_of c.args.size x))
    (get_or-take c.min-count.result c.as_chunks.result.0.now c.loop-i.i _ (omega (arith, l)) ∙ chunk_of c.args.body.now c.loop-i.i _ c.as_chunks.ensures.front (omega (arith, l))))

pub returns : goal.returns
returns c =
    let l = length-take c.min-count.result c.as_chunks.result.0.now in
    complete _ _ _ _ _ c.loop-i.invariant (omega (arith, l))
