-- The goals of `sumacadze::sumacadze_get` that the check leaves.
use mir.Syntax.{w32}
use mir.Facts.{to_z-of_z}
use Rattle.lent.specs.Parts.{machine_of}
use Rattle.sumacadze.proofs.Refused.{refused-cell}
use Rattle.sumacadze.proofs.sumacadze_get.Goals as goal

pub returns-in-Err : goal.returns-in-Err
returns-in-Err c =
    let a = c.args in
    let told_is = rw (to_z-of_z {w = w32} c.ranges.number) at c.in-Err.ensures.0 in
    refused-cell (machine_of a.core.now a.queue.now a.header) a.number c.in-Err.error c.number.ensures told_is
