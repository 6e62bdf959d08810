-- The goals of `printing::text::Text::names` that the check leaves.
use mathlib.Core.Path.{ap}
use native.Mathlib.Omega.{arith}
use lib.ListN.{length}
use lib.Seq.{get_or-take}
use Rattle.printing.proofs.Lines.{name-short, name-added}
use Rattle.printing.proofs.text.Text.names.Goals as goal

pub name-requires : goal.name-requires
name-requires c =
    let short = name-short c.args.h c.loop-i.i c.sized.ensures.0 in
    let name = ap length c.name_at.ensures in
    omega arith

pub loop-i-preserved : goal.loop-i-preserved
loop-i-preserved c =
    let short = name-short c.args.h c.loop-i.i c.sized.ensures.0 in
    let name = ap length c.name_at.ensures in
    record {
      added = name-added c.args.h c.loop-i.i c.loop-i.invariant.added c.name_at.ensures (get_or-take c.args.h.names.held c.args.h.counts c.loop-i.i 0 (omega arith)) c.name.ensures.adds;
      short = omega arith;
    }
