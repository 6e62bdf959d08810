-- The goals of `program::modifier_of` that the check leaves.
use Rattle.program.proofs.Front.{resolved, or_unnamed}
use Rattle.program.proofs.modifier_of.Goals as goal

pub returns-then-x-eq-UNNAMED : goal.returns-then-x-eq-UNNAMED
returns-then-x-eq-UNNAMED c = resolved c.args.x.now c.if-x-eq-UNNAMED.true (or_unnamed _ _ _ c.default_88_to_94.ensures c.unwrap_or.ensures)
