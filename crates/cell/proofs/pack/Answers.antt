-- The goals of `cell::pack` that the check leaves.
use Rattle.laws.proofs.Fields.{put, or_put, or-low}
use Rattle.cell.proofs.Words.{sums}
use Rattle.cell.proofs.pack.Goals as goal

pub returns : goal.returns
returns c = rw (put 5 41 _ tt, or_put 3 38 _ _ tt, or_put 3 35 _ _ tt, or_put 3 32 _ _ tt, or_put 16 16 _ _ tt, or-low 16) (sums _ _ _ _ _ _)
