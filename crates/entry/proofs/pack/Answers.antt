-- The goals of `entry::pack` that the check leaves.
use native.Mathlib.Omega.{arith}
use Rattle.laws.proofs.Fields.{put, or_put, or-low}
use Rattle.entry.proofs.pack.Goals as goal

pub returns : goal.returns
returns c = rw (put 4 48 _ tt, or_put 32 16 _ _ tt, or-low 16) (omega arith)
