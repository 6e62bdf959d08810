-- The goals of `cell::with_a` that the check leaves.
use mathlib.Core.Path.{sym}
use native.Mathlib.Nat.{mod-mod, add_assoc}
use Rattle.laws.proofs.Fields.{replace}
use Rattle.cell.proofs.Words.{codes}
use Rattle.cell.proofs.with_a.Goals as goal

pub returns : goal.returns
returns c = rw (replace 14 16 16 _ _ tt) (sym (simp (mod-mod, codes) (add_assoc _ _ _)))
