-- The goals of `cell::with_b` that the check leaves.
use mathlib.Core.Path.{sym}
use native.Mathlib.Nat.{mod-mod}
use Rattle.laws.proofs.Fields.{replace-low, beside}
use Rattle.cell.proofs.Words.{codes}
use Rattle.cell.proofs.with_b.Goals as goal

pub returns : goal.returns
returns c = rw (replace-low 30 16) (sym (simp mod-mod (rw (codes _, beside _ 14 16 16))))
