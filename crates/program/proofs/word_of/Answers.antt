-- The goals of `program::word_of` that the check leaves.
use mathlib.Core.Path.{◌∙◌}
use native.Mathlib.Omega.{arith}
use mir.Facts.{to_z-of_z}
use mir.Syntax.{w32}
use Rattle.program.proofs.Front.{word-is}
use Rattle.program.proofs.word_of.Goals as goal

pub returns : goal.returns
returns c =
    c.pack.ensures ∙ word-is c.args.x.now (omega arith) c.args.size c.modifier_of.ensures c.number32-a.ensures
    (to_z-of_z {w = w32} (record { sfits = c.signed.type_inv }) ∙ c.signed.ensures) c.reduce.ensures c.number32-b.ensures
    (to_z-of_z {w = w32} (record { sfits = c.signed-2.type_inv }) ∙ c.signed-2.ensures) c.reduce-2.ensures
