-- The goals of `steps::scene::Scene::skips` that the check leaves.
use mathlib.Core.Path.{refl, sym, ◌∙◌}
use Rattle.word.proofs.Cells.{reduced}
use Rattle.steps.proofs.Acting.{skipped, two-on}
use Rattle.steps.proofs.scene.Scene.skips.Goals as goal

pub returns-then-passes : goal.returns-then-passes
returns-then-passes c =
    let s = c.args.self in
    skipped s c.args.live _ _ refl refl c.requires.0 _ c.requires.1 c.requires.2 _ (sym c.passes.ensures ∙ c.if-passes.true) _
    (two-on _ _ c.onward-next.ensures (reduced _ _ s.sound.place c.add.ensures).is)

pub returns : goal.returns
returns c =
    skipped c.args.self c.args.live _ _ refl refl c.requires.0 _ c.requires.1 c.requires.2 _ (sym c.passes.ensures ∙ c.if-passes.false) _ c.onward-next.ensures
