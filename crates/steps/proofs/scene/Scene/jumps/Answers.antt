-- The goals of `steps::scene::Scene::jumps` that the check leaves.
use mathlib.Core.Path.{refl, sym, ◌∙◌}
use Rattle.steps.proofs.Acting.{jumped}
use Rattle.steps.proofs.scene.Scene.jumps.Goals as goal

pub returns-then-tests : goal.returns-then-tests
returns-then-tests c =
    let m = c.met.ensures in
    jumped c.args.self 0 _ c.requires.0 c.requires.1 _ _ m.0 m.1 _ (sym c.tests.ensures ∙ c.if-tests.true) _ refl

pub returns : goal.returns
returns c =
    let m = c.met.ensures in
    jumped c.args.self 0 _ c.requires.0 c.requires.1 _ _ m.0 m.1 _ (sym c.tests.ensures ∙ c.if-tests.false) _ c.onward.ensures
