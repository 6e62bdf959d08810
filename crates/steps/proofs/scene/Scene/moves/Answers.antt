-- The goals of `steps::scene::Scene::moves` that the check leaves.
use Rattle.steps.proofs.Acting.{move-whole, move-fields}
use Rattle.steps.proofs.scene.Scene.moves.Goals as goal

pub returns-then-self-eq-I : goal.returns-then-self-eq-I
returns-then-self-eq-I c =
    move-whole c.args.self c.args.target.now c.if-self-eq-I.true _ _ c.onward-next.ensures c.copy.ensures

pub returns : goal.returns
returns c =
    let m = c.met.ensures in
    move-fields c.args.self c.args.target.now _ _ m.0 m.1 c.if-self-eq-I.false _ _ c.onward-next.ensures c.store.ensures
