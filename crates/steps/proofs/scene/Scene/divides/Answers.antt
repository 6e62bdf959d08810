-- The goals of `steps::scene::Scene::divides` that the check leaves.
use Rattle.steps.proofs.Acting.{all-zero, divided-one, one-zero, no_zero}
use Rattle.steps.proofs.scene.Scene.divides.Goals as goal

pub returns-then-b1-b2 : goal.returns-then-b1-b2
returns-then-b1-b2 c =
    let m = c.met.ensures in all-zero c.args.self c.args.target.now _ _ m.0 m.1 c.requires.0 _ c.requires.1 c.requires.2 c.if-b1-b2.true

pub returns-then-self-lt-F : goal.returns-then-self-lt-F
returns-then-self-lt-F c =
    let m = c.met.ensures in
    divided-one c.args.self c.args.target.now _ _ m.0 m.1 c.requires.0 _ c.requires.1 c.requires.2 _ c.part-half.ensures c.if-self-lt-F.true c.if-b1-b2.false _ c.onward.ensures

pub returns-then-b1-b2-2 : goal.returns-then-b1-b2-2
returns-then-b1-b2-2 c =
    let m = c.met.ensures in
    one-zero c.args.self c.args.target.now _ _ m.0 m.1 c.requires.0 _ c.requires.1 c.requires.2 _ _ c.part-half.ensures c.part.ensures c.if-b1-b2.false c.if-b1-b2-2.true

pub returns : goal.returns
returns c =
    let m = c.met.ensures in
    no_zero c.args.self c.args.target.now _ _ m.0 m.1 c.requires.0 _ c.requires.1 c.requires.2 _ _ c.part-half.ensures c.part.ensures c.if-b1-b2.false c.if-b1-b2-2.false _ c.onward-2.ensures
