-- The goals of `steps::scene::Scene::sums` that the check leaves.
use Rattle.steps.proofs.Acting.{below, last_below, summed-one, summed}
use Rattle.steps.proofs.scene.Scene.sums.Goals as goal

pub value-v1-requires : goal.value-v1-requires
value-v1-requires c =
    let s = c.args.self in
    let m = c.met.ensures in
    let b = below s c.args.target.now _ _ m.0 m.1 in (b.a, b.b, s.sound.valid, c.requires.0, c.requires.1)

pub returns-then-self-lt-F : goal.returns-then-self-lt-F
returns-then-self-lt-F c =
    let m = c.met.ensures in
    summed-one c.args.self c.args.target.now _ _ m.0 m.1 c.if-self-lt-F.true _ c.requires.0 c.requires.1 _ _ _ c.value-v1.ensures.0 c.onward-next.ensures c.with_number_in.ensures

pub value-v2-requires : goal.value-v2-requires
value-v2-requires c =
    let s = c.args.self in
    let m = c.met.ensures in
    let b = last_below s c.args.target.now _ _ m.0 m.1 in (b.a, b.b, s.sound.valid, c.requires.0, c.requires.1)

pub returns : goal.returns
returns c =
    let m = c.met.ensures in
    summed c.args.self c.args.target.now _ _ m.0 m.1 _ c.requires.0 c.requires.1 _ _ _ _ c.value-v1.ensures.0 c.value-v2.ensures.0 c.onward-next.ensures c.store.ensures
