-- The goals of `steps::scene::Scene::counts` that the check leaves.
use mathlib.Core.Path.{refl}
use Rattle.word.proofs.Cells.{reduced}
use Rattle.steps.proofs.Acting.{counted}
use Rattle.steps.proofs.scene.Scene.counts.Goals as goal

pub returns-then-n1-n2 : goal.returns-then-n1-n2
returns-then-n1-n2 c =
    let s = c.args.self in
    let m = c.met.ensures in
    counted s c.args.target.now _ _ m.0 m.1 _ _ _ (reduced _ _ s.sound.place c.plus-n1.ensures).is (reduced _ _ s.sound.place c.plus-n2.ensures).is c.store.ensures _
    c.if-n1-n2.true _ refl

pub returns : goal.returns
returns c =
    let s = c.args.self in
    let m = c.met.ensures in
    counted s c.args.target.now _ _ m.0 m.1 _ _ _ (reduced _ _ s.sound.place c.plus-n1.ensures).is (reduced _ _ s.sound.place c.plus-n2.ensures).is c.store.ensures _
    c.if-n1-n2.false _ c.onward.ensures
