-- The goals of `steps::scene::Scene::act` that the check leaves.
use native.Mathlib.Omega.{arith}
use Rattle.steps.proofs.Acting.{with-target, data-ends, jump_goes, split_goes, nop-goes}
use Rattle.steps.proofs.scene.Scene.act.Goals as goal

pub returns-in-0 : goal.returns-in-0
returns-in-0 c = data-ends c.args.self c.args.target.now _ c.in-0.is

pub returns-in-7 : goal.returns-in-7
returns-in-7 c = jump_goes c.args.self c.args.target.now _ c.in-7.is

pub returns-in-15 : goal.returns-in-15
returns-in-15 c = split_goes c.args.self c.args.target.now _ c.in-15.is c.onward.ensures

pub returns-in-16 : goal.returns-in-16
returns-in-16 c = nop-goes c.args.self c.args.target.now _ c.in-16.is c.onward-in-16.ensures

pub returns-in-8-to-9 : goal.returns-in-8-to-9
returns-in-8-to-9 c = with-target c.args.self c.args.target.now _ (omega arith) (omega arith) c.jumps.ensures
