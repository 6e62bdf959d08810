-- The goals of `steps::execute::execute` that the check leaves.
use mathlib.Core.Path.{refl}
use Rattle.steps.proofs.Executing.{scene-sound, target-inside, target-sound, done}
use Rattle.steps.proofs.execute.execute.Goals as goal

pub bounds-core-o : goal.bounds-core-o
bounds-core-o c =
    let a = c.args in target-inside a.rules a.core.now a.pc.0 a.here c.requires _ _ c.operands-o.ensures

pub invariant_of-scene : goal.invariant_of-scene
invariant_of-scene c =
    let a = c.args in
    record {
      sound = rw c.modifier.ensures
          (scene-sound a.rules a.core.now a.pc.0 a.here c.requires _ _ c.operands-o.ensures
          c.a_mode.ensures c.b_mode.ensures c.changes.ensures c.changes-2.ensures);
    }

pub act-requires : goal.act-requires
act-requires c =
    let a = c.args in (
      target-sound a.rules a.core.now a.pc.0 a.here c.requires _ _ c.operands-o.ensures,
      rw c.opcode.ensures c.requires.few,
    )

pub returns : goal.returns
returns c =
    let a = c.args in
    done a.rules a.core.now a.pc.0 a.here c.requires _ _ c.operands-o.ensures
    c.a_mode.ensures c.b_mode.ensures c.changes.ensures c.changes-2.ensures (refl, c.modifier.ensures, refl, refl, refl, refl, refl, refl) c.opcode.ensures _ _ c.act.ensures
