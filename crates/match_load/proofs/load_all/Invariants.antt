-- What a loop of `match_load::load_all` keeps.
use Prim.Native.Nat.{◌-◌, ◌*◌, ◌≤◌}
use Rattle.machine.proofs.Soundness.{SoundHeader}
use Rattle.lent.specs.Parts.{machine_of, parts}
use Rattle.match_load.specs.Loading.{loads}
use Rattle.match_load.proofs.Loading.{Leaves}
use Rattle.match_load.proofs.load_all.Given as goal

abbrev pub invariant-loop-i : goal.invariant-loop-i
invariant-loop-i l =
    let m = parts l.core l.queue l.fn.h.rules l.names l.processes in
    record {
      left : Leaves l.writes (loads l.fn.file l.i (l.fn.count - l.i) m) (loads l.fn.file 0 l.fn.count (machine_of l.fn.core l.fn.queue l.fn.h));
      sound : SoundHeader m;
      few : l.writes ≤ 46341 * l.i;
    }
