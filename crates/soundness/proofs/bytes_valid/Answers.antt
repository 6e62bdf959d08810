-- The goals of `soundness::bytes_valid` that the check leaves.
use mathlib.Core.Path.{sym, ap, ◌∙◌}
use native.Mathlib.Omega.{arith}
use lib.ListN.{drop, length-drop}
use Prim.Native.Nat.{◌+◌, ◌-◌}
use Rattle.std.proofs.lemmas.List.{get_or-take}
use Rattle.laws.specs.Lists.{every}
use Rattle.laws.proofs.Loops.{take-table}
use Rattle.metadata.specs.Metadata.{valid_byte}
use Rattle.soundness.proofs.Bytes.{byte, found-start, found-further, found-over}
use Rattle.soundness.proofs.bytes_valid.Goals as goal

pub loop-j-init : goal.loop-j-init
loop-j-init c = found-start valid_byte (byte c.args.bytes.now c.args.start) c.args.size

pub loop-j-preserved : goal.loop-j-preserved
loop-j-preserved c =
    let k = c.loop-j in
    let a = c.args in
    rw (get_or-take (a.start + 32 - a.start) (drop a.start a.bytes.now) k.j 0 (omega arith)) (found-further valid_byte (byte a.bytes.now a.start) a.size k.j k.valid k.invariant)

pub returns : goal.returns
returns c =
    let a = c.args in
    found-over valid_byte (byte a.bytes.now a.start) a.size _ _ c.loop-j.invariant (omega arith)
    ∙ sym (ap (every valid_byte) (take-table 0 (drop a.start a.bytes.now) a.size (rw length-drop (omega arith))))
