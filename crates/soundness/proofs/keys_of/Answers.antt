-- The goals of `soundness::keys_of` that the check leaves.
use Rattle.std.proofs.Common.{◌∙◌, ap, arith}
use lib.ListN.{length-set}
use Rattle.soundness.specs.Inner.Keys.{key_of}
use Rattle.soundness.proofs.Keying.{keyed-further}
use Rattle.soundness.proofs.keys_of.Goals as goal

pub loop-i-preserved : goal.loop-i-preserved
loop-i-preserved c = (
  simp length-set c.loop-i.invariant.0,
  keyed-further c.args.names.now c.loop-i.keys c.loop-i.i c.loop-i.invariant.1 (omega arith) (c.key_of.ensures ∙ ap key_of c.name_at.ensures),
)
