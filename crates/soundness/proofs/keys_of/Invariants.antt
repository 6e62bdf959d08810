-- What a loop of `soundness::keys_of` keeps.
use mathlib.Core.Path.{◌≡◌}
use lib.ListN.{length}
use Rattle.soundness.specs.Inner.Keys.{Keyed}
use Rattle.soundness.proofs.keys_of.Given as goal

abbrev pub invariant-loop-i : goal.invariant-loop-i
invariant-loop-i l = (length l.keys ≡ 16) × Keyed l.names l.keys l.i
