-- What grows less in the loop of `replay::battles`: each battle reads something.
use Rattle.std.proofs.Common.{length}
use Rattle.replay.proofs.battles.Given as goal

abbrev pub decreases-loop-input : goal.decreases-loop-input
decreases-loop-input l = length l.input.rest.now
