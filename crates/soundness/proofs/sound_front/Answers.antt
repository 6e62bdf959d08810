-- The goals of `soundness::sound_front` that the check leaves.
use Rattle.machine.specs.Soundness.{sound_entry}
use Rattle.soundness.proofs.sound_front.Goals as goal

pub returns : goal.returns
unfolding sound_entry
returns c = rw (c.within.ensures, c.unpack-e.ensures)
