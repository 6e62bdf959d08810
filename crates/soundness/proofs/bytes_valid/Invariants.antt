-- What the loop of `soundness::bytes_valid` keeps.
use Rattle.metadata.specs.Metadata.{valid_byte}
use Rattle.soundness.proofs.Bytes.{FoundTo, byte}
use Rattle.soundness.proofs.bytes_valid.Given as goal

abbrev pub invariant-loop-j : goal.invariant-loop-j
invariant-loop-j l = FoundTo valid_byte (byte l.bytes l.start) l.size l.j l.valid
