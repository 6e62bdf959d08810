-- The goals of `match_write::write_first` that the check leaves.
use Rattle.match_write.proofs.Added.{none}
use Rattle.match_write.proofs.write_first.Goals as goal

pub write-requires : goal.write-requires
write-requires c = none
