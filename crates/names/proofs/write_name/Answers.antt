-- The goals of `names::write_name` that the check leaves.
use Rattle.std.proofs.lemmas.List.{drop-replicate}
use Rattle.names.proofs.write_name.Goals as goal

pub returns : goal.returns
returns c = rw (c.copy.ensures, c.copy_from_slice.ensures.after, drop-replicate)
