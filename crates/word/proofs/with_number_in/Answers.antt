-- The goals of `word::with_number_in` that the check leaves.
use Rattle.word.proofs.Cells.{with-by}
use Rattle.word.proofs.with_number_in.Goals as goal

pub returns : goal.returns
returns c = with-by c.args.field c.args.w c.args.n.0 c.first_bit.ensures c.with_number.ensures
