-- The goals of `word::number_in` that the check leaves.
use Rattle.word.proofs.Cells.{number_by}
use Rattle.word.proofs.number_in.Goals as goal

pub returns : goal.returns
returns c = number_by c.args.field c.args.w c.first_bit.ensures c.number.ensures
