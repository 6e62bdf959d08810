-- The goals of `printing::text::Text::name` that the check leaves.
use Rattle.printing.specs.Text.{line_of}
use Rattle.printing.proofs.Adding.{then}
use Rattle.printing.proofs.text.Text.name.Goals as goal

pub returns-clause-adds : goal.returns-clause-adds
unfolding line_of
returns-clause-adds c = then c.bytes.ensures (then c.byte.ensures (then c.decimal.ensures.adds c.byte-2.ensures))
