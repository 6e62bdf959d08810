-- The goals of `printing::text::Text::decimal` that the check leaves.
use native.Mathlib.Omega.{arith}
use Rattle.printing.proofs.Digits.{few}
use Rattle.printing.proofs.Adding.{spelt}
use Rattle.printing.proofs.text.Text.decimal.Goals as goal

pub returns : goal.returns
returns c =
    let most = few c.args.n c.decimal-k.result c.decimal-k.ensures.len c.ranges.n.fits in
    let is = c.decimal-k.ensures.in_bounds.1 in
    record {
      adds = spelt c.args.n c.decimal-k.result c.decimal-k.ensures.len c.decimal-k.ensures.digits c.ranges.n.fits c.bytes.ensures;
      short = omega arith;
    }
