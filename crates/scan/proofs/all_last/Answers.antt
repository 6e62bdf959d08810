-- The goals of `scan::all_last` that the check leaves.
use Rattle.std.proofs.Common.{rules, ◌∙◌}
use Rattle.std.proofs.lemmas.Iterator.{YieldsList-from_slice}
use Rattle.std.proofs.lemmas.Iterator.Search.{all_from_yields_List}
use borrow.Author.Tests.{tests}
use Rattle.laws.proofs.Every.{all-every}
use Rattle.scan.specs.Scanning.{lasting}
use Rattle.scan.proofs.all_last.Goals as goal

pub returns : goal.returns
returns c =
    all_from_yields_List (lasting c.args.steps) _ _ _ c.all.ensures.ran (YieldsList-from_slice c.args.numbers.now cc) (λ x b q k. search (rules, tests))
    ∙ all-every (lasting c.args.steps) c.args.numbers.now
