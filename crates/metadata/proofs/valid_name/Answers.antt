-- The goals of `metadata::valid_name` that the check leaves.
use Rattle.std.proofs.Common.{rules, ◌∙◌}
use Rattle.std.proofs.lemmas.Iterator.{YieldsList-from_slice}
use Rattle.std.proofs.lemmas.Iterator.Search.{all_from_yields_List}
use borrow.Author.Tests.{tests}
use Rattle.metadata.specs.Metadata.{valid_byte}
use Rattle.metadata.proofs.Names.{short}
use Rattle.metadata.proofs.valid_name.Goals as goal

pub returns-then-name-le-LONGEST : goal.returns-then-name-le-LONGEST
returns-then-name-le-LONGEST c =
    all_from_yields_List valid_byte _ _ _ c.all.ensures.ran (YieldsList-from_slice c.args.name.now cc) (λ x b q k. search (rules, tests))
    ∙ short _ c.if-name-le-LONGEST.true
