-- The goals of `names::find` that the check leaves.
use Rattle.std.proofs.Common.{rules, arith, ◌≡◌, true, false}
use Rattle.std.proofs.lemmas.Iterator.{first_from_Range}
use Rattle.laws.specs.Lists.{same}
use Rattle.machine.specs.Names.{name_at}
use Rattle.names.proofs.Naming.{first_held}
use Rattle.names.proofs.find.Goals as goal

pub returns : goal.returns
returns c =
    let r = c.args.names.now in
    let name = c.args.name.now in
    first_held r name (omega arith) c.find.result
    (first_from_Range _ _ _ _ (λ i. same name (name_at r i) ≡ true) (λ i. same name (name_at r i) ≡ false) c.find.ensures.ran
    (λ x q k. search rules) (λ x q k. search rules))
