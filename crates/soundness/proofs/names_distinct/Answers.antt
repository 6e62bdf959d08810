-- The goals of `soundness::names_distinct` that the check leaves.
use Rattle.std.proofs.Common.{rules, ℕ, ◌+◌, ◌-◌, ◌∙◌, ap, eqb, arith}
use Rattle.std.proofs.lemmas.Iterator.{YieldsList-from_range}
use Rattle.std.proofs.lemmas.Iterator.Search.{all_from_yields_List}
use mathlib.Core.Path.{refl}
use borrow.Author.Tests.{tests}
use Rattle.laws.specs.Lists.{tally, table, same, distinct}
use Rattle.laws.proofs.Ranges.{unlike}
use Rattle.machine.specs.Names.{name_at}
use Rattle.soundness.proofs.names_distinct.Goals as goal

pub returns : goal.returns
returns c =
    let a = c.args in
    let name = name_at a.names.now in
    let n = c.held-held.result in
    all_from_yields_List (λ (i : ℕ). eqb (tally (same (name i)) (table name (i + 1) (n - (i + 1)))) 0) _ _ _ c.all.ensures.ran
    (YieldsList-from_range 0 n n refl (omega arith)) (λ x b q k. search (rules, tests))
    ∙ unlike name 0 n n (omega arith)
    ∙ ap (λ (k : ℕ). distinct (table name 0 k)) c.held-held.ensures
