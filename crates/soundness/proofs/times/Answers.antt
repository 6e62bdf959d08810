-- The goals of `soundness::times` that the check leaves.
use Rattle.std.proofs.Common.{rules, ◌≡◌, ℕ, ◌∙◌, eqb, arith}
use Rattle.std.proofs.lemmas.Iterator.{YieldsList-from_slice}
use Rattle.std.proofs.lemmas.Iterator.Adapters.{fits_from_length, at_most_from_yields_List}
use borrow.Author.Tests.{tests}
use Rattle.std.specs.List.{count_by}
use Rattle.soundness.proofs.Keying.{tally-of}
use Rattle.soundness.proofs.times.Goals as goal

pub returns : goal.returns
returns c =
    let a = c.args in
    let counted : c.sum.result ≡ count_by (λ (k : ℕ). eqb k a.key) a.keys.now = search rules in
    counted ∙ tally-of a.keys.now a.key c.told-keys

pub sum-requires-clause-fits : goal.sum-requires-clause-fits
sum-requires-clause-fits c =
    fits_from_length _ _ 16 _ (at_most_from_yields_List (YieldsList-from_slice c.args.keys.now cc) (omega arith)) c.map.ensures.closure (omega arith)
    (λ x r q k. search (rules, tests))
