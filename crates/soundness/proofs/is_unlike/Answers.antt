-- The goals of `soundness::is_unlike` that the check leaves.
use Rattle.std.proofs.Common.{rules, ℕ, ◌+◌, ◌-◌, ◌∙◌, sym}
use mathlib.Core.Bool.{not}
use Rattle.std.proofs.lemmas.Iterator.{YieldsList-from_range}
use Rattle.std.proofs.lemmas.Iterator.Search.{all_from_yields_List}
use mathlib.Core.Path.{refl}
use borrow.Author.Tests.{tests}
use Rattle.laws.specs.Lists.{same}
use Rattle.laws.proofs.Ranges.{none}
use Rattle.machine.specs.Names.{name_at}
use Rattle.soundness.proofs.Keying.{once-unlike}
use Rattle.soundness.proofs.is_unlike.Goals as goal

pub returns-then-times-eq1 : goal.returns-then-times-eq1
returns-then-times-eq1 c =
    let a = c.args in
    once-unlike a.names.now a.keys.now a.held a.i c.requires.0 c.requires.1 c.requires.2 (sym c.times.ensures ∙ c.if-times-eq1.true)

pub returns : goal.returns
returns c =
    let a = c.args in
    let name = name_at a.names.now in
    all_from_yields_List (λ (j : ℕ). not (same (name a.i) (name j))) _ _ _ c.all.ensures.ran
    (YieldsList-from_range (a.i + 1) a.held (a.held - (a.i + 1)) refl refl) (λ x b q k. search (rules, tests))
    ∙ none name (same (name a.i)) (a.i + 1) (a.held - (a.i + 1))
