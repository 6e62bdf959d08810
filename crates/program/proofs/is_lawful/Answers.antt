-- The goals of `program::is_lawful` that the check leaves.
use mathlib.Core.Path.{refl, sym, ◌∙◌}
use native.Mathlib.Omega.{arith}
use lib.ListN.{get_or}
use Rattle.types.specs.Defaults.{default_of}
use Rattle.program.proofs.Front.{resolved, named, out_of_range, modifier_decides}
use Rattle.program.proofs.is_lawful.Goals as goal

pub returns-then-not-in_range : goal.returns-then-not-in_range
returns-then-not-in_range c = out_of_range c.args.x.now (omega arith) (sym c.in_range.ensures ∙ c.if-not-in_range.true)

pub returns-then-x-eq-UNNAMED : goal.returns-then-x-eq-UNNAMED
returns-then-x-eq-UNNAMED c =
    let x = c.args.x.now in
    c.has_default.ensures
    ∙ modifier_decides x (omega arith) (default_of (get_or x 0 0) (get_or x 2 0) (get_or x 3 0)) (resolved x c.if-x-eq-UNNAMED.true refl) (sym c.in_range.ensures ∙ c.if-not-in_range.false)

pub returns : goal.returns
returns c =
    let x = c.args.x.now in
    modifier_decides x (omega arith) (get_or x 1 0) (named x c.if-x-eq-UNNAMED.false) (sym c.in_range.ensures ∙ c.if-not-in_range.false)
