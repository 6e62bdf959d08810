-- The goals of `refusal::readable` that the check leaves.
use mathlib.Core.Path.{sym, ◌∙◌}
use Rattle.machine.proofs.Whole.{is-unlimited}
use Rattle.refusal.proofs.Reading.{whole-read}
use Rattle.refusal.proofs.readable.Goals as goal

pub returns-then-unlimited : goal.returns-then-unlimited
returns-then-unlimited c =
    let a = c.args in
    whole-read a.rules a.core.now a.pc.0 a.here c.requires.0 (is-unlimited a.rules (sym c.unlimited.ensures ∙ c.if-unlimited.true))
    c.whole_readable.ensures
