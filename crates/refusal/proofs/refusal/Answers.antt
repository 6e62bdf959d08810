-- The goals of `refusal::refusal` that the check leaves.
use Rattle.std.proofs.Common.{rules}
use Rattle.std.specs.Prelude.{Err}
use mathlib.Core.Path.{◌≡◌, sym, ap, ◌∙◌}
use Rattle.answer.specs.Numbers.{told}
use Rattle.lent.specs.Parts.{unnamed}
use Rattle.refusal.proofs.Refusing.{out-of-bounds, size-most, cells, limits, place-below, by-front, by-cell}
use Rattle.refusal.proofs.refusal.Goals as goal

pub returns-then-not-in_bounds : goal.returns-then-not-in_bounds
returns-then-not-in_bounds c =
    let a = c.args in
    out-of-bounds (unnamed a.core.now a.queue.now a.rules a.held a.processes.now) (sym c.in_bounds.ensures ∙ c.if-not-in_bounds.true)

pub returns-in_err-e : goal.returns-in_err-e
returns-in_err-e c =
    let a = c.args in
    let is : c.from_residual.result ≡ Err c.in_err-e.field-0.0 = search rules in
    ap told is
    ∙ by-front (unnamed a.core.now a.queue.now a.rules a.held a.processes.now) (sym c.in_bounds.ensures ∙ c.if-not-in_bounds.false) c.in_err-e.ensures

pub cell_refusal-requires : goal.cell_refusal-requires
cell_refusal-requires c =
    let a = c.args in
    let m = unnamed a.core.now a.queue.now a.rules a.held a.processes.now in
    let w = sym c.in_bounds.ensures ∙ c.if-not-in_bounds.false in
    let f = c.in_ok-e.ensures in
    (size-most m w, cells m w, rw f.0 (place-below m f.1), limits m w)

pub returns : goal.returns
returns c =
    let a = c.args in
    let w = sym c.in_bounds.ensures ∙ c.if-not-in_bounds.false in
    let f = c.in_ok-e.ensures in
    by-cell (unnamed a.core.now a.queue.now a.rules a.held a.processes.now) w f.2 (rw f.0 at c.cell_refusal.ensures)
