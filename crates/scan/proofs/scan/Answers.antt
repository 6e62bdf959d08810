-- The goals of `scan::scan` that the check leaves.
use mathlib.Core.Path.{sym, ◌∙◌}
use Rattle.lent.specs.Parts.{unnamed}
use Rattle.scan.proofs.Scans.{by_parts, ranged, out_of_range, steps-end, threads_end, entries-unsound, by-cells}
use Rattle.scan.proofs.scan.Goals as goal

pub returns-then-not-fits : goal.returns-then-not-fits
returns-then-not-fits c =
    let a = c.args in
    let m = unnamed a.core.now a.queue.now a.rules a.held a.processes.now in
    out_of_range a.steps m (ranged m c.headed.ensures c.if-not-fits.true)

pub returns-then-not-lasts : goal.returns-then-not-lasts
returns-then-not-lasts c =
    let a = c.args in
    let m = unnamed a.core.now a.queue.now a.rules a.held a.processes.now in
    steps-end a.steps m (ranged m c.headed.ensures c.if-not-fits.false) (sym c.lasts.ensures ∙ c.if-not-lasts.true)

pub returns-then-not-all_last : goal.returns-then-not-all_last
returns-then-not-all_last c =
    let a = c.args in
    let m = unnamed a.core.now a.queue.now a.rules a.held a.processes.now in
    threads_end a.steps m (ranged m c.headed.ensures c.if-not-fits.false) (sym c.lasts.ensures ∙ c.if-not-lasts.false) (sym c.all_last.ensures ∙ c.if-not-all_last.true)

pub returns-then-not-entries_tallied : goal.returns-then-not-entries_tallied
returns-then-not-entries_tallied c =
    let a = c.args in
    let m = unnamed a.core.now a.queue.now a.rules a.held a.processes.now in
    let parts = by_parts a.core.now a.queue.now a.rules a.held a.processes.now in
    entries-unsound a.steps m (ranged m c.headed.ensures c.if-not-fits.false) (sym c.lasts.ensures ∙ c.if-not-lasts.false)
    (sym c.all_last.ensures ∙ c.if-not-all_last.false) (sym (c.entries_tallied.ensures ∙ parts) ∙ c.if-not-entries_tallied.true)

pub returns : goal.returns
returns c =
    let a = c.args in
    let m = unnamed a.core.now a.queue.now a.rules a.held a.processes.now in
    let parts = by_parts a.core.now a.queue.now a.rules a.held a.processes.now in
    c.cells_sound.ensures
    ∙ by-cells a.steps m (ranged m c.headed.ensures c.if-not-fits.false) (sym c.lasts.ensures ∙ c.if-not-lasts.false)
    (sym c.all_last.ensures ∙ c.if-not-all_last.false) (sym (c.entries_tallied.ensures ∙ parts) ∙ c.if-not-entries_tallied.false)
