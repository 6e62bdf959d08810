-- The goals of `soundness::sound_header` that the check leaves.
use mathlib.Core.Path.{◌≡◌, sym, ap, ◌∙◌}
use mathlib.Core.Bool.{Bool, true}
use Rattle.lent.specs.Parts.{parts}
use Rattle.soundness.proofs.Headers.{numbers_by, numbers, no-numbers, no_counts, no_names, by_names}
use Rattle.soundness.proofs.sound_header.Goals as goal

pub returns-then-not-numbers : goal.returns-then-not-numbers
returns-then-not-numbers c =
    let a = c.args in
    let m = parts a.core.now a.queue.now a.rules a.names.now a.processes.now in
    no-numbers m (sym (ap (λ (b : Bool). numbers_by b m) c.in_bounds.ensures) ∙ c.if-not-numbers.true)

pub returns-then-not-counts_sound : goal.returns-then-not-counts_sound
returns-then-not-counts_sound c =
    let a = c.args in
    let m = parts a.core.now a.queue.now a.rules a.names.now a.processes.now in
    let n : numbers m ≡ true = sym (ap (λ (b : Bool). numbers_by b m) c.in_bounds.ensures) ∙ c.if-not-numbers.false in
    no_counts m n c.held.ensures c.counts_sound.ensures c.if-not-counts_sound.true

pub returns-then-not-names_valid : goal.returns-then-not-names_valid
returns-then-not-names_valid c =
    let a = c.args in
    let m = parts a.core.now a.queue.now a.rules a.names.now a.processes.now in
    let n : numbers m ≡ true = sym (ap (λ (b : Bool). numbers_by b m) c.in_bounds.ensures) ∙ c.if-not-numbers.false in
    no_names m n c.held.ensures c.counts_sound.ensures c.if-not-counts_sound.false (sym c.names_valid.ensures ∙ c.if-not-names_valid.true)

pub returns : goal.returns
returns c =
    let a = c.args in
    let m = parts a.core.now a.queue.now a.rules a.names.now a.processes.now in
    let n : numbers m ≡ true = sym (ap (λ (b : Bool). numbers_by b m) c.in_bounds.ensures) ∙ c.if-not-numbers.false in
    by_names m n c.held.ensures c.counts_sound.ensures c.if-not-counts_sound.false (sym c.names_valid.ensures ∙ c.if-not-names_valid.false) c.names_distinct.ensures
