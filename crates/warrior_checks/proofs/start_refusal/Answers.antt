-- The goals of `warrior_checks::start_refusal` that the check leaves.
use mathlib.Core.Path.{◌≡◌, ◌∙◌, sym, ap}
use mathlib.Core.List.{[]}
use Rattle.std.proofs.Common.{rules, true, false, not, ◌||◌, leb}
use Rattle.metadata.specs.Metadata.{valid_name}
use Rattle.lent.specs.Parts.{parts}
use Rattle.names.specs.Finding.{found}
use Rattle.warrior_checks.proofs.Checking.{start-many, start-invalid, below, no_process, no_number, passed_held, no_index, passed_new}
use Rattle.warrior_checks.proofs.start_refusal.Goals as goal

pub returns-then-names-gt-MOST_NAMES : goal.returns-then-names-gt-MOST_NAMES
returns-then-names-gt-MOST_NAMES c =
    let a = c.args in
    let m = parts [] [] a.rules a.names.now a.processes.now in
    start-many m a.name.now a.place c.if-names-gt-MOST_NAMES.true

pub bounds-processes-i : goal.bounds-processes-i
bounds-processes-i c =
    let a = c.args in
    let m = parts [] [] a.rules a.names.now a.processes.now in
    let valid : (not (valid_name a.name.now) || leb a.rules.size a.place) ≡ false = search rules in
    let at = c.find.ensures ∙ ap (λ n. found a.names.now n) c.called.ensures in
    below m a.name.now a.place c.if-names-gt-MOST_NAMES.false valid (sym c.in-Some.is ∙ at)

pub returns-in-None : goal.returns-in-None
returns-in-None c =
    let a = c.args in
    let m = parts [] [] a.rules a.names.now a.processes.now in
    let valid : (not (valid_name a.name.now) || leb a.rules.size a.place) ≡ false = search rules in
    let at = c.find.ensures ∙ ap (λ n. found a.names.now n) c.called.ensures in
    no_index m a.name.now a.place c.if-names-gt-MOST_NAMES.false valid (sym c.in-None.is ∙ at) c.if-names-eq-MOST_NAMES.true

pub returns-in-Some : goal.returns-in-Some
returns-in-Some c =
    let a = c.args in
    let m = parts [] [] a.rules a.names.now a.processes.now in
    let valid : (not (valid_name a.name.now) || leb a.rules.size a.place) ≡ false = search rules in
    let at = c.find.ensures ∙ ap (λ n. found a.names.now n) c.called.ensures in
    no_process m a.name.now a.place c.if-names-gt-MOST_NAMES.false valid (sym c.in-Some.is ∙ at) c.if-processes-i.true

pub returns-in_default : goal.returns-in_default
returns-in_default c =
    let a = c.args in
    let m = parts [] [] a.rules a.names.now a.processes.now in
    let valid : (not (valid_name a.name.now) || leb a.rules.size a.place) ≡ false = search rules in
    let at = c.find.ensures ∙ ap (λ n. found a.names.now n) c.called.ensures in
    passed_new m a.name.now a.place c.if-names-gt-MOST_NAMES.false valid (sym c.in-None.is ∙ at) c.if-names-eq-MOST_NAMES.false

pub bounds-processes-i-in-Some-1 : goal.bounds-processes-i-in-Some-1
bounds-processes-i-in-Some-1 c =
    let a = c.args in
    let m = parts [] [] a.rules a.names.now a.processes.now in
    let valid : (not (valid_name a.name.now) || leb a.rules.size a.place) ≡ false = search rules in
    let at = c.find.ensures ∙ ap (λ n. found a.names.now n) c.called.ensures in
    below m a.name.now a.place c.if-names-gt-MOST_NAMES.false valid (sym c.in-Some.is ∙ at)

pub returns-in-Some-2 : goal.returns-in-Some-2
returns-in-Some-2 c =
    let a = c.args in
    let m = parts [] [] a.rules a.names.now a.processes.now in
    let valid : (not (valid_name a.name.now) || leb a.rules.size a.place) ≡ false = search rules in
    let at = c.find.ensures ∙ ap (λ n. found a.names.now n) c.called.ensures in
    no_number m a.name.now a.place c.if-names-gt-MOST_NAMES.false valid (sym c.in-Some.is ∙ at) c.if-processes-i.false c.if-processes-i-2.true

pub returns-in_default-2 : goal.returns-in_default-2
returns-in_default-2 c =
    let a = c.args in
    let m = parts [] [] a.rules a.names.now a.processes.now in
    let valid : (not (valid_name a.name.now) || leb a.rules.size a.place) ≡ false = search rules in
    let at = c.find.ensures ∙ ap (λ n. found a.names.now n) c.called.ensures in
    passed_held m a.name.now a.place c.if-names-gt-MOST_NAMES.false valid (sym c.in-Some.is ∙ at) c.if-processes-i.false c.if-processes-i-2.false

pub returns-then-not-valid_name : goal.returns-then-not-valid_name
returns-then-not-valid_name c =
    let a = c.args in
    let m = parts [] [] a.rules a.names.now a.processes.now in
    let invalid : (not (valid_name a.name.now) || leb a.rules.size a.place) ≡ true = search rules in
    start-invalid m a.name.now a.place c.if-names-gt-MOST_NAMES.false invalid
