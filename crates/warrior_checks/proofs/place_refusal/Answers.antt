-- The goals of `warrior_checks::place_refusal` that the check leaves.
use mathlib.Core.Path.{◌≡◌, ◌∙◌, ap}
use Rattle.std.proofs.Common.{rules, Err, None}
use Rattle.answer.specs.Numbers.{told}
use Rattle.names.specs.Finding.{found}
use Rattle.warrior_checks.proofs.Checking.{place-many, place-refused, place-full, place-room, place-held}
use Rattle.warrior_checks.proofs.place_refusal.Goals as goal
use Rattle.warrior_checks.proofs.place_refusal.Goals.{else-names-eq-MOST_NAMES-via-then-names-eq-MOST_NAMES+else-is_none, else-names-eq-MOST_NAMES-via-else-names-eq-MOST_NAMES}

pub returns-then-names-gt-MOST_NAMES : goal.returns-then-names-gt-MOST_NAMES
returns-then-names-gt-MOST_NAMES c =
    let a = c.args in
    place-many a.size a.names.now a.name.now a.body.now a.place c.if-names-gt-MOST_NAMES.true

pub returns-in_err-warrior_refusal : goal.returns-in_err-warrior_refusal
returns-in_err-warrior_refusal c =
    let a = c.args in
    let is : c.from_residual.result ≡ Err c.in_err-warrior_refusal.field-0.0 = search rules in
    ap told is
    ∙ place-refused a.size a.names.now a.name.now a.body.now a.place c.if-names-gt-MOST_NAMES.false c.in_err-warrior_refusal.field-0.0 c.in_err-warrior_refusal.ensures

pub returns-then-is_none : goal.returns-then-is_none
returns-then-is_none c =
    let a = c.args in
    let none : None ≡ c.find.result = search rules in
    place-full a.size a.names.now a.name.now a.body.now a.place c.if-names-gt-MOST_NAMES.false c.in_ok-warrior_refusal.ensures c.if-names-eq-MOST_NAMES.true
    (none ∙ c.find.ensures ∙ ap (λ n. found a.names.now n) c.called.ensures)

pub returns : goal.returns
returns c =
    let a = c.args in
    let checked = c.in_ok-warrior_refusal.ensures in
    elim c.else-names-eq-MOST_NAMES.branch [
      | else-names-eq-MOST_NAMES-via-then-names-eq-MOST_NAMES+else-is_none w ↦
          place-held a.size a.names.now a.name.now a.body.now a.place c.if-names-gt-MOST_NAMES.false checked w.find.result
          (λ e. let f : ⊥ = search rules in f) (w.find.ensures ∙ ap (λ n. found a.names.now n) w.called.ensures)
      | else-names-eq-MOST_NAMES-via-else-names-eq-MOST_NAMES w ↦
          place-room a.size a.names.now a.name.now a.body.now a.place c.if-names-gt-MOST_NAMES.false checked w.if-names-eq-MOST_NAMES.false
    ]
