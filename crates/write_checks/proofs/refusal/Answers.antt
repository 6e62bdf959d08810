-- The goals of `write_checks::refusal` that the check leaves.
use Rattle.std.proofs.Common.{rules, ◌≡◌, ◌∙◌, ap, true, false, ◌||◌, ◌+◌, ◌*◌, leb, ltb, length, Err}
use Rattle.answer.specs.Numbers.{told}
use Rattle.machine.specs.Soundness.{valid_size}
use Rattle.write_checks.proofs.Checking.{refused, no_room, passed}
use Rattle.write_checks.proofs.refusal.Goals as goal

pub returns-in_err-warrior_refusal : goal.returns-in_err-warrior_refusal
returns-in_err-warrior_refusal c =
    let a = c.args in
    let valid : valid_size a.size ≡ true = search rules in
    let is : c.from_residual.result ≡ Err c.in_err-warrior_refusal.field-0.0 = search rules in
    ap told is
    ∙ refused a.size a.n a.w.name.now a.w.body.now a.w.place (4 + 43 * (a.n + 1) + a.rest + length a.w.body.now) a.room valid
    c.in_err-warrior_refusal.field-0.0 c.in_err-warrior_refusal.ensures

pub returns-then-not-has_room : goal.returns-then-not-has_room
returns-then-not-has_room c =
    let a = c.args in
    let valid : valid_size a.size ≡ true = search rules in
    let long = 4 + 43 * (a.n + 1) + a.rest + length a.w.body.now in
    let full : (leb 16 a.n || ltb a.room long) ≡ true = search rules in
    no_room a.size a.n a.w.name.now a.w.body.now a.w.place long a.room valid c.in_ok-warrior_refusal.ensures full

pub returns : goal.returns
returns c =
    let a = c.args in
    let valid : valid_size a.size ≡ true = search rules in
    let long = 4 + 43 * (a.n + 1) + a.rest + length a.w.body.now in
    let fits : (leb 16 a.n || ltb a.room long) ≡ false = search rules in
    passed a.size a.n a.w.name.now a.w.body.now a.w.place long a.room valid c.in_ok-warrior_refusal.ensures fits
