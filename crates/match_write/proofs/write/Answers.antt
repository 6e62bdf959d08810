-- The goals of `match_write::write` that the check leaves.
use Rattle.std.proofs.Common.{arith, rules, ◌≡◌, ◌∙◌, sym, ap, ℕ, Result, Err}
use Rattle.answer.specs.declared.Error.{Error}
use Rattle.answer.specs.Numbers.{told}
use Rattle.match_format.specs.Format.{handed}
use Rattle.match_format.proofs.Whole.{lines_start}
use Rattle.write_checks.specs.Refusal.{given}
use Rattle.match_write.proofs.Checks.{refused, fits, written}
use Rattle.match_write.proofs.write.Goals as goal

pub overflow_sub-file : goal.overflow_sub-file
overflow_sub-file c = omega (arith, lines_start _ _ _ _ c.requires.lines)

pub returns-in_err-refusal : goal.returns-in_err-refusal
returns-in_err-refusal c =
    let a = c.args in
    let r : c.from_residual.result ≡ Err c.in_err-refusal.field-0.0 = search rules in
    ap (λ (x : Result ℕ Error). given x a.out.now) r
    ∙ refused a.file.now a.n a.start a.size (handed a.w) a.out.now c.requires c.in_err-refusal.field-0.0 (ap told (sym c.in_err-refusal.was) ∙ c.refusal.ensures)

pub store_file-requires : goal.store_file-requires
store_file-requires c =
    let a = c.args in
    let f = fits a.file.now a.n a.start a.size (handed a.w) a.out.now c.requires (ap told (sym c.in_ok-refusal.was) ∙ c.refusal.ensures) in
    (f.0, c.requires, f.1, f.2)

pub returns : goal.returns
returns c =
    let a = c.args in
    written a.file.now a.n a.start a.size (handed a.w) a.out.now c.requires (ap told (sym c.in_ok-refusal.was) ∙ c.refusal.ensures) c.store_file.ensures.0 c.store_file.ensures.1
