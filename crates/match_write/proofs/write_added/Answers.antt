-- The goals of `match_write::write_added` that the check leaves.
use Rattle.std.proofs.Common.{rules, ◌≡◌, sym, ap, ◌∙◌, ℕ, Result, Err}
use Rattle.answer.specs.declared.Error.{Error}
use Rattle.match_format.specs.Format.{handed}
use Rattle.write_checks.specs.Refusal.{given}
use Rattle.match_write.proofs.Added.{earlier, added, not-read}
use Rattle.match_write.proofs.write_added.Goals as goal

pub returns-in_err-contents : goal.returns-in_err-contents
returns-in_err-contents c =
    let r : c.from_residual.result ≡ Err c.in_err-contents.field-0.0 = search rules in
    ap (λ (x : Result ℕ Error). given x c.args.out.now) r
    ∙ not-read c.args.file.now (handed c.args.w) c.args.out.now c.in_err-contents.field-0.0 (sym c.in_err-contents.was ∙ c.read.ensures)

pub write-requires : goal.write-requires
write-requires c = earlier c.args.file.now c.in_ok-contents.contents (sym c.in_ok-contents.was ∙ c.read.ensures)

pub returns : goal.returns
returns c = added c.args.file.now c.in_ok-contents.contents (sym c.in_ok-contents.was ∙ c.read.ensures) (handed c.args.w) c.args.out.now c.write.ensures
