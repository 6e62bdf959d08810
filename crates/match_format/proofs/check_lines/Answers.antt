-- The goals of `match_format::check_lines` that the check leaves.
use Rattle.std.proofs.Common.{rules, ◌≡◌, ◌∙◌, ap, sym, Some, None, arith}
use Rattle.std.specs.Result.{result_err}
use Rattle.match_format.specs.Faults.{end_fault}
use Rattle.match_format.proofs.Lines.{stops, goes, ends}
use Rattle.match_format.proofs.check_lines.Goals as goal

pub returns-in_err-start : goal.returns-in_err-start
returns-in_err-start c =
    let l = c.loop-line in
    let r : result_err c.from_residual.result ≡ Some c.in_err-start.field-0.0 = search rules in
    r
    ∙ stops _ _ _ _ l.line _ c.loop-line-test.true (ap result_err (sym c.in_err-start.was) ∙ c.check_line.ensures.fault)
    ∙ sym l.invariant.1

pub loop-line-preserved : goal.loop-line-preserved
loop-line-preserved c =
    let l = c.loop-line in
    (search rules, l.invariant.1 ∙ goes _ _ _ _ l.line _ _ c.loop-line-test.true (ap result_err (sym c.in_ok-start.was) ∙ c.check_line.ensures.fault) (omega arith) (search rules))

pub returns-then-file-start : goal.returns-then-file-start
returns-then-file-start c =
    let l = c.loop-line in
    let e : Some c.min.result ≡ end_fault c.args.file.now l.start = search rules in
    e ∙ sym (l.invariant.1 ∙ ends _ _ _ _ l.line c.loop-line-test.false)

pub returns : goal.returns
returns c =
    let l = c.loop-line in
    let e : None ≡ end_fault c.args.file.now l.start = search rules in
    e ∙ sym (l.invariant.1 ∙ ends _ _ _ _ l.line c.loop-line-test.false)
