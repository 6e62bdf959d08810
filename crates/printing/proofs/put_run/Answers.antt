-- The goals of `printing::put_run` that the check leaves.
use mathlib.Core.Path.{subst}
use Rattle.printing.specs.Text.{decimal}
use Rattle.printing.specs.Inner.Adding.{Adds}
use Rattle.printing.proofs.Adding.{then, from-start}
use Rattle.printing.proofs.Lines.{run-text, no_text}
use Rattle.printing.proofs.put_run.Goals as goal

pub returns-then-run-gt-MOST_NAMES : goal.returns-then-run-gt-MOST_NAMES
returns-then-run-gt-MOST_NAMES c = no_text _ c.args.run.steps c.args.run.writes c.args.run.header c.args.out.now c.if-run-gt-MOST_NAMES.true

pub returns : goal.returns
returns c =
    run-text _ c.args.run.steps c.args.run.writes c.args.run.header c.if-run-gt-MOST_NAMES.false
    (from-start c.new-lines.ensures.same_bytes c.new-lines.ensures.empty
    (then (subst (λ n. Adds c.new-lines.result c.decimal.new.self (decimal n)) c.number.ensures c.decimal.ensures.adds)
    (then c.byte.ensures
    (then c.decimal-2.ensures.adds
    (then c.byte-2.ensures
    (then c.decimal-3.ensures.adds
    (then c.byte-3.ensures c.names.ensures)))))))
