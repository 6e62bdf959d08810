-- The goals of `battle::playing::play_file` that the check leaves.
use mathlib.Core.Path.{◌≡◌, ap, ◌∙◌}
use lib.ListN.{take}
use lib.Seq.{length-take-le}
use native.Mathlib.Omega.{arith}
use Rattle.std.proofs.Common.{rules, Err}
use Rattle.machine.specs.declared.Rules.{Rules}
use Rattle.machine.specs.Fresh.{fresh}
use Rattle.battle.specs.Match.{after_fresh}
use Rattle.battle.specs.Inner.Given.{result_of}
use Rattle.battle.proofs.Plays.{too_long, malformed, too-big, fits}
use Rattle.battle.proofs.playing.play_file.Goals as goal

pub returns-then-file-gt-LONGEST_FILE-clause-comes : goal.returns-then-file-gt-LONGEST_FILE-clause-comes
returns-then-file-gt-LONGEST_FILE-clause-comes c = too_long c.args.file.now (omega arith)

pub returns-in_err-contents-clause-comes : goal.returns-in_err-contents-clause-comes
returns-in_err-contents-clause-comes c =
    let same : c.from_residual.result ≡ Err c.in_err-contents.field-0.0 = search rules in
    ap result_of same ∙ malformed c.args.file.now (omega arith) _ c.in_err-contents.ensures

pub returns-then-contents-core-clause-comes : goal.returns-then-contents-core-clause-comes
returns-then-contents-core-clause-comes c = too-big c.args.file.now (omega arith) c.in_ok-contents.contents c.in_ok-contents.ensures (omega arith)

pub returns-clause-comes : goal.returns-clause-comes
returns-clause-comes c =
    let contents = c.in_ok-contents.contents in
    let core = take contents.size c.args.core.now in
    c.play_loaded.ensures.comes
    ∙ ap (λ (r : Rules). after_fresh c.args.file.now (fresh r core c.args.queue.now)) c.of_size.ensures
    ∙ fits c.args.file.now (omega arith) contents c.in_ok-contents.ensures (omega arith) core c.args.queue.now
    (length-take-le contents.size c.args.core.now (omega arith)) c.requires.1
