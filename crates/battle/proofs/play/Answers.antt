-- The goals of `battle::play` that the check leaves.
use Rattle.battle.proofs.Printing.{prints-run, prints-refusal}
use Rattle.battle.proofs.play.Goals as goal

pub returns-in-Ok : goal.returns-in-Ok
returns-in-Ok c = prints-run c.args.file.now c.in-Ok.run' c.in-Ok.ensures.comes c.in-Ok.ensures.few c.put_run.ensures

pub returns-in-Err : goal.returns-in-Err
returns-in-Err c = prints-refusal c.args.file.now c.in-Err.error c.in-Err.ensures.comes c.put_refusal.ensures
