-- The goals of `battle::playing::play_loaded` that the check leaves.
use mathlib.Core.Path.{ap}
use Rattle.answer.specs.Numbers.{told}
use Rattle.lent.specs.Parts.{machine_of}
use Rattle.battle.proofs.Plays.{runs-few}
use Rattle.battle.proofs.playing.play_loaded.Goals as goal

pub returns-clause-few : goal.returns-clause-few
returns-clause-few c =
    let made = c.fresh-made in
    let loads = c.load_match in
    let ran = c.run in
    runs-few c.args.file.now c.args.rules c.args.core.now c.args.queue.now
    _ (machine_of made.new.core made.new.queue made.result.header) made.ensures (ap (λ a. (told a).number) c.in_ok-made.was)
    _ (machine_of loads.new.core loads.new.queue loads.result.outcome.header) loads.ensures.0
    _ (machine_of ran.new.core ran.new.queue ran.result.header) ran.ensures
