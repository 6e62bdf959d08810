-- The loop of `replay::battle` comes after a number was read, and reads on.
use Rattle.std.proofs.Common.{◌<◌, length}
use Rattle.replay.proofs.battle.Given as goal

abbrev pub invariant-loop : goal.invariant-loop
invariant-loop l = length l.input.rest.now < length l.fn.input.rest.now
