-- What the calls that play give.
-- Inner. Assumes nothing.
use Rattle.std.specs.Prelude.{Result, Ok, Err}
use Rattle.answer.specs.declared.Error.{Error}
use Rattle.answer.specs.Numbers.{told, told_error}
use Rattle.machine.specs.declared.Outcome.{Outcome}
use Rattle.battle.specs.Match as spec

-- what came of a file: a run, or an error before it
abbrev pub result_of : Result Outcome Error → spec.Result
result_of (Ok run) = spec.played (told run.answer).number run.steps run.writes run.header
result_of (Err error) = spec.refused (told_error error)
