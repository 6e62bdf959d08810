-- What comes of a match file that is played (01, 'Match file', `play`).
-- Believed. Assumes nothing.
use Rattle.std.specs.Prelude.{ℕ, cond, List, eqb, ltb, length, replicate, Option, None, Some}
use Rattle.answer.specs.Numbers.{Told, gives}
use Rattle.machine.specs.declared.Header.{Header}
use Rattle.machine.specs.State.{of_size, Outcome, told_by}
use Rattle.machine.specs.Fresh.{fresh}
use Rattle.machine.specs.Run.{run}
use Rattle.match_format.specs.Faults.{fault}
use Rattle.match_file.specs.Reading.{size_in}
use Rattle.match_load.specs.Loading.{load_match}

-- refused earlier, with the answer; or played: answer, steps and writes of the run, and the header that it left
pub data Result : Type 0 where
  refused : Told → Result
  played : ℕ → ℕ → ℕ → Header → Result

-- runs with no ceiling given
abbrev pub ran : Outcome → Result
ran o = played o.number o.steps o.writes o.machine.header

abbrev pub after_loads : Outcome → Result
after_loads o = cond (eqb o.number 0) (ran (run None o.machine)) (refused (told_by o))

-- loads all, in file order, into M cells of core memory and 2,000 queue entries, with P 125 (02, A.4)
abbrev pub after_fresh : List ℕ → Outcome → Result
after_fresh f o = cond (eqb o.number 0) (after_loads (load_match o.machine f).outcome) (refused (told_by o))

-- M to 8,000, else 1
abbrev pub after_reading : List ℕ → Option ℕ → Result
after_reading f (Some p) = refused (gives 13 p)
after_reading f None =
    cond (ltb 8000 (size_in f)) (refused (gives 1 0)) (after_fresh f (fresh (of_size (size_in f) 125) (replicate (size_in f) 0) (replicate 2000 0)))

-- at most 32,768 bytes, else 13 at 32,768
unfoldable pub result : List ℕ → Result
result f = cond (ltb 32768 (length f)) (refused (gives 13 32768)) (after_reading f (fault f))
