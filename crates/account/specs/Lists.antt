-- Demand 3's lists: single calls, and whole matches loaded in one call, each of which counts as the places and starts that it made (02, A.1 and A.5).
-- The theorem is in proofs/Spread.antt.
-- Believed. Assumes nothing.
use Rattle.std.specs.Prelude.{ℕ, zero, suc, ◌+◌, ◌≡◌, cond, List, [], ◌∷◌, ◌++◌, eqb}
use Rattle.machine.specs.State.{Machine, Outcome, passes}
use Rattle.match_file.specs.Reading.{warriors_in, warrior_of}
use Rattle.match_load.specs.Loading.{started_at, match_checks, load_match}
use Rattle.account.specs.Calls.{Call, Place, Start, outcome, left, reported, Event, logged}

-- a call of a list: a single one, or every warrior of a match file loaded
pub data Listed : Type 0 where
  One : Call → Listed
  LoadMatch : (file : List ℕ) → Listed

abbrev pub outcome_of : Listed → Machine → Outcome
outcome_of (One c) m = outcome c m
outcome_of (LoadMatch file) m = (load_match m file).outcome

-- of n warriors of a file from warrior k on, the place and the start of each
abbrev pub calls_in : List ℕ → ℕ → ℕ → List Call
calls_in f k zero = []
calls_in f k (suc n) = let w = warrior_of f k in Place w.name w.body w.place ∷ Start w.name (started_at f k) ∷ calls_in f (k + 1) n

-- of calls those that are made, one after the other up to the first that is refused, a refused one last
abbrev pub made : List Call → Machine → List Call
made [] m = []
made (c ∷ cs) m = let o = outcome c m in c ∷ cond (eqb o.number 0) (made cs o.machine) []

-- the single calls as which a call counts; a match that is refused before its first place made none
abbrev pub singles : Listed → Machine → List Call
singles (One c) m = c ∷ []
singles (LoadMatch file) m = cond (passes (match_checks m file)) (made (calls_in file 0 (warriors_in file)) m) []

-- a list as single calls
abbrev pub spread : List Listed → Machine → List Call
spread [] m = []
spread (x ∷ xs) m = singles x m ++ spread xs (outcome_of x m).machine

-- the log that 01's machine keeps of a list, call by call
abbrev pub logged_of : List Listed → Machine → List Event → List Event
logged_of [] m log = log
logged_of (x ∷ xs) m log = logged_of xs (outcome_of x m).machine (logged (singles x m) m log)

-- THE ONE LAW: a list and its spread leave the same record, report the same writes and keep the same log
pub record SameCalls (xs : List Listed) (m : Machine) : Type 0 where
  pub machine : left outcome (spread xs m) m ≡ left outcome_of xs m
  pub writes : reported outcome (spread xs m) m ≡ reported outcome_of xs m
  pub log : (log : List Event) → logged (spread xs m) m log ≡ logged_of xs m log

abbrev pub Spread : Type 0
Spread = (xs : List Listed) (m : Machine) → SameCalls xs m
