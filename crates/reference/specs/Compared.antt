-- What of our calls is compared with the Rust (02, A.5): a load of the Rust's, which is a place followed by a start, and single calls. The theorem is in proofs/Compared.antt.
-- Believed. Assumes nothing.
use Rattle.std.specs.Prelude.{ℕ, zero, suc, ◌+◌, ◌≡◌, cond, List, [], ◌∷◌, ◌++◌, eqb}
use Rattle.answer.specs.Numbers.{Told, gives}
use Rattle.machine.specs.State.{Machine, Outcome, told_by, and_then, passes}
use Rattle.machine.specs.Place.{place}
use Rattle.machine.specs.Start.{start}
use Rattle.match_file.specs.Reading.{warriors_in, warrior_of}
use Rattle.match_load.specs.Loading.{started_at, place_and_start, match_checks}
use Rattle.account.specs.Calls.{Call, Place, Start, outcome, left, reported}
use Rattle.account.specs.Lists.{Listed, One, LoadMatch, outcome_of, made, spread}

-- a load of the Rust's, of a name, a body and an origin, with the places of its body and of its start; or a single call
pub data Compared : Type 0 where
  Load : (name body : List ℕ) (origin at start_at : ℕ) → Compared
  Single : Call → Compared

-- our calls for it: a load is a place followed by a start, which is not made where the place is refused
abbrev pub calls_of : Compared → Machine → List Call
calls_of (Load name body origin at start_at) m = made (Place name body at ∷ Start name start_at ∷ []) m
calls_of (Single c) m = c ∷ []

-- and what they come to
abbrev pub comes_to : Compared → Machine → Outcome
comes_to (Load name body origin at start_at) m = and_then (place m name body at) (λ n. start n name start_at)
comes_to (Single c) m = outcome c m

-- our calls for a list
abbrev pub calls_for : List Compared → Machine → List Call
calls_for [] m = []
calls_for (x ∷ xs) m = calls_of x m ++ calls_for xs (comes_to x m).machine

-- a call of demand 3's lists: itself, or the loads of a match's warriors, of which those are made up to a refused one
abbrev pub loads_in : List ℕ → ℕ → ℕ → Machine → List Compared
loads_in f k zero m = []
loads_in f k (suc n) m =
    let w = warrior_of f k in
    let o = place_and_start f k m in
    Load w.name w.body w.origin w.place (started_at f k) ∷ cond (eqb o.number 0) (loads_in f (k + 1) n o.machine) []

abbrev pub compared_of : Listed → Machine → List Compared
compared_of (One c) m = Single c ∷ []
compared_of (LoadMatch f) m = cond (passes (match_checks m f)) (loads_in f 0 (warriors_in f) m) []

abbrev pub compared_list : List Listed → Machine → List Compared
compared_list [] m = []
compared_list (x ∷ xs) m = compared_of x m ++ compared_list xs (outcome_of x m).machine

-- what the last of single calls is answered, 0 where there is none
abbrev pub last_answer : List Call → Machine → Told
last_answer [] m = gives 0 0
last_answer (c ∷ []) m = told_by (outcome c m)
last_answer (c ∷ d ∷ cs) m = last_answer (d ∷ cs) (outcome c m).machine

-- what is compared comes to what our calls for it come to: record, writes and last answer; and of a list of demand 3's our calls for what is compared are
-- the single calls as which it counts
pub record SameCompared : Type 0 where
  pub machine : (xs : List Compared) (m : Machine) → left outcome (calls_for xs m) m ≡ left comes_to xs m
  pub writes : (xs : List Compared) (m : Machine) → reported outcome (calls_for xs m) m ≡ reported comes_to xs m
  pub answer : (x : Compared) (m : Machine) → last_answer (calls_of x m) m ≡ told_by (comes_to x m)
  pub listed : (xs : List Listed) (m : Machine) → calls_for (compared_list xs m) m ≡ spread xs m
