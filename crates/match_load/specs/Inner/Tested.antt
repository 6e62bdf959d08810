-- A warrior placed and started in a record whose header was tested.
-- Inner. Assumes nothing.
use Rattle.std.specs.Prelude.{ℕ, List}
use Rattle.offset.specs.Offset.{ahead}
use Rattle.machine.specs.State.{Machine, Outcome, and_then}
use Rattle.warrior.specs.Tested.{place_tested, start_tested}
use Rattle.match_load.specs.Loading.{origin_of}

abbrev pub tested : Machine → List ℕ → List ℕ → ℕ → ℕ → Outcome
tested m name body origin at =
    and_then (place_tested m name body at) (λ n. start_tested n name (ahead m.header.rules.size at (origin_of origin)))
