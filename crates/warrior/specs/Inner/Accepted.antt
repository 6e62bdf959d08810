-- What placing and starting know of a name that passed the checks past the header's test.
-- Inner. Assumes nothing.
use Rattle.std.specs.Prelude.{ℕ, ◌≤◌, ◌<◌, List, length}
use Rattle.machine.specs.declared.Roster.{Roster}
use Rattle.machine.specs.Names.{slot}

-- of the names held and a name that is not empty
pub record Accepted (names : Roster) (name : List ℕ) : Type 0 where
  pub few : names.held ≤ 16
  pub short : length name ≤ 32
  pub free : slot names name < 16
