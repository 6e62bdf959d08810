-- What came of the match files of the table.
-- Assumes nothing.
use mathlib.Core.Path.{◌≡◌, refl}
use mathlib.Core.List.{map}
use Rattle.match_load.specs.Inner.Matches.{Row, matches}

pub matches-load : map (λ (r : Row). r.got) matches ≡ map (λ (r : Row). r.wanted) matches
unfolding matches
matches-load = refl
