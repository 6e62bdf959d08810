-- What is printed for the files of the table.
-- Assumes nothing.
use mathlib.Core.Path.{◌≡◌, refl}
use mathlib.Core.List.{map}
use Rattle.battle.specs.Inner.Games.{Row, games}

pub games-print : map (λ (r : Row). r.got) games ≡ map (λ (r : Row). r.wanted) games
unfolding games
games-print = refl
