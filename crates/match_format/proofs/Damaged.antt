-- Damaged files: each gives the position that 01 asks for. One theorem.
-- Assumes nothing.
use mathlib.Core.Path.{◌≡◌, refl}
use mathlib.Core.List.{map}
use Rattle.match_format.specs.Inner.Damaged.{Row, damaged}

pub positions : map (λ (r : Row). r.got) damaged ≡ map (λ (r : Row). r.wanted) damaged
unfolding damaged
positions = refl
