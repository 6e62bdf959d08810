-- Files written, and each refusal of writing. One theorem.
-- Assumes nothing.
use mathlib.Core.Path.{◌≡◌, refl}
use mathlib.Core.List.{map}
use Rattle.match_write.specs.Inner.Examples.{Row, examples}

pub examples-hold : map (λ (r : Row). r.got) examples ≡ map (λ (r : Row). r.wanted) examples
unfolding examples
examples-hold = refl
