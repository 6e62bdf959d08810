-- Each departure in a battle: one theorem. What is told of each is what is seen, and machine and draft differ exactly where a departure applies.
-- Assumes nothing.
use mathlib.Core.Path.{◌≡◌, refl}
use mathlib.Core.Bool.{true}
use mathlib.Core.List.{map}
use Rattle.laws.specs.Lists.{every}
use Rattle.draft.specs.Inner.Battles.{Battle, seen, apart, battles}

pub battles-differ : (map (λ (b : Battle). seen b.rules b.warrior) battles ≡ map (λ (b : Battle). b.told) battles)
    × (every (λ (b : Battle). apart b.told) battles ≡ true)
unfolding seen
battles-differ = (refl, refl)
