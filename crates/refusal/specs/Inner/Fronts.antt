-- The first tests of a step after its bounds: the front entry's rows.
-- Inner. Assumes nothing.
use Rattle.std.specs.Prelude.{true, not, ◌||◌, ◌≡◌, List, [], ◌∷◌, eqb, get_or, Result, Ok, Err}
use Rattle.answer.specs.declared.Error.{Error}
use Rattle.answer.specs.Numbers.{told_error}
use Rattle.machine.specs.declared.Entry.{Entry}
use Rattle.machine.specs.State.{Machine, Check, check, accepted, refusal, first}
use Rattle.machine.specs.Soundness.{sound_front}
use Rattle.machine.specs.Step.{popped}

-- 7, 9 (front entry), 8
abbrev pub front_checks : Machine → List Check
front_checks m =
    let h = m.header in
    check (eqb h.ring.length 0) 7
    ∷ check (not (sound_front m)) 9
    ∷ check (eqb h.steps 4294967295 || eqb (get_or h.threads (popped m).name 0) 4294967295) 8
    ∷ []

-- the front entry where no row applies, else the refusal of the row that does
abbrev pub Fronted : Machine → Result Entry Error → Type 0
Fronted m (Ok e) = (e ≡ popped m) × (sound_front m ≡ true) × (first (front_checks m) ≡ accepted)
Fronted m (Err e) = first (front_checks m) ≡ refusal (told_error e).number (told_error e).value
