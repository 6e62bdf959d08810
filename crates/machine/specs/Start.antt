-- Starting a process at an absolute place under a name (01, 'Load'; 02, A.4 and A.5).
-- Believed. Assumes nothing.
use Rattle.std.specs.Prelude.{ℕ, not, ◌&&◌, List, [], ◌∷◌, eqb, get_or}
use Rattle.metadata.specs.Metadata.{called}
use Rattle.machine.specs.State.{Machine, under, Outcome, done, Check, check, first, settle}
use Rattle.machine.specs.Names.{slot, is_new, seventeenth, registered}
use Rattle.machine.specs.Queue.{full, started}
use Rattle.machine.specs.Soundness.{sound_header}
use Rattle.machine.specs.Place.{name_and_place_check}

-- starting registers a name not yet held; an entry at the place is pushed. Writes: none
unfoldable pub starting : Machine → List ℕ → ℕ → Outcome
starting m name at = let h = m.header in done (started at (slot h.names name) (under (registered h name) m)) 0 1

-- order of starting: 9 (header), and then 5, 6 for a seventeenth name and where the name holds P, 8; a name that is not held holds none
abbrev pub start_rows : Machine → List ℕ → ℕ → List Check
start_rows m given at =
    let h = m.header in
    let name = called given in
    let i = slot h.names name in
    name_and_place_check h.rules.size given at
    ∷ check (seventeenth h.names name) 6
    ∷ check (not (is_new h.names name) && full m i) 6
    ∷ check (not (is_new h.names name) && eqb (get_or h.threads i 0) 4294967295) 8
    ∷ []

abbrev pub start_checks : Machine → List ℕ → ℕ → List Check
start_checks m given at = check (not (sound_header m)) 9 ∷ start_rows m given at

unfoldable pub start : Machine → List ℕ → ℕ → Outcome
start m given at = settle (first (start_checks m given at)) m (starting m (called given) at)
