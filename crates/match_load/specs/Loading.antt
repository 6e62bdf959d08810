-- Every warrior of a match file loaded in one call (02, A.1): its body placed, and a process started (A.5).
-- Believed. Assumes nothing.
use Rattle.std.specs.Prelude.{ℕ, zero, suc, ◌+◌, cond, not, List, [], ◌∷◌, eqb}
use Rattle.offset.specs.Offset.{ahead}
use Rattle.machine.specs.State.{Machine, Outcome, done, joined, and_then, Check, check, Verdict, accepted, refusal, first, settle}
use Rattle.machine.specs.Soundness.{sound_header}
use Rattle.machine.specs.Place.{place}
use Rattle.machine.specs.Start.{start}
use Rattle.match_format.specs.Faults.{fault}
use Rattle.match_file.specs.Reading.{warriors_in, size_in, warrior_of}
use Rattle.match_file.specs.Refusal.{malformed}

-- what comes of loads: their outcome, and the number of the warrior at which they stopped, from 0; 0 where none was refused
pub record Loads : Type 0 where
  pub outcome : Outcome
  pub warrior : ℕ

-- origin is 0–65,534, or 65,535 for none, meaning 0
abbrev pub origin_of : ℕ → ℕ
origin_of origin = cond (eqb origin 65535) 0 origin

-- where warrior k of a file is started: at (place + origin) mod M
abbrev pub started_at : List ℕ → ℕ → ℕ
started_at f k = let w = warrior_of f k in ahead (size_in f) w.place (origin_of w.origin)

-- warrior k of a file: its body is placed, then a process is started. A body whose start is refused stays placed, and its writes stand
abbrev pub place_and_start : List ℕ → ℕ → Machine → Outcome
place_and_start f k m = let w = warrior_of f k in and_then (place m w.name w.body w.place) (λ n. start n w.name (started_at f k))

-- n warriors from warrior k on, one by one in file order. At the first refused call the machine is as the calls before left it;
-- the answer adds that warrior's number, and the writes are those that stand
abbrev pub loads : List ℕ → ℕ → ℕ → Machine → Loads
loads f k zero m = record { outcome = done m 0 0; warrior = 0 }
loads f k (suc n) m =
    let o = place_and_start f k m in
    let more = loads f (k + 1) n o.machine in
    cond (eqb o.number 0) (record { outcome = joined o more.outcome; warrior = more.warrior }) (record { outcome = o; warrior = k })

-- order: 9 (header), 13, 1 for an M unlike the machine's
abbrev pub match_checks : Machine → List ℕ → List Check
match_checks m f =
    check (not (sound_header m)) 9 ∷ malformed (fault f) ∷ check (not (eqb (size_in f) m.header.rules.size)) 1 ∷ []

-- then the loads; a refusal before them is at no warrior
abbrev pub after_checks : Verdict → Machine → Loads → Loads
after_checks accepted m l = l
after_checks (refusal n v) m l = record { outcome = settle (refusal n v) m l.outcome; warrior = 0 }

unfoldable pub load_match : Machine → List ℕ → Loads
load_match m f = after_checks (first (match_checks m f)) m (loads f 0 (warriors_in f) m)
