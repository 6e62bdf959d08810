-- Laws of placing. For every machine: refusals, lengths, what an accepted call leaves. A sound header and a sound core stay sound.
-- Assumes nothing.
use Prim.Native.Nat.{ℕ, ◌≤◌, ◌<◌}
use mathlib.Core.Path.{◌≡◌, refl, sym, ap, ◌∙◌}
use mathlib.Core.Bool.{true, false, true≢false}
use mathlib.Core.List.{List, [], ◌∷◌}
use native.Mathlib.Omega.{arith}
use lib.Dec.{eqb, ltb}
use lib.ListN.{length, set, length-set}
use borrow.Author.Tests.{leb-false, ltb-false, not-false}
use Rattle.laws.proofs.Tests.{neither}
use Rattle.laws.proofs.Every.{◌and◌, Every}
use Rattle.cell.specs.Cells.{sound_word}
use Rattle.offset.specs.Offset.{ahead}
use Rattle.program.specs.Program.{instructions, lowest_fault, cells}
use Rattle.program.proofs.Program.{cells-sound}
use Rattle.metadata.specs.Metadata.{valid_name, called}
use Rattle.machine.specs.State.{Machine, Outcome, accepted, refusal, first, settle}
use Rattle.machine.specs.Names.{seventeenth}
use Rattle.machine.specs.Place.{placed, placing, place_checks, place}
use Rattle.machine.proofs.Checks.{passed, settle-by-cases, Refused, refused}
use Rattle.machine.proofs.Soundness.{SoundHeader}
use Rattle.machine.proofs.Registering.{renamed, naming-sound}
use Rattle.machine.proofs.Pointers.{SoundCore, word_set}

-- the body in the core
length-placed : (ws core : List ℕ) (p : ℕ) → length (placed core p ws) ≡ length core
length-placed [] core p = refl
length-placed (w ∷ ws) core p = length-placed ws (set core p w) (ahead (length core) p 1) ∙ length-set core p w

placed-sound : (size : ℕ) (ws core : List ℕ) (p : ℕ) → Every (λ w. sound_word size w ≡ true) ws → SoundCore size core → SoundCore size (placed core p ws)
placed-sound size [] core p e c = c
placed-sound size (w ∷ ws) core p e c = placed-sound size ws (set core p w) (ahead (length core) p 1) e.1 (word_set size core p w c e.0)

-- an accepted call: what its checks told
pub record Placeable (m : Machine) (given body : List ℕ) (at : ℕ) : Type 0 where
  pub short : instructions body ≤ m.header.rules.size
  pub lawful : ltb (lowest_fault body) (instructions body) ≡ false
  pub valid : valid_name given ≡ true
  pub inside : at < m.header.rules.size
  pub free : seventeenth m.header.names (called given) ≡ false

pub placeable : (m : Machine) (given body : List ℕ) (at : ℕ) → first (place_checks m given body at) ≡ accepted → Placeable m given body at
placeable m given body at e =
    let p = passed (place_checks m given body at) e in
    let five = neither _ _ p.1.1.1.0 in
    record {
      short = ltb-false _ _ p.1.0;
      lawful = p.1.1.0;
      valid = not-false _ five.0;
      inside = leb-false _ _ five.1;
      free = p.1.1.1.1.0;
    }

-- what it leaves
pub record Placed (m : Machine) (body : List ℕ) (at : ℕ) (o : Outcome) : Type 0 where
  pub core : o.machine.core ≡ placed m.core at (cells m.header.rules.size body)
  pub queue : o.machine.queue ≡ m.queue
  pub rules : o.machine.header.rules ≡ m.header.rules
  pub steps : o.machine.header.steps ≡ m.header.steps
  pub number : o.number ≡ 0
  pub writes : o.writes ≡ instructions body
  pub counted : o.steps ≡ 0
  pub pushes : o.pushes ≡ 0

module _ (m : Machine) (given body : List ℕ) (at : ℕ) where
  abbrev pub core-placed : List ℕ
  core-placed = placed m.core at (cells m.header.rules.size body)

  core-length : length core-placed ≡ length m.core
  core-length = length-placed (cells m.header.rules.size body) m.core at

  pub is-placed : Placed m body at (placing m (called given) body at)
  unfolding placing
  is-placed =
      let r = renamed m.header (called given) in
      record { core = refl; queue = refl; rules = r.rules; steps = r.steps; number = refl; writes = refl; counted = refl; pushes = refl }

  -- a call is refused, and leaves the machine as it was, or it is accepted
  pub place-by-cases : (P : Outcome → Type 0)
      → ((n v : ℕ) → first (place_checks m given body at) ≡ refusal n v → eqb n 0 ≡ false → P (settle (refusal n v) m (placing m (called given) body at)))
      → (first (place_checks m given body at) ≡ accepted → P (placing m (called given) body at))
      → P (place m given body at)
  unfolding place
  place-by-cases =
      settle-by-cases (λ n. eqb n 0 ≡ false) (place_checks m given body at) m (placing m (called given) body at)
      (refl and refl and refl and refl and refl and tt)

  pub place-refused : eqb (place m given body at).number 0 ≡ false → Refused m (place m given body at)
  place-refused =
      place-by-cases (λ o. eqb o.number 0 ≡ false → Refused m o) (λ n v e x f. refused n v m (placing m (called given) body at))
      (λ e f. absurd (true≢false (sym (ap (λ (n : ℕ). eqb n 0) is-placed.number) ∙ f)))

  -- the lengths of core and queue, the rules, and steps taken
  pub place-fixed : (length (place m given body at).machine.core ≡ length m.core)
      × ((place m given body at).machine.queue ≡ m.queue)
      × ((place m given body at).machine.header.rules ≡ m.header.rules)
      × ((place m given body at).machine.header.steps ≡ m.header.steps)
      × ((place m given body at).steps ≡ 0)
  place-fixed =
      place-by-cases
      (λ o. (length o.machine.core ≡ length m.core) × (o.machine.queue ≡ m.queue) × (o.machine.header.rules ≡ m.header.rules)
      × (o.machine.header.steps ≡ m.header.steps) × (o.steps ≡ 0))
      (λ n v e x. (refl, refl, refl, refl, refl))
      (λ e. let i = is-placed in (ap length i.core ∙ core-length, i.queue, i.rules, i.steps, i.counted))

  -- a sound header stays sound
  pub placing-sound : SoundHeader m → Placeable m given body at → SoundHeader (placing m (called given) body at).machine
  unfolding placing
  placing-sound s l = naming-sound m given core-placed s l.valid l.free (core-length ∙ s.core)

  pub place-sound : SoundHeader m → SoundHeader (place m given body at).machine
  place-sound s = place-by-cases (λ o. SoundHeader o.machine) (λ n v e x. s) (λ e. placing-sound s (placeable m given body at e))

  -- a sound core stays sound
  pub placing-core-sound : Placeable m given body at → SoundCore m.header.rules.size m.core
      → SoundCore m.header.rules.size (placing m (called given) body at).machine.core
  placing-core-sound l c =
      rw is-placed.core
      (placed-sound m.header.rules.size (cells m.header.rules.size body) m.core at
      (cells-sound m.header.rules.size (let h = l.inside in omega arith) c.small body l.lawful) c)
