-- What placing and starting answer: their refusals in their order, and none.
-- Assumes nothing.
use mathlib.Core.Path.{◌≡◌, refl, sym, ap, ◌∙◌}
use mathlib.Core.Bool.{Bool, true, false, cond, not, ◌&&◌, ◌||◌}
use mathlib.Core.List.{List, [], ◌∷◌, ◌++◌}
use Prim.Native.Nat.{ℕ, ◌≤◌, ◌<◌}
use native.Mathlib.Omega.{arith}
use lib.Dec.{eqb, leb}
use lib.ListN.{get_or}
use borrow.Author.Tests.{lt-ltb, le-ltb, le-leb, lt-leb, eq-eqb, ne_eqb}
use Rattle.answer.specs.declared.Error.{Error}
use Rattle.answer.specs.Numbers.{Told, gives, told_error}
use Rattle.std.proofs.Common.{Option, Some, None}
use Rattle.laws.proofs.Tests.{and-false}
use Rattle.metadata.specs.Metadata.{valid_name, called}
use Rattle.machine.specs.declared.Roster.{Roster}
use Rattle.machine.specs.State.{Machine, Check, check, accepted, refusal, first, verdict_told}
use Rattle.machine.specs.Names.{slot, is_new, seventeenth}
use Rattle.machine.specs.Queue.{full}
use Rattle.machine.specs.Place.{warrior_checks}
use Rattle.names.specs.Finding.{found}
use Rattle.names.proofs.Naming.{held_at, held-lt, not_held}
use Rattle.warrior_checks.specs.Refusal.{tested_place_checks, place_told, tested_start_checks, start_told, warrior_told}
use Rattle.warrior_checks.proofs.Warrior.{warrior-refused, warrior-accepted}

-- placing
module _ (size : ℕ) (names : Roster) (name body : List ℕ) (at : ℕ) where
  abbrev Places : Told → Type 0
  Places t = t ≡ place_told size names name body at

  pub place-many : 16 < names.held → Places (gives 9 0)
  unfolding place_told
  place-many h = simp (lt-ltb 16 names.held h)

  module _ (few : names.held ≤ 16) where
    abbrev rest : List Check
    rest = check (seventeenth names (called name)) 6 ∷ []

    past : first (tested_place_checks size names name body at) ≡ first (warrior_checks size name body at ++ rest)
    past = ap (λ (b : Bool). cond b (refusal 9 0) (first (warrior_checks size name body at ++ rest))) (le-ltb 16 names.held few)

    pub place-refused : (e : Error) → told_error e ≡ warrior_told size name body at → Places (told_error e)
    unfolding place_told
    place-refused e is = warrior-refused size name body at rest e is ∙ ap verdict_told (sym past)

    module _ (taken : gives 0 0 ≡ warrior_told size name body at) where
      reached : first (tested_place_checks size names name body at) ≡ cond (seventeenth names (called name)) (refusal 6 0) accepted
      reached = past ∙ warrior-accepted size name body at rest taken

      pub place-full : names.held ≡ 16 → None ≡ found names (called name) → Places (gives 6 0)
      unfolding place_told
      place-full e absent =
          ap verdict_told {x = refusal 6 0} (sym (reached ∙ simp (not_held names (called name) few absent, eq-eqb _ _ e)))

      -- fewer names, or one that is held
      pub place-room : (names.held ≡ 16 → ⊥) → Places (gives 0 0)
      unfolding place_told
      place-room e = ap verdict_told {x = accepted} (sym (reached ∙ simp (ne_eqb _ _ e, and-false)))

      pub place-held : (o : Option ℕ) → (None ≡ o → ⊥) → o ≡ found names (called name) → Places (gives 0 0)
      unfolding place_told
      place-held None some e = absurd (some refl)
      place-held (Some i) some e = ap verdict_told {x = accepted} (sym (reached ∙ simp ((held_at names (called name) e).0)))

-- starting
module _ (m : Machine) (name : List ℕ) (at : ℕ) where
  abbrev Starts : Told → Type 0
  Starts t = t ≡ start_told m name at

  pub start-many : 16 < m.header.names.held → Starts (gives 9 0)
  unfolding start_told
  start-many h = simp (lt-ltb 16 m.header.names.held h)

  module _ (few : m.header.names.held ≤ 16) where
    pub start-invalid : (not (valid_name name) || leb m.header.rules.size at) ≡ true → Starts (gives 5 0)
    unfolding start_told
    start-invalid e = simp (le-ltb 16 m.header.names.held few, e)

    module _ (valid : (not (valid_name name) || leb m.header.rules.size at) ≡ false) where
      reaches : first (tested_start_checks m name at)
          ≡ cond (seventeenth m.header.names (called name)) (refusal 6 0)
          (cond (not (is_new m.header.names (called name)) && full m (slot m.header.names (called name))) (refusal 6 0)
          (cond (not (is_new m.header.names (called name)) && eqb (get_or m.header.threads (slot m.header.names (called name)) 0) 4294967295) (refusal 8 0) accepted))
      reaches = simp (le-ltb 16 m.header.names.held few, valid)

      -- a name that is held
      module _ {i : ℕ} (held : Some i ≡ found m.header.names (called name)) where
        old : is_new m.header.names (called name) ≡ false
        old = (held_at m.header.names (called name) held).0

        index_is : i ≡ slot m.header.names (called name)
        index_is = (held_at m.header.names (called name) held).1

        pub below : i < 16
        below = let l : i < m.header.names.held = held-lt m.header.names (called name) held in omega arith

        pub no_process : m.header.rules.processes ≤ get_or m.header.counts i 0 → Starts (gives 6 0)
        unfolding start_told
        no_process h = ap verdict_told {x = refusal 6 0} (sym (reaches ∙ simp (old, ← index_is, le-leb _ _ h)))

        module _ (less : get_or m.header.counts i 0 < m.header.rules.processes) where
          pub no_number : get_or m.header.threads i 0 ≡ 4294967295 → Starts (gives 8 0)
          unfolding start_told
          no_number e = ap verdict_told {x = refusal 8 0} (sym (reaches ∙ simp (old, ← index_is, lt-leb _ _ less, eq-eqb _ _ e)))

          pub passed_held : (get_or m.header.threads i 0 ≡ 4294967295 → ⊥) → Starts (gives 0 0)
          unfolding start_told
          passed_held e = ap verdict_told {x = accepted} (sym (reaches ∙ simp (old, ← index_is, lt-leb _ _ less, ne_eqb _ _ e)))

      -- one that is not
      module _ (absent : None ≡ found m.header.names (called name)) where
        new : is_new m.header.names (called name) ≡ true
        new = not_held m.header.names (called name) few absent

        pub no_index : m.header.names.held ≡ 16 → Starts (gives 6 0)
        unfolding start_told
        no_index e = ap verdict_told {x = refusal 6 0} (sym (reaches ∙ simp (new, eq-eqb _ _ e)))

        pub passed_new : (m.header.names.held ≡ 16 → ⊥) → Starts (gives 0 0)
        unfolding start_told
        passed_new e = ap verdict_told {x = accepted} (sym (reaches ∙ simp (new, ne_eqb _ _ e)))
