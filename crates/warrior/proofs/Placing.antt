-- What placing gives past the test of the header: its refusals in their order, and a body that passes the checks.
-- Assumes nothing.
use mathlib.Core.Path.{◌≡◌, refl, sym, ap, ap₂, ◌∙◌}
use mathlib.Core.Bool.{false, cond, true≢false}
use mathlib.Core.List.{List, []}
use Prim.Native.Nat.{ℕ, ◌≤◌, ◌<◌}
use borrow.Author.Tests.{leb-false, ltb-false, not-false}
use Rattle.answer.specs.Numbers.{Told, gives}
use Rattle.laws.proofs.Tests.{neither}
use Rattle.laws.proofs.Every.{◌and◌}
use lib.Dec.{eqb}
use Rattle.program.specs.Program.{instructions, cells}
use Rattle.metadata.specs.Metadata.{called}
use Rattle.metadata.proofs.Names.{called-valid}
use Rattle.machine.specs.declared.Header.{Header}
use Rattle.machine.specs.declared.Processes.{Processes}
use Rattle.machine.specs.declared.Roster.{Roster}
use Rattle.machine.specs.declared.Rules.{Rules}
use Rattle.machine.specs.State.{Machine, under, with_core, with_queue, Verdict, accepted, refusal, first, settle}
use Rattle.machine.specs.Names.{is_new, registered}
use Rattle.machine.proofs.Checks.{passed, settle-by-cases}
use Rattle.lent.specs.Parts.{machine_of, header_of, parts, named_of, register_if}
use Rattle.lent.specs.Given.{Given, given, given_by}
use Rattle.warrior_checks.specs.Refusal.{tested_place_checks, place_told}
use Rattle.warrior_checks.proofs.Index.{not-six}
use Rattle.warrior.specs.Tested.{placed_if, placing_if, place_tested}
use Rattle.warrior.specs.Inner.Accepted.{Accepted}
use Rattle.warrior.proofs.Parts.{under_rules, registered-is}
use Rattle.warrior.proofs.Told.{refused-settles, none-applies, accepted-settles}

-- what the checks told of a body: of M and the names held
pub record Fitting (size : ℕ) (names : Roster) (given body : List ℕ) (at : ℕ) : Type 0 where
  pub name : Accepted names (called given)
  pub fits : instructions body ≤ size
  pub below : at < size

pub fitting : (size : ℕ) (names : Roster) (given body : List ℕ) (at : ℕ) → first (tested_place_checks size names given body at) ≡ accepted
    → Fitting size names given body at
fitting size names given body at e =
    let p = passed (tested_place_checks size names given body at) e in
    let five = neither _ _ p.1.1.1.0 in
    let few : names.held ≤ 16 = ltb-false _ _ p.0 in
    record {
      name = record { few = few; short = (called-valid given (not-false _ five.0)).0; free = not-six names (called given) refl few p.1.1.1.1.0 };
      fits = ltb-false _ _ p.1.0;
      below = leb-false _ _ five.1;
    }

module _ (core queue : List ℕ) (rules : Rules) (names : Roster) (p : Processes) (name body : List ℕ) (at : ℕ) where
  abbrev whole : Machine
  whole = parts core queue rules names p

  -- what they answered, which look at no memory
  module _ {t : Told} (told : t ≡ place_told rules.size names name body at) where
    pub place-refused : (t.number ≡ 0 → ⊥) → given t 0 0 whole ≡ given_by (place_tested whole name body at)
    unfolding place_told place_tested
    place-refused = refused-settles (tested_place_checks rules.size names name body at) told whole (placing_if whole (called name) body at)

    pub place-passed : t.number ≡ 0 → first (tested_place_checks rules.size names name body at) ≡ accepted
    unfolding place_told
    place-passed = none-applies (tested_place_checks rules.size names name body at) told refl

  -- a body that passed them
  pub place-done : {core' : List ℕ} {names' : Roster} {p' : Processes} {count : ℕ}
      → first (tested_place_checks rules.size names name body at) ≡ accepted
      → named_of names' p' ≡ cond (is_new names (called name)) (register_if (named_of names p) (called name)) (named_of names p)
      → core' ≡ placed_if core at (cells rules.size body)
      → count ≡ instructions body
      → given (gives 0 0) count 0 (parts core' queue rules names' p') ≡ given_by (place_tested whole name body at)
  unfolding placing_if place_tested
  place-done {core'} {names'} {p'} {count} e er ec en =
      let f = fitting rules.size names name body at e in
      ap (λ (h : Header). given (gives 0 0) count 0 (machine_of core' queue h)) (ap (under_rules rules) er ∙ registered-is rules names p (called name) f.name)
      ∙ ap₂ (λ (c : List ℕ) (n : ℕ). given (gives 0 0) n 0 (with_core c (under (registered (header_of rules names p) (called name)) whole))) ec en
      ∙ accepted-settles (tested_place_checks rules.size names name body at) whole (placing_if whole (called name) body at) e

-- no queue memory is looked at: what is given beside none is given beside any
module _ (core queue : List ℕ) (rules : Rules) (names : Roster) (p : Processes) (name body : List ℕ) (at : ℕ) where
  abbrev beside : Given → Given
  beside g = given g.told g.writes g.steps (with_queue queue g.machine.header g.machine)

  pub place-beside-queue : {t : Told} {writes : ℕ} {core' : List ℕ} {names' : Roster} {p' : Processes}
      → given t writes 0 (parts core' [] rules names' p') ≡ given_by (place_tested (parts core [] rules names p) name body at)
      → given t writes 0 (parts core' queue rules names' p') ≡ given_by (place_tested (parts core queue rules names p) name body at)
  unfolding placing_if place_tested
  place-beside-queue e = ap beside e ∙ go (first (tested_place_checks rules.size names name body at))
    where
      go : (v : Verdict) → beside (given_by (settle v (parts core [] rules names p) (placing_if (parts core [] rules names p) (called name) body at)))
          ≡ given_by (settle v (parts core queue rules names p) (placing_if (parts core queue rules names p) (called name) body at))
      go accepted = refl
      go (refusal n v) = refl

-- accepted: the checks told that it fits
pub place-fits : (m : Machine) (given body : List ℕ) (at : ℕ) → (place_tested m given body at).number ≡ 0
    → Fitting m.header.rules.size m.header.names given body at
unfolding place_tested
place-fits m given body at =
    settle-by-cases (λ n. eqb n 0 ≡ false) (tested_place_checks m.header.rules.size m.header.names given body at) m (placing_if m (called given) body at)
    (refl and refl and refl and refl and refl and tt)
    (λ o. o.number ≡ 0 → Fitting m.header.rules.size m.header.names given body at)
    (λ n v e x z. absurd (true≢false (sym (rw z) ∙ x))) (λ e z. fitting m.header.rules.size m.header.names given body at e)
