-- What starting gives past the test of the header: its refusals in their order, and a process that passes the checks.
-- Assumes nothing.
use mathlib.Core.Path.{◌≡◌, refl, sym, ap, ◌∙◌}
use mathlib.Core.Bool.{false, cond, ◌&&◌}
use mathlib.Core.List.{List, []}
use Prim.Native.Nat.{ℕ, ◌≤◌}
use lib.Dec.{eqb, ltb}
use lib.ListN.{get_or}
use borrow.Author.Tests.{ltb-false, not-false}
use Rattle.answer.specs.Numbers.{Told, gives}
use Rattle.laws.proofs.Tests.{neither}
use Rattle.metadata.specs.Metadata.{called}
use Rattle.metadata.proofs.Names.{called-valid}
use Rattle.machine.specs.declared.Header.{Header}
use Rattle.machine.specs.declared.Processes.{Processes}
use Rattle.machine.specs.declared.Roster.{Roster}
use Rattle.machine.specs.declared.Rules.{Rules}
use Rattle.machine.specs.State.{Machine, under, with_core, Verdict, accepted, refusal, first, settle}
use Rattle.machine.specs.Names.{slot, is_new, registered}
use Rattle.machine.proofs.Checks.{passed}
use Rattle.lent.specs.Parts.{machine_of, header_of, parts, named_of, queue_of, start_if, register_if}
use Rattle.lent.specs.Given.{Given, given, given_by}
use Rattle.warrior_checks.specs.Refusal.{tested_start_checks, start_told}
use Rattle.warrior_checks.proofs.Index.{not-six, eight}
use Rattle.warrior.specs.Tested.{starting_if, start_tested}
use Rattle.warrior.specs.Inner.Accepted.{Accepted}
use Rattle.warrior.proofs.Parts.{within, starts_within, start-beside, under_rules, registered-is}
use Rattle.warrior.proofs.Told.{refused-settles, none-applies, accepted-settles}

-- what the checks told of a name: it is no seventeenth, and its next thread number can rise
pub record Ready (m : Machine) (name : List ℕ) : Type 0 where
  pub held : Accepted m.header.names name
  pub number : (ltb (slot m.header.names name) m.header.names.held && eqb (get_or m.header.threads (slot m.header.names name) 0) 4294967295) ≡ false

pub ready : (m : Machine) (given : List ℕ) (at : ℕ) → first (tested_start_checks m given at) ≡ accepted → Ready m (called given)
ready m given at e =
    let p = passed (tested_start_checks m given at) e in
    let five = neither _ _ p.1.0 in
    let few : m.header.names.held ≤ 16 = ltb-false _ _ p.0 in
    record {
      held = record { few = few; short = (called-valid given (not-false _ five.0)).0; free = not-six m.header.names (called given) refl few p.1.1.0 };
      number = sym (eight m.header (called given) refl) ∙ p.1.1.1.1.0;
    }

module _ (core queue : List ℕ) (rules : Rules) (names : Roster) (p : Processes) (name : List ℕ) (at : ℕ) where
  abbrev whole : Machine
  whole = parts core queue rules names p

  -- what they answered, which look at no memory
  module _ {t : Told} (told : t ≡ start_told (parts [] [] rules names p) name at) where
    pub start-refused : (t.number ≡ 0 → ⊥) → given t 0 0 whole ≡ given_by (start_tested whole name at)
    unfolding start_told start_tested
    start-refused = refused-settles (tested_start_checks whole name at) told whole (starting_if whole (called name) at)

    pub start-passed : t.number ≡ 0 → first (tested_start_checks whole name at) ≡ accepted
    unfolding start_told
    start-passed = none-applies (tested_start_checks whole name at) told refl

  -- a process that passed them
  pub start-done : {queue' : List ℕ} {names' : Roster} {p' p'' : Processes} {i : ℕ}
      → first (tested_start_checks whole name at) ≡ accepted
      → i ≡ slot names (called name)
      → named_of names' p' ≡ cond (is_new names (called name)) (register_if (named_of names p) (called name)) (named_of names p)
      → queue_of queue' p'' ≡ start_if at i (queue_of queue p')
      → given (gives 0 0) 0 0 (parts core queue' rules names' p'') ≡ given_by (start_tested whole name at)
  unfolding starting_if start_tested
  start-done {queue'} {names'} {p'} {p''} {i} e index er es =
      let r = ready whole name at e in
      ap (λ (m : Machine). given (gives 0 0) 0 0 m)
      (ap (within core rules names') es
      ∙ starts_within core rules names' at i queue p'
      ∙ ap (λ (h : Header). start_if at i (machine_of core queue h)) (ap (under_rules rules) er ∙ registered-is rules names p (called name) r.held)
      ∙ ap (λ (k : ℕ). start_if at k (under (registered (header_of rules names p) (called name)) whole)) index)
      ∙ accepted-settles (tested_start_checks whole name at) whole (starting_if whole (called name) at) e

-- the core is not looked at: what is given beside none is given beside any
module _ (core queue : List ℕ) (rules : Rules) (names : Roster) (p : Processes) (name : List ℕ) (at : ℕ) where
  abbrev beside : Given → Given
  beside g = given g.told g.writes g.steps (with_core core g.machine)

  pub start-beside-core : {t : Told} {queue' : List ℕ} {names' : Roster} {p' : Processes}
      → given t 0 0 (parts [] queue' rules names' p') ≡ given_by (start_tested (parts [] queue rules names p) name at)
      → given t 0 0 (parts core queue' rules names' p') ≡ given_by (start_tested (parts core queue rules names p) name at)
  unfolding starting_if start_tested
  start-beside-core e = ap beside e ∙ go (first (tested_start_checks (parts core queue rules names p) name at))
    where
      go : (v : Verdict) → beside (given_by (settle v (parts [] queue rules names p) (starting_if (parts [] queue rules names p) (called name) at)))
          ≡ given_by (settle v (parts core queue rules names p) (starting_if (parts core queue rules names p) (called name) at))
      go accepted =
          ap (λ (m : Machine). given (gives 0 0) 0 0 m)
          (start-beside core at (slot names (called name)) (under (registered (header_of rules names p) (called name)) (parts [] queue rules names p)))
      go (refusal n v) = refl
