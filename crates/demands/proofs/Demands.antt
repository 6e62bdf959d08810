-- The three demands are met.
-- Assumes nothing.
use Prim.Native.Nat.{ℕ}
use mathlib.Core.Path.{◌≡◌, sym, ap, subst, ◌∙◌}
use mathlib.Core.Bool.{true, false}
use mathlib.Core.List.{List, []}
use mathlib.Core.Option.{some}
use Rattle.answer.specs.Numbers.{Told, gives, told}
use Rattle.machine.specs.declared.Rules.{Rules}
use Rattle.machine.specs.State.{Machine}
use Rattle.machine.specs.Fresh.{fresh}
use Rattle.machine.specs.Step.{executes}
use Rattle.machine.specs.Whole.{Unlimited}
use Rattle.machine.proofs.Battles.{battles-prove}
use Rattle.machine.proofs.Whole.{whole}
use Rattle.machine.proofs.ProcessLimit.{process-limit}
use Rattle.lent.specs.Given.{Given}
use Rattle.account.specs.Calls.{Step, Event, left, reported}
use Rattle.account.specs.Lists.{outcome_of, logged_of}
use Rattle.account.specs.Account.{Account}
use Rattle.account.proofs.Spread.{spreads}
use Rattle.account.proofs.Account.{account}
use Rattle.account.proofs.Endings.{no_entry_left, no_entry_left_says, runs_on, ended_one, answer_says}
use Rattle.account.proofs.NeverNine.{never_nine, reading_done}
use Rattle.draft.specs.Departures.{departs}
use Rattle.draft.specs.Agreement.{Drafted}
use Rattle.draft.proofs.Agreement.{agreement}
use Rattle.reference.specs.Core.{Core, new}
use Rattle.reference.specs.Refinement.{Domain, Agrees}
use Rattle.reference.proofs.Compared.{same-compared}
use Rattle.reference.proofs.Refinement.{refinement}
use Rattle.round_trip.proofs.RoundTrip.{first_reads, added_reads, writes_back}
use Rattle.match_format.specs.Faults.{fault, fault_at}
use Rattle.match_file.specs.Reading.{contents_in, line_in}
use Rattle.match_file.proofs.Values.{read-told}
use Rattle.demands.specs.Promise.{Promise}
use Rattle.demands.specs.Made.{JustMade, calls, last}
use Rattle.demands.specs.Groups.{Group, GroupsMade, compared, GroupsAgree}
use Rattle.demands.specs.Demands.{Demand1, Demand2, Demand3, Facts}
use Rattle.demands.proofs.Kept.{code-keeps}
use Rattle.demands.proofs.Refusals.{fresh-refuses, exported-fresh-refuses, place-refuses, start-refuses, step-refuses, cell-refuses, cell-zero, default-refuses}
use Rattle.demands.proofs.Runs.{run-refuses}
use Rattle.demands.proofs.Matches.{match-refuses}
use Rattle.demands.proofs.Files.{file-refuses, file-zero, line-refuses, first-refuses, added-refuses}
use Rattle.demands.proofs.Lists.{just-made, made-follows}
use Rattle.demands.proofs.Groups.{groups-agree}

pub demand-1 : Demand1
demand-1 =
    record {
      fresh = fresh-refuses;
      fresh_exported = exported-fresh-refuses;
      place = place-refuses;
      start = start-refuses;
      step = step-refuses;
      run = run-refuses;
      load_match = match-refuses;
      get = λ m z r e. cell-refuses m z (told r).number (ap (λ (t : Told). t.number) e.0);
      get_exported = λ m z number cell e. (cell-refuses m z number e.0, cell-zero m z cell e.1);
      default = default-refuses;
      read = λ f r e. file-refuses f (told r) (ap told e ∙ read-told (fault f) (contents_in f));
      read_exported = λ f t warriors size e. (file-refuses f t e.0, file-zero f t warriors size e);
      read_line = λ f k r e. line-refuses f k (told r) (ap told e ∙ read-told (fault_at f k) (line_in f k));
      read_line_exported = λ f k line e. line-refuses f k (gives line.number line.position) e.0;
      write_first = first-refuses;
      write_added = added-refuses;
    }

draft_made : (m : Machine) (g : Given) → Promise Step m g → executes g.told.number ≡ true → departs m ≡ false → Drafted m g.machine
draft_made m g e t d =
    subst (λ (x : Given). executes x.told.number ≡ true → Drafted m x.machine) (sym e) (λ t. agreement m t d) t

rust_made : (rules : Rules) (core queue : List ℕ) (m : Machine) → Unlimited rules → JustMade rules core queue m
    → (c : Core) × (new rules.size ≡ some c) × ((made : List Group) → GroupsMade made m → Domain (compared made m) m → GroupsAgree made m c)
rust_made rules core queue m u started =
    let s = just-made rules core queue m started in
    let r = refinement rules core queue u s.0 in (
      r.0,
      r.1,
      λ made h d.
          groups-agree made m r.0 h
          (subst (λ (n : Machine). Agrees (compared made m) n r.0) (sym s.1) (r.2 (compared made m) (subst (λ (n : Machine). Domain (compared made m) n) s.1 d))),
    )

pub demand-2 : Demand2
demand-2 =
    record {
      draft = agreement;
      draft_made = draft_made;
      battles = battles-prove;
      code = code-keeps;
      machine = made-follows;
      rust = refinement;
      rust_calls = same-compared;
      rust_made = rust_made;
      first_reads = first_reads;
      added_reads = added_reads;
      writes_back = writes_back;
    }

pub demand-3 : Demand3
demand-3 rules core queue m started own_core own_queue a b made h =
    let s = just-made rules core queue m started in
    let f = made-follows made m h in
    subst (λ (w : ℕ). Account (last made m) w log) (sym f.1)
    (subst (λ (n : Machine). Account n (reported outcome_of (calls made) m) log) (sym f.0)
    (subst (λ (n : Machine). Account (left outcome_of (calls made) n) (reported outcome_of (calls made) n) log) (sym s.1)
    (account rules core queue s.0 own_core own_queue a b (calls made))))
  where
    log : List Event
    log = logged_of (calls made) (fresh rules own_core own_queue).machine []

pub facts : Facts
facts =
    record {
      spread = spreads;
      whole = whole;
      process_limit = process-limit;
      no_entry_left = no_entry_left;
      no_entry_left_says = no_entry_left_says;
      runs_on = runs_on;
      ended_one = ended_one;
      answer_says = answer_says;
      never_nine = never_nine;
      reading_done = reading_done;
    }
