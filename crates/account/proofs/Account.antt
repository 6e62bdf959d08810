-- Demand 3: the account of every list of calls, by one invariant that each call keeps.
-- Assumes nothing.
use Prim.Native.Nat.{ℕ, zero, suc, ◌+◌, ◌-◌, ◌*◌, ◌≤◌}
use mathlib.Core.Path.{◌≡◌, refl, sym, ap, ◌∙◌}
use mathlib.Core.Bool.{Bool, true, false, cond, not, ◌&&◌}
use mathlib.Core.List.{List, [], ◌∷◌}
use native.Mathlib.Nat.{zero-add, add-zero, add_assoc}
use native.Mathlib.Omega.{arith}
use lib.Dec.{eqb}
use lib.ListN.{length}
use borrow.Author.Tests.{ne_eqb}
use Rattle.laws.specs.Lists.{one_if, tally, same}
use Rattle.laws.proofs.Tests.{and-true}
use Rattle.program.specs.Program.{instructions, cells}
use Rattle.metadata.specs.Metadata.{called}
use Rattle.program.proofs.Program.{cells-le}
use Rattle.machine.specs.declared.Roster.{Roster}
use Rattle.machine.specs.declared.Rules.{Rules}
use Rattle.machine.specs.State.{Machine, Outcome, joined, accepted, refusal, settle}
use Rattle.machine.specs.Names.{is_new}
use Rattle.machine.specs.Queue.{entries, name_of, entries_of, front}
use Rattle.machine.specs.Soundness.{sound_header}
use Rattle.machine.specs.Fresh.{fresh_machine, fresh}
use Rattle.machine.specs.Place.{placing, place}
use Rattle.machine.specs.Start.{starting, start}
use Rattle.machine.specs.Step.{core_after, executed, step, executes}
use Rattle.machine.specs.Run.{Ceiling, plays, ceiling_of, run}
use Rattle.machine.proofs.Step.{step-writes-three, Executed, is-executed, step-by-cases, step-some}
use Rattle.machine.proofs.Fresh.{fresh-accepted, fresh-lengths}
use Rattle.machine.proofs.Place.{Placed, placeable, is-placed, place-by-cases}
use Rattle.machine.proofs.Start.{Started, startable, is-started, start-by-cases}
use Rattle.machine.proofs.ByName.{Stepped, stepped, Named, place-named, start-named}
use Rattle.machine.proofs.SoundMachine.{SoundMachine, sound-ready, step_keeps, place-keeps, start-keeps, fresh-sound}
use Rattle.account.specs.Calls as Calls
use Rattle.account.specs.Calls.{Call, Place, Start, Step, Run, outcome, left, reported, Event, log_step, log_steps, log_run, log_call, logged}
use Rattle.account.specs.Lists.{spread, SameCalls}
use Rattle.account.specs.Account.{Account, EveryAccount, start_of, call_of, child_of, ending_of, since_ending, differing}
use Rattle.account.proofs.Cells.{step-cells, placed-cells, fresh_cells}
use Rattle.account.proofs.Spread.{spreads}

-- what every call keeps
record Invariant (m : Machine) (w : ℕ) (log : List Event) : Type 0 where
  sound : SoundMachine m
  account : Account m w log

-- one instruction executed, of the name t, with p pushes and x writes
module _ (m m' : Machine) (t : List ℕ) (w x : ℕ) (log : List Event) (i : Invariant m w log) where
  abbrev happened : ℕ → List Event
  happened p = Calls.executed t p x ∷ log

  balance : (n : List ℕ) (p : ℕ) → p ≤ 2 → entries_of m' n + one_if (same t n) ≡ entries_of m n + p * one_if (same t n)
      → entries_of m' n + tally (ending_of n) (happened p) ≡ tally (start_of n) (happened p) + tally (child_of n) (happened p)
  balance n zero h e = let a = i.account.entries n in omega arith
  balance n (suc zero) h e = let a = i.account.entries n in omega arith
  balance n (suc (suc zero)) h e = let a = i.account.entries n in omega arith
  balance n (suc (suc (suc p))) h e = absurd (let f : ⊥ = omega arith in f)

  idle : (n : List ℕ) (p : ℕ) → p ≤ 2 → one_if (same t n) ≤ entries_of m n → entries_of m' n + one_if (same t n) ≡ entries_of m n + p * one_if (same t n)
      → entries_of m' n ≡ 0 → since_ending n (happened p) ≡ 0
  idle n p h a e z = go p (same t n) h a e
    where
      old : entries_of m n ≡ 0 → since_ending n log ≡ 0
      old = i.account.idle n

      go : (p : ℕ) (b : Bool) → p ≤ 2 → one_if b ≤ entries_of m n → entries_of m' n + one_if b ≡ entries_of m n + p * one_if b
          → cond (eqb p 0 && b) 0 (one_if b + since_ending n log) ≡ 0
      go zero true h a e = refl
      go zero false h a e = let s = old (omega arith) in omega arith
      go (suc zero) true h a e = absurd (let f : ⊥ = omega arith in f)
      go (suc zero) false h a e = let s = old (omega arith) in omega arith
      go (suc (suc zero)) true h a e = absurd (let f : ⊥ = omega arith in f)
      go (suc (suc zero)) false h a e = let s = old (omega arith) in omega arith
      go (suc (suc (suc p))) b h a e = absurd (let f : ⊥ = omega arith in f)

  -- a name without entries has none, and it is not the one that executed
  still-none : (n : List ℕ) (p : ℕ) → p ≤ 2 → one_if (same t n) ≤ entries_of m n → entries_of m' n + one_if (same t n) ≡ entries_of m n + p * one_if (same t n)
      → entries_of m n ≡ 0 → entries_of m' n ≡ 0
  still-none n zero h a e z = omega arith
  still-none n (suc zero) h a e z = omega arith
  still-none n (suc (suc zero)) h a e z = omega arith
  still-none n (suc (suc (suc p))) h a e z = absurd (let f : ⊥ = omega arith in f)

-- a says that a name is new, b that it is the one called next, k how many calls had it
still-new : (a b : Bool) (k : ℕ) → a ≡ eqb k 0 → (a && not b) ≡ eqb (one_if b + k) 0
still-new a false k e = and-true a ∙ e ∙ ap (λ (j : ℕ). eqb j 0) (sym (zero-add k))
still-new true true k e = sym (ne_eqb (1 + k) 0 (λ (z : 1 + k ≡ 0). let f : ⊥ = omega arith in f))
still-new false true k e = sym (ne_eqb (1 + k) 0 (λ (z : 1 + k ≡ 0). let f : ⊥ = omega arith in f))

after-step : (m : Machine) (o : Outcome) (w : ℕ) (log : List Event) → Invariant m w log → SoundMachine o.machine
    → Executed m o → Stepped m o → o.writes ≤ 3 → differing (core_after m) ≤ differing m.core + o.writes
    → Invariant o.machine (w + o.writes) (Calls.executed (name_of m (front m)) o.pushes o.writes ∷ log)
after-step m o w log i sound e s three core =
    record {
      sound = sound;
      account = record {
        entries = balanced;
        counts = λ n. ap (λ (k : ℕ). k + tally (ending_of n) after) (s.agree.counts n) ∙ balanced n;
        steps = let a = i.account.steps in let b = e.steps in omega arith;
        writes = let a = i.account.writes in omega arith;
        bound = let a = i.account.bound in let b = e.steps in omega arith;
        cells = let a = i.account.cells in let b : differing o.machine.core ≡ differing (core_after m) = ap differing e.core in omega arith;
        names = λ n. ap (λ (ns : Roster). is_new ns n) e.names ∙ i.account.names n ∙ ap (λ (k : ℕ). eqb k 0) (sym (zero-add (tally (call_of n) log)));
        idle = λ n. idle m o.machine t w o.writes log i n o.pushes e.pushes (s.had n) (s.entries n);
        others = λ n z. none-left n (i.account.others n (omega arith));
        never_started = λ n z. let a = i.account.never_started n (omega arith) in let h = s.had n in (omega (arith, a.0, a.1, h), none-left n a.1);
      };
    }
  where
    t : List ℕ
    t = name_of m (front m)

    after : List Event
    after = Calls.executed t o.pushes o.writes ∷ log

    balanced : (n : List ℕ) → entries_of o.machine n + tally (ending_of n) after ≡ tally (start_of n) after + tally (child_of n) after
    balanced n = balance m o.machine t w o.writes log i n o.pushes e.pushes (s.entries n)

    none-left : (n : List ℕ) → entries_of m n ≡ 0 → entries_of o.machine n ≡ 0
    none-left n = still-none m o.machine t w o.writes log i n o.pushes e.pushes (s.had n) (s.entries n)

-- a body placed, under the name t
after-place : (m : Machine) (t body : List ℕ) (at : ℕ) (o : Outcome) (w : ℕ) (log : List Event) → Invariant m w log → SoundMachine o.machine
    → Placed m body at o → Named m t 0 o.machine
    → Invariant o.machine (w + o.writes) (Calls.placed t (instructions body) o.writes ∷ log)
after-place m t body at o w log i sound l b =
    record {
      sound = sound;
      account = record {
        entries = λ n. let a = b.entries n in let c = i.account.entries n in omega arith;
        counts = λ n. let a = b.agree.counts n in let c = b.entries n in let d = i.account.entries n in omega arith;
        steps = let a = i.account.steps in let c = l.steps in omega arith;
        writes = let a = i.account.writes in omega arith;
        bound = let a = i.account.bound in let c = l.steps in let d = l.writes in omega arith;
        cells = let a = i.account.cells in let c = placed-more in omega arith;
        names = λ n. b.names n ∙ still-new (is_new m.header.names n) (same t n) (tally (call_of n) log) (i.account.names n);
        idle = λ n z. let a = b.entries n in let c = i.account.idle n (omega arith) in omega arith;
        others = λ n z. let a = b.entries n in let c = i.account.others n (omega arith) in omega arith;
        never_started = λ n z. let a = b.entries n in let c = i.account.never_started n (omega arith) in (omega (arith, c.0), omega (arith, a, c.1));
      };
    }
  where
    placed-more : differing o.machine.core ≤ differing m.core + o.writes
    placed-more =
        let p = placed-cells (cells m.header.rules.size body) m.core at in
        let q : length (cells m.header.rules.size body) ≤ instructions body = cells-le m.header.rules.size body in
        rw (l.core, l.writes) (omega arith)

-- a process started, under the name t
after-start : (m : Machine) (t : List ℕ) (o : Outcome) (w : ℕ) (log : List Event) → Invariant m w log → SoundMachine o.machine
    → Started m o → Named m t 1 o.machine
    → Invariant o.machine (w + o.writes) (Calls.started t o.writes ∷ log)
after-start m t o w log i sound l b =
    record {
      sound = sound;
      account = record {
        entries = λ n. let a = b.entries n in let c = i.account.entries n in omega arith;
        counts = λ n. let a = b.agree.counts n in let c = b.entries n in let d = i.account.entries n in omega arith;
        steps = let a = i.account.steps in let c = l.steps in omega arith;
        writes = let a = i.account.writes in omega arith;
        bound = let a = i.account.bound in let c = l.steps in let d = l.writes in omega arith;
        cells = let a = i.account.cells in let c : differing o.machine.core ≡ differing m.core = ap differing l.core in omega arith;
        names = λ n. b.names n ∙ still-new (is_new m.header.names n) (same t n) (tally (call_of n) log) (i.account.names n);
        idle = λ n z. let a = b.entries n in let c = i.account.idle n (omega arith) in omega arith;
        others = λ n z. let a = b.entries n in let c = i.account.others n (omega arith) in omega arith;
        never_started = λ n z. let a = b.entries n in let c = i.account.never_started n (omega arith) in (omega (arith, c.0), omega (arith, a, c.1, z));
      };
    }

-- a refusal, and each call
after-refusal : {m : Machine} {w : ℕ} {log : List Event} → Invariant m w log → Invariant m (w + 0) log
after-refusal {w} i = rw (add-zero w) i

step_kept : (m : Machine) (w : ℕ) (log : List Event) → Invariant m w log → Invariant (step m).machine (w + (step m).writes) (log_step m log)
step_kept m w log i =
    step-by-cases
    (λ o. SoundMachine o.machine
    → Invariant o.machine (w + o.writes) (cond (executes o.number) (Calls.executed (name_of m (front m)) o.pushes o.writes ∷ log) log))
    m (λ n v e x s. rw x (after-refusal i))
    (λ e s.
    let d = is-executed m in
    rw d.executes
    (after-step m (executed m) w log i s d (stepped m (sound-ready m i.sound (step-some m e)) i.sound.agree)
    (rw d.writes (step-writes-three m)) (rw d.writes (step-cells m))))
    (step_keeps m i.sound)

steps-kept : (k : ℕ) (m : Machine) (w : ℕ) (log : List Event) → Invariant m w log
    → Invariant (plays k m).machine (w + (plays k m).writes) (log_steps k m log)
steps-kept zero m w log i = after-refusal i
steps-kept (suc k) m w log i =
    go (eqb (step m).number 0) (step_kept m w log i) (steps-kept k (step m).machine (w + (step m).writes) (log_step m log) (step_kept m w log i))
  where
    go : (b : Bool) → Invariant (step m).machine (w + (step m).writes) (log_step m log)
        → Invariant (plays k (step m).machine).machine (w + (step m).writes + (plays k (step m).machine).writes)
        (log_steps k (step m).machine (log_step m log))
        → Invariant (cond b (joined (step m) (plays k (step m).machine)) (step m)).machine
        (w + (cond b (joined (step m) (plays k (step m).machine)) (step m)).writes)
        (cond b (log_steps k (step m).machine (log_step m log)) (log_step m log))
    go true i j = rw (← add_assoc w (step m).writes (plays k (step m).machine).writes) j
    go false i j = i

run-kept : (c : Ceiling) (m : Machine) (w : ℕ) (log : List Event) → Invariant m w log
    → Invariant (run c m).machine (w + (run c m).writes) (log_run c m log)
unfolding run
run-kept c m w log i = go (sound_header m)
  where
    k : ℕ
    k = ceiling_of c - m.header.steps

    go : (b : Bool) → Invariant (settle (cond (not b) (refusal 9 0) accepted) m (plays k m)).machine
        (w + (settle (cond (not b) (refusal 9 0) accepted) m (plays k m)).writes) (cond b (log_steps k m log) log)
    go true = steps-kept k m w log i
    go false = after-refusal i

place_kept : (name body : List ℕ) (at : ℕ) (m : Machine) (w : ℕ) (log : List Event) → Invariant m w log
    → Invariant (place m name body at).machine (w + (place m name body at).writes) (log_call (Place name body at) m log)
place_kept name body at m w log i =
    place-by-cases m name body at
    (λ o. SoundMachine o.machine
    → Invariant o.machine (w + o.writes) (cond (eqb o.number 0) (Calls.placed (called name) (instructions body) o.writes ∷ log) log))
    (λ n v e x s. rw x (after-refusal i))
    (λ e s.
    let l = is-placed m name body at in
    rw l.number
    (after-place m (called name) body at (placing m (called name) body at) w log i s l
    (place-named m name body at i.sound.header i.sound.agree (placeable m name body at e))))
    (place-keeps m name at i.sound body)

start_kept : (name : List ℕ) (at : ℕ) (m : Machine) (w : ℕ) (log : List Event) → Invariant m w log
    → Invariant (start m name at).machine (w + (start m name at).writes) (log_call (Start name at) m log)
start_kept name at m w log i =
    start-by-cases m name at
    (λ o. SoundMachine o.machine → Invariant o.machine (w + o.writes) (cond (eqb o.number 0) (Calls.started (called name) o.writes ∷ log) log))
    (λ n v e x s. rw x (after-refusal i))
    (λ e s.
    let l = is-started m name at in
    rw l.number
    (after-start m (called name) (starting m (called name) at) w log i s l
    (start-named m name at i.sound.header i.sound.agree (startable m name at e))))
    (start-keeps m name at i.sound)

-- any list of calls
call_kept : (c : Call) (m : Machine) (w : ℕ) (log : List Event) → Invariant m w log
    → Invariant (outcome c m).machine (w + (outcome c m).writes) (log_call c m log)
call_kept (Place name body at) m w log i = place_kept name body at m w log i
call_kept (Start name at) m w log i = start_kept name at m w log i
call_kept Step m w log i = step_kept m w log i
call_kept (Run c) m w log i = run-kept c m w log i

calls-kept : (cs : List Call) (m : Machine) (w : ℕ) (log : List Event) → Invariant m w log → Invariant (left outcome cs m) (w + reported outcome cs m) (logged cs m log)
calls-kept [] m w log i = after-refusal i
calls-kept (c ∷ cs) m w log i =
    rw (← add_assoc w (outcome c m).writes (reported outcome cs (outcome c m).machine))
    (calls-kept cs (outcome c m).machine (w + (outcome c m).writes) (log_call c m log) (call_kept c m w log i))

-- the machine just made
fresh-account : (rules : Rules) (core queue : List ℕ) → Account (fresh_machine rules core queue) 0 []
unfolding entries
fresh-account rules core queue =
    record {
      entries = λ n. refl;
      counts = λ n. refl;
      steps = refl;
      writes = refl;
      bound = omega arith;
      cells = rw (fresh_cells (length core)) (omega arith);
      names = λ n. refl;
      idle = λ n z. refl;
      others = λ n z. refl;
      never_started = λ n z. (refl, refl);
    }

-- DEMAND 3
pub account : EveryAccount
account rules core queue ok own_core own_queue a b calls =
    rw (fresh-lengths rules core queue own_core own_queue a b ok, ← same.machine, ← same.writes, ← same.log [])
    (rw (zero-add _) at (calls-kept (spread calls m) m 0 [] start).account)
  where
    m : Machine
    m = (fresh rules core queue).machine

    same : SameCalls calls m
    same = spreads calls m

    start : Invariant m 0 []
    start =
        record { sound = fresh-sound rules core queue ok; account = rw (fresh-accepted rules core queue ok).1 (fresh-account rules core queue) }
