-- The names' bytes play no part in a step: a header that is ready is sound with some, and beside any with which it is sound a run goes the same way.
-- Assumes nothing.
use Rattle.std.specs.Prelude.{Some}
use Prim.Native.Nat.{ℕ, zero, suc, ◌-◌, ◌<◌}
use mathlib.Core.Path.{◌≡◌, refl, sym, ap, subst, ◌∙◌}
use mathlib.Core.Bool.{Bool, true, false, cond, ◌&&◌}
use mathlib.Core.List.{List, [], ◌∷◌, ◌++◌}
use native.Mathlib.Omega.{arith}
use lib.Dec.{eqb, leb}
use lib.ListN.{length, get_or, take, replicate}
use Rattle.laws.specs.Lists.{every, distinct}
use Rattle.laws.proofs.Numbers.{below}
use Rattle.laws.proofs.Every.{◌and◌}
use Rattle.metadata.specs.Metadata.{valid_byte}
use Rattle.machine.specs.declared.Entry.{Entry}
use Rattle.machine.specs.declared.Roster.{Roster}
use Rattle.machine.specs.declared.Rules.{Rules}
use Rattle.machine.specs.State.{Machine, Outcome, joined, and_then, Verdict, accepted, refusal, first, settle}
use Rattle.machine.specs.Names.{names, numbered}
use Rattle.machine.specs.Queue.{entry, full, pop, push, started}
use Rattle.machine.specs.Soundness.{sound_header, sound_entry}
use Rattle.machine.specs.Execution.{Next, ends, goes, splits}
use Rattle.machine.specs.Step.{popped, effect, core_after, step_written, counted, Queued, queued, next_checks, step_checks, executed, step}
use Rattle.machine.specs.Run.{plays, run}
use Rattle.machine.proofs.Names.{Shape}
use Rattle.machine.proofs.Soundness.{SoundHeader, is-taken, takes, tested, sound-header, header-sound}
use Rattle.machine.proofs.Step.{step-sound}
use Rattle.machine.proofs.Run.{run-plays}
use Rattle.lent.specs.Parts.{names_of, processes_of, parts}
use Rattle.steps.specs.Inner.Ready.{Ready, step_of, plays_of}

-- the same machine with names, as many
abbrev pub naming : List ℕ → List ℕ → Machine → Machine
naming bytes lengths m =
    let h = m.header in
    parts m.core m.queue h.rules (names_of h.names.held bytes lengths) (processes_of h)

-- a sound header, with arrays of their lengths
pub record Sound (m : Machine) : Type 0 where
  pub header : sound_header m ≡ true
  pub names : length m.header.names.bytes ≡ 512
  pub lengths : length m.header.names.lengths ≡ 16
  pub counts : length m.header.counts ≡ 16
  pub threads : length m.header.threads ≡ 16

-- sixteen names of one letter
abbrev slots_from : ℕ → ℕ → List ℕ
slots_from letter zero = []
slots_from letter (suc n) = letter ∷ (replicate 31 0 ++ slots_from (suc letter) n)

abbrev pub letters : List ℕ
letters = slots_from 65 16

abbrev pub ones : List ℕ
ones = replicate 16 1

letters-valid : (held : ℕ) → held < 17
    → (every (λ k. leb 1 k && leb k 32) (take held ones) ≡ true)
    × (every (every valid_byte) (names (names_of held letters ones)) ≡ true)
    × (distinct (names (names_of held letters ones)) ≡ true)
letters-valid =
    below _ 17
    ((refl, refl, refl)
    and (refl, refl, refl)
    and (refl, refl, refl)
    and (refl, refl, refl)
    and (refl, refl, refl)
    and (refl, refl, refl)
    and (refl, refl, refl)
    and (refl, refl, refl)
    and (refl, refl, refl)
    and (refl, refl, refl)
    and (refl, refl, refl)
    and (refl, refl, refl)
    and (refl, refl, refl)
    and (refl, refl, refl)
    and (refl, refl, refl)
    and (refl, refl, refl)
    and (refl, refl, refl)
    and tt)

module _ (m : Machine) where
  pub unnamed-ready : (bytes lengths : List ℕ) → Ready (naming bytes lengths m) → Ready m
  unnamed-ready bytes lengths r =
      record { taken = r.taken; fits = r.fits; head = r.head; few = r.few; sum = r.sum; within = r.within; counts = r.counts; threads = r.threads }

  -- ready: sound with these names
  pub lettered : Ready m → Sound (naming letters ones m)
  lettered r =
      let t = is-taken m.header.rules m.core m.queue r.taken in
      let v = letters-valid m.header.names.held (omega (arith, r.few)) in
      record {
        header = header-sound (naming letters ones m) (record {
          shape = record { names = refl; lengths = refl; counts = r.counts; threads = r.threads };
          size = t.size;
          core = t.cells;
          queue = t.slots;
          processes = t.processes;
          limits = t.limits;
          fits = r.fits;
          head = r.head;
          few = r.few;
          lengths = v.0;
          bytes = v.1;
          unlike = v.2;
          sum = r.sum;
          within = r.within;
        });
        names = refl;
        lengths = refl;
        counts = r.counts;
        threads = r.threads;
      }

  -- sound: ready, whatever the names
  shape_of : Sound m → Shape m.header
  shape_of s = record { names = s.names; lengths = s.lengths; counts = s.counts; threads = s.threads }

  pub sound-ready : Sound m → Ready m
  sound-ready s =
      let t = tested m s.header in
      record {
        taken = takes m.header.rules m.core m.queue (record { size = t.size; cells = t.core; slots = t.queue; processes = t.processes; limits = t.limits });
        fits = t.fits;
        head = t.head;
        few = t.few;
        sum = t.sum;
        within = t.within;
        counts = s.counts;
        threads = s.threads;
      }

  pub sound-all : Sound m → SoundHeader m
  sound-all s = sound-header m (shape_of s) s.header

  all_sound : SoundHeader m → Sound m
  all_sound s = let t = s.shape in record { header = header-sound m s; names = t.names; lengths = t.lengths; counts = t.counts; threads = t.threads }

-- a queue's machine with another core, and with other rules and names
abbrev pub within : List ℕ → Rules → Roster → Machine → Machine
within core rules names m = parts core m.queue rules names (processes_of m.header)

-- pushes look at the queue and P only
pub queued-within : (core : List ℕ) (rules : Rules) (names : Roster) (x : Next) (e : Entry) (m : Machine) → rules.processes ≡ m.header.rules.processes
    → queued x e (within core rules names m) ≡ record { machine = within core rules names (queued x e m).machine; pushes = (queued x e m).pushes }
unfolding push started numbered
queued-within core rules names (ends x) e m l = refl
queued-within core rules names (goes p) e m l = refl
queued-within core rules names (splits p c) e m l =
    ap (λ (k : ℕ). cond {A = Queued} (leb k (get_or (push (entry p e.thread e.name) m).header.counts e.name 0)) (record { machine = push (entry p e.thread e.name) (within core rules names m); pushes = 1 })
    (record { machine = started c e.name (push (entry p e.thread e.name) (within core rules names m)); pushes = 2 })) l
    ∙ either (full (push (entry p e.thread e.name) m) e.name)
  where
    either : (b : Bool) → cond {A = Queued} b (record { machine = push (entry p e.thread e.name) (within core rules names m); pushes = 1 })
        (record { machine = started c e.name (push (entry p e.thread e.name) (within core rules names m)); pushes = 2 })
        ≡ record {
          machine = within core rules names (cond {A = Queued} b (record { machine = push (entry p e.thread e.name) m; pushes = 1 })
              (record { machine = started c e.name (push (entry p e.thread e.name) m); pushes = 2 })).machine;
          pushes = (cond {A = Queued} b (record { machine = push (entry p e.thread e.name) m; pushes = 1 })
              (record { machine = started c e.name (push (entry p e.thread e.name) m); pushes = 2 })).pushes;
        }
    either true = refl
    either false = refl

-- an outcome with names
module _ (bytes lengths : List ℕ) where
  abbrev pub named : Outcome → Outcome
  named o = record { machine = naming bytes lengths o.machine; number = o.number; value = o.value; writes = o.writes; steps = o.steps; pushes = o.pushes }

  executed-named : (m : Machine) → executed (naming bytes lengths m) ≡ named (executed m)
  unfolding executed effect core_after step_written counted pop
  executed-named m = ap put (queued-within (core_after m) m.header.rules (names_of m.header.names.held bytes lengths) (effect m).next (popped m) (counted (core_after m) (pop m)) refl)
      ∙ sym (ap (λ (q : Queued). named (put q)) (queued-within (core_after m) m.header.rules m.header.names (effect m).next (popped m) (counted (core_after m) (pop m)) refl))
    where
      put : Queued → Outcome
      put q = record { machine = q.machine; number = (executed m).number; value = (executed m).value; writes = (executed m).writes; steps = 1; pushes = q.pushes }

  pub step-named : (m : Machine) → Sound (naming bytes lengths m) → step (naming bytes lengths m) ≡ named (step_of m)
  unfolding step step_of sound_entry
  step-named m s =
      ap (λ (v : Verdict). settle v (naming bytes lengths m) (executed (naming bytes lengths m))) (checks s.header) ∙ ap (settle (first (next_checks m)) (naming bytes lengths m)) (executed-named m) ∙ settled (first (next_checks m))
    where
      checks : sound_header (naming bytes lengths m) ≡ true → first (step_checks (naming bytes lengths m)) ≡ first (next_checks m)
      checks e = simp e

      settled : (v : Verdict) → settle v (naming bytes lengths m) (named (executed m)) ≡ named (settle v m (executed m))
      settled accepted = refl
      settled (refusal n v) = refl

  pub named-sound : (m : Machine) → Sound (naming bytes lengths m) → Sound (naming bytes lengths (step_of m).machine)
  named-sound m s =
      all_sound _ (subst (λ (o : Outcome). SoundHeader o.machine) (step-named m s) (step-sound _ (sound-all (naming bytes lengths m) s)))

  plays-named : (k : ℕ) (m : Machine) → Sound (naming bytes lengths m) → plays k (naming bytes lengths m) ≡ named (plays_of k m)
  unfolding plays_of
  plays-named zero m s = refl
  plays-named (suc k) m s =
      ap (λ (o : Outcome). and_then o (plays k)) (step-named m s)
      ∙ ap (λ (r : Outcome). cond (eqb (step_of m).number 0) (joined (named (step_of m)) r) (named (step_of m))) (plays-named k (step_of m).machine (named-sound m s))
      ∙ either (eqb (step_of m).number 0)
    where
      either : (b : Bool) → cond b (joined (named (step_of m)) (named (plays_of k (step_of m).machine))) (named (step_of m)) ≡ named (cond b (joined (step_of m) (plays_of k (step_of m).machine)) (step_of m))
      either true = refl
      either false = refl

  -- a run beside names with which the header is sound
  pub run-named : (ceiling : ℕ) (m : Machine) → Sound (naming bytes lengths m) → run (Some ceiling) (naming bytes lengths m) ≡ named (plays_of (ceiling - m.header.steps) m)
  run-named ceiling m s = run-plays (Some ceiling) (naming bytes lengths m) s.header ∙ plays-named (ceiling - m.header.steps) m s
