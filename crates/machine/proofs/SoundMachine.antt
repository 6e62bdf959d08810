-- The machine that is sound all through, its counts those of its entries: fresh makes it; place, start, step and run keep it.
-- Assumes nothing.
use Prim.Native.Nat.{ℕ, ◌/◌, ◌^◌, ◌≤◌, ◌<◌}
use mathlib.Core.Path.{◌≡◌, refl, sym, subst, ◌∙◌}
use mathlib.Core.Bool.{true, false}
use mathlib.Core.List.{List}
use native.Mathlib.Omega.{arith}
use lib.Dec.{leb}
use lib.ListN.{length, get_or, length-replicate}
use borrow.Author.Tests.{leb-true, lt-ltb}
use Rattle.laws.specs.Lists.{same}
use Rattle.laws.proofs.Tests.{both}
use Rattle.laws.proofs.Every.{Every, every-replicate}
use Rattle.laws.proofs.Same.{same_refl}
use Rattle.cell.specs.Cells.{fresh_cell, sound_word}
use Rattle.metadata.specs.Metadata.{called}
use Rattle.machine.specs.declared.Entry.{Entry}
use Rattle.machine.specs.declared.Rules.{Rules}
use Rattle.machine.specs.State.{Machine, accepted, first}
use Rattle.machine.specs.Names.{slot, numbered}
use Rattle.machine.specs.Queue.{entry, packed_entry, unpacked_entry, entries, name_of, entries_of, front, full, pop, push, started}
use Rattle.machine.specs.Soundness.{fresh_checks}
use Rattle.machine.specs.Fresh.{fresh}
use Rattle.machine.specs.Place.{placing, place}
use Rattle.machine.specs.Start.{starting, start}
use Rattle.machine.specs.Execution.{Next}
use Rattle.machine.specs.Step.{popped, effect, counted, queued, executed, step_checks, step}
use Rattle.machine.specs.Run.{Ceiling, run}
use Rattle.machine.proofs.Checks.{accepted-passes}
use Rattle.machine.proofs.Entries.{packed-place, packed-top}
use Rattle.machine.proofs.Queue.{tally-pop, every-pop, every-push}
use Rattle.machine.proofs.Names.{held_at, count_at}
use Rattle.machine.proofs.Soundness.{is-taken, SoundHeader, size_small, counts-long, room, push-sound, numbered-sound, holding}
use Rattle.machine.proofs.Agreement.{Agree}
use Rattle.machine.proofs.Pointers.{SoundCore}
use Rattle.machine.proofs.Execution.{Places}
use Rattle.machine.proofs.Fresh.{fresh-accepted}
use Rattle.machine.proofs.Registering.{naming, naming-room, naming-rules, naming-entries, naming-sound}
use Rattle.machine.proofs.Place.{Placeable, placeable, is-placed, core-placed, place-by-cases, placing-sound, placing-core-sound}
use Rattle.machine.proofs.Start.{Startable, startable, is-started, start-by-cases, starting-sound}
use Rattle.machine.proofs.Queueing.{queued-by-cases}
use Rattle.machine.proofs.Step.{next-places, executed-core-sound, is-executed, step-by-cases, Ready, step-some, counting, counting-sound, counting-free, executed-sound}
use Rattle.machine.proofs.Bounds.{Bounded, blank-bounded, executed-bounded, placing-bounded, starting-bounded}
use Rattle.machine.proofs.ByName.{stepped, place-named, start-named}
use Rattle.machine.proofs.Run.{run-keeps}

-- an entry's place is in the core, and its other bits are zero
abbrev pub Inside : ℕ → ℕ → Type 0
Inside size w = ((unpacked_entry w).place.0 < size) × (w / 2 ^ 52 ≡ 0)

pub record SoundMachine (m : Machine) : Type 0 where
  pub header : SoundHeader m
  pub numbers : Bounded m.header
  pub agree : Agree m
  pub core : SoundCore m.header.rules.size m.core
  pub entries : Every (Inside m.header.rules.size) (entries m)

-- a pushed entry
packed-inside : (size : ℕ) (e : Entry) → size ≤ 65536 → e.place.0 < size → Inside size (packed_entry e)
packed-inside size e small h = (subst (λ (k : ℕ). k < size) (sym (packed-place e (omega arith))) h, packed-top e)

push-inside : (e : Entry) (m : Machine) → SoundHeader m → m.header.ring.length < length m.queue → e.place.0 < m.header.rules.size
    → Every (Inside m.header.rules.size) (entries m) → Every (Inside m.header.rules.size) (entries (push e m))
push-inside e m s room p h =
    every-push e m s.head room (Inside m.header.rules.size) h (packed-inside m.header.rules.size e (size_small m s) p)

started-inside : (c i : ℕ) (m : Machine) → SoundHeader m → m.header.ring.length < length m.queue → c < m.header.rules.size
    → Every (Inside m.header.rules.size) (entries m) → Every (Inside m.header.rules.size) (entries (started c i m))
unfolding started numbered entries
started-inside c i m s room p h =
    push-inside (entry c (get_or m.header.threads i 0) i) (holding m.core (numbered i m.header) m) (numbered-sound m s m.core s.core i) room p h

queued-inside : (x : Next) (e : Entry) (m : Machine) → SoundHeader m → e.name < m.header.names.held → full m e.name ≡ false
    → Places (λ p. p < m.header.rules.size) x → Every (Inside m.header.rules.size) (entries m)
    → Every (Inside m.header.rules.size) (entries (queued x e m).machine)
unfolding push
queued-inside x e m s held free places h =
    queued-by-cases (λ q. Every (Inside m.header.rules.size) (entries q.machine)) (λ p. p < m.header.rules.size) e m h one
    (λ p c q r f.
    let n = push (entry p e.thread e.name) m in
    let b = push-sound m s (entry p e.thread e.name) held free in
    started-inside c e.name n b (room n b e.name held f) r (one p q))
    x places
  where
    one : (p : ℕ) → p < m.header.rules.size → Every (Inside m.header.rules.size) (entries (push (entry p e.thread e.name) m))
    one p q = push-inside (entry p e.thread e.name) m s (room m s e.name held free) q h

-- its front entry is sound
module _ (m : Machine) (s : SoundMachine m) (some : 0 < m.header.ring.length) where
  front-inside : Inside m.header.rules.size (front m)
  front-inside = (every-pop m some (Inside m.header.rules.size) s.entries).0

  front-name : (popped m).name < m.header.names.held
  front-name = (every-pop m some (λ w. (unpacked_entry w).name < m.header.names.held) s.agree.known).0

  front-count : 1 ≤ get_or m.header.counts (popped m).name 0
  front-count =
      let t = name_of m (front m) in
      let held = held_at m.header (popped m).name s.header.unlike front-name in
      let one : 1 ≤ entries_of m t = rw (tally-pop m some (λ w. same (name_of m w) t), same_refl t) (omega arith) in
      let is = count_at m.header t (popped m).name held (counts-long m s.header) in
      omega (arith, s.agree.counts t)

  pub sound-ready : Ready m
  sound-ready =
      record { some = some; header = s.header; entry = record { held = front-name; count = front-count; place = front-inside.0; top = front-inside.1 } }

-- a step keeps it
executed-inside : (m : Machine) → SoundMachine m → (some : 0 < m.header.ring.length) → Every (Inside m.header.rules.size) (entries (executed m).machine)
unfolding executed counted pop entries
executed-inside m s some =
    let r = sound-ready m s some in
    queued-inside (effect m).next (popped m) (counting m) (counting-sound m r) r.entry.held (counting-free m r)
    (next-places m s.core r.entry.place) (every-pop m some (Inside m.header.rules.size) s.entries).1

executed-keeps : (m : Machine) → SoundMachine m → first (step_checks m) ≡ accepted → SoundMachine (executed m).machine
executed-keeps m s e =
    let some = step-some m e in
    let r = sound-ready m s some in
    let i = is-executed m in
    record {
      header = executed-sound m r;
      numbers = executed-bounded m e s.numbers;
      agree = (stepped m r s.agree).agree;
      core = rw i.rules (executed-core-sound m s.core r.entry.place);
      entries = rw i.rules (executed-inside m s some);
    }

pub step_keeps : (m : Machine) → SoundMachine m → SoundMachine (step m).machine
step_keeps m s = step-by-cases (λ o. SoundMachine o.machine) m (λ n v e x. s) (λ e. executed-keeps m s e)

-- a run keeps it
pub run-keeps-sound : (c : Ceiling) (m : Machine) → SoundMachine m → SoundMachine (run c m).machine
run-keeps-sound c m s = run-keeps SoundMachine step_keeps c m s

-- a body placed and a process started keep it
module _ (m : Machine) (given : List ℕ) (at : ℕ) (s : SoundMachine m) where
  module _ (body : List ℕ) where
    placing-inside : Every (Inside m.header.rules.size) (entries (placing m (called given) body at).machine)
    unfolding placing
    placing-inside = rw (naming-entries m given (core-placed m given body at)) s.entries

    pub placing-keeps : Placeable m given body at → SoundMachine (placing m (called given) body at).machine
    placing-keeps l =
        let i = is-placed m given body at in
        record {
          header = placing-sound m given body at s.header l;
          numbers = placing-bounded m given at s.numbers body;
          agree = (place-named m given body at s.header s.agree l).agree;
          core = rw i.rules (placing-core-sound m given body at l s.core);
          entries = rw i.rules placing-inside;
        }

    pub place-keeps : SoundMachine (place m given body at).machine
    place-keeps = place-by-cases m given body at (λ o. SoundMachine o.machine) (λ n v e x. s) (λ e. placing-keeps (placeable m given body at e))

  abbrev named : Machine
  named = naming m given m.core

  starting-inside : Startable m given at → Every (Inside named.header.rules.size) (entries (starting m (called given) at).machine)
  unfolding starting
  starting-inside l =
      started-inside at (slot m.header.names (called given)) named (naming-sound m given m.core s.header l.valid l.free s.header.core)
      (naming-room m given m.core s.header l.valid l.free l.less s.header.core)
      (rw (naming-rules m given m.core) l.inside)
      (rw (naming-entries m given m.core, naming-rules m given m.core) s.entries)

  starting-keeps : Startable m given at → SoundMachine (starting m (called given) at).machine
  starting-keeps l =
      let i = is-started m given at in
      record {
        header = starting-sound m given at s.header l;
        numbers = starting-bounded m given at s.numbers l;
        agree = (start-named m given at s.header s.agree l).agree;
        core = rw (i.rules, i.core) s.core;
        entries = rw i.rules (rw (naming-rules m given m.core) at (starting-inside l));
      }

  pub start-keeps : SoundMachine (start m given at).machine
  start-keeps = start-by-cases m given at (λ o. SoundMachine o.machine) (λ n v e x. s) (λ e. starting-keeps (startable m given at e))

-- fresh makes one
pub fresh-sound : (rules : Rules) (core queue : List ℕ) → (fresh rules core queue).number ≡ 0 → SoundMachine (fresh rules core queue).machine
unfolding entries sound_word
fresh-sound rules core queue ok =
    let size = rules.size in
    let a = fresh-accepted rules core queue ok in
    let t = is-taken rules core queue (accepted-passes (fresh_checks rules core queue) a.0) in
    let positive : 0 < size = leb-true _ _ (both (leb 1 size) (leb size 46341) t.size).0 in
    let top : size ≤ 46341 = leb-true _ _ (both (leb 1 size) (leb size 46341) t.size).1 in
    let some : 1 ≤ length queue = leb-true _ _ (both (leb 1 (length queue)) (leb (length queue) 65535) t.slots).0 in
    rw a.1
    (record {
      header = record {
        shape = record { names = refl; lengths = refl; counts = refl; threads = refl };
        size = t.size;
        core = length-replicate (length core) fresh_cell ∙ t.cells;
        queue = rw (length-replicate {A = ℕ} (length queue) 0) t.slots;
        processes = rw (length-replicate {A = ℕ} (length queue) 0) t.processes;
        limits = t.limits;
        fits = omega arith;
        head = rw (length-replicate {A = ℕ} (length queue) 0) some;
        few = omega arith;
        lengths = refl;
        bytes = refl;
        unlike = refl;
        sum = refl;
        within = refl;
      };
      numbers = blank-bounded rules;
      agree = record { known = tt; counts = λ n. refl };
      core = record {
        small = omega arith;
        length = length-replicate (length core) fresh_cell ∙ t.cells;
        cells = every-replicate (λ w. sound_word size w ≡ true) (length core) fresh_cell (rw (lt-ltb 0 size positive));
      };
      entries = tt;
    })
