-- Pop, push and a process started, ours and the Rust's, from a same state to a same state.
-- Assumes nothing.
use Prim.Native.Nat.{ℕ, ◌+◌, ◌-◌, ◌^◌, ◌<◌}
use mathlib.Core.Path.{◌≡◌, refl, sym, ap, ap₂, subst, ◌∙◌}
use mathlib.Core.List.{List, [], ◌∷◌, ◌++◌, map, map-append}
use mathlib.Core.Option.{Option, none, some}
use native.Mathlib.Omega.{arith}
use lib.ListN.{length, get_or, set}
use Rattle.machine.specs.declared.Entry.{Entry}
use Rattle.machine.specs.State.{Machine}
use Rattle.machine.specs.Names.{names, numbered}
use Rattle.machine.specs.Queue.{entry, packed_entry, entries, front, name_of, pop, push, started}
use Rattle.machine.specs.Step.{popped, counted}
use Rattle.machine.proofs.Entries.{unpack-pack-entry}
use Rattle.machine.proofs.Queue.{entries-pop, entries-push}
use Rattle.machine.proofs.Names.{Held}
use Rattle.machine.proofs.Soundness.{SoundHeader, holding, numbered-sound}
use Rattle.machine.proofs.Step.{Ready, front-held}
use Rattle.reference.specs.Types.{Instruction}
use Rattle.reference.specs.Process as Process
use Rattle.reference.specs.Process.{Pair, Queue, get, insert, or_zero, lowered}
use Rattle.reference.specs.Core.{Core, with_queue}
use Rattle.reference.specs.Same.{word_of, entry_of, pairs, Same}
use Rattle.reference.proofs.Maps.{get-held, insert-held}

-- an entry of ours as one of the Rust's, of the name t
abbrev named : List ℕ → Entry → Process.Entry
named t e = record { name = t; thread = e.thread; offset = e.place.0 }

-- push, with a thread number given
module _ (m : Machine) (c : Core) (s : Same m c) (sound : SoundHeader m) (e : Entry) (t : List ℕ) (held : Held m.header e.name t)
    (place : e.place.0 < 2 ^ 16) (thread : e.thread < 2 ^ 32) (room : m.header.ring.length < length m.queue) where
  packed-is : entry_of m.header (packed_entry e) ≡ named t e
  packed-is =
      ap (λ (x : Entry). named (get_or (names m.header.names) x.name []) x) (unpack-pack-entry e place thread (omega (arith, held.below, sound.few)))
      ∙ ap (λ (x : List ℕ). named x e) held.at

  queue-push : c.process_queue.queue ++ (named t e ∷ []) ≡ map (entry_of m.header) (entries (push e m))
  queue-push =
      ap₂ (λ (q : List Process.Entry) (x : Process.Entry). q ++ (x ∷ [])) s.queue (sym packed-is)
      ∙ sym (ap (map (entry_of m.header)) (entries-push e m sound.head room) ∙ map-append (entry_of m.header) (entries m) (packed_entry e ∷ []))

  counts-push : insert t (or_zero (get t c.process_queue.processes) + 1) c.process_queue.processes
      ≡ pairs (names m.header.names) (set m.header.counts e.name (get_or m.header.counts e.name 0 + 1))
  counts-push =
      ap (λ (p : List Pair). insert t (or_zero (get t p) + 1) p) s.processes
      ∙ ap (λ (o : Option ℕ). insert t (or_zero o + 1) (pairs (names m.header.names) m.header.counts))
      (get-held m.header e.name t held sound.few m.header.counts sound.shape.counts)
      ∙ insert-held m.header e.name t held sound.few m.header.counts sound.shape.counts _

  pub push-same : Same (push e m) (with_queue c (Process.push t e.place.0 (some e.thread) c.process_queue))
  unfolding push Process.push
  push-same =
      record { instructions = s.instructions; queue = queue-push; processes = counts-push; next_thread_id = s.next_thread_id; steps_taken = s.steps_taken }

-- a process started: pushed with the name's next thread number, which rises by one
module _ (m : Machine) (c : Core) (s : Same m c) (sound : SoundHeader m) (place i : ℕ) (t : List ℕ) (held : Held m.header i t)
    (IsPlace-in : place < 2 ^ 16) (thread-in : get_or m.header.threads i 0 < 2 ^ 32) (room : m.header.ring.length < length m.queue) where
  abbrev thread : ℕ
  thread = get_or m.header.threads i 0

  abbrev next-ids : List Pair
  next-ids = c.process_queue.next_thread_id

  next-is : or_zero (get t next-ids) ≡ thread
  next-is =
      ap (λ (p : List Pair). or_zero (get t p)) s.next_thread_id
      ∙ ap or_zero (get-held m.header i t held sound.few m.header.threads sound.shape.threads)

  -- the number taken, and nothing pushed yet
  abbrev numbered_machine : Machine
  numbered_machine = holding m.core (numbered i m.header) m

  abbrev taken : Core
  taken =
      with_queue c (record {
        queue = c.process_queue.queue;
        processes = c.process_queue.processes;
        next_thread_id = insert t (or_zero (get t next-ids) + 1) next-ids;
      })

  taken-same : Same numbered_machine taken
  unfolding numbered entries
  taken-same =
      record {
        instructions = s.instructions;
        queue = s.queue;
        processes = s.processes;
        steps_taken = s.steps_taken;
        next_thread_id =
            ap₂ (λ (x : ℕ) (p : List Pair). insert t (x + 1) p) next-is s.next_thread_id
            ∙ insert-held m.header i t held sound.few m.header.threads sound.shape.threads _;
      }

  numbered-held : Held (numbered i m.header) i t
  unfolding numbered
  numbered-held = record { below = held.below; own = held.own; at = held.at }

  taken-push : Process.push t place none c.process_queue ≡ Process.push t place (some thread) taken.process_queue
  unfolding Process.push
  taken-push = λ j. record {
    queue = c.process_queue.queue ++ (record { name = t; thread = next-is j; offset = place } ∷ []);
    processes = insert t (or_zero (get t c.process_queue.processes) + 1) c.process_queue.processes;
    next_thread_id = insert t (or_zero (get t next-ids) + 1) next-ids;
  }

  pub started-same : Same (started place i m) (with_queue c (Process.push t place none c.process_queue))
  unfolding started numbered
  started-same =
      subst (λ (q : Queue). Same (started place i m) (with_queue c q)) (sym taken-push)
      (push-same numbered_machine taken taken-same (numbered-sound m sound m.core sound.core i) (entry place thread i) t numbered-held IsPlace-in thread-in room)

-- the front entry popped, and the step counted
module _ (m : Machine) (c : Core) (s : Same m c) (r : Ready m) where
  abbrev at : ℕ
  at = (popped m).name

  abbrev t : List ℕ
  t = name_of m (front m)

  abbrev pub fewer : List ℕ
  fewer = set m.header.counts at (get_or m.header.counts at 0 - 1)

  abbrev pub left : Queue
  left =
      record {
        queue = map (entry_of m.header) (entries (pop m));
        processes = pairs (names m.header.names) fewer;
        next_thread_id = c.process_queue.next_thread_id;
      }

  pub pop-is : Process.pop c.process_queue ≡ Process.Ok (entry_of m.header (front m)) left
  pop-is =
      ap (λ (q : List Process.Entry). Process.pop_from q c.process_queue) (s.queue ∙ ap (map (entry_of m.header)) (entries-pop m r.some))
      ∙ ap (λ (o : Option ℕ). lowered o (entry_of m.header (front m)) (map (entry_of m.header) (entries (pop m))) c.process_queue)
      (ap (get t) s.processes ∙ get-held m.header at t (front-held m r) r.header.few m.header.counts r.header.shape.counts)
      ∙ ap (λ (p : List Pair).
      Process.Ok (entry_of m.header (front m)) (record { queue = map (entry_of m.header) (entries (pop m)); processes = p; next_thread_id = c.process_queue.next_thread_id }))
      (ap (insert t (get_or m.header.counts at 0 - 1)) s.processes
      ∙ insert-held m.header at t (front-held m r) r.header.few m.header.counts r.header.shape.counts _)

  pub counted_same : (core : List ℕ) (instructions : List Instruction) → instructions ≡ map word_of core
      → Same (counted core (pop m)) (record { instructions = instructions; process_queue = left; steps_taken = c.steps_taken + 1 })
  unfolding counted pop entries
  counted_same core instructions e =
      record { instructions = e; queue = refl; processes = refl; next_thread_id = s.next_thread_id; steps_taken = ap (λ (n : ℕ). n + 1) s.steps_taken }
