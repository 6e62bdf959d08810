-- A name registered: the Rust enters it at its first push, we with count and next thread number 0 before. The push leaves the same.
-- Assumes nothing.
use Prim.Native.Nat.{ℕ, ◌+◌, ◌≤◌, ◌<◌}
use mathlib.Core.Path.{◌≡◌, refl, sym, ap, ap₂, ◌∙◌}
use mathlib.Core.Bool.{Bool, true, false, cond, ◌&&◌}
use mathlib.Core.List.{List, [], ◌∷◌, ◌++◌, map}
use mathlib.Core.Option.{Option, none, some}
use native.Mathlib.Omega.{arith}
use lib.Dec.{eqb}
use lib.ListN.{length, get_or, set, length-set, get_or-append}
use lib.Seq.{get_or-set_same, set-set}
use borrow.Author.Tests.{eqb-true, eqb-false}
use Rattle.laws.specs.Lists.{lowest, same}
use Rattle.machine.specs.declared.Header.{Header}
use Rattle.machine.specs.State.{Machine}
use Rattle.machine.specs.Names.{names, slot, is_new, register, registered}
use Rattle.machine.specs.Queue.{unpacked_entry, entries}
use Rattle.machine.proofs.Names.{length-names, names-register, Held, held-register}
use Rattle.machine.proofs.Soundness.{SoundHeader, name-short, holding}
use Rattle.machine.proofs.Agreement.{Known, Agree}
use Rattle.reference.specs.Process as Process
use Rattle.reference.specs.Process.{Pair, Queue, get, insert, or_zero}
use Rattle.reference.specs.Core.{Core, with_queue}
use Rattle.reference.specs.Same.{entry_of, pairs, Same}
use Rattle.reference.proofs.Maps.{pairs-get-new, pairs-insert-new, get-held, insert-held}

-- a queue of the Rust's that has the name already, and pushes to the same
pub record Named (m : Machine) (c : Core) (n : List ℕ) (g : Header) : Type 0 where
  pub queue : Queue
  pub same : Same (holding m.core g m) (with_queue c queue)
  pub pushes : (p : ℕ) → Process.push n p none c.process_queue ≡ Process.push n p none queue

module _ (m : Machine) (c : Core) (sound : SoundHeader m) (agree : Agree m) (s : Same m c) (n : List ℕ) (fits : length n ≤ 32) where
  abbrev h : Header
  h = m.header

  -- a new name
  module _ (e : slot h.names n ≡ h.names.held) (room : h.names.held < 16) where
    abbrev g : Header
    g = register h n

    news : names g.names ≡ names h.names ++ (n ∷ [])
    news = names-register h n sound.shape room fits (name-short m sound)

    held : Held g h.names.held n
    held = rw e at (held-register h n news e)

    few : g.names.held ≤ 16
    unfolding register
    few = omega arith

    -- earlier entries keep their names
    kept : (ws : List ℕ) → Known h.names.held ws → map (entry_of h) ws ≡ map (entry_of g) ws
    kept [] k = refl
    kept (w ∷ ws) k =
        ap₂ ◌∷◌
        (ap (λ (x : List ℕ). record { name = x; thread = (unpacked_entry w).thread; offset = (unpacked_entry w).place.0 })
        (sym (ap (λ (l : List (List ℕ)). get_or l (unpacked_entry w).name []) news
        ∙ get_or-append (names h.names) (n ∷ []) [] (unpacked_entry w).name (rw (length-names h) k.0))))
        (kept ws k.1)

    abbrev queue : Queue
    queue = record { queue = c.process_queue.queue; processes = pairs (names g.names) g.counts; next_thread_id = pairs (names g.names) g.threads }

    new-same : Same (holding m.core g m) (with_queue c queue)
    unfolding register entries
    new-same =
        record {
          instructions = s.instructions;
          queue = s.queue ∙ kept (entries m) agree.known;
          processes = refl;
          next_thread_id = refl;
          steps_taken = s.steps_taken;
        }

    -- a map without the name, and one with it and 0: the same once it is raised
    module _ (vs us : List ℕ) (p : List Pair) (l : length vs ≡ 16) (u : us ≡ set vs h.names.held 0) (q : p ≡ pairs (names h.names) vs) where
      free : lowest (same n) (names h.names) ≡ length (names h.names)
      free = e ∙ sym (length-names h)

      long : length us ≡ 16
      long = ap length u ∙ length-set vs _ _ ∙ l

      none_yet : get n p ≡ none
      none_yet = ap (get n) q ∙ pairs-get-new n (names h.names) vs free

      zero-there : get n (pairs (names g.names) us) ≡ some 0
      zero-there =
          get-held g h.names.held n held few us long ∙ ap some (ap (λ (l : List ℕ). get_or l h.names.held 0) u ∙ get_or-set_same vs h.names.held 0 0 (rw l room))

      number_same : or_zero (get n p) ≡ or_zero (get n (pairs (names g.names) us))
      number_same = ap or_zero none_yet ∙ sym (ap or_zero zero-there)

      raised-without : insert n 1 p ≡ pairs (names h.names ++ (n ∷ [])) (set vs h.names.held 1)
      raised-without =
          ap (insert n 1) q
          ∙ pairs-insert-new n 1 (names h.names) vs free (rw (length-names h, l) room)
          ∙ ap (λ (i : ℕ). pairs (names h.names ++ (n ∷ [])) (set vs i 1)) (length-names h)

      raised-with : insert n 1 (pairs (names g.names) us) ≡ pairs (names h.names ++ (n ∷ [])) (set vs h.names.held 1)
      raised-with =
          insert-held g h.names.held n held few us long 1
          ∙ ap₂ (λ (l : List (List ℕ)) (x : List ℕ). pairs l (set x h.names.held 1)) news u
          ∙ ap (pairs (names h.names ++ (n ∷ []))) (set-set vs h.names.held 0 1)

      raised-same : insert n (or_zero (get n p) + 1) p ≡ insert n (or_zero (get n (pairs (names g.names) us)) + 1) (pairs (names g.names) us)
      raised-same =
          ap (λ (o : Option ℕ). insert n (or_zero o + 1) p) none_yet
          ∙ raised-without
          ∙ sym (ap (λ (o : Option ℕ). insert n (or_zero o + 1) (pairs (names g.names) us)) zero-there ∙ raised-with)

    counts-are : g.counts ≡ set h.counts h.names.held 0
    unfolding register
    counts-are = refl

    threads-are : g.threads ≡ set h.threads h.names.held 0
    unfolding register
    threads-are = refl

    new-pushes : (p : ℕ) → Process.push n p none c.process_queue ≡ Process.push n p none queue
    unfolding Process.push
    new-pushes p =
        let a = number_same h.threads g.threads c.process_queue.next_thread_id sound.shape.threads threads-are s.next_thread_id in
        let b = raised-same h.counts g.counts c.process_queue.processes sound.shape.counts counts-are s.processes in
        let d = raised-same h.threads g.threads c.process_queue.next_thread_id sound.shape.threads threads-are s.next_thread_id in
        λ j. record {
          queue = c.process_queue.queue ++ (record { name = n; thread = a j; offset = p } ∷ []);
          processes = b j;
          next_thread_id = d j;
        }

  -- a name, held or new
  pub named : (is_new h.names n && eqb h.names.held 16) ≡ false → Named m c n (registered h n)
  named free = go (is_new h.names n) refl free
    where
      go : (b : Bool) → is_new h.names n ≡ b → (b && eqb h.names.held 16) ≡ false → Named m c n (cond b (register h n) h)
      go false e free = record { queue = c.process_queue; same = held_same; pushes = λ p. refl }
        where
          held_same : Same (holding m.core h m) c
          held_same = s
      go true e free =
          let k : h.names.held ≡ 16 → ⊥ = eqb-false _ _ free in
          let l : h.names.held < 16 = omega (arith, sound.few) in
          record { queue = queue (eqb-true _ _ e) l; same = new-same (eqb-true _ _ e) l; pushes = new-pushes (eqb-true _ _ e) l }
