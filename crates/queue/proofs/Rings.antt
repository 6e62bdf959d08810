-- What starting a process leaves, where it can be started and where it can't.
-- Assumes nothing.
use mathlib.Core.Path.{◌≡◌}
use mathlib.Core.Bool.{Bool, true, false, cond, ◌&&◌}
use mathlib.Core.List.{List}
use Prim.Native.Nat.{ℕ, ◌+◌, ◌≤◌, ◌<◌}
use native.Mathlib.Omega.{arith}
use lib.Dec.{eqb, leb, ltb}
use lib.ListN.{length, get_or, set}
use borrow.Author.Tests.{le-leb, lt-ltb, ltb-true, ne_eqb}
use Rattle.laws.proofs.Tests.{both, and-true}
use Rattle.offset.specs.Offset.{ahead}
use Rattle.offset.proofs.Offsets.{sum_is}
use Rattle.machine.specs.declared.Processes.{Processes}
use Rattle.machine.specs.State.{Machine}
use Rattle.machine.specs.Names.{numbered}
use Rattle.machine.specs.Queue.{packed_entry, entry, push, started}
use Rattle.lent.specs.Parts.{queue_of, headed, can_rise, can_start, start_if}

module _ (m : Machine) where
  pub inside : length m.queue ≤ 65535 → m.header.ring.head < length m.queue → headed m ≡ true
  inside l h = simp (le-leb _ _ l, lt-ltb _ _ h)

  pub can : (i : ℕ) → headed m ≡ true → i < 16 → (m.header.ring.length ≡ 4294967295 → ⊥) → (get_or m.header.counts i 0 ≡ 4294967295 → ⊥)
      → (get_or m.header.threads i 0 ≡ 4294967295 → ⊥) → can_start m i ≡ true
  can i e h l n t = simp (e, lt-ltb _ _ h, ne_eqb _ _ l, ne_eqb _ _ n, ne_eqb _ _ t)

  -- the tests of the code, for an index below 16
  pub tests : (i : ℕ) → i < 16 → {h : Bool} → h ≡ headed m
      → (h && (can_rise m.header.ring.length && can_rise (get_or m.header.counts i 0) && can_rise (get_or m.header.threads i 0))) ≡ can_start m i
  tests i l eh = rw (eh, lt-ltb i 16 l, and-true (headed m))

  some_slots : (i : ℕ) → can_start m i ≡ true → 0 < length m.queue
  some_slots i e =
      let rise = can_rise m.header.ring.length && can_rise (get_or m.header.counts i 0) && can_rise (get_or m.header.threads i 0) in
      let there = (both (headed m) (ltb i 16) (both (headed m && ltb i 16) rise e).0).0 in
      let l : m.header.ring.head < length m.queue
      = ltb-true _ _ (both (leb (length m.queue) 65535) (ltb m.header.ring.head (length m.queue)) there).1 in
      omega arith

module _ (queue : List ℕ) (p : Processes) (place i : ℕ) where
  pub not_started : can_start (queue_of queue p) i ≡ false → queue_of queue p ≡ start_if place i (queue_of queue p)
  unfolding start_if
  not_started r = simp r

  pub is-started : {at w : ℕ} → can_start (queue_of queue p) i ≡ true
      → at ≡ cond (eqb (length queue) 0) 0 (ahead (length queue) p.ring.head p.ring.length) → w ≡ packed_entry (entry place (get_or p.threads i 0) i)
      → queue_of (set queue at w)
      (record {
        ring = record { head = p.ring.head; length = p.ring.length + 1 };
        steps = p.steps;
        counts = set p.counts i (get_or p.counts i 0 + 1);
        threads = set p.threads i (get_or p.threads i 0 + 1);
      })
      ≡ start_if place i (queue_of queue p)
  unfolding start_if push started numbered
  is-started r ea ew = rw (sum_is (length queue) (λ z. let l = some_slots (queue_of queue p) i r in omega arith) ea, ew) (simp r)
