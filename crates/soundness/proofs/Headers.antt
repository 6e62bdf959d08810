-- The header's tests, in the order in which the code makes them.
-- Assumes nothing.
use mathlib.Core.Path.{◌≡◌, sym, ap, ◌∙◌}
use mathlib.Core.Bool.{Bool, true, false, ◌&&◌}
use mathlib.Core.List.{List}
use Prim.Native.Nat.{ℕ, ◌*◌}
use lib.Dec.{eqb, leb, ltb}
use Rattle.std.proofs.Common.{min}
use Rattle.std.proofs.Math.Nat.{min-eq_left}
use lib.ListN.{length, take}
use native.Mathlib.Omega.{arith}
use borrow.Author.Tests.{leb-true, le-leb, eqb-true}
use Rattle.laws.specs.Lists.{every, table, total, distinct}
use Rattle.laws.proofs.Tests.{both, holds, iff, and_assoc}
use Rattle.metadata.specs.Metadata.{valid_byte}
use Rattle.machine.specs.declared.Rules.{Rules}
use Rattle.machine.specs.State.{Machine, passes}
use Rattle.machine.specs.declared.Roster.{Roster}
use Rattle.machine.specs.Names.{name_at}
use Rattle.machine.specs.Soundness.{valid_size, valid_queue, valid_processes, valid_limits, fresh_checks, header_tests, sound_header}
use Rattle.machine.proofs.Soundness.{is-taken, taken-tests, is-processes, entries-fit}
use Rattle.lent.specs.Parts.{valid_length}
use Rattle.soundness.specs.Bounds.{bounded}

-- the tests of P and of the queue memory's entries, as the code makes them: that there is an entry, and P's greatest number, follow
slots-tests : (p slots : ℕ) → (leb 1 p && (leb (16 * p) slots && leb slots 65535)) ≡ (valid_queue slots && valid_processes p slots)
slots-tests p slots =
    iff (leb 1 p && (leb (16 * p) slots && leb slots 65535)) (valid_queue slots && valid_processes p slots)
    (λ e.
    let a = both (leb 1 p) (leb (16 * p) slots && leb slots 65535) e in
    let b = both (leb (16 * p) slots) (leb slots 65535) a.1 in
    let some = leb-true 1 p a.0 in
    let room = leb-true (16 * p) slots b.0 in
    let most = leb-true slots 65535 b.1 in
    rw (le-leb 1 slots (omega arith), b.1, a.0, le-leb p 4095 (omega arith), b.0))
    (λ e.
    let a = both (valid_queue slots) (valid_processes p slots) e in
    let q = both (leb 1 slots) (leb slots 65535) a.0 in
    let r = both (leb 1 p && leb p 4095) (leb (16 * p) slots) a.1 in
    rw ((both (leb 1 p) (leb p 4095) r.0).0, r.1, q.1))

-- the test of what fresh takes and of the head, number by number, told whether the limits are valid
pub in-bounds-tests : (core queue : List ℕ) (rules : Rules) (head : ℕ) {limits : Bool} → limits ≡ valid_limits rules
    → (leb 1 rules.size && leb rules.size 46341 && eqb rules.size (length core) && leb 1 rules.processes && leb (16 * rules.processes) (length queue) && leb (length queue) 65535
    && limits && ltb head (length queue))
    ≡ bounded core queue rules head
in-bounds-tests core queue rules head e =
    rw e
    (regrouped (valid_size rules.size) (eqb rules.size (length core)) (leb 1 rules.processes) (leb (16 * rules.processes) (length queue)) (leb (length queue) 65535)
    (valid_limits rules) (ltb head (length queue)) (valid_queue (length queue)) (valid_processes rules.processes (length queue)) (slots-tests rules.processes (length queue))
    ∙ sym (ap (λ (b : Bool). b && ltb head (length queue)) (taken-tests rules core queue)))
  where
    regrouped : (a c d f g l h q r : Bool) → (d && (f && g)) ≡ (q && r) → (a && c && d && f && g && l && h) ≡ ((a && (c && (q && (r && l)))) && h)
    regrouped a c d f g l h q r e =
        let x = l && h in
        let middle : (d && (f && (g && x))) ≡ (q && (r && x))
        = sym (and_assoc d (f && g) x ∙ ap (λ (b : Bool). d && b) (and_assoc f g x)) ∙ ap (λ (b : Bool). b && x) e ∙ and_assoc q r x in
        simp and_assoc (ap (λ (b : Bool). a && (c && b)) middle)

-- the tests of numbers, which come first, told whether the header is in bounds
abbrev pub numbers_by : Bool → Machine → Bool
numbers_by bounds m = bounds && leb m.header.names.held 16

abbrev pub numbers : Machine → Bool
numbers m = numbers_by (bounded m.core m.queue m.header.rules m.header.ring.head) m

-- the tests of the first names, which the code makes of those held, of at most 16
abbrev pub valid_names : Roster → ℕ → Bool
valid_names r n = every valid_length (take n r.lengths) && every (every valid_byte) (table (name_at r) 0 n)

abbrev pub unlike_names : Roster → ℕ → Bool
unlike_names r n = distinct (table (name_at r) 0 n)

-- the tests of the counts of the names held
abbrev pub sound_counts : Machine → List ℕ → Bool
sound_counts m counts = eqb (total counts) m.header.ring.length && every (λ c. leb c m.header.rules.processes) counts

-- the header's tests, numbers first
module _ (m : Machine) where
  abbrev held : ℕ
  held = m.header.names.held

  -- of the counts and the names, once the numbers are tested
  abbrev others : Bool
  others = sound_counts m (take held m.header.counts) && (valid_names m.header.names held && unlike_names m.header.names held)

  header_is : sound_header m ≡ (numbers m && others)
  unfolding sound_header
  header_is =
      let h = m.header in
      let bounds = bounded m.core m.queue h.rules h.ring.head in
      let taken = passes (fresh_checks h.rules m.core m.queue) in
      let inside = ltb h.ring.head (length m.queue) in
      iff (sound_header m) (numbers m && others)
      (λ e.
      let t = holds (header_tests m) e in
      rw (t.0, t.1.1.0, t.1.1.1.0, t.1.1.1.1.0, t.1.1.1.1.1.0, t.1.1.1.1.1.1.0, t.1.1.1.1.1.1.1.0, t.1.1.1.1.1.1.1.1.0))
      (λ e.
      let p = both (numbers m) others e in
      let q = both bounds (leb held 16) p.0 in
      let r = both taken inside q.0 in
      let n = both (sound_counts m (take held h.counts)) (valid_names h.names held && unlike_names h.names held) p.1 in
      let c = both (eqb (total (take held h.counts)) h.ring.length) (every (λ c. leb c h.rules.processes) (take held h.counts)) n.0 in
      let u = both (valid_names h.names held) (unlike_names h.names held) n.1 in
      let v = both (every valid_length (take held h.names.lengths)) (every (every valid_byte) (table (name_at h.names) 0 held)) u.0 in
      let k = is-processes h.rules.processes (length m.queue) (is-taken h.rules m.core m.queue r.0).processes in
      let l = entries-fit h.rules.processes held h.counts c.1 (leb-true held 16 q.1) (eqb-true _ _ c.0) k in
      rw (r.0, le-leb h.ring.length (length m.queue) l, r.1, q.1, v.0, v.1, u.1, c.0, c.1))

  pub no-numbers : numbers m ≡ false → false ≡ sound_header m
  no-numbers e = sym (header_is ∙ simp e)

  module _ (n : numbers m ≡ true) where
    pub few : min held 16 ≡ held
    few = min-eq_left (leb-true held 16 (both (bounded m.core m.queue m.header.rules m.header.ring.head) (leb held 16) n).1)

    -- of those held, what the code has found of at most 16
    of_held : {A : Type 0} (f : ℕ → A) {x : A} → f (min held 16) ≡ x → f held ≡ x
    of_held f e = sym (ap f few) ∙ e

    module _ {b : Bool} {h : ℕ} (k : h ≡ min held 16) (s : b ≡ sound_counts m (take h m.header.counts)) where
      counts_are : sound_counts m (take held m.header.counts) ≡ b
      counts_are = sym (s ∙ rw (k, few))

      pub no_counts : b ≡ false → false ≡ sound_header m
      no_counts e = sym (header_is ∙ simp (n, counts_are ∙ e))

      module _ (c : b ≡ true) where
        pub no_names : valid_names m.header.names (min held 16) ≡ false → false ≡ sound_header m
        no_names e = sym (header_is ∙ simp (n, counts_are ∙ c, of_held (valid_names m.header.names) e))

        pub by_names : {u : Bool} → valid_names m.header.names (min held 16) ≡ true → u ≡ unlike_names m.header.names (min held 16) → u ≡ sound_header m
        by_names v e = sym (header_is ∙ simp (n, counts_are ∙ c, of_held (valid_names m.header.names) v) (of_held (unlike_names m.header.names) (sym e)))
