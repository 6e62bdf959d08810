-- A record that passed the scan under a sound header is sound all through; its next step is refused by 7 or 10 only, and it stays so with one step fewer to go.
-- Assumes nothing.
use mathlib.Core.Path.{◌≡◌, refl, sym, ap, subst, ◌∙◌}
use mathlib.Core.Bool.{Bool, true, false, cond, ◌&&◌, true≢false}
use mathlib.Core.List.{List, [], ◌∷◌}
use mathlib.Core.Logic.{◌⊎◌, inl, inr, ⊎_elim}
use Prim.Native.Nat.{ℕ, zero, suc, ◌+◌, ◌≤◌, ◌<◌}
use native.Mathlib.Omega.{arith}
use lib.Dec.{eqb}
use lib.ListN.{get_or, take, drop, set, get_or-eq_default}
use lib.Seq.{length-take-le}
use borrow.Author.Tests.{eqb-true, eq-eqb, ne_eqb, leb-true}
use Rattle.answer.specs.Numbers.{Told, gives}
use Rattle.laws.specs.Lists.{one_if, every, tally, table, same}
use Rattle.laws.proofs.Tests.{both, iff}
use Rattle.laws.proofs.Every.{◌and◌, Every, every-passes, every-at, every-weaker}
use Rattle.laws.proofs.Tally.{count-le}
use Rattle.laws.proofs.Tables.{tabulated, length-table}
use Rattle.laws.proofs.Lowest.{lowest-none}
use Rattle.laws.proofs.Same.{same_true, same_refl, same-sym}
use Rattle.machine.specs.declared.Entry.{Entry}
use Rattle.machine.specs.State.{Machine, accepted, refusal, first, settle}
use Rattle.machine.specs.Names.{names, slot, is_new, count_of, numbered}
use Rattle.machine.specs.Queue.{entry, unpacked_entry, entries, name_of, entries_of, full, pop, push, started}
use Rattle.machine.specs.Soundness.{sound_entry}
use Rattle.machine.specs.Execution.{Ending, dat, divisor, Next, ends, goes, splits}
use Rattle.machine.specs.Step.{popped, pc, effect, counted, Queued, queued, end_told, next_told, executed, step_checks, step, executes}
use Rattle.machine.proofs.Checks.{number_of, other, Without, others, without}
use Rattle.machine.proofs.Names.{length-names, Held, held_at, held-slot, count_at}
use Rattle.machine.proofs.Soundness.{SoundHeader, size_small, counts-long, sound-entry}
use Rattle.machine.proofs.Agreement.{Known}
use Rattle.machine.proofs.Queueing.{queued-by-cases, any-places}
use Rattle.machine.proofs.Step.{Ready, nonzero, step-some, counting, counting-sound, counting-held, step-by-cases, step_counts}
use Rattle.machine.proofs.SoundMachine.{Inside, SoundMachine, sound-ready, step_keeps}
use Rattle.machine.proofs.NotNine.{step-not-nine}
use Rattle.scan.specs.Scanning.{in_range, sound_cells, sound_entries, entries_at, tallied, lasting, lasting_all, scanned}

-- two tests that agree on each element
tally-agrees : {A : Type 0} (p q : A → Bool) (xs : List A) → Every (λ x. p x ≡ q x) xs → tally p xs ≡ tally q xs
tally-agrees p q [] e = refl
tally-agrees p q (x ∷ xs) e = rw (e.0, tally-agrees p q xs e.1)

tally-none : {A : Type 0} (xs : List A) → tally (λ x. false) xs ≡ 0
tally-none [] = refl
tally-none (x ∷ xs) = rw (tally-none xs)

module _ (m : Machine) (s : SoundHeader m) (sound : Every (λ w. sound_entry m.header w ≡ true) (entries m)) (t : tallied m ≡ true) where
  known : Known m.header.names.held (entries m)
  known = every-weaker _ _ (λ w e. (sound-entry m.header w e).held) (entries m) sound

  inside : Every (Inside m.header.rules.size) (entries m)
  inside = every-weaker _ _ (λ w e. let x = sound-entry m.header w e in (x.place, x.top)) (entries m) sound

  -- the count at an index is the number of entries there
  count-is : (i : ℕ) → i < m.header.names.held → get_or m.header.counts i 0 ≡ entries_at m i
  count-is i h =
      eqb-true _ _
      (subst (λ (j : ℕ). eqb (get_or m.header.counts j 0) (entries_at m j) ≡ true) (tabulated 0 (λ (j : ℕ). j) m.header.names.held i h)
      (every-at (λ j. eqb (get_or m.header.counts j 0) (entries_at m j) ≡ true) (table (λ (j : ℕ). j) 0 m.header.names.held) i 0
      (every-passes (λ j. eqb (get_or m.header.counts j 0) (entries_at m j)) (table (λ (j : ℕ). j) 0 m.header.names.held) t)
      (rw (length-table (λ (j : ℕ). j) 0 m.header.names.held) h)))

  -- names unlike each other are told apart by their indices
  same_index : (n : List ℕ) (i : ℕ) → Held m.header i n → (j : ℕ) → j < m.header.names.held → same (get_or (names m.header.names) j []) n ≡ eqb j i
  same_index n i r j h =
      iff (same (get_or (names m.header.names) j []) n) (eqb j i)
      (λ e. eq-eqb j i (sym (held_at m.header j s.unlike h).own ∙ ap (slot m.header.names) (same_true (get_or (names m.header.names) j []) n e) ∙ r.own))
      (λ e. ap (λ (k : ℕ). same (get_or (names m.header.names) k []) n) (eqb-true j i e) ∙ ap (λ (x : List ℕ). same x n) r.at ∙ same_refl n)

  counts-agree : (n : List ℕ) → count_of m.header n ≡ entries_of m n
  counts-agree n = go (is_new m.header.names n) refl
    where
      go : (b : Bool) → is_new m.header.names n ≡ b → count_of m.header n ≡ entries_of m n
      go false e =
          let i = slot m.header.names n in
          let r = held-slot m.header n e in
          count_at m.header n i r (counts-long m s) ∙ count-is i r.below
          ∙ sym (tally-agrees (λ w. same (name_of m w) n) (λ w. eqb (unpacked_entry w).name i) (entries m) (every-weaker _ _ (λ w h. same_index n i r (unpacked_entry w).name h) (entries m) known))
      go true e =
          let last : slot m.header.names n ≡ m.header.names.held = eqb-true _ _ e in
          let none = lowest-none (same n) (names m.header.names) (rw (length-names m.header, last) (omega arith)) in
          get_or-eq_default (take m.header.names.held m.header.counts) 0 (rw (length-take-le m.header.names.held m.header.counts (counts-long m s), last) (omega arith))
          ∙ sym (tally-agrees (λ w. same (name_of m w) n) (λ w. false) (entries m)
          (every-weaker _ _ (λ w h. same-sym (name_of m w) n ∙ every-at (λ x. same n x ≡ false) (names m.header.names) (unpacked_entry w).name [] none (rw (length-names m.header) h)) (entries m) known)
          ∙ tally-none (entries m))

-- sound all through, and every counter below its end before each of k steps
pub record Trusted (k : ℕ) (m : Machine) : Type 0 where
  pub sound : SoundMachine m
  pub steps : m.header.steps + k ≤ 4294967295
  pub threads : (i : ℕ) → i < m.header.names.held → get_or m.header.threads i 0 + k ≤ 4294967295

pub scan-trusts : (k : ℕ) (m : Machine) → SoundHeader m → scanned k m ≡ true → Trusted k m
unfolding scanned
scan-trusts k m s e =
    let a = both (in_range m && sound_cells m && sound_entries m && tallied m) (lasting_all k m) e in
    let t = both (in_range m && sound_cells m && sound_entries m) (tallied m) a.0 in
    let n = both (in_range m && sound_cells m) (sound_entries m) t.0 in
    let c = (both (in_range m) (sound_cells m) n.0).1 in
    let l = both (lasting k m.header.steps) (every (lasting k) m.header.threads) a.1 in
    let ns = every-passes (sound_entry m.header) (entries m) n.1 in
    let steps : m.header.steps + k ≤ 4294967295 = leb-true _ _ l.0 in
    let threads : Every (λ x. x + k ≤ 4294967295) m.header.threads
    = every-weaker _ _ (λ x h. leb-true (x + k) 4294967295 h) m.header.threads (every-passes (lasting k) m.header.threads l.1) in
    record {
      sound = record {
        header = s;
        numbers = record { steps = omega arith; threads = every-weaker _ _ (λ x h. omega arith) m.header.threads threads };
        agree = record { known = known m s ns t.1; counts = counts-agree m s ns t.1 };
        core = record { small = size_small m s; length = s.core; cells = every-passes _ m.core c };
        entries = inside m s ns t.1;
      };
      steps = steps;
      threads = λ i h. every-at (λ x. x + k ≤ 4294967295) m.header.threads i 0 threads (omega (arith, s.few, s.shape.threads));
    }

-- one number of a list raised by one: no other rises
raised : (l : List ℕ) (who i : ℕ) → get_or (set l who (get_or l who 0 + 1)) i 0 ≤ get_or l i 0 + 1
raised [] who i = omega arith
raised (x ∷ xs) zero zero = omega arith
raised (x ∷ xs) zero (suc i) = omega arith
raised (x ∷ xs) (suc who) zero = omega arith
raised (x ∷ xs) (suc who) (suc i) = raised xs who i

module _ (k : ℕ) (m : Machine) (t : Trusted (suc k) m) where
  no-eight : Without 8 (step_checks m)
  no-eight =
      inr (other tt)
      and λ a. inr (other tt)
      and λ b.
      let r = sound-ready m t.sound (nonzero b) in
      let p = t.threads (popped m).name r.entry.held in
      let q = t.steps in
      let x = ne_eqb m.header.steps 4294967295 (λ z. omega arith) in
      let y = ne_eqb (get_or m.header.threads (popped m).name 0) 4294967295 (λ z. omega arith) in
      inr (other tt)
      and λ c. inl (rw (x, y))
      and λ d. others 8 (drop 4 (step_checks m)) refl

  -- the refusal of the next step can be 7 or 10 only
  trusted-refusal : (n v : ℕ) → first (step_checks m) ≡ refusal n v → (n ≡ 7) ⊎ (n ≡ 10)
  unfolding step
  trusted-refusal n v e =
      number_of (λ n. (n ≡ 8 → ⊥) → (n ≡ 9 → ⊥) → (n ≡ 7) ⊎ (n ≡ 10)) (step_checks m)
      ((λ a b. absurd (b refl)) and (λ a b. inl refl) and (λ a b. absurd (b refl)) and (λ a b. absurd (a refl)) and (λ a b. absurd (b refl)) and (λ a b. inr refl) and (λ a b. absurd (b refl)) and tt)
      n v e (without 8 (step_checks m) no-eight n v e) (λ z. step-not-nine m t.sound (ap (λ x. (settle x m (executed m)).number) e ∙ z))

  -- no thread number is used twice in a step
  threads-after : (i : ℕ) → i < (executed m).machine.header.names.held → get_or (executed m).machine.header.threads i 0 + k ≤ 4294967295
  unfolding executed counted pop push started numbered
  threads-after =
      queued-by-cases (λ q. (i : ℕ) → i < q.machine.header.names.held → get_or q.machine.header.threads i 0 + k ≤ 4294967295) (λ p. Unit {0}) (popped m) (counting m)
      kept (λ p q. kept) (λ p c q r f i h. let u = raised m.header.threads (popped m).name i in let w = t.threads i h in omega arith)
      (effect m).next (any-places (effect m).next)
    where
      kept : (i : ℕ) → i < m.header.names.held → get_or m.header.threads i 0 + k ≤ 4294967295
      kept i h = let w = t.threads i h in omega arith

  pub trusted-step : Trusted k (step m).machine
  trusted-step =
      record {
        sound = step_keeps m t.sound;
        steps = rw (step_counts m).0 (one (executes (step m).number) m.header.steps t.steps);
        threads = step-by-cases (λ o. (i : ℕ) → i < o.machine.header.names.held → get_or o.machine.header.threads i 0 + k ≤ 4294967295) m
            (λ n v e x i h. let w = t.threads i h in omega arith) (λ e. threads-after);
      }
    where
      one : (b : Bool) (x : ℕ) → x + suc k ≤ 4294967295 → x + one_if b + k ≤ 4294967295
      one true x h = omega arith
      one false x h = omega arith

  -- with an entry queued, by 10 only
  pub only-ten : 0 < m.header.ring.length → (n v : ℕ) → first (step_checks m) ≡ refusal n v → n ≡ 10
  only-ten some n v e =
      ⊎_elim (λ (z : n ≡ 7). absurd (without 7 (step_checks m) no_seven n v e z)) (λ (z : n ≡ 10). z) (trusted-refusal n v e)
    where
      no_seven : Without 7 (step_checks m)
      no_seven = inr (other tt) and λ a. inl (ne_eqb m.header.ring.length 0 (λ z. omega arith)) and λ b. others 7 (drop 2 (step_checks m)) refl

-- what is pushed is queued
push-some : (e : Entry) (m : Machine) → 0 < (push e m).header.ring.length
unfolding push
push-some e m = omega arith

started-some : (place i : ℕ) (m : Machine) → 0 < (started place i m).header.ring.length
unfolding started
started-some place i m = push-some _ _

-- a step answered 0 leaves an entry queued
module _ (m : Machine) (s : SoundMachine m) where
  executed-leaves : first (step_checks m) ≡ accepted → (executed m).number ≡ 0 → 0 < (executed m).machine.header.ring.length
  unfolding executed
  executed-leaves e = go (effect m).next
    where
      r : Ready m
      r = sound-ready m s (step-some m e)

      counted-some : eqb (get_or (counting m).header.counts (popped m).name 0) 0 ≡ false → 0 < (counting m).header.ring.length
      counted-some f =
          let left : 0 < get_or (counting m).header.counts (popped m).name 0 = nonzero f in
          let few = count-le (counting m).header.counts (counting m).header.names.held (popped m).name (counting-held m r) in
          let sum = (counting-sound m r).sum in
          omega arith

      ended : (x : Ending) (b : Bool) → eqb (get_or (counting m).header.counts (popped m).name 0) 0 ≡ b
          → (cond {A = Told} b (end_told x (pc m)) (gives 0 0)).number ≡ 0 → 0 < (counting m).header.ring.length
      ended x false f z = counted-some f
      ended dat true f z = absurd (other tt z)
      ended divisor true f z = absurd (other tt z)

      split : (c : ℕ) (b : Bool) (n : Machine) → 0 < n.header.ring.length
          → 0 < (cond {A = Queued} b (record { machine = n; pushes = 1 }) (record { machine = started c (popped m).name n; pushes = 2 })).machine.header.ring.length
      split c true n h = h
      split c false n h = started-some c (popped m).name n

      go : (x : Next) → (next_told x (get_or (counting m).header.counts (popped m).name 0) (pc m)).number ≡ 0
          → 0 < (queued x (popped m) (counting m)).machine.header.ring.length
      go (ends x) z = ended x (eqb (get_or (counting m).header.counts (popped m).name 0) 0) refl z
      go (goes p) z = push-some (entry p (popped m).thread (popped m).name) (counting m)
      go (splits p c) z =
          let n = push (entry p (popped m).thread (popped m).name) (counting m) in
          split c (full n (popped m).name) n (push-some (entry p (popped m).thread (popped m).name) (counting m))

  pub step-leaves : (step m).number ≡ 0 → 0 < (step m).machine.header.ring.length
  step-leaves =
      step-by-cases (λ o. o.number ≡ 0 → 0 < o.machine.header.ring.length) m
      (λ n v e x z. absurd (true≢false (sym (ap executes z) ∙ x))) executed-leaves
