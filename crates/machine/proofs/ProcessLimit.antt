-- The theorem of specs/ProcessLimit.antt, over every machine.
-- Assumes nothing.
use Prim.Native.Nat.{ℕ, zero, suc, ◌≤◌, ◌<◌}
use mathlib.Core.Path.{◌≡◌, refl, sym, ap, ap₂, ◌∙◌}
use mathlib.Core.Bool.{Bool, true, false, cond, ◌&&◌, false≢true}
use mathlib.Core.List.{List, [], ◌∷◌}
use native.Mathlib.Nat.{not-suc-le-zero}
use native.Mathlib.Omega.{arith}
use lib.Dec.{eqb, leb}
use lib.ListN.{length, get_or}
use borrow.Author.Tests.{eqb-false, not-false}
use Rattle.laws.specs.Lists.{same}
use Rattle.laws.proofs.Lists.{lower-raise}
use Rattle.laws.proofs.Lowest.{lowest-le}
use Rattle.machine.specs.declared.Rules.{Rules}
use Rattle.machine.specs.State.{Machine, accepted, first}
use Rattle.machine.specs.Names.{names, slot, is_new, seventeenth, count_of}
use Rattle.machine.specs.Queue.{entry, unpacked_entry, front, full, pop, push, started}
use Rattle.machine.specs.Soundness.{sound_header}
use Rattle.machine.specs.Execution.{Next, ends, goes, splits, is_split}
use Rattle.machine.specs.Instruction.{effect_at}
use Rattle.machine.specs.Pointers.{site_at}
use Rattle.machine.specs.Step.{popped, effect, Queued, queued, counted, executed, step_checks, step, executes}
use Rattle.machine.specs.ProcessLimit.{drops, SameOwn, ProcessLimit}
use Rattle.machine.proofs.Checks.{passed}
use Rattle.machine.proofs.Names.{length-names}
use Rattle.machine.proofs.Soundness.{tested, is-processes, room-for, sound-entry}
use Rattle.machine.proofs.Step.{step-by-cases, counting}

-- a name that is held, or new among fewer than 16, has an index below 16
index-below : (m : Machine) (n : List ℕ) → m.header.names.held ≤ 16 → seventeenth m.header.names n ≡ false → slot m.header.names n < 16
index-below m n few free = go (is_new m.header.names n) refl free
  where
    most : slot m.header.names n ≤ m.header.names.held
    most = rw (length-names m.header) at (lowest-le (same n) (names m.header.names))

    go : (b : Bool) → is_new m.header.names n ≡ b → (b && eqb m.header.names.held 16) ≡ false → slot m.header.names n < 16
    go true e f = let k : m.header.names.held ≡ 16 → ⊥ = eqb-false _ _ f in omega (arith, few, most)
    go false e f = let k : slot m.header.names n ≡ m.header.names.held → ⊥ = eqb-false _ _ e in omega (arith, few, most)

room-left : (m : Machine) (n : List ℕ) → sound_header m ≡ true → seventeenth m.header.names n ≡ false
    → count_of m.header n < m.header.rules.processes → m.header.ring.length < length m.queue
room-left m n e free less =
    let t = tested m e in
    room-for m.header.rules.processes m.header.names.held m.header.counts t.within t.few t.sum
    (is-processes m.header.rules.processes (length m.queue) t.processes) (slot m.header.names n) (index-below m n t.few free) less

-- a count that is not 0 stands in the list
pub inside : (l : List ℕ) (i : ℕ) → 1 ≤ get_or l i 0 → i < length l
inside [] i h = absurd (not-suc-le-zero h)
inside (x ∷ xs) zero h = omega arith
inside (x ∷ xs) (suc i) h = let r = inside xs i h in omega arith

-- the popped entry's name holds as many once PC+1 is queued as before the step
pub full-again : (m : Machine) (p : ℕ) → 1 ≤ get_or m.header.counts (popped m).name 0
    → full (push (entry p (popped m).thread (popped m).name) (counting m)) (popped m).name ≡ full m (popped m).name
unfolding push counted pop
full-again m p one =
    let i = (popped m).name in
    let l = m.header.counts in
    ap (λ (cs : List ℕ). leb m.header.rules.processes (get_or cs i 0)) (sym (lower-raise l i (inside l i one) one))

-- pushes of a step by its next places: one of two exactly where the child is dropped
pushes-one : (m : Machine) (x : Next) → 1 ≤ get_or m.header.counts (popped m).name 0
    → (is_split x && eqb (queued x (popped m) (counting m)).pushes 1) ≡ (is_split x && full m (popped m).name)
pushes-one m (ends y) one = refl
pushes-one m (goes p) one = refl
pushes-one m (splits p c) one = go (full n (popped m).name) ∙ full-again m p one
  where
    n : Machine
    n = push (entry p (popped m).thread (popped m).name) (counting m)

    go : (b : Bool) → eqb (cond {A = Queued} b (record { machine = n; pushes = 1 }) (record { machine = started c (popped m).name n; pushes = 2 })).pushes 1 ≡ b
    go true = refl
    go false = refl

executed-drops : (m : Machine) → first (step_checks m) ≡ accepted
    → (is_split (effect m).next && eqb (executed m).pushes 1) ≡ (is_split (effect m).next && full m (popped m).name)
unfolding executed
executed-drops m e = pushes-one m (effect m).next (sound-entry m.header (front m) (not-false _ (passed (step_checks m) e).1.1.0)).count

drops-when : (m : Machine) → executes (step m).number ≡ true → drops m ≡ (is_split (effect m).next && full m (popped m).name)
drops-when m =
    step-by-cases (λ o. executes o.number ≡ true → (is_split (effect m).next && eqb o.pushes 1) ≡ (is_split (effect m).next && full m (popped m).name)) m
    (λ n v e x k. absurd (false≢true (sym x ∙ k))) (λ e k. executed-drops m e)

-- what tells whether a child is dropped is the same in both
same-own : (m n : Machine) → SameOwn m n → (is_split (effect m).next && full m (popped m).name) ≡ (is_split (effect n).next && full n (popped n).name)
unfolding effect
same-own m n s =
    ap₂ ◌&&◌
    (λ j. is_split (effect_at (site_at (s.rules j) (unpacked_entry (s.front j)).place.0) (s.core j)).next)
    (ap₂ (λ (r : Rules) (c : ℕ). leb r.processes c) s.rules s.count ∙ ap (λ (w : ℕ). leb n.header.rules.processes (get_or n.header.counts (unpacked_entry w).name 0)) s.front)

-- THE THEOREM
pub process-limit : ProcessLimit
process-limit =
    record {
      room = room-left;
      exactly = drops-when;
      alone = λ m n s a b. drops-when m a ∙ same-own m n s ∙ sym (drops-when n b);
    }
