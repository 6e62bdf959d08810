-- How a step, a body placed and a process started change the entries of each name, and what a step's answer says of them.
-- Assumes nothing.
use Prim.Native.Nat.{ℕ, ◌+◌, ◌*◌, ◌≤◌, ◌<◌}
use mathlib.Core.Path.{◌≡◌, refl, sym, ap, subst, ◌∙◌}
use mathlib.Core.Bool.{Bool, true, false, cond, not, ◌&&◌, true≢false}
use mathlib.Core.List.{List}
use native.Mathlib.Omega.{arith}
use lib.Dec.{eqb}
use lib.ListN.{length, get_or}
use borrow.Author.Tests.{ne_eqb}
use Rattle.laws.specs.Lists.{one_if, same}
use Rattle.laws.proofs.Same.{same_refl}
use Rattle.answer.specs.Numbers.{Told, gives}
use Rattle.metadata.specs.Metadata.{called}
use Rattle.metadata.proofs.Names.{called-valid}
use Rattle.machine.specs.declared.Entry.{Entry}
use Rattle.machine.specs.State.{Machine, Outcome}
use Rattle.machine.specs.Names.{slot, is_new, numbered}
use Rattle.machine.specs.Queue.{entry, name_of, entries_of, front, full, pop, push, started}
use Rattle.machine.specs.Place.{placing}
use Rattle.machine.specs.Start.{starting}
use Rattle.machine.specs.Execution.{Ending, dat, divisor, Next, ends, goes, splits}
use Rattle.machine.specs.Step.{popped, pc, effect, core_after, Queued, queued, end_told, next_told, executed, step, executes}
use Rattle.machine.proofs.Names.{Shape, Held, count_at}
use Rattle.machine.proofs.Soundness.{SoundHeader, counts-long, room, push-sound, registered-new}
use Rattle.machine.proofs.Agreement.{Agree, pop-entries, pop-agree, pop-held, push-entries, push-agree, push-held, counted-agree, counted-entries, counted-held, started-entries, started-agree, is-registered}
use Rattle.machine.proofs.Registering.{naming, naming-room, naming-sound, naming-held}
use Rattle.machine.proofs.Place.{Placeable, core-placed}
use Rattle.machine.proofs.Start.{Startable}
use Rattle.machine.proofs.Queueing.{queued-by-cases, any-places}
use Rattle.machine.proofs.Step.{step-by-cases, Ready, ready, front-held, counting, counting-sound, counting-free}

-- the entries of a name after the pushes of a step
record Grown (m : Machine) (t : List ℕ) (q : Queued) : Type 0 where
  agree : Agree q.machine
  entries : (n : List ℕ) → entries_of q.machine n ≡ entries_of m n + q.pushes * one_if (same t n)

grown : (x : Next) (e : Entry) (m : Machine) (t : List ℕ) → SoundHeader m → Held m.header e.name t → Agree m
    → full m e.name ≡ false → Grown m t (queued x e m)
grown x e m t s r a free =
    queued-by-cases (Grown m t) (λ p. Unit {0}) e m
    (record { agree = a; entries = λ n. omega arith })
    (λ p q. record { agree = push-agree m (next p) t s r a left; entries = λ n. let h = push-entries m (next p) t s r a left n in omega arith })
    (λ p c q k f.
    let b = push-sound m s (next p) r.below free in
    let g = push-held m (next p) t s r a left in
    let j = push-agree m (next p) t s r a left in
    let l = room (push (next p) m) b e.name g.below f in
    record {
      agree = started-agree c e.name (push (next p) m) t b g j l;
      entries = λ n.
          let h = push-entries m (next p) t s r a left n in
          let i = started-entries c e.name (push (next p) m) t b g j l n in
          omega arith;
    })
    x (any-places x)
  where
    left : m.header.ring.length < length m.queue
    left = room m s e.name r.below free

    next : ℕ → Entry
    next p = entry p e.thread e.name

-- a step that passed its checks: of the popped entry's name one entry less, and as many more as were pushed
pub record Stepped (m : Machine) (o : Outcome) : Type 0 where
  pub agree : Agree o.machine
  pub had : (n : List ℕ) → one_if (same (name_of m (front m)) n) ≤ entries_of m n
  pub entries : (n : List ℕ) → entries_of o.machine n + one_if (same (name_of m (front m)) n) ≡ entries_of m n + o.pushes * one_if (same (name_of m (front m)) n)

pub stepped : (m : Machine) → Ready m → Agree m → Stepped m (executed m)
unfolding executed
stepped m r a =
    let t = name_of m (front m) in
    let held = front-held m r in
    let one = r.entry.count in
    let g : Grown (counting m) t (queued (effect m).next (popped m) (counting m))
    = grown (effect m).next (popped m) (counting m) t (counting-sound m r)
    (counted-held (core_after m) (pop m) (pop-held m t r.header held a r.some one))
    (counted-agree (core_after m) (pop m) (pop-agree m t r.header held a r.some one))
    (counting-free m r) in
    record {
      agree = g.agree;
      had = λ n. let p = pop-entries m t r.header held a r.some one n in omega arith;
      entries = λ n.
          let p = pop-entries m t r.header held a r.some one n in
          let c = counted-entries (core_after m) (pop m) n in
          let q = g.entries n in
          omega arith;
    }

-- a name registered that was not held, and k entries of it more
pub record Named (m : Machine) (t : List ℕ) (k : ℕ) (m' : Machine) : Type 0 where
  pub agree : Agree m'
  pub names : (n : List ℕ) → is_new m'.header.names n ≡ (is_new m.header.names n && not (same t n))
  pub entries : (n : List ℕ) → entries_of m' n ≡ entries_of m n + k * one_if (same t n)

-- a body placed that passed the checks: no entry more
pub place-named : (m : Machine) (given body : List ℕ) (at : ℕ) → SoundHeader m → Agree m → Placeable m given body at
    → Named m (called given) 0 (placing m (called given) body at).machine
unfolding placing
place-named m given body at s a l =
    let t = called given in
    let fits = (called-valid given l.valid).0 in
    let g = is-registered m t s a (core-placed m given body at) l.free fits in
    record { agree = g.agree; names = registered-new m t s l.free fits; entries = λ n. let e = g.entries n in omega arith }

started-names : (place i : ℕ) (m : Machine) (n : List ℕ) → is_new (started place i m).header.names n ≡ is_new m.header.names n
unfolding started push numbered
started-names place i m n = refl

-- a process started that passed the checks: one entry of its name more
pub start-named : (m : Machine) (given : List ℕ) (at : ℕ) → SoundHeader m → Agree m → Startable m given at
    → Named m (called given) 1 (starting m (called given) at).machine
unfolding starting
start-named m given at s a l =
    let t = called given in
    let i = slot m.header.names t in
    let n = naming m given m.core in
    let fits = (called-valid given l.valid).0 in
    let g = is-registered m t s a m.core l.free fits in
    let b = naming-sound m given m.core s l.valid l.free s.core in
    let h = naming-held m given m.core s l.valid l.free in
    let left = naming-room m given m.core s l.valid l.free l.less s.core in
    record {
      agree = started-agree at i n t b h g.agree left;
      names = λ x. started-names at i n x ∙ registered-new m t s l.free fits x;
      entries = λ x. let e = started-entries at i n t b h g.agree left x in let f = g.entries x in omega arith;
    }

-- the answer is 0 exactly where the popped entry's name has entries left
module _ (e : Entry) (m : Machine) (t : List ℕ) (s : SoundHeader m) (r : Held m.header e.name t) (a : Agree m)
    (free : full m e.name ≡ false) (place : ℕ) where
  abbrev left : ℕ
  left = get_or m.header.counts e.name 0

  some_left : (x : Next) → 1 ≤ (queued x e m).pushes → eqb (entries_of (queued x e m).machine t) 0 ≡ false
  some_left x p =
      let g : entries_of (queued x e m).machine t ≡ entries_of m t + (queued x e m).pushes * 1
      = subst (λ (b : Bool). entries_of (queued x e m).machine t ≡ entries_of m t + (queued x e m).pushes * one_if b) (same_refl t) ((grown x e m t s r a free).entries t) in
      ne_eqb _ 0 (λ (z : entries_of (queued x e m).machine t ≡ 0). let f : ⊥ = omega arith in f)

  split-pushes : (p c : ℕ) → 1 ≤ (queued (splits p c) e m).pushes
  split-pushes p c = go (full (push (entry p e.thread e.name) m) e.name)
    where
      go : (b : Bool)
          → 1 ≤ (cond {A = Queued} b (record { machine = push (entry p e.thread e.name) m; pushes = 1 })
          (record { machine = started c e.name (push (entry p e.thread e.name) m); pushes = 2 })).pushes
      go true = omega arith
      go false = omega arith

  answer-left : (x : Next) → eqb (next_told x left place).number 0 ≡ not (eqb (entries_of (queued x e m).machine t) 0)
  answer-left (goes p) = rw (some_left (goes p) (omega arith))
  answer-left (splits p c) = rw (some_left (splits p c) (split-pushes p c))
  answer-left (ends x) =
      go x (eqb left 0)
      ∙ ap (λ (k : ℕ). not (eqb k 0)) (sym (count_at m.header t e.name r (counts-long m s)) ∙ a.counts t)
    where
      go : (x : Ending) (b : Bool) → eqb (cond {A = Told} b (end_told x place) (gives 0 0)).number 0 ≡ not b
      go dat true = refl
      go dat false = refl
      go divisor true = refl
      go divisor false = refl

pub answered : (m : Machine) → Ready m → Agree m → eqb (executed m).number 0 ≡ not (eqb (entries_of (executed m).machine (name_of m (front m))) 0)
unfolding executed
answered m r a =
    let t = name_of m (front m) in
    let held = front-held m r in
    answer-left (popped m) (counting m) t (counting-sound m r)
    (counted-held (core_after m) (pop m) (pop-held m t r.header held a r.some r.entry.count))
    (counted-agree (core_after m) (pop m) (pop-agree m t r.header held a r.some r.entry.count))
    (counting-free m r) (pc m) (effect m).next

-- both for a step that executes an instruction
module _ (m : Machine) (s : Shape m.header) (a : Agree m) where
  pub step-entries : executes (step m).number ≡ true → Stepped m (step m)
  step-entries =
      step-by-cases (λ o. executes o.number ≡ true → Stepped m o) m (λ n v e x t. absurd (true≢false (sym t ∙ x)))
      (λ e t. stepped m (ready m s e) a)

  pub step-answered : executes (step m).number ≡ true
      → eqb (step m).number 0 ≡ not (eqb (entries_of (step m).machine (name_of m (front m))) 0)
  step-answered =
      step-by-cases (λ o. executes o.number ≡ true → eqb o.number 0 ≡ not (eqb (entries_of o.machine (name_of m (front m))) 0)) m
      (λ n v e x t. absurd (true≢false (sym t ∙ x))) (λ e t. answered m (ready m s e) a)
