-- What an executed instruction does to a queue: the front entry popped, and the next places pushed at the tail.
-- Assumes nothing.
use mathlib.Core.Path.{◌≡◌, refl, sym, ap, ◌∙◌}
use mathlib.Core.Bool.{Bool, true, false, cond}
use mathlib.Core.List.{List}
use Prim.Native.Nat.{ℕ, ◌+◌, ◌-◌, ◌%◌, ◌≤◌, ◌<◌}
use native.Mathlib.Nat.{mod-add-mod}
use native.Mathlib.Omega.{arith}
use lib.Dec.{eqb}
use lib.ListN.{length, get_or, set, length-set}
use lib.Seq.{get_or-set_same}
use Rattle.std.specs.Prelude.{Result, Ok}
use Rattle.answer.specs.declared.Error.{Error}
use Rattle.answer.specs.Numbers.{told, gives}
use Rattle.offset.specs.declared.Absolute.{Absolute}
use Rattle.laws.proofs.Lists.{lower-raise}
use Rattle.offset.specs.Offset.{ahead}
use Rattle.offset.proofs.Offsets.{ahead-lt}
use Rattle.machine.specs.declared.Entry.{Entry}
use Rattle.machine.specs.declared.Processes.{Processes}
use Rattle.machine.specs.State.{Machine}
use Rattle.machine.specs.Names.{numbered}
use Rattle.machine.specs.Queue.{packed_entry, unpacked_entry, entry, full, pop, push, started}
use Rattle.machine.specs.Execution.{Ending, Next, ends}
use Rattle.machine.specs.Step.{popped, pc, Queued, queued, end_told, next_told}
use Rattle.steps.specs.declared.opcode.Executed.{Executed}
use Rattle.steps.specs.declared.opcode.Executed.TheVariants.{Goes, Splits}
use Rattle.steps.specs.declared.ring.Stepped.{Stepped}
use Rattle.steps.specs.Inner.Queueing.{ring_of, limited_queue, tail_of, Front, next_of, writes_of, ended, Requeued}

abbrev Answer : Type 0
Answer = Result (Unit {0}) Error

abbrev pub stepped : Answer → ℕ → ℕ → Stepped
stepped answer writes tail = record { answer = answer; writes = writes; tail = tail }

-- the processes with another head
abbrev pub onward : ℕ → Processes → Processes
onward head p = record { ring = ring_of head p.ring.length; steps = p.steps; counts = p.counts; threads = p.threads }

-- the slot behind the last entry, counted from the head before a pop and after it
slot_is : (h l m : ℕ) → 0 < l → (h + l) % m ≡ ((h + 1) % m + (l - 1)) % m
slot_is h l m p = sym (mod-add-mod (h + 1) m (l - 1) ∙ ap (λ (k : ℕ). k % m) (sum p))
  where
    sum : 0 < l → h + 1 + (l - 1) ≡ h + l
    sum q = omega arith

-- one slot on from the tail, counted from one slot on from the head
one_on : (h l m : ℕ) → ((h + l) % m + 1) % m ≡ ((h + 1) % m + l) % m
one_on h l m = mod-add-mod (h + l) m 1 ∙ ap (λ (k : ℕ). k % m) (sum h l) ∙ sym (mod-add-mod (h + 1) m l)
  where
    sum : (h l : ℕ) → h + l + 1 ≡ h + 1 + l
    sum h l = omega arith

-- a process started, or dropped where its name holds P
module _ (limit : ℕ) (queue : List ℕ) (p : Processes) (place name : ℕ) where
  abbrev lent : Machine
  lent = limited_queue limit queue p

  abbrev pub grown : Machine
  grown = cond (full lent name) lent (started place name lent)

  pub keeps : full lent name ≡ true → lent ≡ grown
  keeps h = sym (ap (λ (b : Bool). cond b lent (started place name lent)) h)

  pub starts : {tail v : ℕ} {q : List ℕ} → full lent name ≡ false → tail ≡ tail_of lent → v ≡ packed_entry (entry place (get_or p.threads name 0) name) → q ≡ set queue tail v
      → limited_queue limit q
      (record { ring = ring_of p.ring.head (p.ring.length + 1); steps = p.steps; counts = set p.counts name (get_or p.counts name 0 + 1); threads = set p.threads name (get_or p.threads name 0 + 1) })
      ≡ grown
  unfolding started push numbered
  starts h t e f =
      ap (λ (q : List ℕ). limited_queue limit q (record { ring = ring_of p.ring.head (p.ring.length + 1); steps = p.steps; counts = set p.counts name (get_or p.counts name 0 + 1); threads = set p.threads name (get_or p.threads name 0 + 1) })) f
      ∙ (λ i. limited_queue limit (set queue (t i) (e i))
      (record { ring = ring_of p.ring.head (p.ring.length + 1); steps = p.steps; counts = set p.counts name (get_or p.counts name 0 + 1); threads = set p.threads name (get_or p.threads name 0 + 1) }))
      ∙ sym (ap (λ (b : Bool). cond b lent (started place name lent)) h)

  pub started-tail : (v : ℕ) {tail t : ℕ} {q : List ℕ} → tail ≡ tail_of lent → q ≡ set queue tail v → t ≡ ahead (length queue) tail 1 → t ≡ ahead (length q) p.ring.head (p.ring.length + 1)
  started-tail v e g f =
      f ∙ ap (λ (k : ℕ). ahead (length queue) k 1) e ∙ mod-add-mod (p.ring.head + p.ring.length) (length queue) 1 ∙ ap (λ (k : ℕ). k % length queue) (sum p.ring.head p.ring.length)
      ∙ ap (λ (k : ℕ). ahead k p.ring.head (p.ring.length + 1)) (sym (ap length g ∙ length-set queue _ v))
    where
      sum : (h l : ℕ) → h + l + 1 ≡ h + (l + 1)
      sum h l = omega arith

-- a queue with its front entry
module _ {limit : ℕ} {queue : List ℕ} {p : Processes} {tail : ℕ} (f : Front (limited_queue limit queue p) tail) where
  abbrev line : Machine
  line = limited_queue limit queue p

  abbrev name : ℕ
  name = (popped line).name

  name-lt : name < 16
  name-lt = omega arith

  -- the head one on
  abbrev pub next-head : ℕ
  next-head = ahead (length queue) p.ring.head 1

  -- the front entry pushed at another place
  abbrev moved : ℕ → List ℕ
  moved next = set queue tail (packed_entry (entry next (popped line).thread name))

  pushed-is : (next : ℕ) → limited_queue limit (moved next) (onward next-head p) ≡ push (entry next (popped line).thread name) (pop line)
  unfolding push pop
  pushed-is next = λ i.
      limited_queue limit (set queue ((f.behind ∙ slot_is p.ring.head p.ring.length (length queue) f.some) i) (packed_entry (entry next (popped line).thread name)))
      (record { ring = ring_of next-head (longer i); steps = p.steps; counts = lower-raise p.counts name (omega (arith, name-lt, f.sixteen)) f.count i; threads = p.threads })
    where
      longer : p.ring.length ≡ p.ring.length - 1 + 1
      longer = omega (arith, f.some)

  pub moved-is : (next : ℕ) {v w : ℕ} → w ≡ get_or queue p.ring.head 0 → v ≡ packed_entry (entry next (unpacked_entry w).thread (unpacked_entry w).name) → set queue tail v ≡ moved next
  moved-is next e f = ap (set queue tail) (f ∙ ap (λ (w : ℕ). packed_entry (entry next (unpacked_entry w).thread (unpacked_entry w).name)) e)

  pushed : (next : ℕ) {h : ℕ} {q : List ℕ} → h ≡ next-head → q ≡ moved next → limited_queue limit q (onward h p) ≡ push (entry next (popped line).thread name) (pop line)
  pushed next eh eq = (λ i. limited_queue limit (eq i) (onward (eh i) p)) ∙ pushed-is next

  -- the tail after one push
  pub tail-on : (v : ℕ) {h t : ℕ} {q : List ℕ} → h ≡ next-head → t ≡ ahead (length queue) tail 1 → q ≡ set queue tail v → t ≡ ahead (length q) h p.ring.length
  tail-on v {h = h} eh et eq =
      et ∙ ap (λ (k : ℕ). ahead (length queue) k 1) f.behind ∙ one_on p.ring.head p.ring.length (length queue) ∙ ap (λ (k : ℕ). ahead (length queue) k p.ring.length) (sym eh)
      ∙ ap (λ (k : ℕ). ahead k h p.ring.length) (sym (ap length eq ∙ length-set queue tail v))

  -- what a child started then asks
  pub child-asks : (v : ℕ) {h t : ℕ} {q : List ℕ} {e : Entry} → h ≡ next-head → (t ≡ ahead (length queue) tail 1) × (q ≡ set queue tail v) → e ≡ popped line
      → (length q ≤ 65535) × (t < length q) × (t ≡ tail_of (limited_queue limit q (onward h p))) × (e.name < 16) × (p.ring.length ≤ length q) × (get_or p.threads e.name 0 ≡ 4294967295 → ⊥) × (get_or p.counts e.name 0 < 4294967295)
  child-asks v eh g ee =
      let few = f.slots in
      let counted = f.counted in
      let l = f.fits in (
        rw (g.1, length-set queue tail v) few,
        rw (g.0, g.1, length-set queue tail v) (ahead-lt (length queue) tail 1 (omega (arith, f.head))),
        tail-on v eh g.0 g.1,
        rw ee name-lt,
        rw (g.1, length-set queue tail v) l,
        rw ee f.number,
        rw ee (omega arith),
      )

  module _ {x : Executed} where
    pub goes_on : {next : Absolute} {wr h t : ℕ} {q : List ℕ} → x ≡ Goes next wr → h ≡ next-head → t ≡ ahead (length queue) tail 1
        → q ≡ moved next.0 → Requeued line x (stepped (Ok tt) wr t) (limited_queue limit q (onward h p))
    goes_on {next = next} {h = h} e eh et eq =
        record {
          machine = pushed next.0 eh eq ∙ ap (λ (y : Executed). (queued (next_of y) (popped line) (pop line)).machine) (sym e);
          answer = ap (λ (y : Executed). next_told (next_of y) (get_or (pop line).header.counts name 0) (pc line)) (sym e);
          writes = ap writes_of (sym e);
          tail = tail-on _ eh et eq;
        }

    pub splits-on : {next child : Absolute} {wr h t n : ℕ} {q : List ℕ} {m : Machine} → x ≡ Splits next child wr → h ≡ next-head → n ≡ name
        → q ≡ moved next.0 → (m ≡ grown limit q (onward h p) child.0 n) × (t ≡ tail_of m) → Requeued line x (stepped (Ok tt) wr t) m
    splits-on {next = next} {child = child} {h = h} {n = n} ex eh en eq g =
        record {
          machine = g.0 ∙ (λ j. cond (full (pushed next.0 eh eq j) (en j)) (pushed next.0 eh eq j) (started child.0 (en j) (pushed next.0 eh eq j)))
              ∙ either (push (entry next.0 (popped line).thread name) (pop line)) (full (push (entry next.0 (popped line).thread name) (pop line)) name)
              ∙ ap (λ (y : Executed). (queued (next_of y) (popped line) (pop line)).machine) (sym ex);
          answer = ap (λ (y : Executed). next_told (next_of y) (get_or (pop line).header.counts name 0) (pc line)) (sym ex);
          writes = ap writes_of (sym ex);
          tail = g.1;
        }
      where
        either : (n : Machine) (b : Bool) → cond b n (started child.0 name n)
            ≡ (cond {A = Queued} b (record { machine = n; pushes = 1 }) (record { machine = started child.0 name n; pushes = 2 })).machine
        either n true = refl
        either n false = refl

    -- an ended process pushes nothing
    pub ended-on : (y : Ending) {wr h : ℕ} {e : Entry} {answer : Answer} {q : Processes} → next_of x ≡ ends y → writes_of x ≡ wr → h ≡ next-head → e ≡ popped line
        → (told answer ≡ cond (eqb (get_or p.counts e.name 0 - 1) 0) (end_told y e.place.0) (gives 0 0)) × (q ≡ ended e.name (onward h p))
        → Requeued line x (stepped answer wr tail) (limited_queue limit queue q)
    unfolding pop
    ended-on y {h = h} {e = e} ex ew eh ee g =
        record {
          machine = ap (limited_queue limit queue) g.1 ∙ (λ j. limited_queue limit queue (ended (ee j).name (onward (eh j) p))) ∙ ap (λ (n : Next). (queued n (popped line) (pop line)).machine) (sym ex);
          answer = g.0 ∙ ap (λ (e : Entry). cond (eqb (get_or p.counts e.name 0 - 1) 0) (end_told y e.place.0) (gives 0 0)) ee
              ∙ ap (λ (k : ℕ). cond (eqb k 0) (end_told y (pc line)) (gives 0 0)) (sym left)
              ∙ ap (λ (n : Next). next_told n (get_or (pop line).header.counts name 0) (pc line)) (sym ex);
          writes = sym ew;
          tail = f.behind ∙ slot_is p.ring.head p.ring.length (length queue) f.some ∙ ap (λ (k : ℕ). ahead (length queue) k (p.ring.length - 1)) (sym eh)
              ∙ ap (λ (r : Processes). ahead (length queue) r.ring.head r.ring.length) (sym g.1);
        }
      where
        left : get_or (set p.counts name (get_or p.counts name 0 - 1)) name 0 ≡ get_or p.counts name 0 - 1
        left = get_or-set_same p.counts name _ 0 (omega (arith, name-lt, f.sixteen))
