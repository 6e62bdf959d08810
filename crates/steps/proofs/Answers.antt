-- What a step gives of a machine that is ready and whose next step can be refused by 10 only.
-- Assumes nothing.
use mathlib.Core.Path.{◌≡◌, refl, sym, ap, ap₂, ◌∙◌}
use mathlib.Core.Bool.{Bool, true, false, not, ◌||◌}
use mathlib.Core.List.{List, [], ◌∷◌}
use Prim.Native.Nat.{ℕ, ◌+◌, ◌≤◌, ◌<◌}
use native.Mathlib.Omega.{arith}
use lib.Dec.{eqb, leb}
use lib.ListN.{length, get_or}
use borrow.Author.Tests.{eqb-false, not-false, leb-true}
use Rattle.laws.specs.Lists.{every}
use Rattle.laws.proofs.Tests.{both, neither}
use Rattle.laws.proofs.Tally.{count-le}
use Rattle.answer.specs.Numbers.{told}
use Rattle.std.specs.Prelude.{Err}
use Rattle.answer.specs.declared.Error.TheVariants.{PrivateMemory}
use Rattle.cell.specs.Cells.{sound_word}
use Rattle.machine.specs.declared.Processes.{Processes}
use Rattle.machine.specs.declared.Roster.{Roster}
use Rattle.machine.specs.declared.Rules.{Rules}
use Rattle.machine.specs.State.{Machine, check, Verdict, accepted, refusal, first, settle}
use Rattle.machine.specs.Queue.{front, pop}
use Rattle.machine.specs.Soundness.{sound_entry}
use Rattle.machine.specs.Execution.{dat, divisor, Next, ends, goes, splits}
use Rattle.machine.specs.Pointers.{site_at}
use Rattle.machine.specs.Instruction.{fetched, effect_at, core_at, seen_at, written_at}
use Rattle.machine.specs.Step as spec
use Rattle.machine.specs.Step.{popped, pc, site, effect, step_written, counted, Queued, queued, next_told, executed, next_checks}
use Rattle.machine.proofs.Soundness.{is-taken, SoundEntry, sound-entry}
use Rattle.machine.proofs.Step.{nonzero}
use Rattle.lent.specs.Parts.{processes_of, parts}
use Rattle.lent.specs.Given.{Given, given, given_by}
use Rattle.address.specs.Inner.Operands.{Fetched, private}
use Rattle.address.proofs.Evaluation.{over-private, few-public}
use Rattle.steps.specs.declared.opcode.Executed.{Executed}
use Rattle.steps.specs.declared.ring.Stepped.{Stepped}
use Rattle.steps.specs.Inner.Instruction.{Executable, answered}
use Rattle.steps.specs.Inner.Queueing.{limited_queue, tail_of, Front, next_of, writes_of, Requeued}
use Rattle.steps.specs.Inner.Ready.{Ready, Playable, step_of}
use Rattle.steps.proofs.Naming.{within, queued-within}

-- six rows of which only the fifth can apply
module _ (a b c d e f : Bool)
    (only : (n v : ℕ) → first (check a 7 ∷ check b 9 ∷ check c 8 ∷ check d 9 ∷ check e 10 ∷ check f 9 ∷ []) ≡ refusal n v → n ≡ 10) where
  rows : (a ≡ false) × (b ≡ false) × (c ≡ false) × (d ≡ false)
  rows = go a b c d refl refl refl refl
    where
      go : (w x y z : Bool) → a ≡ w → b ≡ x → c ≡ y → d ≡ z → (a ≡ false) × (b ≡ false) × (c ≡ false) × (d ≡ false)
      go true x y z o p q r = absurd (let k = only 7 0 (simp o) in omega arith)
      go false true y z o p q r = absurd (let k = only 9 0 (simp (o, p)) in omega arith)
      go false false true z o p q r = absurd (let k = only 8 0 (simp (o, p, q)) in omega arith)
      go false false false true o p q r = absurd (let k = only 9 0 (simp (o, p, q, r)) in omega arith)
      go false false false false o p q r = (o, p, q, r)

  last_row : e ≡ false → f ≡ false
  last_row ze = go f refl
    where
      go : (x : Bool) → f ≡ x → f ≡ false
      go true p = let t = rows in absurd (let k = only 9 0 (simp (t.0, t.1, t.2, t.3, ze, p)) in omega arith)
      go false p = p

-- the queue memory has at most 65,535 entries
pub slots-le : (m : Machine) → Ready m → length m.queue ≤ 65535
slots-le m ready =
    leb-true (length m.queue) 65535 (both (leb 1 (length m.queue)) (leb (length m.queue) 65535) (is-taken m.header.rules m.core m.queue ready.taken).slots).1

module _ (m : Machine) (ready : Ready m) (play : Playable m) where
  abbrev size : ℕ
  size = m.header.rules.size

  abbrev worn : Bool
  worn = eqb m.header.steps 4294967295 || eqb (get_or m.header.threads (popped m).name 0) 4294967295

  abbrev unsound-here : Bool
  unsound-here = not (sound_word size (get_or m.core (pc m) 0))

  abbrev unsound-read : Bool
  unsound-read = not (every (sound_word size) (seen_at (site m) m.core))

  passed : (eqb m.header.ring.length 0 ≡ false) × (not (sound_entry m.header (front m)) ≡ false) × (worn ≡ false) × (unsound-here ≡ false)
  passed = rows (eqb m.header.ring.length 0) (not (sound_entry m.header (front m))) worn unsound-here (private m.core (pc m)) unsound-read play.only

  at_front : SoundEntry m.header (front m)
  at_front = sound-entry m.header (front m) (not-false (sound_entry m.header (front m)) passed.1)

  unworn : (eqb m.header.steps 4294967295 ≡ false) × (eqb (get_or m.header.threads (popped m).name 0) 4294967295 ≡ false)
  unworn = neither (eqb m.header.steps 4294967295) (eqb (get_or m.header.threads (popped m).name 0) 4294967295) passed.2

  -- one more step can be counted
  pub step_left : m.header.steps ≤ 4294967295 → m.header.steps < 4294967295
  step_left h = let n : m.header.steps ≡ 4294967295 → ⊥ = eqb-false _ _ unworn.0 in omega arith

  pub here-sound : sound_word size (get_or m.core (pc m) 0) ≡ true
  here-sound = not-false (sound_word size (get_or m.core (pc m) 0)) passed.3

  fetched-is : Fetched m.header.rules m.core (pc m) (get_or m.core (pc m) 0)
  fetched-is =
      let t = is-taken m.header.rules m.core m.queue ready.taken in
      record {
        valid = leb-true _ _ (both (leb 1 size) (leb size 46341) t.size).1;
        cells = t.cells;
        place = at_front.place;
        is = refl;
        sound = here-sound;
      }

  -- both reads lie in the memories
  pub fetches : (m.header.ring.head < length m.queue) × (pc m < length m.core)
  fetches = let f = fetched-is in (ready.head, rw f.cells f.place)

  -- what going on asks of the queue
  pub front-is : {tail : ℕ} → tail ≡ tail_of m → Front (limited_queue m.header.rules.processes m.queue (processes_of m.header)) tail
  front-is e =
      let k = count-le m.header.counts m.header.names.held (popped m).name at_front.held in
      let t = ready.sum in
      let l = ready.fits in
      record {
        slots = slots-le m ready;
        head = ready.head;
        some = nonzero passed.0;
        fits = l;
        behind = e;
        upper = at_front.top;
        sixteen = ready.counts;
        count = at_front.count;
        counted = omega arith;
        number = eqb-false _ _ unworn.1;
      }

  -- 10: LDP and STP
  pub private-step : 16 < (fetched m.core (pc m)).opcode → given (told {A = Unit {0}} (Err PrivateMemory)) 0 0 m ≡ given_by (step_of m)
  unfolding step_of
  private-step h =
      let t = passed in
      let p = over-private size m.core (pc m) here-sound h in
      simp (t.0, t.1, t.2, t.3, p)

  module _ (few : (fetched m.core (pc m)).opcode ≤ 16) where
    public : private m.core (pc m) ≡ false
    public = few-public m.core (pc m) few

    read-sound : every (sound_word size) (seen_at (site m) m.core) ≡ true
    read-sound = not-false (every (sound_word size) (seen_at (site m) m.core)) (last_row (eqb m.header.ring.length 0) (not (sound_entry m.header (front m))) worn unsound-here (private m.core (pc m)) unsound-read play.only public)

    pub executable : Executable m.header.rules m.core (pc m) (get_or m.core (pc m) 0)
    executable = record { cell = fetched-is; few = few; read = read-sound; limits = (is-taken m.header.rules m.core m.queue ready.taken).limits }

    pub executed-step : given_by (executed m) ≡ given_by (step_of m)
    unfolding step_of
    executed-step =
        let t = passed in
        let u = public in
        let r = read-sound in
        let e : first (next_checks m) ≡ accepted = simp (t.0, t.1, t.2, t.3, u, r) in
        ap (λ (v : Verdict). given_by (settle v m (executed m))) (sym e)

-- what the code answers tells of the next places and the writes
next-is : (x : Next) (w : ℕ) → next_of (answered x w) ≡ x
next-is (ends dat) w = refl
next-is (ends divisor) w = refl
next-is (goes p) w = refl
next-is (splits p c) w = refl

writes_are : (x : Next) (w : ℕ) → writes_of (answered x w) ≡ w
writes_are (ends dat) w = refl
writes_are (ends divisor) w = refl
writes_are (goes p) w = refl
writes_are (splits p c) w = refl

-- an instruction executed, and the queue as it leaves it, whatever the names
module _ (core queue : List ℕ) (rules : Rules) (p : Processes) where
  abbrev line : Machine
  line = limited_queue rules.processes queue p

  -- the processes once the step is counted
  abbrev pub later : Processes
  later = record { ring = p.ring; steps = p.steps + 1; counts = p.counts; threads = p.threads }

  abbrev next : Next
  next = (effect_at (site_at rules (pc line)) core).next

  abbrev writes : ℕ
  writes = length (written_at (site_at rules (pc line)) core)

  pub executes : {x : Executed} {r : Stepped} {core' queue' : List ℕ} {p' : Processes} → (x ≡ answered next writes) × (core' ≡ core_at (site_at rules (pc line)) core)
      → Requeued (limited_queue rules.processes queue later) x r (limited_queue rules.processes queue' p') → (names : Roster)
      → given (told r.answer) r.writes 1 (parts core' queue' rules names p') ≡ given_by (executed (parts core queue rules names p))
  unfolding executed effect step_written spec.core_after counted pop
  executes e q names =
      (λ i. given (q.answer i) (q.writes i) 1 (within (e.1 i) rules names (q.machine i)))
      ∙ ap₂ (λ (n : Next) (w : ℕ). by n w) (ap next_of e.0 ∙ next-is next writes) (ap writes_of e.0 ∙ writes_are next writes)
      ∙ sym (ap (λ (k : Queued). given (next_told next (get_or (pop line).header.counts (popped line).name 0) (pc line)) writes 1 k.machine)
      (queued-within (core_at (site_at rules (pc line)) core) rules names next (popped line) (pop (limited_queue rules.processes queue later)) refl))
    where
      by : Next → ℕ → Given
      by n w = given (next_told n (get_or (pop line).header.counts (popped line).name 0) (pc line)) w 1
          (within (core_at (site_at rules (pc line)) core) rules names (queued n (popped line) (pop (limited_queue rules.processes queue later))).machine)

-- the front entry stays as it is when the step is counted
pub counted-front : {limit : ℕ} {queue : List ℕ} {p : Processes} {tail : ℕ} → Front (limited_queue limit queue p) tail
    → Front (limited_queue limit queue (record { ring = p.ring; steps = p.steps + 1; counts = p.counts; threads = p.threads })) tail
counted-front f =
    record {
      slots = f.slots;
      head = f.head;
      some = f.some;
      fits = f.fits;
      behind = f.behind;
      upper = f.upper;
      sixteen = f.sixteen;
      count = f.count;
      counted = f.counted;
      number = f.number;
    }
