-- What fresh takes; a divisor of M; the sound header and front entry, test by test; what keeps a header sound: pop, push, a step counted, a next thread number, a name registered.
-- Assumes nothing.
use Prim.Native.Nat.{ℕ, ◌+◌, ◌-◌, ◌*◌, ◌/◌, ◌%◌, ◌^◌, ◌≤◌, ◌<◌, zero-le}
use mathlib.Core.Path.{◌≡◌, refl, sym, ap, subst, ◌∙◌}
use mathlib.Core.Bool.{Bool, true, false, cond, not, ◌&&◌, ◌||◌}
use mathlib.Core.List.{List}
use native.Mathlib.Nat.{le_trans, min-le_left, mod-lt, mod-eq_of_lt}
use native.Mathlib.Omega.{arith}
use lib.Dec.{eqb, leb, ltb}
use lib.ListN.{length, get_or, take, set, length-take, length-set}
use lib.Seq.{take-set-lt, length-take-le, get_or-take}
use borrow.Author.Tests.{leb-true, leb-false, ltb-true, ltb-false, eqb-true, eqb-false, le-leb, lt-ltb, eq-eqb, not-false}
use Rattle.laws.specs.Lists.{every, total, same, distinct}
use Rattle.laws.proofs.Tests.{both, neither, holds, eqb_swap}
use Rattle.laws.proofs.Every.{every-passes, every-at, every-or, test-set, every-snoc}
use Rattle.laws.proofs.Tally.{total-set, total-snoc, total-most, total-below}
use Rattle.laws.proofs.Same.{distinct_snoc}
use Rattle.metadata.specs.Metadata.{valid_byte}
use Rattle.machine.specs.declared.Header.{Header}
use Rattle.machine.specs.declared.Ring.{Ring}
use Rattle.machine.specs.declared.Rules.{Rules}
use Rattle.machine.specs.declared.Entry.{Entry}
use Rattle.machine.specs.State.{Machine, under, with_core, with_queue, passes}
use Rattle.machine.specs.Names.{names, slot, is_new, seventeenth, register, registered, numbered}
use Rattle.machine.specs.Queue.{entry, unpacked_entry, front, full, pop, push, started}
use Rattle.machine.specs.Soundness.{valid_size, valid_queue, valid_processes, divides, valid_limits, fresh_checks, header_tests, sound_header, sound_entry}
use Rattle.machine.specs.Step.{counted}
use Rattle.machine.proofs.Checks.{passed, accepts}
use Rattle.machine.proofs.Names.{Shape, register-shape, length-names, take-held, names-register, Held, held-slot, held-register, new-register, held-not-new}

-- M, the memories' lengths, P and the limits as fresh takes them
pub record Taken (rules : Rules) (core queue : List ℕ) : Type 0 where
  pub size : valid_size rules.size ≡ true
  pub cells : length core ≡ rules.size
  pub slots : valid_queue (length queue) ≡ true
  pub processes : valid_processes rules.processes (length queue) ≡ true
  pub limits : valid_limits rules ≡ true

pub is-taken : (rules : Rules) (core queue : List ℕ) → passes (fresh_checks rules core queue) ≡ true → Taken rules core queue
is-taken rules core queue e =
    let p = passed (fresh_checks rules core queue) (accepts (fresh_checks rules core queue) e) in
    let two = neither (not (eqb (length core) rules.size) || not (valid_queue (length queue))) (not (valid_processes rules.processes (length queue))) p.1.0 in
    let memories = neither (not (eqb (length core) rules.size)) (not (valid_queue (length queue))) two.0 in
    record {
      size = not-false _ p.0;
      cells = eqb-true _ _ (not-false (eqb (length core) rules.size) memories.0);
      slots = not-false (valid_queue (length queue)) memories.1;
      processes = not-false (valid_processes rules.processes (length queue)) two.1;
      limits = not-false (valid_limits rules) p.1.1.0;
    }

pub takes : (rules : Rules) (core queue : List ℕ) → Taken rules core queue → passes (fresh_checks rules core queue) ≡ true
takes rules core queue t = rw (t.size, eq-eqb (length core) rules.size t.cells, t.slots, t.processes, t.limits)

-- as five tests
pub taken-tests : (rules : Rules) (core queue : List ℕ)
    → passes (fresh_checks rules core queue)
    ≡ (valid_size rules.size && (eqb rules.size (length core) && (valid_queue (length queue) && (valid_processes rules.processes (length queue) && valid_limits rules))))
taken-tests rules core queue =
    go (valid_size rules.size) (eqb (length core) rules.size) (valid_queue (length queue)) (valid_processes rules.processes (length queue)) (valid_limits rules)
    ∙ ap (λ (b : Bool). valid_size rules.size && (b && (valid_queue (length queue) && (valid_processes rules.processes (length queue) && valid_limits rules))))
    (eqb_swap (length core) rules.size)
  where
    go : (a b c d e : Bool) → (not (not a) && (not (not b || not c || not d) && (not (not e) && true))) ≡ (a && (b && (c && (d && e))))
    go false b c d e = refl
    go true false c d e = refl
    go true true false d e = refl
    go true true true false e = refl
    go true true true true false = refl
    go true true true true true = refl

-- P as fresh takes it: at least 1, at most 4,095, and 16 times P at most the entries of the memory
pub record ValidProcesses (processes slots : ℕ) : Type 0 where
  pub some : 1 ≤ processes
  pub most : processes ≤ 4095
  pub room : 16 * processes ≤ slots

pub is-processes : (processes slots : ℕ) → valid_processes processes slots ≡ true → ValidProcesses processes slots
is-processes p slots e =
    let b = both (leb 1 p && leb p 4095) (leb (16 * p) slots) e in
    let c = both (leb 1 p) (leb p 4095) b.0 in
    record { some = leb-true _ _ c.0; most = leb-true _ _ c.1; room = leb-true _ _ b.1 }

-- a limit that divides M is 1 to M
pub divisor-at-most : (limit size : ℕ) → 0 < size → divides limit size ≡ true → (0 < limit) × (limit ≤ size)
divisor-at-most limit size pos d =
    let t = both (leb 1 limit) (eqb (size % limit) 0) d in
    (leb-true _ _ t.0, go (ltb size limit) refl (eqb-true _ _ t.1))
  where
    go : (b : Bool) → ltb size limit ≡ b → size % limit ≡ 0 → limit ≤ size
    go true e z = let s : size ≡ 0 = sym (mod-eq_of_lt (ltb-true _ _ e)) ∙ z in omega arith
    go false e z = ltb-false _ _ e

-- the counts of at most 16 names held, none of them over P: each is at most P; they fit into the queue memory; and where one name, held or still
-- to be held, holds fewer than P, there is room for one entry more
module _ (p held : ℕ) (counts : List ℕ) (within : every (λ c. leb c p) (take held counts) ≡ true) where
  pub count-within : (i : ℕ) → i < held → get_or counts i 0 ≤ p
  count-within i h =
      leb-true _ _ (subst (λ (k : ℕ). leb k p ≡ true) (get_or-take held counts i 0 h)
      (every-or (λ c. leb c p ≡ true) (take held counts) i 0 (every-passes (λ c. leb c p) (take held counts) within) (le-leb 0 p zero-le)))

  module _ {slots entries : ℕ} (few : held ≤ 16) (sum : total (take held counts) ≡ entries) (p-is : ValidProcesses p slots) where
    short : length (take held counts) ≤ 16
    short = rw (length-take held counts) (le_trans (min-le_left held (length counts)) few)

    pub entries-fit : entries ≤ slots
    entries-fit = let l = total-most p (take held counts) 16 within short in omega (arith, sum, p-is.room)

    pub room-for : (i : ℕ) → i < 16 → get_or (take held counts) i 0 < p → entries < slots
    room-for i h c = let l = total-below p (take held counts) 16 i within short h c in omega (arith, sum, p-is.room)

-- each test of a sound header
pub record Tested (m : Machine) : Type 0 where
  pub size : valid_size m.header.rules.size ≡ true
  pub core : length m.core ≡ m.header.rules.size
  pub queue : valid_queue (length m.queue) ≡ true
  pub processes : valid_processes m.header.rules.processes (length m.queue) ≡ true
  pub limits : valid_limits m.header.rules ≡ true
  pub fits : m.header.ring.length ≤ length m.queue
  pub head : m.header.ring.head < length m.queue
  pub few : m.header.names.held ≤ 16
  pub lengths : every (λ k. leb 1 k && leb k 32) (take m.header.names.held m.header.names.lengths) ≡ true
  pub bytes : every (every valid_byte) (names m.header.names) ≡ true
  pub unlike : distinct (names m.header.names) ≡ true
  pub sum : total (take m.header.names.held m.header.counts) ≡ m.header.ring.length
  pub within : every (λ c. leb c m.header.rules.processes) (take m.header.names.held m.header.counts) ≡ true

pub tested : (m : Machine) → sound_header m ≡ true → Tested m
unfolding sound_header
tested m e =
    let h = holds (header_tests m) e in
    let t = is-taken m.header.rules m.core m.queue h.0 in
    record {
      size = t.size;
      core = t.cells;
      queue = t.slots;
      processes = t.processes;
      limits = t.limits;
      fits = leb-true _ _ h.1.0;
      head = ltb-true _ _ h.1.1.0;
      few = leb-true _ _ h.1.1.1.0;
      lengths = h.1.1.1.1.0;
      bytes = h.1.1.1.1.1.0;
      unlike = h.1.1.1.1.1.1.0;
      sum = eqb-true _ _ h.1.1.1.1.1.1.1.0;
      within = h.1.1.1.1.1.1.1.1.0;
    }

-- and the header's arrays
pub record SoundHeader (m : Machine) : Type 0 where
  pub shape : Shape m.header
  pub size : valid_size m.header.rules.size ≡ true
  pub core : length m.core ≡ m.header.rules.size
  pub queue : valid_queue (length m.queue) ≡ true
  pub processes : valid_processes m.header.rules.processes (length m.queue) ≡ true
  pub limits : valid_limits m.header.rules ≡ true
  pub fits : m.header.ring.length ≤ length m.queue
  pub head : m.header.ring.head < length m.queue
  pub few : m.header.names.held ≤ 16
  pub lengths : every (λ k. leb 1 k && leb k 32) (take m.header.names.held m.header.names.lengths) ≡ true
  pub bytes : every (every valid_byte) (names m.header.names) ≡ true
  pub unlike : distinct (names m.header.names) ≡ true
  pub sum : total (take m.header.names.held m.header.counts) ≡ m.header.ring.length
  pub within : every (λ c. leb c m.header.rules.processes) (take m.header.names.held m.header.counts) ≡ true

pub sound-header : (m : Machine) → Shape m.header → sound_header m ≡ true → SoundHeader m
sound-header m s e =
    let t = tested m e in
    record {
      shape = s;
      size = t.size;
      core = t.core;
      queue = t.queue;
      processes = t.processes;
      limits = t.limits;
      fits = t.fits;
      head = t.head;
      few = t.few;
      lengths = t.lengths;
      bytes = t.bytes;
      unlike = t.unlike;
      sum = t.sum;
      within = t.within;
    }

pub header-sound : (m : Machine) → SoundHeader m → sound_header m ≡ true
unfolding sound_header
header-sound m s =
    let t = takes m.header.rules m.core m.queue (record { size = s.size; cells = s.core; slots = s.queue; processes = s.processes; limits = s.limits }) in
    rw (t, le-leb _ _ s.fits, lt-ltb _ _ s.head, le-leb _ _ s.few, s.lengths, s.bytes, s.unlike, eq-eqb _ _ s.sum, s.within)

module _ (m : Machine) (s : SoundHeader m) where
  pub size-positive : 0 < m.header.rules.size
  size-positive = leb-true _ _ (both (leb 1 m.header.rules.size) (leb m.header.rules.size 46341) s.size).0

  pub size-most : m.header.rules.size ≤ 46341
  size-most = leb-true _ _ (both (leb 1 m.header.rules.size) (leb m.header.rules.size 46341) s.size).1

  pub size_small : m.header.rules.size ≤ 65536
  size_small = omega (arith, size-most)

  pub counts-long : m.header.names.held ≤ length m.header.counts
  counts-long = omega (arith, s.few, s.shape.counts)

  -- a held name has at most 32 bytes
  pub name-short : (i : ℕ) → i < m.header.names.held → get_or m.header.names.lengths i 0 ≤ 32
  name-short i h =
      leb-true _ _ (both (leb 1 (get_or m.header.names.lengths i 0)) (leb (get_or m.header.names.lengths i 0) 32)
      (subst (λ (k : ℕ). (leb 1 k && leb k 32) ≡ true) (get_or-take m.header.names.held m.header.names.lengths i 0 h)
      (every-at (λ k. (leb 1 k && leb k 32) ≡ true) (take m.header.names.held m.header.names.lengths) i 0
      (every-passes (λ k. leb 1 k && leb k 32) (take m.header.names.held m.header.names.lengths) s.lengths)
      (rw (length-take-le m.header.names.held m.header.names.lengths (omega (arith, s.shape.lengths, s.few))) h)))).1

  -- P is as fresh takes it
  pub p-is : ValidProcesses m.header.rules.processes (length m.queue)
  p-is = is-processes _ _ s.processes

  -- a name that holds fewer than P leaves room
  pub room : (i : ℕ) → i < m.header.names.held → full m i ≡ false → m.header.ring.length < length m.queue
  room i h f =
      room-for m.header.rules.processes m.header.names.held m.header.counts s.within s.few s.sum p-is i (omega (arith, s.few))
      (rw (get_or-take m.header.names.held m.header.counts i 0 h) (leb-false m.header.rules.processes (get_or m.header.counts i 0) f))

  -- the count of a held name is at most P
  pub count-most : (i : ℕ) → i < m.header.names.held → get_or m.header.counts i 0 ≤ m.header.rules.processes
  count-most i h = count-within m.header.rules.processes m.header.names.held m.header.counts s.within i h

  -- and so are all counts when that of a held name is set to one that is
  within-set : (i v : ℕ) → i < m.header.names.held → v ≤ m.header.rules.processes
      → every (λ c. leb c m.header.rules.processes) (take m.header.names.held (set m.header.counts i v)) ≡ true
  within-set i v h l =
      ap (every (λ c. leb c m.header.rules.processes)) (take-set-lt m.header.names.held m.header.counts i v h)
      ∙ test-set (λ c. leb c m.header.rules.processes) (take m.header.names.held m.header.counts) i v s.within (le-leb _ _ l)

  -- one count set: the sum changes by it
  total-counts : (i v : ℕ) → i < m.header.names.held
      → total (take m.header.names.held (set m.header.counts i v)) + get_or m.header.counts i 0 ≡ m.header.ring.length + v
  total-counts i v h =
      ap (λ (l : List ℕ). total l + get_or m.header.counts i 0) (take-set-lt m.header.names.held m.header.counts i v h)
      ∙ ap (λ (k : ℕ). total (set (take m.header.names.held m.header.counts) i v) + k) (sym (get_or-take m.header.names.held m.header.counts i 0 h))
      ∙ total-set (take m.header.names.held m.header.counts) i v (rw (length-take-le m.header.names.held m.header.counts counts-long) h)
      ∙ ap (λ (k : ℕ). k + v) s.sum

  -- the same names beside other memories and numbers
  same_names : (core queue : List ℕ) (ring : Ring) (steps : ℕ) (counts threads : List ℕ)
      → length core ≡ m.header.rules.size
      → length queue ≡ length m.queue
      → ring.head < length m.queue
      → length counts ≡ 16
      → total (take m.header.names.held counts) ≡ ring.length
      → every (λ c. leb c m.header.rules.processes) (take m.header.names.held counts) ≡ true
      → length threads ≡ 16
      → SoundHeader (with_core core (with_queue queue
      (record { rules = m.header.rules; ring = ring; steps = steps; names = m.header.names; counts = counts; threads = threads })
      m))
  same_names core queue ring steps counts threads c q h k t w u =
      record {
        shape = record { names = s.shape.names; lengths = s.shape.lengths; counts = k; threads = u };
        size = s.size;
        core = c;
        queue = rw q s.queue;
        processes = rw q s.processes;
        limits = s.limits;
        fits = rw q (entries-fit m.header.rules.processes m.header.names.held counts w s.few t p-is);
        head = rw q h;
        few = s.few;
        lengths = s.lengths;
        bytes = s.bytes;
        unlike = s.unlike;
        sum = t;
        within = w;
      }

  pub pop-sound : 0 < m.header.ring.length → (unpacked_entry (front m)).name < m.header.names.held
      → 1 ≤ get_or m.header.counts (unpacked_entry (front m)).name 0 → SoundHeader (pop m)
  unfolding pop
  pop-sound some held one =
      let i = (unpacked_entry (front m)).name in
      let t = total-counts i (get_or m.header.counts i 0 - 1) held in
      let l = count-most i held in
      same_names m.core m.queue _ _ _ _ s.core refl (mod-lt (m.header.ring.head + 1) (omega (arith, s.head)))
      (length-set m.header.counts _ _ ∙ s.shape.counts) (omega arith) (within-set i _ held (omega arith)) s.shape.threads

  pub push-sound : (e : Entry) → e.name < m.header.names.held → full m e.name ≡ false → SoundHeader (push e m)
  unfolding push
  push-sound e held free =
      let t = total-counts e.name (get_or m.header.counts e.name 0 + 1) held in
      let l = leb-false m.header.rules.processes (get_or m.header.counts e.name 0) free in
      same_names m.core _ _ _ _ _ s.core (length-set m.queue _ _) s.head
      (length-set m.header.counts _ _ ∙ s.shape.counts) (omega arith) (within-set e.name _ held (omega arith)) s.shape.threads

  -- count one step, with another core
  pub counted-sound : (core : List ℕ) → length core ≡ m.header.rules.size → SoundHeader (counted core m)
  unfolding counted
  counted-sound core c = same_names core m.queue _ _ _ _ c refl s.head s.shape.counts s.sum s.within s.shape.threads

-- the same queue memory beside another core and header
abbrev pub holding : List ℕ → Header → Machine → Machine
holding core h m = with_core core (under h m)

module _ (m : Machine) (s : SoundHeader m) (core : List ℕ) (c : length core ≡ m.header.rules.size) where
  -- a next thread number
  pub numbered-sound : (i : ℕ) → SoundHeader (holding core (numbered i m.header) m)
  unfolding numbered
  numbered-sound i =
      same_names m s core m.queue _ _ _ _ c refl s.head s.shape.counts s.sum s.within
      (length-set m.header.threads _ _ ∙ s.shape.threads)

  module _ (n : List ℕ) (fits : length n ≤ 32) (some : 1 ≤ length n) (valid : every valid_byte n ≡ true) where
    register-sound : slot m.header.names n ≡ m.header.names.held → m.header.names.held < 16 → SoundHeader (holding core (register m.header n) m)
    unfolding register
    register-sound e small =
        let h = m.header in
        let news = names-register h n s.shape small fits (name-short m s) in
        record {
          shape = register-shape h n s.shape;
          size = s.size;
          core = c;
          queue = s.queue;
          processes = s.processes;
          limits = s.limits;
          fits = s.fits;
          head = s.head;
          few = omega arith;
          lengths =
              ap (every (λ k. leb 1 k && leb k 32)) (take-held h h.names.lengths (length n) (omega (arith, s.shape.lengths)))
              ∙ every-snoc (λ k. leb 1 k && leb k 32) (take h.names.held h.names.lengths) (length n) s.lengths (rw (le-leb _ _ some, le-leb _ _ fits));
          bytes = ap (every (every valid_byte)) news ∙ every-snoc (every valid_byte) (names h.names) n s.bytes valid;
          unlike = ap distinct news ∙ distinct_snoc (names h.names) n s.unlike (e ∙ sym (length-names h));
          sum = ap total (take-held h h.counts 0 (omega (arith, s.shape.counts))) ∙ total-snoc (take h.names.held h.counts) ∙ s.sum;
          within =
              ap (every (λ c. leb c h.rules.processes)) (take-held h h.counts 0 (omega (arith, s.shape.counts)))
              ∙ every-snoc (λ c. leb c h.rules.processes) (take h.names.held h.counts) 0 s.within (le-leb 0 h.rules.processes zero-le);
        }

    -- a name, held or new
    pub registered-sound : seventeenth m.header.names n ≡ false → SoundHeader (holding core (registered m.header n) m)
    registered-sound free = go (is_new m.header.names n) refl free
      where
        go : (b : Bool) → is_new m.header.names n ≡ b → (b && eqb m.header.names.held 16) ≡ false
            → SoundHeader (holding core (cond b (register m.header n) m.header) m)
        go true e free = let k : m.header.names.held ≡ 16 → ⊥ = eqb-false _ _ free in register-sound (eqb-true _ _ e) (omega (arith, s.few))
        go false e free = same_names m s core m.queue _ _ _ _ c refl s.head s.shape.counts s.sum s.within s.shape.threads

-- a registered name is held at its slot
pub registered-held : (m : Machine) (n : List ℕ) → SoundHeader m → seventeenth m.header.names n ≡ false → length n ≤ 32
    → Held (registered m.header n) (slot m.header.names n) n
registered-held m n s free fits = go (is_new m.header.names n) refl free
  where
    go : (b : Bool) → is_new m.header.names n ≡ b → (b && eqb m.header.names.held 16) ≡ false
        → Held (cond b (register m.header n) m.header) (slot m.header.names n) n
    go false e free = held-slot m.header n e
    go true e free =
        let k : m.header.names.held ≡ 16 → ⊥ = eqb-false _ _ free in
        held-register m.header n (names-register m.header n s.shape (omega (arith, s.few)) fits (name-short m s)) (eqb-true _ _ e)

-- and of the others no more and no fewer are new
pub registered-new : (m : Machine) (t : List ℕ) → SoundHeader m → seventeenth m.header.names t ≡ false → length t ≤ 32
    → (n : List ℕ) → is_new (registered m.header t).names n ≡ (is_new m.header.names n && not (same t n))
registered-new m t s free fits n = go (is_new m.header.names t) refl free
  where
    go : (b : Bool) → is_new m.header.names t ≡ b → (b && eqb m.header.names.held 16) ≡ false
        → is_new (cond b (register m.header t) m.header).names n ≡ (is_new m.header.names n && not (same t n))
    go false e free = held-not-new m.header t e n
    go true e free =
        let k : m.header.names.held ≡ 16 → ⊥ = eqb-false _ _ free in
        new-register m.header t (names-register m.header t s.shape (omega (arith, s.few)) fits (name-short m s)) n

-- a process started
pub started-sound : (place i : ℕ) (m : Machine) → SoundHeader m → i < m.header.names.held → full m i ≡ false → SoundHeader (started place i m)
unfolding started numbered
started-sound place i m s held free =
    push-sound (holding m.core (numbered i m.header) m) (numbered-sound m s m.core s.core i)
    (entry place (get_or m.header.threads i 0) i) held free

-- the tests of a front entry
pub record SoundEntry (h : Header) (w : ℕ) : Type 0 where
  pub held : (unpacked_entry w).name < h.names.held
  pub count : 1 ≤ get_or h.counts (unpacked_entry w).name 0
  pub place : (unpacked_entry w).place.0 < h.rules.size
  pub top : w / 2 ^ 52 ≡ 0

pub sound-entry : (h : Header) (w : ℕ) → sound_entry h w ≡ true → SoundEntry h w
unfolding sound_entry
sound-entry h w e =
    let i = (unpacked_entry w).name in
    let held = ltb i h.names.held in
    let count = leb 1 (get_or h.counts i 0) in
    let place = ltb (unpacked_entry w).place.0 h.rules.size in
    let p = both (held && count && place) (eqb (w / 2 ^ 52) 0) e in
    let q = both (held && count) place p.0 in
    let r = both held count q.0 in
    record { held = ltb-true _ _ r.0; count = leb-true _ _ r.1; place = ltb-true _ _ q.1; top = eqb-true _ _ p.1 }

pub entry-sound : (h : Header) (w : ℕ) → SoundEntry h w → sound_entry h w ≡ true
unfolding sound_entry
entry-sound h w s = rw (lt-ltb _ _ s.held, le-leb _ _ s.count, lt-ltb _ _ s.place, eq-eqb _ _ s.top)
