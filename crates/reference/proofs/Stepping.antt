-- One step, of a sound machine with both limits M and from a same state: to a same state, with the Rust's answer.
-- Assumes nothing.
use Prim.Native.Nat.{ℕ, zero, suc, ◌+◌, ◌^◌, ◌<◌}
use mathlib.Core.Path.{◌≡◌, refl, ap, ◌∙◌}
use mathlib.Core.Bool.{Bool, true, false, ◌&&◌}
use mathlib.Core.List.{List, map}
use mathlib.Core.Logic.{inl, inr}
use mathlib.Core.Option.{Option, none, some}
use native.Mathlib.Omega.{arith}
use lib.Dec.{eqb, eqb-suc-zero}
use lib.ListN.{length, get_or, drop, length-set, length-map}
use borrow.Author.Tests.{eqb-true, le-ltb}
use Rattle.laws.proofs.Every.{◌and◌}
use Rattle.machine.specs.declared.Entry.{Entry}
use Rattle.machine.specs.declared.Header.{Header}
use Rattle.machine.specs.State.{Machine, Outcome, accepted, refusal, first}
use Rattle.machine.specs.Queue.{entry, slots, entries, front, name_of, full, pop, push, started}
use Rattle.machine.specs.Execution.{Ending, dat, divisor, Next, ends, goes, splits, is_split}
use Rattle.machine.specs.Step.{popped, pc, instruction, effect, core_after, counted, queued, next_told, executed, step_checks, step}
use Rattle.machine.specs.Whole.{Unlimited}
use Rattle.machine.proofs.Checks.{passed, only, other, others, without}
use Rattle.machine.proofs.Names.{Held}
use Rattle.machine.proofs.Soundness.{SoundHeader, room, size_small, push-sound}
use Rattle.machine.proofs.ProcessLimit.{full-again}
use Rattle.machine.proofs.Bounds.{thread-most}
use Rattle.machine.proofs.Agreement.{Agree, pop-agree, pop-held, push-held, counted-agree, counted-held}
use Rattle.machine.proofs.Pointers.{fields_at}
use Rattle.machine.proofs.Execution.{Places}
use Rattle.machine.proofs.Step.{next-places, step-by-cases, Ready, ready, not_last, front-held, counting, counting-sound, counting-free, counting-room}
use Rattle.machine.proofs.SoundMachine.{SoundMachine}
use Rattle.reference.specs.Types.{Instruction}
use Rattle.reference.specs.Process as Process
use Rattle.reference.specs.Process.{NoRemainingProcesses, ExecuteDat, DivideByZero, get}
use Rattle.reference.specs.Opcodes.{Result, Execution, execute}
use Rattle.reference.specs.Core as Rust
use Rattle.reference.specs.Core.{Core, Err, Returned, unless_alive, with_queue, after, stepped}
use Rattle.reference.specs.Same.{word_of, entry_of, Same}
use Rattle.reference.specs.Refinement.{meets_step, answered, answer_of}
use Rattle.reference.proofs.Registers.{error_of, Matches}
use Rattle.reference.proofs.Maps.{get-held}
use Rattle.reference.proofs.Queues.{push-same, started-same, fewer, left, pop-is, counted_same}
use Rattle.reference.proofs.Steps.{execute-is}

-- what one call did
pub record Agreed (o : Outcome) (r : Returned) : Type 0 where
  pub answer : r.answer ≡ answer_of o.number o.value
  pub same : Same o.machine r.core

-- an ending is told where no entry of the name is left
alive : (x : Ending) (place count : ℕ)
    → unless_alive (some count) (error_of x place) ≡ answer_of (next_told (ends x) count place).number (next_told (ends x) count place).value
alive dat place zero = refl
alive dat place (suc n) = simp (le-ltb (suc n) 1 (omega arith), eqb-suc-zero n)
alive divisor place zero = refl
alive divisor place (suc n) = simp (le-ltb (suc n) 1 (omega arith), eqb-suc-zero n)

module _ (m : Machine) (c : Core) (s : SoundMachine m) (whole : Unlimited m.header.rules) (same : Same m c) (e : first (step_checks m) ≡ accepted) where
  abbrev h : Header
  h = m.header

  abbrev t : List ℕ
  t = name_of m (front m)

  r : Ready m
  r = ready m s.header.shape e

  pc-in : pc m < h.rules.size
  pc-in = r.entry.place

  opcode-in : (instruction m).opcode < 17
  opcode-in =
      not_last (instruction m).opcode (fields_at h.rules.size m.core s.core (pc m) pc-in).opcode (passed (step_checks m) e).1.1.1.1.1.0

  abbrev execution : Execution
  execution = execute h.rules.size (map word_of m.core) (pc m)

  -- popped, the step counted, the instruction executed
  abbrev rust : Core
  rust = record { instructions = execution.core; process_queue = left m c same r; steps_taken = c.steps_taken + 1 }

  counting-same : Same (counting m) rust
  unfolding core_after effect
  counting-same = counted_same m c same r (core_after m) execution.core (execute-is m s whole pc-in opcode-in).core

  step_is : Rust.step c ≡ after h.rules.size execution.result (entry_of h (front m)) rust
  unfolding Rust.step
  step_is =
      ap (stepped c) (pop-is m c same r)
      ∙ ap (λ (l : List Instruction). run (length l) l) same.instructions
      ∙ ap (λ (n : ℕ). run n (map word_of m.core)) (length-map m.core word_of ∙ s.header.core)
    where
      run : ℕ → List Instruction → Returned
      run n l =
          after n (execute n l (pc m)).result (entry_of h (front m))
          (record { instructions = (execute n l (pc m)).core; process_queue = left m c same r; steps_taken = c.steps_taken + 1 })

  counting-agree : Agree (counting m)
  counting-agree = counted-agree (core_after m) (pop m) (pop-agree m t r.header (front-held m r) s.agree r.some r.entry.count)

  counting-held : Held (counting m).header (popped m).name t
  counting-held = counted-held (core_after m) (pop m) (pop-held m t r.header (front-held m r) s.agree r.some r.entry.count)

  place-fits : (p : ℕ) → p < h.rules.size → p < 2 ^ 16
  place-fits p l = omega (arith, size_small m s.header)

  -- the next place, with the thread number of the popped entry
  abbrev next : ℕ → Entry
  next p = entry p (popped m).thread (popped m).name

  abbrev one : ℕ → Machine
  one p = push (next p) (counting m)

  abbrev rust-one : ℕ → Core
  rust-one x = with_queue rust (Process.push t x (some (popped m).thread) (left m c same r))

  one_same : (p : ℕ) → p < h.rules.size → Same (one p) (rust-one p)
  one_same p l =
      push-same (counting m) rust counting-same (counting-sound m r) (next p) t counting-held (place-fits p l) (let f : (popped m).thread < 2 ^ 32 = omega arith in f)
      (counting-room m r)

  one-sound : (p : ℕ) → SoundHeader (one p)
  one-sound p = push-sound (counting m) (counting-sound m r) (next p) counting-held.below (counting-free m r)

  -- and a child, where its name did not hold P
  one-free : (p : ℕ) → full m (popped m).name ≡ false → full (one p) (popped m).name ≡ false
  one-free p f = full-again m p r.entry.count ∙ f

  one-held : (p : ℕ) → Held (one p).header (popped m).name t
  one-held p = push-held (counting m) (next p) t (counting-sound m r) counting-held counting-agree (counting-room m r)

  room-left : (p : ℕ) → full m (popped m).name ≡ false → (one p).header.ring.length < length (one p).queue
  room-left p f = room (one p) (one-sound p) (popped m).name (one-held p).below (one-free p f)

  one-thread : (p : ℕ) → get_or (one p).header.threads (popped m).name 0 < 2 ^ 32
  unfolding push counted pop
  one-thread p = let l = thread-most h (popped m).name s.numbers in omega arith

  two-same : (p y : ℕ) → p < h.rules.size → y < h.rules.size → full m (popped m).name ≡ false
      → Same (started y (popped m).name (one p)) (with_queue rust (Process.push t y none (rust-one p).process_queue))
  two-same p y l k f =
      started-same (one p) (rust-one p) (one_same p l) (one-sound p) y (popped m).name t
      (one-held p) (place-fits y k) (one-thread p) (room-left p f)

  -- the count that thread_count finds
  abbrev count : ℕ
  count = get_or (counting m).header.counts (popped m).name 0

  count-is : get t (left m c same r).processes ≡ some count
  unfolding counted pop
  count-is = get-held h (popped m).name t (front-held m r) s.header.few (fewer m c same r) (length-set h.counts _ _ ∙ s.header.shape.counts)

  abbrev outcome_of : Next → Outcome
  outcome_of x =
      let told = next_told x count (pc m) in
      record { machine = (queued x (popped m) (counting m)).machine; number = told.number; value = told.value; writes = 0; steps = 1; pushes = 0 }

  abbrev returned_of : Result → Returned
  returned_of x = after h.rules.size x (entry_of h (front m)) rust

  finish : (x : Next) (y : Result) → Matches h.rules.size (pc m) x y → Places (λ p. p < h.rules.size) x → (is_split x && full m (popped m).name) ≡ false
      → Agreed (outcome_of x) (returned_of y)
  finish (ends dat) y q l f =
      rw q (record { answer = ap (λ (o : Option ℕ). unless_alive o (ExecuteDat (pc m))) count-is ∙ alive dat (pc m) count; same = counting-same })
  finish (ends divisor) y q l f =
      rw q (record { answer = ap (λ (o : Option ℕ). unless_alive o DivideByZero) count-is ∙ alive divisor (pc m) count; same = counting-same })
  finish (goes p) y q l f = rw q.1 (record { answer = refl; same = rw q.2 (one_same p l) })
  finish (splits p y) z q l f =
      rw (q.1, one-free p f)
      (record { answer = refl; same = rw (q.2, q.3) (two-same p y l.0 l.1 f) })

  pub executed-agrees : meets_step m ≡ false → Agreed (executed m) (Rust.step c)
  unfolding executed
  executed-agrees f =
      rw step_is
      (let a = finish (effect m).next execution.result (execute-is m s whole pc-in opcode-in).next (next-places m s.core pc-in) f in
      record { answer = a.answer; same = a.same })

-- refused in the domain: the queue is empty
module _ (m : Machine) (n v : ℕ) (e : first (step_checks m) ≡ refusal n v) (a : answered n ≡ true) where
  is-seven : n ≡ 7
  is-seven = only answered 7 (step_checks m) refl n v e a

  is-empty : m.header.ring.length ≡ 0
  is-empty = go (eqb m.header.ring.length 0) refl
    where
      go : (b : Bool) → eqb m.header.ring.length 0 ≡ b → m.header.ring.length ≡ 0
      go true q = eqb-true _ _ q
      go false q = absurd (without 7 (step_checks m) (inr (other tt) and λ x. inl q and λ y. others 7 (drop 2 (step_checks m)) refl) n v e is-seven)

nothing-popped : (m : Machine) (c : Core) → Same m c → m.header.ring.length ≡ 0 → Rust.step c ≡ record { core = c; answer = Err NoRemainingProcesses }
unfolding Rust.step entries
nothing-popped m c s e =
    ap (λ (q : List Process.Entry). stepped c (Process.pop_from q c.process_queue))
    (s.queue ∙ ap (λ (n : ℕ). map (entry_of m.header) (slots m.queue m.header.ring.head n)) e)

pub step-agrees : (m : Machine) (c : Core) → SoundMachine m → Unlimited m.header.rules → Same m c → answered (step m).number ≡ true → meets_step m ≡ false
    → Agreed (step m) (Rust.step c)
step-agrees m c s whole same a f =
    step-by-cases (λ o. answered o.number ≡ true → Agreed o (Rust.step c)) m
    (λ n v e x a. rw (is-seven m n v e a, nothing-popped m c same (is-empty m n v e a)) (record { answer = refl; same = same }))
    (λ e a. executed-agrees m c s whole same e f) a
