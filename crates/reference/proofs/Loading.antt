-- One load of the Rust's and a place followed by a start, of a sound machine and from a same state: to a same state, with the Rust's answer.
-- Assumes nothing.
use Prim.Native.Nat.{ℕ, ◌%◌, ◌^◌, ◌≤◌, ◌<◌}
use mathlib.Core.Path.{◌≡◌, refl, sym, ap, ap₂, subst, ◌∙◌}
use mathlib.Core.Bool.{Bool, true, false, cond, not, ◌&&◌, true≢false}
use mathlib.Core.List.{List, [], ◌∷◌, map}
use mathlib.Core.Logic.{inl, inr}
use mathlib.Core.Option.{none, some}
use native.Mathlib.Nat.{zero-add}
use native.Mathlib.Omega.{arith}
use lib.Dec.{eqb, leb, ltb}
use lib.IntN.{pos}
use lib.ListN.{length, drop, length-map}
use borrow.Author.Tests.{le-ltb, lt-leb, ne_eqb}
use Rattle.laws.proofs.Tests.{and-false}
use Rattle.laws.proofs.Same.{same_refl}
use Rattle.laws.proofs.Every.{◌and◌}
use Rattle.offset.specs.Offset.{ahead}
use Rattle.program.specs.Program.{instructions, split}
use Rattle.metadata.specs.Metadata.{called}
use Rattle.metadata.proofs.Names.{called-valid}
use Rattle.program.proofs.Program.{length-split}
use Rattle.machine.specs.State.{Machine, Outcome, joined, and_then, refusal, first}
use Rattle.machine.specs.Names.{slot, is_new, register, registered}
use Rattle.machine.specs.Queue.{entries}
use Rattle.machine.specs.Place.{placing, place_checks}
use Rattle.machine.specs.Start.{starting, start_checks, start}
use Rattle.machine.proofs.Checks.{number_of, only, other, others, without}
use Rattle.machine.proofs.Soundness.{size-positive, size-most, size_small, holding, registered-new}
use Rattle.machine.proofs.Bounds.{registered-below}
use Rattle.machine.proofs.Registering.{naming, naming-sound, naming-held, naming-room}
use Rattle.machine.proofs.Place.{Placeable, placeable, is-placed, place-by-cases}
use Rattle.machine.proofs.Start.{Startable, startable, start-by-cases}
use Rattle.machine.proofs.SoundMachine.{SoundMachine, placing-keeps}
use Rattle.match_load.specs.Loading.{origin_of}
use Rattle.reference.specs.Types.{Instruction}
use Rattle.reference.specs.Offset.{offset, no_offset}
use Rattle.reference.specs.Process as Process
use Rattle.reference.specs.Process.{Queue}
use Rattle.reference.specs.Core.{Core, Ok, WarriorTooLong, Panic, Returned, written_from, name_of, origin_or_zero, with_instructions, with_queue, load_warrior}
use Rattle.reference.specs.Same.{word_of, Same, read_instruction, read_name, read_origin, warrior_of}
use Rattle.reference.specs.Compared.{Load, comes_to}
use Rattle.reference.specs.Refinement.{answered}
use Rattle.reference.proofs.Offsets.{offset-pos}
use Rattle.reference.proofs.Queues.{started-same}
use Rattle.reference.proofs.Bodies.{body_is}
use Rattle.reference.proofs.Registering.{Named, named}
use Rattle.reference.proofs.Stepping.{Agreed}

name-is : (given : List ℕ) → name_of (read_name given) ≡ called given
name-is [] = refl
name-is (b ∷ bs) = refl

origin-is : (origin : ℕ) → origin_or_zero (read_origin origin) ≡ origin_of origin
origin-is origin = go (eqb origin 65535)
  where
    go : (b : Bool) → origin_or_zero (cond b none (some origin)) ≡ cond b 0 origin
    go true = refl
    go false = refl

origin-fits : (origin : ℕ) → origin ≤ 65535 → leb (2 ^ 31) (origin_or_zero (read_origin origin)) ≡ false
origin-fits origin h = ap (leb (2 ^ 31)) (origin-is origin) ∙ lt-leb (2 ^ 31) (origin_of origin) (go (eqb origin 65535))
  where
    go : (b : Bool) → cond b 0 origin < 2 ^ 31
    go true = omega arith
    go false = omega arith

module _ (m : Machine) (c : Core) (s : SoundMachine m) (same : Same m c) (given body : List ℕ) (origin : ℕ) (small : origin ≤ 65535) where
  abbrev size : ℕ
  size = m.header.rules.size

  abbrev given-instructions : List Instruction
  given-instructions = map read_instruction (split (instructions body) body)

  -- load_warrior, by its core's instructions, their number, and its three tests
  abbrev result : List Instruction → ℕ → Bool → Bool → Bool → Returned
  result l n too_long no-offsets no_origin =
      let written = with_instructions c (written_from n 0 given-instructions l) in
      cond too_long (record { core = c; answer = WarriorTooLong })
      (cond no-offsets (record { core = c; answer = Panic })
      (cond no_origin (record { core = written; answer = Panic })
      (record {
        core = with_queue written (Process.push (name_of (read_name given)) (offset n (pos (origin_or_zero (read_origin origin)))) none c.process_queue);
        answer = Ok;
      })))

  has-offsets : no_offset size ≡ false
  has-offsets =
      simp (ne_eqb size 0 (let p = size-positive m s.header in λ e. omega arith), lt-leb (2 ^ 31) size (omega (arith, size-most m s.header)))

  load_is : load_warrior (warrior_of given body origin) c ≡ result (map word_of m.core) size (ltb size (instructions body)) false false
  unfolding load_warrior
  load_is =
      ap (λ (l : List Instruction). at l (length l)) same.instructions
      ∙ ap (at (map word_of m.core)) (length-map m.core word_of ∙ s.header.core)
      ∙ ap₂ (λ (n : ℕ) (b : Bool). result (map word_of m.core) size (ltb size n) b no_origin)
      (length-map (split (instructions body) body) read_instruction ∙ length-split (instructions body) body) has-offsets
      ∙ ap (result (map word_of m.core) size (ltb size (instructions body)) false) (origin-fits origin small)
    where
      no_origin : Bool
      no_origin = leb (2 ^ 31) (origin_or_zero (read_origin origin))

      at : List Instruction → ℕ → Returned
      at l n = result l n (ltb n (length given-instructions)) (no_offset n) no_origin

  -- 3
  too_long : ltb size (instructions body) ≡ true → load_warrior (warrior_of given body origin) c ≡ record { core = c; answer = WarriorTooLong }
  too_long e = load_is ∙ ap (λ (b : Bool). result (map word_of m.core) size b false false) e

  -- the body placed
  module _ (l : Placeable m given body 0) where
    w : Named m c (called given) (registered m.header (called given))
    w = named m c s.header s.agree same (called given) (called-valid given l.valid).0 l.free

    -- the body written, the name held, nothing pushed yet
    abbrev rust : Core
    rust = with_queue (with_instructions c (written_from size 0 given-instructions (map word_of m.core))) w.queue

    abbrev ours : Machine
    ours = (placing m (called given) body 0).machine

    placing-same : Same ours rust
    unfolding placing entries
    placing-same =
        record {
          instructions =
              body_is size (size-positive m s.header) (size_small m s.header) body m.core l.lawful (rw s.header.core l.short);
          queue = w.same.queue;
          processes = w.same.processes;
          next_thread_id = w.same.next_thread_id;
          steps_taken = w.same.steps_taken;
        }

    -- its name is held
    held : is_new ours.header.names (called given) ≡ false
    unfolding placing
    held =
        registered-new m (called given) s.header l.free (called-valid given l.valid).0 (called given)
        ∙ ap (λ (b : Bool). is_new m.header.names (called given) && not b) (same_refl (called given))
        ∙ and-false (is_new m.header.names (called given))

    -- so the machine that the start begins with is the same one
    named-ours : naming ours given ours.core ≡ ours
    named-ours = ap (λ (b : Bool). holding ours.core (cond b (register ours.header (called given)) ours.header) ours) held

    -- and started
    module _ (at : ℕ) (q : Startable ours given at) where
      sound : SoundMachine ours
      sound = placing-keeps m given 0 s body l

      abbrev i : ℕ
      i = slot ours.header.names (called given)

      starting-same : Same (starting ours (called given) at).machine (with_queue rust (Process.push (called given) at none w.queue))
      unfolding starting
      starting-same =
          started-same (naming ours given ours.core) rust (subst (λ (n : Machine). Same n rust) (sym named-ours) placing-same)
          (naming-sound ours given ours.core sound.header q.valid q.free sound.header.core) at i (called given)
          (naming-held ours given ours.core sound.header q.valid q.free)
          (let p = q.inside in omega (arith, p, size_small ours sound.header))
          (let t = registered-below ours.header (called given) sound.numbers q.number in omega arith)
          (naming-room ours given ours.core sound.header q.valid q.free q.less sound.header.core)

      place_is : at ≡ ahead size 0 (origin_of origin) → offset size (pos (origin_or_zero (read_origin origin))) ≡ at
      place_is e =
          offset-pos size (size-positive m s.header) (size-most m s.header) _
          ∙ ap (λ (n : ℕ). n % size) (origin-is origin ∙ sym (zero-add (origin_of origin))) ∙ sym e

      pushes-is : at ≡ ahead size 0 (origin_of origin)
          → Process.push (name_of (read_name given)) (offset size (pos (origin_or_zero (read_origin origin)))) none c.process_queue
          ≡ Process.push (called given) at none w.queue
      pushes-is e = ap₂ (λ (n : List ℕ) (p : ℕ). Process.push n p none c.process_queue) (name-is given) (place_is e) ∙ w.pushes at

      done-is : at ≡ ahead size 0 (origin_of origin)
          → load_warrior (warrior_of given body origin) c ≡ record { core = with_queue rust (Process.push (called given) at none w.queue); answer = Ok }
      done-is e =
          load_is
          ∙ ap (λ (b : Bool). result (map word_of m.core) size b false false) (le-ltb size (instructions body) l.short)
          ∙ ap (λ (q : Queue). record { core = with_queue rust q; answer = Ok }) (pushes-is e)

  -- refused by its place, in the domain: the body is too long
  module _ (n v : ℕ) (e : first (place_checks m given body 0) ≡ refusal n v) (a : answered n ≡ true) where
    is-three : n ≡ 3
    is-three = only answered 3 (place_checks m given body 0) refl n v e a

    is-long : ltb size (instructions body) ≡ true
    is-long = go (ltb size (instructions body)) refl
      where
        go : (b : Bool) → ltb size (instructions body) ≡ b → b ≡ true
        go true q = refl
        go false q = absurd (without 3 (place_checks m given body 0) (inr (other tt) and λ x. inl q and λ y. others 3 (drop 2 (place_checks m given body 0)) refl) n v e is-three)

  -- a place, and a start after it
  abbrev Answers : Outcome → Type 0
  Answers o = answered o.number ≡ true → Agreed o (load_warrior (warrior_of given body origin) c)

  -- refused by its start, no number is of the domain
  module _ (at : ℕ) (is : at ≡ ahead size 0 (origin_of origin)) where
    both-agree : (l : Placeable m given body 0) → let p = placing m (called given) body 0 in Startable p.machine given at
        → Agreed (joined p (starting p.machine (called given) at)) (load_warrior (warrior_of given body origin) c)
    unfolding placing starting
    both-agree l q = rw (done-is l at q is) (record { answer = refl; same = starting-same l at q })

    then-start : Placeable m given body 0 → let p = placing m (called given) body 0 in Answers (joined p (start p.machine given at))
    then-start l =
        let p = placing m (called given) body 0 in
        start-by-cases p.machine given at (λ o. Answers (joined p o))
        (λ n v e x a. absurd (true≢false (sym a ∙ number_of (λ k. answered k ≡ false) (start_checks p.machine given at) (refl and refl and refl and refl and refl and tt) n v e)))
        (λ e a. both-agree l (startable p.machine given at e))

    pub load-agrees : Answers (comes_to (Load given body origin 0 at) m)
    load-agrees =
        place-by-cases m given body 0 (λ p. Answers (and_then p (λ n. start n given at)))
        (λ n v e x. rw x (λ a. rw (is-three n v e a, too_long (is-long n v e a)) (record { answer = refl; same = same })))
        (λ e. rw (is-placed m given body 0).number (then-start (placeable m given body 0 e)))
