-- The theorem of specs/Agreement.antt: a step to which no departure applies makes the draft's change of the core and queues the draft's next places.
-- Assumes nothing.
use Prim.Native.Nat.{ℕ, ◌-◌, ◌≤◌, ◌<◌}
use mathlib.Core.Path.{◌≡◌, sym, ap, ap₂, subst, ◌∙◌}
use mathlib.Core.Bool.{Bool, true, false, ◌&&◌, ◌||◌, false≢true}
use mathlib.Core.List.{List, ◌++◌, map}
use native.Mathlib.Nat.{mod-lt}
use native.Mathlib.Omega.{arith}
use lib.Dec.{eqb, leb}
use borrow.Author.Tests.{leb-true, leb-false, eqb-true, not-false}
use lib.ListN.{length, get_or, take, drop, set, length-set}
use lib.Seq.{take_all, get_or-set_same, get_or-take}
use Rattle.laws.proofs.Tests.{both, neither}
use Rattle.laws.proofs.Every.{every-weaker}
use Rattle.cell.specs.declared.Cell.{Cell}
use Rattle.types.specs.Opcode.{DJN}
use Rattle.cell.specs.Cells.{unpacked, sound_word, cell_at}
use Rattle.cell.proofs.Words.{word-range}
use Rattle.cell.proofs.Soundness.{Sound, sound-fields}
use Rattle.machine.specs.declared.Rules.{Rules}
use Rattle.machine.specs.State.{Machine, accepted, first}
use Rattle.machine.specs.Queue.{unpacked_entry, entries, front, full, pop}
use Rattle.machine.specs.Soundness.{divides, sound_header, sound_entry}
use Rattle.machine.specs.Pointers.{fold}
use Rattle.machine.specs.Execution.{Next, ends, goes, splits}
use Rattle.machine.specs.Instruction.{fetched}
use Rattle.machine.specs.Step.{pc, popped, instruction, operand_a, operand_b, effect, core_after, counted, executed, step_checks, step, executes}
use Rattle.machine.proofs.Checks.{passed}
use Rattle.machine.proofs.Queue.{entries-pop}
use Rattle.machine.proofs.ProcessLimit.{inside}
use Rattle.machine.proofs.Soundness.{divisor-at-most, is-processes, count-within, room-for, tested, sound-entry}
use Rattle.machine.proofs.Pointers.{fold-below}
use Rattle.machine.proofs.Step.{not_last, step-by-cases, step-executed, nonzero, counting}
use Rattle.draft.specs.Evaluation.{modes, immediate, evaluate}
use Rattle.draft.specs.Draft.{State, Done, modifiers, I, execute, opcodes, NOP, obey}
use Rattle.draft.specs.Draft
use Rattle.draft.specs.Comparison.{cells, draft_rules, drafted, places, room}
use Rattle.draft.specs.Agreement.{Agreement}
use Rattle.draft.specs.Departures.{scene, compares_whole, reads_again, keeps_modes, hits_live, pointers_differ, unlike_register, is_division, tests_both, compares_twins, departs}
use Rattle.draft.proofs.Cores.{reads}
use Rattle.draft.proofs.Operands.{Same, same_operand, operand-long, read-lt, write-lt, register-range, live-register, keeps-b}
use Rattle.draft.proofs.Effects.{nexts, Agree, Clear, same_effect}
use Rattle.draft.proofs.Places.{Below, next-below, places-queued}

-- what the checks tell of a step that passed them
record Facts (m : Machine) : Type 0 where
  pos : 0 < m.header.rules.size
  fits : m.header.rules.size ≤ 65536
  folds : (p : ℕ) → fold m.header.rules.write m.header.rules.size p < m.header.rules.size
  long : length m.core ≡ m.header.rules.size
  head : m.header.ring.head < length m.queue
  ring : m.header.ring.length ≤ length m.queue
  some : 0 < m.header.ring.length
  counted : 1 ≤ get_or m.header.counts (popped m).name 0
  most : get_or m.header.counts (popped m).name 0 ≤ m.header.rules.processes
  left : get_or m.header.counts (popped m).name 0 < m.header.rules.processes → m.header.ring.length < length m.queue
  there : pc m < m.header.rules.size
  sound : Sound m.header.rules.size (instruction m)
  opcode : (instruction m).opcode < 17

facts : (m : Machine) → first (step_checks m) ≡ accepted → Facts m
facts m e =
    let p = passed (step_checks m) e in
    let h = tested m (not-false (sound_header m) p.0) in
    let size = m.header.rules.size in
    let z = both (leb 1 size) (leb size 46341) h.size in
    let w = divisor-at-most m.header.rules.write size (leb-true _ _ z.0) (both (divides m.header.rules.read size) (divides m.header.rules.write size) h.limits).1 in
    let e = sound-entry m.header (front m) (not-false (sound_entry m.header (front m)) p.1.1.0) in
    let s = sound-fields m.header.rules.size (get_or m.core (pc m) 0) (not-false (sound_word m.header.rules.size (get_or m.core (pc m) 0)) p.1.1.1.1.0) in
    record {
      pos = leb-true _ _ z.0;
      folds = λ p. fold-below _ size p w.0 w.1;
      fits = let l : m.header.rules.size ≤ 46341 = leb-true _ _ z.1 in omega arith;
      long = h.core;
      head = h.head;
      ring = h.fits;
      some = nonzero p.1.0;
      counted = e.count;
      most = count-within m.header.rules.processes m.header.names.held m.header.counts h.within (popped m).name e.held;
      left = λ c.
          room-for m.header.rules.processes m.header.names.held m.header.counts h.within h.few h.sum
          (is-processes m.header.rules.processes (length m.queue) h.processes) (popped m).name (omega (arith, h.few, e.held))
          (rw (get_or-take m.header.names.held m.header.counts (popped m).name 0 e.held) c);
      there = e.place;
      sound = s.1;
      opcode = not_last (instruction m).opcode s.1.opcode p.1.1.1.1.1.0;
    }

-- none of the six
record None (m : Machine) : Type 0 where
  first : reads_again m ≡ false
  second : keeps_modes m ≡ false
  third : unlike_register m ≡ false
  fourth : is_division m ≡ false
  fifth : tests_both m ≡ false
  sixth : compares_twins m ≡ false

none_of : (m : Machine) → departs m ≡ false → None m
none_of m e =
    let p6 = neither (reads_again m || keeps_modes m || unlike_register m || is_division m || tests_both m) (compares_twins m) e in
    let p5 = neither (reads_again m || keeps_modes m || unlike_register m || is_division m) (tests_both m) p6.0 in
    let p4 = neither (reads_again m || keeps_modes m || unlike_register m) (is_division m) p5.0 in
    let p3 = neither (reads_again m || keeps_modes m) (unlike_register m) p4.0 in
    let p2 = neither (reads_again m) (keeps_modes m) p3.0 in
    record { first = p2.0; second = p2.1; third = p3.1; fourth = p4.1; fifth = p5.1; sixth = p6.1 }

module _ (m : Machine) (f : Facts m) (none : None m) where
  abbrev rules : Rules
  rules = m.header.rules

  abbrev M : ℕ
  M = rules.size

  abbrev IR : Cell
  IR = instruction m

  -- B's number, read again from the core
  abbrev again : ℕ
  again = (fetched (operand_a m).core (pc m)).b.0

  same_a : Same M (pc m) (operand_a m).core (operand_a m).read (operand_a m).write (operand_a m).register (Draft.operand_a (draft_rules rules) (cells m) (pc m) IR)
  same_a = same_operand rules f.pos f.fits (pc m) IR.a.0 f.there m.core f.long IR.a_mode f.sound.a_mode

  long_a : length (operand_a m).core ≡ M
  long_a = operand-long rules f.pos f.fits (pc m) IR.a.0 f.there m.core f.long IR.a_mode

  jump-lt : (operand_a m).read < M
  jump-lt = read-lt rules f.pos f.fits (pc m) IR.a.0 f.there m.core f.long IR.a_mode f.sound.a_mode

  -- it is the number as fetched
  kept : again ≡ IR.b.0
  kept = keeps-b rules f.pos f.fits (pc m) IR.a.0 f.there m.core f.long (f.folds _) IR.a_mode f.sound.a_mode none.first

  same_b : Same M (pc m) (operand_b m).core (operand_b m).read (operand_b m).write (operand_b m).register (Draft.operand_b (draft_rules rules) (cells m) (pc m) IR)
  same_b =
      subst (λ (cs : List Cell). Same M (pc m) (operand_b m).core (operand_b m).read (operand_b m).write (operand_b m).register
      (evaluate (draft_rules rules) cs (pc m) (get_or modes IR.b_mode immediate) IR.b.0)) same_a.core
      (subst (λ (n : ℕ). Same M (pc m) (operand_b m).core (operand_b m).read (operand_b m).write (operand_b m).register
      (evaluate (draft_rules rules) (map unpacked (operand_a m).core) (pc m) (get_or modes IR.b_mode immediate) n)) kept
      (same_operand rules f.pos f.fits (pc m) again f.there (operand_a m).core long_a IR.b_mode f.sound.b_mode))

  target-lt : (operand_b m).write < length (operand_b m).core
  target-lt =
      subst (λ (n : ℕ). (operand_b m).write < n)
      (sym (operand-long rules f.pos f.fits (pc m) again f.there (operand_a m).core long_a IR.b_mode))
      (write-lt rules f.pos f.fits (pc m) again f.there (operand_a m).core long_a IR.b_mode f.sound.b_mode)

  -- the draft's registers
  abbrev state : State
  state =
      record {
        M = M;
        modifier = get_or modifiers IR.modifier I;
        PC = pc m;
        jump = (operand_a m).read;
        target = (operand_b m).write;
        IRA = (operand_a m).register;
        IRB = (operand_b m).register;
        core = map unpacked (operand_b m).core;
      }

  abbrev done : Done
  done = execute (get_or opcodes IR.opcode NOP) state

  drafted-is : drafted m ≡ done
  unfolding Draft.step
  drafted-is =
      ap (obey (draft_rules rules) (cells m) (pc m)) (reads m.core (pc m))
      ∙ ap (execute (get_or opcodes IR.opcode NOP))
      (λ i. record {
        M = M;
        modifier = get_or modifiers IR.modifier I;
        PC = pc m;
        jump = same_a.read i;
        target = same_b.write i;
        IRA = same_a.register i;
        IRB = same_b.register i;
        core = sym same_b.core i;
      })

  -- the live cell is the register, unless B's increment hits it
  live-is : hits_live m ≡ false → (operand_b m).register ≡ (scene m).live
  live-is e = sym (live-register rules f.pos f.fits (pc m) again f.there (operand_a m).core long_a IR.b_mode f.sound.b_mode e)

  -- and so is the target, where the B pointers do not differ
  target_is : (hits_live m || pointers_differ m) ≡ false → (operand_b m).register ≡ (scene m).target
  target_is e =
      let n = neither (hits_live m) (pointers_differ m) e in
      live-is n.0 ∙ ap (cell_at (operand_b m).core) (eqb-true _ _ (not-false (eqb (operand_b m).read (operand_b m).write) n.1))

  clear : Clear IR.opcode IR.modifier (operand_a m).register (operand_b m).register (scene m).live (scene m).target
  clear =
      let third = neither (compares_whole IR && hits_live m) (eqb IR.opcode DJN && (hits_live m || pointers_differ m)) none.third in
      record {
        modes = none.second;
        compares = λ w. live-is (missed (compares_whole IR) (hits_live m) w third.0);
        counts = λ w. target_is (missed (eqb IR.opcode DJN) (hits_live m || pointers_differ m) w third.1);
        divides = none.fourth;
        tests = none.fifth;
        twins = none.sixth;
      }
    where
      missed : (x y : Bool) → x ≡ true → (x && y) ≡ false → y ≡ false
      missed true y w e = e
      missed false y w e = absurd (false≢true w)

  effect_is : Agree (effect m) (operand_b m).core (operand_b m).write done
  unfolding effect
  effect_is =
      same_effect M f.pos f.fits (pc m) (operand_a m).read (operand_a m).register (operand_b m).register (scene m).live
      (register-range rules f.pos f.fits (pc m) IR.a.0 f.there m.core f.long IR.a_mode) (word-range _)
      (operand_b m).core (operand_b m).write target-lt IR.modifier (let h : IR.modifier ≤ 6 = f.sound.modifier in omega arith)
      IR.opcode f.opcode clear

  core_is : map unpacked (core_after m) ≡ (drafted m).core
  unfolding core_after effect
  core_is = effect_is.core ∙ sym (ap (λ (d : Done). d.core) drafted-is)

  next-is : nexts (effect m).next ≡ (drafted m).next
  next-is = effect_is.next ∙ sym (ap (λ (d : Done). d.next) drafted-is)

  next_small : Below 65536 (nexts (effect m).next)
  next_small =
      subst (Below 65536) (sym effect_is.next)
      (every-weaker (λ p. p < M) (λ p. p < 65536) (λ p h. omega (arith, f.fits)) done.next
      (next-below (get_or opcodes IR.opcode NOP) state f.pos jump-lt))

  -- the count of the front entry's name, which a pop lowers
  abbrev count : ℕ
  count = get_or m.header.counts (popped m).name 0

  name-in : (popped m).name < length m.header.counts
  name-in = inside m.header.counts (popped m).name f.counted

  lowered : get_or (set m.header.counts (popped m).name (count - 1)) (popped m).name 0 ≡ count - 1
  lowered = get_or-set_same m.header.counts (popped m).name (count - 1) 0 name-in

  places-are : places (executed m).machine ≡ drop 1 (places m) ++ take (room m) (drafted m).next
  unfolding executed counted pop entries
  places-are =
      places-queued (effect m).next (popped m) (counting m) (mod-lt _ (omega (arith, f.head))) (omega (arith, f.some, f.ring))
      (rw (length-set m.header.counts (popped m).name (count - 1)) name-in) (rw lowered (omega (arith, f.counted, f.most)))
      (rw lowered (λ c. let l = f.left (omega (arith, f.counted)) in omega (arith, f.some))) next_small
      ∙ ap (λ (k : ℕ). places (counting m) ++ take (m.header.rules.processes - k) (nexts (effect m).next)) lowered
      ∙ ap₂ (λ (ps ns : List ℕ). ps ++ take (room m) ns)
      (sym (ap (λ (es : List ℕ). drop 1 (map (λ w. (unpacked_entry w).place.0) es)) (entries-pop m f.some)))
      next-is

-- THE THEOREM
pub agreement : Agreement
agreement m t d =
    let x = step-executed m t in
    let f = facts m x.0 in
    let n = none_of m d in
    (ap (map unpacked) x.1.core ∙ core_is m f n, placed (places-are m f n))
  where
    placed : places (executed m).machine ≡ drop 1 (places m) ++ take (room m) (drafted m).next
        → places (step m).machine ≡ drop 1 (places m) ++ take (room m) (drafted m).next
    placed p =
        step-by-cases (λ o. executes o.number ≡ true → places o.machine ≡ drop 1 (places m) ++ take (room m) (drafted m).next) m
        (λ k v e y t. absurd (false≢true (sym y ∙ t))) (λ e t. p) t

short : (x : Next) → length (nexts x) ≤ 2
short (ends x) = omega arith
short (goes p) = omega arith
short (splits p c) = omega arith

-- where the front entry's name did not hold P the limit drops nothing
pub agreement-with-room : (m : Machine) → executes (step m).number ≡ true → departs m ≡ false → full m (popped m).name ≡ false
    → places (step m).machine ≡ drop 1 (places m) ++ (drafted m).next
agreement-with-room m t d r =
    let l = leb-false m.header.rules.processes (get_or m.header.counts (popped m).name 0) r in
    let f = facts m (step-executed m t).0 in
    (agreement m t d).1
    ∙ ap (λ (ps : List ℕ). drop 1 (places m) ++ ps)
    (take_all (room m) (drafted m).next (omega (arith, f.counted, short (effect m).next, ap length (next-is m f (none_of m d)))))
