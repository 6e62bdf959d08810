-- The law of specs/Whole.antt: with both limits M a fold is the remainder, so that every operand, effect and step is the former one.
-- Assumes nothing.
use Prim.Native.Nat.{ℕ, ◌+◌, ◌-◌, ◌/◌, ◌%◌, ◌≤◌, ◌<◌}
use mathlib.Core.Path.{◌≡◌, refl, sym, ap, ap₂, subst, ◌∙◌}
use mathlib.Core.Bool.{Bool, true, false, cond, not, ◌&&◌}
use mathlib.Core.List.{List, ◌∷◌, ◌++◌}
use native.Mathlib.Nat.{mod-add-mod, add-mod-mod, add_assoc, mod-lt}
use native.Mathlib.Omega.{arith}
use lib.Dec.{eqb, leb, ltb}
use lib.ListN.{length, get_or}
use borrow.Author.Tests.{eqb-true, leb-true}
use Rattle.laws.specs.Lists.{every}
use Rattle.laws.proofs.Tests.{both}
use Rattle.laws.proofs.Every.{every-join}
use Rattle.cell.specs.declared.Cell.{Cell}
use Rattle.types.specs.declared.field.Field.{Field}
use Rattle.types.specs.declared.field.Field.TheVariants.{A, B}
use Rattle.offset.specs.Offset.{ahead}
use Rattle.offset.proofs.Offsets.{ahead-lt}
use Rattle.cell.specs.Cells.{sound_word, number, with_number, cell_at}
use Rattle.machine.specs.declared.Rules.{Rules}
use Rattle.machine.specs.State.{of_size, Machine, Outcome, check, first, settle}
use Rattle.machine.specs.Soundness.{valid_size, sound_header}
use Rattle.machine.specs.Pointers.{Reach, here, there, through, reaches, Shift, keeps, lowers, raises, shifts, field_of, fold, located, pointed, less, before, after, shifted, Site, site_at, operand}
use Rattle.machine.specs.Execution.{effect_of}
use Rattle.machine.specs.Instruction.{fetched, a_operand, b_operand, store_to, stored_at, Instructed, instructed_at}
use Rattle.machine.specs.Step.{site, effect, core_after, step_written, executed_by, checks_by, executed, step}
use Rattle.machine.specs.Whole.{used, pointer_of, former, former_a, former_b, former_at, former_step, SameOperand, SameInstructed, Unlimited, Whole}
use Rattle.machine.proofs.Pointers.{changed-same, length-operand}
use Rattle.machine.proofs.Soundness.{tested}

-- a pointer folded by a limit of M is the pointer mod M
pub fold-whole : (size p : ℕ) → fold size size p ≡ p % size
fold-whole size p = go (ltb (size / 2) (p % size)) (p % size)
  where
    go : (b : Bool) (x : ℕ) → cond b (x + (size - size)) x ≡ x
    go true x = omega arith
    go false x = refl

-- the number put in a field
number-with : (f : Field) (x : ℕ) (c : Cell) → number f (with_number f x c) ≡ x
number-with A x c = refl
number-with B x c = refl

twice : (x y : Bool) → (x && (x && (y && (y && true)))) ≡ (x && (y && true))
twice true true = refl
twice true false = refl
twice false y = refl

module _ (size processes pc n : ℕ) where
  abbrev whole-site : Site
  whole-site = site_at (of_size size processes) pc

  abbrev location : ℕ
  location = ahead size pc n

  located-whole : (p : ℕ) → located whole-site size p ≡ ahead size pc p
  located-whole p = rw (fold-whole size p, add-mod-mod pc p size)

  through-whole : (x : ℕ) → located whole-site size (fold size size n + x) ≡ ahead size location x
  through-whole x =
      located-whole (fold size size n + x) ∙ ap (λ (k : ℕ). k % size) (sym (add_assoc pc (fold size size n) x)) ∙ sym (mod-add-mod (pc + fold size size n) size x)
      ∙ ap (λ (k : ℕ). (k + x) % size) (located-whole n)

  module _ (core : List ℕ) (positive : 0 < size) (most : size ≤ 46341) (long : length core ≡ size) where
    -- the core after the decrement, and the number that is found there
    abbrev lowered : Shift → Field → List ℕ
    lowered t f = before t size core location f (number f (cell_at core location))

    found-is : (t : Shift) (f : Field) → number f (cell_at (lowered t f) location) ≡ used t size (number f (cell_at core location))
    found-is keeps f = refl
    found-is lowers f =
        let x = less size (number f (cell_at core location)) in
        let h : x < size = mod-lt _ positive in
        ap (number f) (changed-same f core location x (rw long (ahead-lt size pc n positive)) (omega arith)) ∙ number-with f x (cell_at core location)
    found-is raises f = refl

    pointed-is : (t : Shift) (r : Reach)
        → pointed r whole-site size n (lowered t (field_of r)) ≡ pointer_of r size pc location (used t size (number (field_of r) (cell_at core location)))
    pointed-is t here = refl
    pointed-is t there = located-whole n
    pointed-is t (through f) =
        through-whole _
        ∙ ap (λ (l : ℕ). ahead size location (number f (cell_at (lowered t f) l))) (located-whole n)
        ∙ ap (ahead size location) (found-is t f)

    same_operand : (mode : ℕ) → SameOperand (operand whole-site core mode n) (former whole-site core mode n)
    unfolding operand former
    same_operand mode =
        let t = get_or shifts mode keeps in
        let r = get_or reaches mode here in
        let f = field_of r in
        let l = located-whole n in
        let low : before t size core (located whole-site size n) f (number f (cell_at core (located whole-site size n))) ≡ lowered t f
        = ap (λ (p : ℕ). before t size core p f (number f (cell_at core p))) l in
        let p : pointed r whole-site size n (before t size core (located whole-site size n) f (number f (cell_at core (located whole-site size n))))
        ≡ pointer_of r size pc location (used t size (number f (cell_at core location)))
        = ap (pointed r whole-site size n) low ∙ pointed-is t r in
        record {
          core = ap (λ (p : ℕ). after t size (before t size core p f (number f (cell_at core p))) p f (number f (cell_at core p))) l;
          read = p;
          write = p;
          register = ap₂ (λ (c : List ℕ) (q : ℕ). cell_at c q) low p;
          seen = λ u.
              ap₂ (λ (x y : Bool). x && (x && (y && (y && true)))) (ap (λ (q : ℕ). u (get_or core q 0)) l) (ap₂ (λ (c : List ℕ) (q : ℕ). u (get_or c q 0)) low p)
              ∙ twice (u (get_or core location 0)) (u (get_or (lowered t f) (pointer_of r size pc location (used t size (number f (cell_at core location)))) 0));
          written = ap (shifted t) l;
        }

-- rules whose limits are both M
pub is-unlimited : (rules : Rules) → (eqb rules.read rules.size && eqb rules.write rules.size) ≡ true → Unlimited rules
is-unlimited rules e =
    let b = both (eqb rules.read rules.size) (eqb rules.write rules.size) e in
    record { read = eqb-true _ _ b.0; write = eqb-true _ _ b.1 }

pub unlimited-is : (rules : Rules) → Unlimited rules → rules ≡ of_size rules.size rules.processes
unlimited-is rules u = λ i. record { size = rules.size; read = u.read i; write = u.write i; processes = rules.processes }

pub whole-operand : (s : Site) (core : List ℕ) (mode n : ℕ) → Unlimited s.rules → valid_size s.rules.size ≡ true → length core ≡ s.rules.size
    → SameOperand (operand s core mode n) (former s core mode n)
whole-operand s core mode n u v long =
    let z = both (leb 1 s.rules.size) (leb s.rules.size 46341) v in
    subst (λ (r : Rules). SameOperand (operand (site_at r s.pc) core mode n) (former (site_at r s.pc) core mode n)) (sym (unlimited-is s.rules u))
    (same_operand s.rules.size s.rules.processes s.pc n core (leb-true _ _ z.0) (leb-true _ _ z.1) long mode)

module _ (s : Site) (core : List ℕ) (u : Unlimited s.rules) (v : valid_size s.rules.size ≡ true) (long : length core ≡ s.rules.size) where
  pub whole-a : SameOperand (a_operand s core) (former_a s core)
  whole-a = whole-operand s core _ _ u v long

  pub whole-b : SameOperand (b_operand s core) (former_b s core)
  whole-b =
      subst (λ (c : List ℕ). SameOperand (b_operand s core) (former s c (fetched core s.pc).b_mode (fetched c s.pc).b.0)) whole-a.core
      (whole-operand s (a_operand s core).core _ _ u v (length-operand s core _ _ ∙ long))

  effect_is : (instructed_at s core).effect ≡ (former_at s core).effect
  effect_is = λ i.
      effect_of (fetched core s.pc).opcode
      (record {
        size = s.rules.size;
        modifier = (fetched core s.pc).modifier;
        pc = s.pc;
        jump = whole-a.read i;
        ra = whole-a.register i;
        rb = whole-b.register i;
        live = cell_at (whole-b.core i) (whole-b.read i);
        target = cell_at (whole-b.core i) (whole-b.write i);
      })

  pub whole-effect : SameInstructed (instructed_at s core) (former_at s core)
  whole-effect =
      record {
        effect = effect_is;
        core = λ i. store_to (effect_is i).cell (whole-b.core i) (whole-b.write i);
        seen = λ t.
            every-join t (a_operand s core).seen (b_operand s core).seen ∙ ap₂ ◌&&◌ (whole-a.seen t) (whole-b.seen t)
            ∙ sym (every-join t (former_a s core).seen (former_b s core).seen);
        written = λ i. whole-a.written i ++ (whole-b.written i ++ stored_at (effect_is i).cell (whole-b.write i));
      }

pub whole-step : (m : Machine) → Unlimited m.header.rules → step m ≡ former_step m
unfolding step executed effect core_after step_written
whole-step m u = go (sound_header m) refl
  where
    told : Bool → Instructed → Outcome
    told b i =
        settle (first (check (not b) 9 ∷ checks_by (every (sound_word m.header.rules.size) i.seen) m)) m
        (executed_by i.effect i.core (length i.written) m)

    go : (b : Bool) → sound_header m ≡ b → told b (instructed_at (site m) m.core) ≡ told b (former_at (site m) m.core)
    go false e = refl
    go true e =
        let w = whole-effect (site m) m.core u (tested m e).size (tested m e).core in
        λ i. settle (first (check false 9 ∷ checks_by (w.seen (sound_word m.header.rules.size) i) m)) m
        (executed_by (w.effect i) (w.core i) (length (w.written i)) m)

-- THE LAW
pub whole : Whole
whole = record { operands = whole-operand; effects = whole-effect; steps = whole-step }
