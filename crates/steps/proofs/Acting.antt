-- Laws of execution: what the machine's effect is, by opcode, from what the code finds.
-- Assumes nothing.
use mathlib.Core.Path.{◌≡◌, refl, sym, ap, ◌∙◌}
use mathlib.Core.Bool.{Bool, true, false, cond, not, ◌&&◌, ◌||◌}
use mathlib.Core.Option.{Option, none, some}
use Prim.Native.Nat.{ℕ, ◌+◌, ◌/◌, ◌%◌, ◌≤◌, ◌<◌}
use native.Mathlib.Nat.{add-zero, mod-add-mod}
use native.Mathlib.Omega.{arith}
use lib.Dec.{eqb, ltb}
use borrow.Author.Tests.{ne_eqb}
use Rattle.laws.specs.Lists.{every}
use Rattle.laws.proofs.Cases.{span}
use Rattle.laws.proofs.Tests.{both}
use Rattle.cell.specs.declared.Cell.{Cell}
use Rattle.offset.specs.declared.Absolute.{Absolute}
use Rattle.offset.specs.Offset.{ahead}
use Rattle.cell.specs.Cells.{packed, unpacked, sound_word, with_number}
use Rattle.cell.proofs.Words.{word-range, unpack-pack}
use Rattle.machine.specs.Execution as machine
use Rattle.machine.specs.Execution.{Effect, ends, goes, divisor, mets, some?, computes, stored, put, is_none, effect_of}
use Rattle.machine.specs.Pointers.{less}
use Rattle.steps.specs.declared.opcode.Executed.{Executed}
use Rattle.steps.specs.declared.opcode.Executed.TheVariants.{Goes, Splits, Dat, DivideByZero}
use Rattle.steps.specs.declared.modifier.Met.{Met}
use Rattle.steps.specs.Inner.Instruction.{answered}
use Rattle.chain.specs.Operands.{absolute}
use Rattle.steps.specs.declared.scene.Scene.{Scene}
use Rattle.steps.specs.Inner.Scenes.{SoundScene}
use Rattle.steps.specs.Inner.Acts.{copy_of, first_of, last_of, plain, Below, value_by, scene_of, store_writes, over, Answers, Does}
use Rattle.word.proofs.Cells.{whole}
use Rattle.steps.proofs.FieldPairs.{Shape, shape, one-pair, put-twice, every_two, some-two, stored-two, first-below, last-below}
use Rattle.steps.proofs.Arithmetic.{none_is, part-is, put-range}

-- the effect by ranges of opcodes
computes-at : (op : ℕ) (s : machine.Scene) → 2 ≤ op → op < 7 → effect_of op s ≡ computes s (value_by op) s.target
unfolding effect_of
computes-at op s l h = span op 2 5 l h (λ e. rw e, (λ e. rw e, (λ e. rw e, (λ e. rw e, (λ e. rw e, tt)))))

not-both : (a b : Bool) → (not a || not b) ≡ not (a && b)
not-both true b = refl
not-both false b = refl

twice-or : (b : Bool) → (b && b) ≡ false → (b || b) ≡ false
twice-or true e = e
twice-or false e = refl

-- two cells on
pub two-on : (size pc : ℕ) {next after : ℕ} → next ≡ ahead size pc 1 → after ≡ ahead size next 1 → after ≡ ahead size pc 2
two-on size pc e f = f ∙ rw (e, mod-add-mod) (ap (λ (n : ℕ). n % size) sum-two)
  where
    sum-two : pc + 1 + 1 ≡ pc + 2
    sum-two = omega arith

moved-fields : (s : machine.Scene) → (s.modifier ≡ 6 → ⊥) → effect_of 1 s ≡ computes s machine.moved s.target
unfolding effect_of
moved-fields s n = simp (ne_eqb s.modifier 6 n)

counts-at : (s : machine.Scene) → effect_of 10 s ≡ machine.counts s
unfolding effect_of
counts-at s = refl

skips-at : (op : ℕ) (s : machine.Scene) (g : Bool) → 11 ≤ op → op < 15
    → cond (eqb op 14) (every (λ x. ltb x.a x.b) (mets s)) (cond (eqb op 13) (not (machine.equal s)) (machine.equal s)) ≡ g
    → effect_of op s ≡ machine.skip s g
unfolding effect_of
skips-at op s g l h eg =
    span op 11 4 l h (
      λ e. rw e (ap (machine.skip s) (rw e at eg)),
      (λ e. rw e (ap (machine.skip s) (rw e at eg)), (λ e. rw e (ap (machine.skip s) (rw e at eg)), (λ e. rw e (ap (machine.skip s) (rw e at eg)), tt))),
    )

moved-whole : (s : Scene) (live : ℕ) → s.modifier ≡ 6
    → effect_of 1 (scene_of s live) ≡ record { cell = some (copy_of (unpacked live) (unpacked s.ra)); next = goes (ahead s.size s.pc.0 1) }
unfolding effect_of
moved-whole s live e = rw e

module _ (s : Scene) (live : ℕ) where
  abbrev size : ℕ
  size = s.size

  abbrev k : ℕ
  k = s.modifier

  abbrev pc : ℕ
  pc = s.pc.0

  abbrev jump : ℕ
  jump = s.jump.0

  abbrev ra : ℕ
  ra = s.ra

  abbrev rb : ℕ
  rb = s.rb

  abbrev w : ℕ
  w = s.writes

  abbrev scene : machine.Scene
  scene = scene_of s live

  abbrev ok : SoundScene size k pc ra rb w
  ok = s.sound

  does : (op : ℕ) (e : Effect) {r : Executed} {l : ℕ} → effect_of op scene ≡ e → r ≡ answered e.next (w + store_writes e.cell)
      → l ≡ over e.cell live → Does op s live r l
  does op e q x y = (rw q x, rw q y)

  pub move-whole : k ≡ 6 → (next word : ℕ) → next ≡ ahead size pc 1 → word ≡ packed (copy_of (unpacked live) (unpacked ra))
      → Does 1 s live (Goes (absolute next) (w + 1)) word
  move-whole e next word en ew =
      does 1 _ (moved-whole s live e) (rw en) (rw ew)

  module _ (p q : Met) (ep : p ≡ first_of k ra rb) (eq : q ≡ last_of k ra rb) where
    shaped : Shape scene p q
    shaped = rw (ep, eq) (shape k ra rb scene refl refl refl ok.row)

    -- the numbers that meet are below the size
    pub below : Below size p
    below = rw ep (first-below k size ra rb ok.sound_a ok.sound_b)

    pub last_below : Below size q
    last_below = rw eq (last-below k size ra rb ok.sound_a ok.sound_b)

    computed : (op : ℕ) (f : ℕ → ℕ → ℕ → Option ℕ) → effect_of op scene ≡ computes scene f scene.target
        → (v1 v2 next word : ℕ) → some v1 ≡ f size p.a.0 p.b.0 → some v2 ≡ f size q.a.0 q.b.0 → next ≡ ahead size pc 1
        → word ≡ packed (with_number q.target v2 (with_number p.target v1 (unpacked live)))
        → Does op s live (Goes (absolute next) (w + 1)) word
    computed op f ee v1 v2 next word e1 e2 en ew = does op _ (ee ∙ known) (rw en) (rw ew)
      where
        stores : some? (λ x. not (is_none (f size x.a x.b))) scene ≡ true
        stores = some-two scene p q shaped (λ x. not (is_none (f size x.a x.b))) ∙ rw (← e1)

        no_zero : some? (λ x. is_none (f size x.a x.b)) scene ≡ false
        no_zero = some-two scene p q shaped (λ x. is_none (f size x.a x.b)) ∙ rw (← e1, ← e2)

        filled : stored (f size) (mets scene) scene.live ≡ with_number q.target v2 (with_number p.target v1 (unpacked live))
        filled = stored-two scene p q shaped (f size) scene.live ∙ rw (← e1, ← e2)

        known : computes scene f scene.target
            ≡ record { cell = some (with_number q.target v2 (with_number p.target v1 (unpacked live))); next = goes (ahead size pc 1) }
        known = λ i. record { cell = cond (stores i) (some (filled i)) none; next = cond (no_zero i) (ends divisor) (goes (ahead size pc 1)) }

    pub move-fields : (k ≡ 6 → ⊥) → (next word : ℕ) → next ≡ ahead size pc 1
        → word ≡ packed (with_number q.target q.a.0 (with_number p.target p.a.0 (unpacked live)))
        → Does 1 s live (Goes (absolute next) (w + 1)) word
    move-fields n next word en ew = computed 1 machine.moved (moved-fields scene n) p.a.0 q.a.0 next word refl refl en ew

    pub summed : (op : ℕ) → 2 ≤ op → op < 5 → (v1 v2 next word : ℕ) → some v1 ≡ value_by op size p.a.0 p.b.0
        → some v2 ≡ value_by op size q.a.0 q.b.0 → next ≡ ahead size pc 1
        → word ≡ packed (with_number q.target v2 (with_number p.target v1 (unpacked live)))
        → Does op s live (Goes (absolute next) (w + 1)) word
    summed op l u = computed op (value_by op) (computes-at op scene l (omega arith))

    pub summed-one : k < 4 → (op : ℕ) → 2 ≤ op → op < 5 → (v next word : ℕ) → some v ≡ value_by op size p.a.0 p.b.0 → next ≡ ahead size pc 1
        → word ≡ packed (with_number p.target v (unpacked live))
        → Does op s live (Goes (absolute next) (w + 1)) word
    summed-one h op l u v next word e en ew =
        summed op l u v v next word e (e ∙ ap (λ (x : machine.Met). value_by op size x.a x.b) (sym one)) en (ew ∙ ap packed twice)
      where
        one : plain q ≡ plain p
        one = rw (ep, eq) (ap plain (one-pair k ra rb h))

        twice : with_number p.target v (unpacked live)
            ≡ with_number q.target v (with_number p.target v (unpacked live))
        twice =
            put-twice (some v) p.target (unpacked live)
            ∙ ap (λ (x : machine.Met). with_number x.target v (with_number p.target v (unpacked live))) (sym one)

    module _ (sl : sound_word size live ≡ true) (op : ℕ) (l : 5 ≤ op) (u : op < 7) where
      -- DIV and MOD by which b is zero
      divided : (all one : Bool) → (eqb p.b.0 0 && eqb q.b.0 0) ≡ all → (eqb p.b.0 0 || eqb q.b.0 0) ≡ one
          → effect_of op scene
          ≡ record {
            cell = cond (not all) (some (put (value_by op size q.a.0 q.b.0) q.target (put (value_by op size p.a.0 p.b.0) p.target (unpacked live)))) none;
            next = cond one (ends divisor) (goes (ahead size pc 1));
          }
      divided all one ea eo = computes-at op scene (omega arith) u ∙ known
        where
          first : is_none (value_by op size p.a.0 p.b.0) ≡ eqb p.b.0 0
          first = none_is op size p.a.0 p.b.0 l u

          last : is_none (value_by op size q.a.0 q.b.0) ≡ eqb q.b.0 0
          last = none_is op size q.a.0 q.b.0 l u

          stores : some? (λ x. not (is_none (value_by op size x.a x.b))) scene ≡ not all
          stores =
              some-two scene p q shaped (λ x. not (is_none (value_by op size x.a x.b))) ∙ rw (first, last) (not-both (eqb p.b.0 0) (eqb q.b.0 0))
              ∙ ap not ea

          zero_one : some? (λ x. is_none (value_by op size x.a x.b)) scene ≡ one
          zero_one = some-two scene p q shaped (λ x. is_none (value_by op size x.a x.b)) ∙ rw (first, last) eo

          known : computes scene (value_by op) scene.live
              ≡ record {
                cell = cond (not all) (some (put (value_by op size q.a.0 q.b.0) q.target (put (value_by op size p.a.0 p.b.0) p.target (unpacked live)))) none;
                next = cond one (ends divisor) (goes (ahead size pc 1));
              }
          known =
              λ i. record { cell = cond (stores i) (some (stored-two scene p q shaped (value_by op size) scene.live i)) none; next = cond (zero_one i) (ends divisor) (goes (ahead size pc 1)) }

      -- the word that the code stores
      module _ (half : ℕ)
          (eh : half ≡ cond (eqb p.b.0 0) live (packed (with_number p.target (cond (eqb op 5) (p.a.0 / p.b.0) (p.a.0 % p.b.0)) (unpacked live)))) where
        half-packed : half ≡ packed (put (value_by op size p.a.0 p.b.0) p.target (unpacked live))
        half-packed = part-is op size p.a.0 p.b.0 p.target live half l u below.a (whole size live sl) eh

        half_is : unpacked half ≡ put (value_by op size p.a.0 p.b.0) p.target (unpacked live)
        half_is =
            ap unpacked half-packed
            ∙ unpack-pack _ (put-range op size p.a.0 p.b.0 p.target (unpacked live) l u below.a ok.valid (word-range live))

        parts : (word : ℕ)
            → word ≡ cond (eqb q.b.0 0) half (packed (with_number q.target (cond (eqb op 5) (q.a.0 / q.b.0) (q.a.0 % q.b.0)) (unpacked half)))
            → word ≡ packed (put (value_by op size q.a.0 q.b.0) q.target (put (value_by op size p.a.0 p.b.0) p.target (unpacked live)))
        parts word ew =
            part-is op size q.a.0 q.b.0 q.target half word l u last_below.a (ap packed half_is ∙ sym half-packed) ew
            ∙ ap (λ (c : Cell). packed (put (value_by op size q.a.0 q.b.0) q.target c)) half_is

        -- of one pair, the half is the word
        pub divided-one : k < 4 → (eqb p.b.0 0 && eqb q.b.0 0) ≡ false → (next : ℕ) → next ≡ ahead size pc 1
            → Does op s live (Goes (absolute next) (w + 1)) half
        divided-one h some_left next en = does op _ (divided false false some_left no_zero) (rw en) word-is
          where
            one : plain q ≡ plain p
            one = rw (ep, eq) (ap plain (one-pair k ra rb h))

            same-b : q.b.0 ≡ p.b.0
            same-b = ap (λ (x : machine.Met). x.b) one

            no_zero : (eqb p.b.0 0 || eqb q.b.0 0) ≡ false
            no_zero = rw same-b (twice-or (eqb p.b.0 0) (rw same-b at some_left))

            word-is : half ≡ packed (put (value_by op size q.a.0 q.b.0) q.target (put (value_by op size p.a.0 p.b.0) p.target (unpacked live)))
            word-is =
                half-packed
                ∙ ap packed (put-twice (value_by op size p.a.0 p.b.0) p.target (unpacked live)
                ∙ ap (λ (x : machine.Met). put (value_by op size x.a x.b) x.target (put (value_by op size p.a.0 p.b.0) p.target (unpacked live))) (sym one))

      pub all-zero : (eqb p.b.0 0 && eqb q.b.0 0) ≡ true → Does op s live (DivideByZero w) live
      all-zero e = does op _ (divided true true e one-too) (ap DivideByZero (sym (add-zero w))) refl
        where
          one-too : (eqb p.b.0 0 || eqb q.b.0 0) ≡ true
          one-too = rw (both (eqb p.b.0 0) (eqb q.b.0 0) e).0

      module _ (half word : ℕ)
          (eh : half ≡ cond (eqb p.b.0 0) live (packed (with_number p.target (cond (eqb op 5) (p.a.0 / p.b.0) (p.a.0 % p.b.0)) (unpacked live))))
          (ew : word ≡ cond (eqb q.b.0 0) half (packed (with_number q.target (cond (eqb op 5) (q.a.0 / q.b.0) (q.a.0 % q.b.0)) (unpacked half))))
          (some_left : (eqb p.b.0 0 && eqb q.b.0 0) ≡ false) where
        pub one-zero : (eqb p.b.0 0 || eqb q.b.0 0) ≡ true → Does op s live (DivideByZero (w + 1)) word
        one-zero e = does op _ (divided false true some_left e) refl (parts half eh word ew)

        pub no_zero : (eqb p.b.0 0 || eqb q.b.0 0) ≡ false → (next : ℕ) → next ≡ ahead size pc 1
            → Does op s live (Goes (absolute next) (w + 1)) word
        no_zero e next en = does op _ (divided false false some_left e) (rw en) (parts half eh word ew)

    pub counted : (n1 n2 word : ℕ) → n1 ≡ less size p.b.0 → n2 ≡ less size q.b.0
        → word ≡ packed (with_number q.target n2 (with_number p.target n1 (unpacked live)))
        → (g : Bool) → (not (eqb n1 0) || not (eqb n2 0)) ≡ g → (r : ℕ) → r ≡ cond g jump (ahead size pc 1)
        → Does 10 s live (Goes (absolute r) (w + 1)) word
    counted n1 n2 word e1 e2 ew g eg r er = does 10 _ (counts-at scene ∙ known) (rw er) (rw ew)
      where
        some_left : some? (λ x. not (eqb (less size x.b) 0)) scene ≡ g
        some_left = some-two scene p q shaped (λ x. not (eqb (less size x.b) 0)) ∙ rw (← e1, ← e2) eg

        filled : stored (machine.lowered size) (mets scene) scene.live ≡ with_number q.target n2 (with_number p.target n1 (unpacked live))
        filled = stored-two scene p q shaped (machine.lowered size) scene.live ∙ rw (e1, e2)

        known : machine.counts scene
            ≡ record { cell = some (with_number q.target n2 (with_number p.target n1 (unpacked live))); next = goes (cond g jump (ahead size pc 1)) }
        known = λ i. record { cell = some (filled i); next = goes (cond (some_left i) jump (ahead size pc 1)) }

    -- CMP, SEQ, SNE and SLT
    abbrev same : Bool
    same = eqb p.a.0 p.b.0 && eqb q.a.0 q.b.0 && (not (eqb k 6) || eqb ra live)

    equal_is : sound_word size live ≡ true → machine.equal scene ≡ same
    equal_is sl =
        rw (every_two scene p q shaped (λ x. eqb x.a x.b), whole size ra ok.sound_a, whole size live sl)

    pub skipped : sound_word size live ≡ true → (op : ℕ) → 11 ≤ op → op < 15 → (g : Bool)
        → cond (eqb op 14) (ltb p.a.0 p.b.0 && ltb q.a.0 q.b.0) (cond (eqb op 13) (not same) same) ≡ g
        → (r : ℕ) → r ≡ cond g (ahead size pc 2) (ahead size pc 1) → Does op s live (Goes (absolute r) w) live
    skipped sl op l u g eg r er =
        does op (machine.skip scene g) (skips-at op scene g l u (rw (every_two scene p q shaped (λ x. ltb x.a x.b), equal_is sl) eg))
        (ap (λ (n : ℕ). Goes (absolute n) w) er ∙ ap (Goes (absolute (cond g (ahead size pc 2) (ahead size pc 1)))) (sym (add-zero w))) refl

-- JMZ and JMN
module _ (s : Scene) (live : ℕ) where
  pub jumped : (op : ℕ) → 8 ≤ op → op < 10 → (p q : Met) → p ≡ first_of s.modifier s.ra s.rb → q ≡ last_of s.modifier s.ra s.rb → (g : Bool)
      → cond (eqb op 8) (eqb p.b.0 0 || eqb q.b.0 0) (not (eqb p.b.0 0) || not (eqb q.b.0 0)) ≡ g
      → (r : ℕ) → r ≡ cond g s.jump.0 (ahead s.size s.pc.0 1) → Answers op s live (Goes (absolute r) s.writes)
  unfolding effect_of
  jumped op l u p q ep eq g eg r er =
      ap (λ (n : ℕ). Goes (absolute n) s.writes) er ∙ ap (Goes (absolute (cond g s.jump.0 (ahead s.size s.pc.0 1)))) (sym (add-zero s.writes))
      ∙ span op 8 2 l u (
        λ e. rw e (ap (λ (b : Bool). Goes (absolute (cond b s.jump.0 (ahead s.size s.pc.0 1))) (s.writes + 0)) (sym (some-two m p q sh (λ x. eqb x.b 0) ∙ rw e at eg))),
        (λ e. rw e (ap (λ (b : Bool). Goes (absolute (cond b s.jump.0 (ahead s.size s.pc.0 1))) (s.writes + 0)) (sym (some-two m p q sh (λ x. not (eqb x.b 0)) ∙ rw e at eg))), tt),
      )
    where
      m : machine.Scene
      m = scene_of s live

      sh : Shape (scene_of s live) p q
      sh = rw (ep, eq) (shape s.modifier s.ra s.rb (scene_of s live) refl refl refl s.sound.row)

  -- the target has no part in a jump
  pub with-target : (op : ℕ) → 8 ≤ op → op < 10 → {r : Executed} → Answers op s 0 r → Does op s live r live
  unfolding effect_of
  with-target op l u d = span op 8 2 l u (λ e. rw e (rw e at d, refl), (λ e. rw e (rw e at d, refl), tt))

  abbrev its : ℕ → Executed → Type 0
  its op r = Does op s live r live

  pub data-ends : (op : ℕ) → op ≡ 0 → its op (Dat s.writes)
  unfolding effect_of
  data-ends op e = rw e (ap Dat (sym (add-zero s.writes)), refl)

  pub jump_goes : (op : ℕ) → op ≡ 7 → its op (Goes s.jump s.writes)
  unfolding effect_of
  jump_goes op e = rw e (ap (Goes s.jump) (sym (add-zero s.writes)), refl)

  pub split_goes : (op : ℕ) → op ≡ 15 → {next : Absolute} → next.0 ≡ ahead s.size s.pc.0 1 → its op (Splits next s.jump s.writes)
  unfolding effect_of
  split_goes op e {next} en = rw e ((λ i. Splits (absolute (en i)) s.jump (sym (add-zero s.writes) i)), refl)

  pub nop-goes : (op : ℕ) → op ≡ 16 → {next : Absolute} → next.0 ≡ ahead s.size s.pc.0 1 → its op (Goes next s.writes)
  unfolding effect_of
  nop-goes op e {next} en = rw e ((λ i. Goes (absolute (en i)) (sym (add-zero s.writes) i)), refl)
