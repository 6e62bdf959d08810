-- JMZ, JMN, DJN, CMP, SEQ, SNE, SLT: where the Rust's closures go on is where our effect does.
-- Assumes nothing.
use Prim.Native.Nat.{ℕ, ◌<◌}
use mathlib.Core.Path.{◌≡◌, refl, sym, ap, ap₂, ◌∙◌, fun_ext}
use mathlib.Core.Bool.{Bool, true, false, cond, not, ◌&&◌, ◌||◌, not-not}
use mathlib.Core.Option.{Option, none, some}
use native.Mathlib.Omega.{arith}
use lib.Dec.{eqb, leb, ltb}
use lib.IntN.{pos}
use borrow.Author.Tests.{leb-true, leb-false, lt-ltb, le-ltb}
use Rattle.laws.specs.Lists.{every}
use Rattle.offset.specs.Offset.{ahead}
use Rattle.cell.specs.Cells.{packed}
use Rattle.types.specs.Modifier.{I}
use Rattle.machine.specs.Pointers.{less}
use Rattle.machine.specs.Execution as Execution
use Rattle.machine.specs.Execution.{Met, some?, branch, skip, stored, equal}
use Rattle.reference.specs.Types.{instruction_eq}
use Rattle.reference.specs.Offset.{offset, add}
use Rattle.reference.specs.Modifiers.{Ran, run_on_instructions, run_on_fields}
use Rattle.reference.specs.Opcodes.{sets_if, decrements, unlike, unlike_whole, finished, by_opcode}
use Rattle.reference.specs.Same.{opcode_of, instruction_of}
use Rattle.reference.proofs.Offsets.{offset-in, sub-one}
use Rattle.reference.proofs.Cells.{eq-words}
use Rattle.reference.proofs.Closures.{Any, captures, start, whole_if, captures-any, never-stored}
use Rattle.reference.proofs.Registers.{Registers, live, mets, executor, scene, Does, live_in, run_is, fields-is, to-place, jump_offset, jumps, skip-one, skips, written, positive}

module _ (its : Registers) where
  -- a test of the pairs that stores nothing
  tests : (t u : ℕ → ℕ → Bool) → ((a b : ℕ) → u a b ≡ t a b) → (to s : Option ℕ)
      → run_on_fields its.size (executor its) (λ s a b. sets_if to (u a b) s) s ≡ start (cond (not (every (λ x. not (t x.a x.b)) (mets its))) to s) (live its)
  tests t u h to s =
      fields-is its (λ s a b. sets_if to (u a b) s) (λ s a b. cond (t a b) to s) (λ a b. none) Any
      (λ s a b x ha hb. (ap (λ (y : Bool). record { captured = cond y to s; returned = none }) (h a b), tt)) s tt
      ∙ ap₂ start (captures-any t to s (mets its)) (never-stored (mets its) (live its))

  -- the closures' end, with nothing stored
  branches : (r : Ran (Option ℕ)) (b : Bool) (to p : ℕ) → r ≡ start (cond b (some to) none) (live its) → add its.size its.pc to ≡ p
      → Does its (finished (executor its) r) (branch (scene its) b p)
  branches r b to p q h =
      record { core = ap (written its) q; next = (r.captured, refl, to-place its b to p r.captured h (ap (λ (r : Ran (Option ℕ)). r.captured) q)) }

  zero_is : offset its.size (pos 0) ≡ 0
  zero_is = offset-in its.size (positive its) its.small 0 (positive its)

  -- twice not is as it was
  plainly : (p : ℕ → ℕ → Bool) → every (λ x. not (not (p x.a x.b))) (mets its) ≡ every (λ x. p x.a x.b) (mets its)
  plainly p = ap (λ (q : Met → Bool). every q (mets its)) (fun_ext (λ x. not-not (p x.a x.b)))

  turned : (b : Bool) {X : Type 0} (x y : X) → cond (not b) x y ≡ cond b y x
  turned true x y = refl
  turned false x y = refl

  -- CMP, SEQ, SNE: with the whole register under I
  compares : (to s : Option ℕ)
      → run_on_instructions its.size (executor its) (unlike to) (some (unlike_whole to)) s ≡ start (cond (equal (scene its)) s to) (live its)
  compares to s =
      run_is its (unlike to) (λ s a b. cond (not (eqb a b)) to s) (λ a b. none) Any (λ s a b x ha hb. (refl, tt)) s tt (some (unlike_whole to))
      ∙ ap (whole_if (eqb its.modifier I) (some (unlike_whole to)) (instruction_of its.ra))
      (ap₂ start (captures-any (λ a b. not (eqb a b)) to s (mets its) ∙ ap (λ (b : Bool). cond (not b) to s) (plainly eqb)) (never-stored (mets its) (live its)))
      ∙ go (eqb its.modifier I) (every (λ x. eqb x.a x.b) (mets its)) (eqb (packed its.ra) (packed (live its)))
      (eq-words its.size its.ra (live its) (omega arith) its.ra-in (live_in its))
    where
      go : (i m w : Bool) → w ≡ instruction_eq (instruction_of its.ra) (instruction_of (live its))
          → whole_if i (some (unlike_whole to)) (instruction_of its.ra) (start (cond (not m) to s) (live its)) ≡ start (cond (m && (not i || w)) s to) (live its)
      go false true w q = refl
      go false false w q = refl
      go true true w q = ap (λ (b : Bool). start (cond (not b) to s) (live its)) (sym q) ∙ ap (λ (o : Option ℕ). start o (live its)) (turned w to s)
      go true false w q = ap (λ (b : Bool). start (cond (not b) to to) (live its)) (sym q) ∙ ap (λ (o : Option ℕ). start o (live its)) (either w)
        where
          either : (b : Bool) → cond (not b) to to ≡ to
          either true = refl
          either false = refl

  pub equals : Does its (by_opcode (opcode_of 12) its.size its.pc (executor its)) (skip (scene its) (equal (scene its)))
  equals = branches _ (equal (scene its)) (skip-one its) (ahead its.size its.pc 2) (compares none (some (skip-one its))) (skips its)

  pub differs : Does its (by_opcode (opcode_of 13) its.size its.pc (executor its)) (skip (scene its) (not (equal (scene its))))
  differs =
      branches _ (not (equal (scene its))) (skip-one its) (ahead its.size its.pc 2)
      (compares (some (skip-one its)) none ∙ ap (λ (o : Option ℕ). start o (live its)) (sym (turned (equal (scene its)) (some (skip-one its)) none))) (skips its)

  -- DJN
  pub counts : Does its (by_opcode (opcode_of 10) its.size its.pc (executor its)) (Execution.counts (scene its))
  counts =
      record {
        core = ap (written its) ran;
        next = (
          _,
          refl,
          to-place its (some? (λ x. not (eqb (less its.size x.b) 0)) (scene its)) (jump_offset its) its.jump _ (jumps its)
              (ap (λ (r : Ran (Option ℕ)). r.captured) ran ∙ captures-any (λ a b. not (eqb (less its.size b) 0)) (some (jump_offset its)) none (mets its)),
        );
      }
    where
      change : Option ℕ → ℕ → ℕ → Option ℕ
      change s a b = cond (not (eqb (less its.size b) 0)) (some (jump_offset its)) s

      called : (s : Option ℕ) (a b : ℕ) → b < its.size
          → decrements its.size (offset its.size (pos 0)) (jump_offset its) s a b ≡ record { captured = change s a b; returned = Execution.lowered its.size a b }
      called s a b h =
          ap₂ (λ (d z : ℕ). record { captured = cond (not (eqb d z)) (some (jump_offset its)) s; returned = some d })
          (sub-one its.size (positive its) its.small b h) zero_is

      ran : run_on_fields its.size (executor its) (decrements its.size (offset its.size (pos 0)) (jump_offset its)) none
          ≡ start (captures change none (mets its)) (stored (Execution.lowered its.size) (mets its) (live its))
      ran =
          fields-is its (decrements its.size (offset its.size (pos 0)) (jump_offset its)) change (Execution.lowered its.size) Any
          (λ s a b x ha hb. (called s a b hb, tt)) none tt

  not-below : (a b : ℕ) → leb b a ≡ not (ltb a b)
  not-below a b = go (leb b a) refl
    where
      go : (t : Bool) → leb b a ≡ t → t ≡ not (ltb a b)
      go true q = sym (ap not (le-ltb a b (leb-true b a q)))
      go false q = sym (ap not (lt-ltb a b (leb-false b a q)))

  -- JMZ, JMN, SLT
  pub zeroes : Does its (by_opcode (opcode_of 8) its.size its.pc (executor its)) (branch (scene its) (some? (λ x. eqb x.b 0) (scene its)) its.jump)
  zeroes =
      branches _ (some? (λ x. eqb x.b 0) (scene its)) (jump_offset its) its.jump
      (tests (λ a b. eqb b 0) (λ a b. eqb b (offset its.size (pos 0))) (λ a b. ap (eqb b) zero_is) (some (jump_offset its)) none) (jumps its)

  pub nonzeroes : Does its (by_opcode (opcode_of 9) its.size its.pc (executor its)) (branch (scene its) (some? (λ x. not (eqb x.b 0)) (scene its)) its.jump)
  nonzeroes =
      branches _ (some? (λ x. not (eqb x.b 0)) (scene its)) (jump_offset its) its.jump
      (tests (λ a b. not (eqb b 0)) (λ a b. not (eqb b (offset its.size (pos 0)))) (λ a b. ap (λ (z : ℕ). not (eqb b z)) zero_is) (some (jump_offset its)) none) (jumps its)

  pub lesser : Does its (by_opcode (opcode_of 14) its.size its.pc (executor its)) (skip (scene its) (every (λ x. ltb x.a x.b) (mets its)))
  lesser =
      branches _ (every (λ x. ltb x.a x.b) (mets its)) (skip-one its) (ahead its.size its.pc 2)
      (tests (λ a b. not (ltb a b)) (λ a b. leb b a) not-below none (some (skip-one its))
      ∙ ap (λ (o : Option ℕ). start o (live its))
      (ap (λ (b : Bool). cond (not b) none (some (skip-one its))) (plainly ltb)
      ∙ turned (every (λ x. ltb x.a x.b) (mets its)) none (some (skip-one its)))) (skips its)
