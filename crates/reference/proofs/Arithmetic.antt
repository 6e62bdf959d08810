-- MOV, ADD, SUB, MUL, DIV, MOD: what the Rust's closures store and return is our effect.
-- Assumes nothing.
use Prim.Native.Nat.{ℕ, zero, suc, ◌*◌, ◌/◌, ◌%◌, ◌^◌, ◌<◌}
use mathlib.Core.Path.{◌≡◌, refl, sym, ap, ap₂, subst, ◌∙◌}
use mathlib.Core.Bool.{Bool, true, false, cond, not, ◌||◌}
use mathlib.Core.List.{map}
use mathlib.Core.Option.{Option, none, some}
use lib.Dec.{eqb, eqb-suc-zero}
use lib.ListN.{set}
use borrow.Author.Tests.{lt-leb}
use Rattle.laws.specs.Lists.{every}
use Rattle.cell.specs.declared.Cell.{Cell}
use Rattle.offset.specs.Offset.{ahead}
use Rattle.types.specs.Modifier.{I}
use Rattle.offset.proofs.Offsets.{product-fits}
use Rattle.machine.specs.Execution as Execution
use Rattle.machine.specs.Execution.{divisor, ends, goes, some?, quotient, remainder, is_none, stored, computes, copied}
use Rattle.machine.proofs.Execution.{row-computes}
use Rattle.reference.specs.Offset.{div, rem}
use Rattle.reference.specs.Modifiers.{Ran, run_on_fields}
use Rattle.reference.specs.Process.{Error, DivideByZero}
use Rattle.reference.specs.Opcodes.{Ok, Panic, returns, leaves, moves, multiplies, divides, finished, unless_error, divided, by_opcode}
use Rattle.reference.specs.Same.{opcode_of, instruction_of, word_of}
use Rattle.reference.proofs.Offsets.{offset-pos}
use Rattle.reference.proofs.Closures.{Any, captures, start, whole_if, captures-any, captures-same, stored-none, recode, recode-stored}
use Rattle.reference.proofs.Registers.{Matches, cell_of, Registers, live, mets, executor, scene, Does, run_is, fields-is, onward, written, positive}

module _ (its : Registers) where
  -- MOV, ADD, SUB: every result is stored to the cell c
  stores : (r : Ran (Option ℕ)) (v : ℕ → ℕ → ℕ → ℕ) (c : Cell) → r ≡ start none (stored (λ a b. some (v its.size a b)) (mets its) c)
      → Does its (finished (executor its) r) (computes (scene its) (λ m a b. some (v m a b)) c)
  stores r v c e =
      rw (row-computes v its.size its.pc its.jump its.ra its.rb (live its) (live its) c its.modifier its.modifier-in)
      (record {
        core = ap (written its) e;
        next = (none, ap (λ (r : Ran (Option ℕ)). Ok (record { program_counter_offset = r.captured; should_split = false })) e, onward its);
      })

  pub sums : (f : ℕ → ℕ → ℕ) (v : ℕ → ℕ → ℕ → ℕ) → ((a b : ℕ) → a < its.size → b < its.size → f a b ≡ v its.size a b)
      → Does its (finished (executor its) (run_on_fields its.size (executor its) (λ s a b. returns s (f a b)) none)) (computes (scene its) (λ m a b. some (v m a b)) (live its))
  sums f v h =
      stores _ v (live its)
      (fields-is its (λ s a b. returns s (f a b)) (λ s a b. s) (λ a b. some (v its.size a b)) Any
      (λ s a b x ha hb. (ap (λ (y : ℕ). record { captured = s; returned = some y }) (h a b ha hb), tt)) none tt
      ∙ ap (λ (o : Option ℕ). start o (stored (λ a b. some (v its.size a b)) (mets its) (live its))) (captures-same none (mets its)))

  pub moves-done : Does its (by_opcode (opcode_of 1) its.size its.pc (executor its)) (computes (scene its) Execution.moved (copied (scene its)))
  moves-done =
      stores _ (λ m a b. a) (copied (scene its))
      (run_is its moves (λ s a b. s) (λ a b. some a) Any (λ s a b x ha hb. (refl, tt)) none tt (some moves)
      ∙ ap (λ (o : Option ℕ). whole_if (eqb its.modifier I) (some moves) (instruction_of its.ra) (start o (stored (λ a b. some a) (mets its) (live its)))) (captures-same none (mets its))
      ∙ go (eqb its.modifier I))
    where
      go : (b : Bool) → whole_if {S = Option ℕ} b (some moves) (instruction_of its.ra) (start none (stored (λ a b. some a) (mets its) (live its)))
          ≡ start none (stored (λ a b. some a) (mets its) (cond b (recode its.ra (live its)) (live its)))
      go true = ap (start none) (sym (recode-stored (λ a b. some a) its.ra (mets its) (live its)))
      go false = refl

  -- MUL: no product leaves 32 bits
  pub multiplied : Does its (by_opcode (opcode_of 4) its.size its.pc (executor its)) (computes (scene its) Execution.product (live its))
  multiplied =
      rw (row-computes (λ m a b. a * b % m) its.size its.pc its.jump its.ra its.rb (live its) (live its) (live its) its.modifier its.modifier-in)
      (record {
        core = ap (written its) ran;
        next = (none, ap (λ (r : Ran Bool). cond r.captured Panic (unless_error none)) ran, onward its);
      })
    where
      product : ℕ → ℕ → Option ℕ
      product a b = some (a * b % its.size)

      called : (s : Bool) (a b : ℕ) → s ≡ false → a < its.size → b < its.size → (multiplies its.size s a b ≡ record { captured = s; returned = product a b }) × (s ≡ false)
      called s a b e ha hb = (
        ap₂ (λ (t : Bool) (x : ℕ). cond t (leaves true) (returns false x))
            (ap₂ ◌||◌ e (lt-leb (2 ^ 31) (a * b) (product-fits a b ha hb its.small))) (offset-pos its.size (positive its) its.small (a * b))
            ∙ ap (λ (t : Bool). record { captured = t; returned = product a b }) (sym e),
        e,
      )

      ran : run_on_fields its.size (executor its) (multiplies its.size) false ≡ start false (stored product (mets its) (live its))
      ran =
          fields-is its (multiplies its.size) (λ s a b. s) product (λ s. s ≡ false) called false refl
          ∙ ap (λ (t : Bool). start t (stored product (mets its) (live its))) (captures-same false (mets its))

  -- DIV, MOD: a zero b leaves its field and is an error
  pub parts : (f : ℕ → ℕ → ℕ) (v : ℕ → ℕ → ℕ → Option ℕ) → ((a b : ℕ) → cond (eqb b 0) none (some (f a b)) ≡ v its.size a b)
      → Does its (divided (executor its) (run_on_fields its.size (executor its) (divides f) none)) (computes (scene its) v (live its))
  parts f v h =
      record {
        core =
            ap (written its) ran
            ∙ ap (λ (c : Cell). set (map word_of its.core) its.target (instruction_of c))
            (sym (cell-is (every (λ x. not (not (is_none (v its.size x.a x.b)))) (mets its)) refl));
        next =
            subst (Matches its.size its.pc (computes (scene its) v (live its)).next)
            (sym (ap (λ (r : Ran (Option Error)). unless_error r.captured) ran ∙ ap unless_error (captures-any (λ a b. is_none (v its.size a b)) (some DivideByZero) none (mets its))))
            (go (some? (λ x. is_none (v its.size x.a x.b)) (scene its)));
      }
    where
      called : (s : Option Error) (a b : ℕ) → divides f s a b ≡ record { captured = cond (is_none (v its.size a b)) (some DivideByZero) s; returned = v its.size a b }
      called s a b =
          at (eqb b 0) ∙ ap (λ (o : Option ℕ). record { captured = cond (is_none o) (some DivideByZero) s; returned = o }) (h a b)
        where
          at : (t : Bool) → cond t (leaves (some DivideByZero)) (returns s (f a b))
              ≡ record { captured = cond (is_none (cond t none (some (f a b)))) (some DivideByZero) s; returned = cond t none (some (f a b)) }
          at true = refl
          at false = refl

      ran : run_on_fields its.size (executor its) (divides f) none
          ≡ start (captures (λ s a b. cond (is_none (v its.size a b)) (some DivideByZero) s) none (mets its)) (stored (v its.size) (mets its) (live its))
      ran =
          fields-is its (divides f) (λ s a b. cond (is_none (v its.size a b)) (some DivideByZero) s) (v its.size) Any (λ s a b x ha hb. (called s a b, tt)) none tt

      cell-is : (b : Bool) → every (λ x. not (not (is_none (v its.size x.a x.b)))) (mets its) ≡ b
          → cell_of (cond (not b) (some (stored (v its.size) (mets its) (live its))) none) (live its) ≡ stored (v its.size) (mets its) (live its)
      cell-is true q = sym (stored-none (v its.size) (mets its) (live its) q)
      cell-is false q = refl

      go : (b : Bool) → Matches its.size its.pc (cond b (ends divisor) (goes (ahead its.size its.pc 1))) (unless_error (cond b (some DivideByZero) none))
      go true = refl
      go false = (none, refl, onward its)

  pub quotient_is : (a b : ℕ) → cond (eqb b 0) none (some (div its.size a b)) ≡ quotient its.size a b
  quotient_is a zero = refl
  quotient_is a (suc b) = ap (λ (t : Bool). cond t none (some (div its.size a (suc b)))) (eqb-suc-zero b) ∙ ap some (offset-pos its.size (positive its) its.small (a / suc b))

  pub remainder_is : (a b : ℕ) → cond (eqb b 0) none (some (rem its.size a b)) ≡ remainder its.size a b
  remainder_is a zero = refl
  remainder_is a (suc b) = ap (λ (t : Bool). cond t none (some (rem its.size a (suc b)))) (eqb-suc-zero b) ∙ ap some (offset-pos its.size (positive its) its.small (a % suc b))
