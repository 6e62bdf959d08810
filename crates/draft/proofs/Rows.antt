-- The seven modifiers: the machine's rows of field pairs, and the draft's cases.
-- Assumes nothing.
use Prim.Native.Nat.{ℕ, ◌<◌}
use mathlib.Core.Path.{◌≡◌, refl, sym, ap, ◌∙◌, fun_ext}
use mathlib.Core.Bool.{Bool, true, false, not, ◌&&◌, and-true, and_comm, not-not}
use mathlib.Core.List.{List}
use mathlib.Core.Option.{some}
use lib.ListN.{length, get_or, set}
use lib.Seq.{get_or-set_same, set-set}
use Rattle.laws.specs.Lists.{every}
use Rattle.laws.proofs.Numbers.{below}
use Rattle.laws.proofs.Every.{◌and◌}
use Rattle.cell.specs.declared.Cell.{Cell}
use Rattle.types.specs.declared.field.Field.{Field}
use Rattle.types.specs.declared.field.Field.TheVariants.{A, B}
use Rattle.cell.specs.Cells.{with_number}
use Rattle.cell.proofs.Words.{InRange, with-range}
use Rattle.machine.specs.Execution.{stored}
use Rattle.machine.proofs.Execution.{row}
use Rattle.draft.specs.Evaluation.{at, assign}
use Rattle.draft.specs.Draft.{modifiers, I, compute, test}

-- two numbers of one cell assigned, one after the other
twice : (f : Field) (cs : List Cell) (t y : ℕ) (c : Cell) → t < length cs → assign f (set cs t c) t y ≡ set cs t (with_number f y c)
twice f cs t y c h = set-set cs t c _ ∙ ap (λ (d : Cell). set cs t (with_number f y d)) (get_or-set_same cs t c _ h)

module _ (ra rb : Cell) where
  -- stored all at once, and assigned one after the other
  pub row-stored : (v : ℕ → ℕ → ℕ) (cs : List Cell) (t : ℕ) → t < length cs → (k : ℕ) → k < 7
      → set cs t (stored (λ a b. some (v a b)) (row k ra rb) (at cs t)) ≡ compute (λ b a. some (v a b)) (get_or modifiers k I) t ra rb cs
  row-stored v cs t l = below _ 7 (refl and refl and refl and refl and both and cross and both and tt)
    where
      both : set cs t (with_number B (v ra.b.0 rb.b.0) (with_number A (v ra.a.0 rb.a.0) (at cs t)))
          ≡ assign B (assign A cs t (v ra.a.0 rb.a.0)) t (v ra.b.0 rb.b.0)
      both = sym (twice B cs t (v ra.b.0 rb.b.0) (with_number A (v ra.a.0 rb.a.0) (at cs t)) l)

      cross : set cs t (with_number B (v ra.a.0 rb.b.0) (with_number A (v ra.b.0 rb.a.0) (at cs t)))
          ≡ assign A (assign B cs t (v ra.a.0 rb.b.0)) t (v ra.b.0 rb.a.0)
      cross = sym (twice A cs t (v ra.b.0 rb.a.0) (with_number B (v ra.a.0 rb.b.0) (at cs t)) l)

  -- what is stored is in range where the results are
  pub row-range : (v : ℕ → ℕ → ℕ) (c : Cell) → ((a b : ℕ) → a < 65536 → v a b < 65536) → InRange ra → InRange c → (k : ℕ) → k < 7
      → InRange (stored (λ a b. some (v a b)) (row k ra rb) c)
  row-range v c s r q =
      below _ 7
      (with-range A _ _ (s _ _ r.a) q
      and with-range B _ _ (s _ _ r.b) q
      and with-range B _ _ (s _ _ r.a) q
      and with-range A _ _ (s _ _ r.b) q
      and with-range B _ _ (s _ _ r.b) (with-range A _ _ (s _ _ r.a) q)
      and with-range B _ _ (s _ _ r.a) (with-range A _ _ (s _ _ r.b) q)
      and with-range B _ _ (s _ _ r.b) (with-range A _ _ (s _ _ r.a) q)
      and tt)

  -- every pair, and all numbers that the modifier names
  pub row-test : (p : ℕ → ℕ → Bool) (k : ℕ) → k < 7 → every (λ x. p x.a x.b) (row k ra rb) ≡ test p (get_or modifiers k I) ra rb
  row-test p =
      below _ 7
      (and-true (p ra.a.0 rb.a.0)
      and and-true (p ra.b.0 rb.b.0)
      and and-true (p ra.a.0 rb.b.0)
      and and-true (p ra.b.0 rb.a.0)
      and two (p ra.a.0 rb.a.0) (p ra.b.0 rb.b.0)
      and two (p ra.b.0 rb.a.0) (p ra.a.0 rb.b.0) ∙ and_comm (p ra.b.0 rb.a.0) (p ra.a.0 rb.b.0)
      and two (p ra.a.0 rb.a.0) (p ra.b.0 rb.b.0)
      and tt)
    where
      two : (x y : Bool) → (x && (y && true)) ≡ (x && y)
      two x y = ap (λ (b : Bool). x && b) (and-true y)

  -- some pair fails the test
  pub row-some : (p : ℕ → ℕ → Bool) (k : ℕ) → k < 7
      → not (every (λ x. not (not (p x.a x.b))) (row k ra rb)) ≡ not (test p (get_or modifiers k I) ra rb)
  row-some p k h =
      ap not (row-test (λ a b. not (not (p a b))) k h
      ∙ ap (λ (q : ℕ → ℕ → Bool). test q (get_or modifiers k I) ra rb) (fun_ext (λ a. fun_ext (λ b. not-not (p a b)))))

  -- of one pair, some is all
  pub row-lone : (p : ℕ → ℕ → Bool) (k : ℕ) → k < 4
      → not (every (λ x. not (p x.a x.b)) (row k ra rb)) ≡ test p (get_or modifiers k I) ra rb
  row-lone p =
      below _ 4
      (lone (p ra.a.0 rb.a.0)
      and lone (p ra.b.0 rb.b.0)
      and lone (p ra.a.0 rb.b.0)
      and lone (p ra.b.0 rb.a.0)
      and tt)
    where
      lone : (b : Bool) → not (not b && true) ≡ b
      lone true = refl
      lone false = refl
