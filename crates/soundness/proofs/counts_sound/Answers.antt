-- The goals of `soundness::counts_sound` that the check leaves.
use Rattle.std.proofs.Common.{◌≡◌, ◌+◌, ◌≤◌, ◌<◌, ◌^◌, max, ◌&&◌, ℕ, Bool, List, [], eqb, leb, get_or, drop, length, ap, ap₂, arith}
use mathlib.Core.Path.{sym, ◌∙◌}
use native.Mathlib.Nat.{add-zero, le_trans, le-max_left, le-max_right, max-le}
use borrow.Author.Tests.{leb-true, le-leb}
use lib.ListN.{drop_of_length-le}
use Rattle.laws.specs.Lists.{every, total}
use Rattle.laws.proofs.Lists.{drop-first}
use Rattle.laws.proofs.Tests.{both, iff, and_assoc, and-true}
use Rattle.soundness.proofs.counts_sound.Goals as goal

one_more : (xs : List ℕ) (i s t : ℕ) → i < length xs → s + total (drop i xs) ≡ t → s + get_or xs i 0 + total (drop (i + 1) xs) ≡ t
one_more xs i s t h e = let f : total (drop i xs) ≡ get_or xs i 0 + total (drop (i + 1) xs) = rw (drop-first xs i 0 h) in omega arith

-- the greater of two is at most a limit where both are
both-most : (m n limit : ℕ) → leb (max m n) limit ≡ (leb m limit && leb n limit)
both-most m n limit =
    iff (leb (max m n) limit) (leb m limit && leb n limit)
    (λ e. let l : max m n ≤ limit = leb-true _ _ e in rw (le-leb m limit (le_trans (le-max_left m n) l), le-leb n limit (le_trans (le-max_right m n) l)))
    (λ e. let b = both (leb m limit) (leb n limit) e in le-leb _ _ (max-le (leb-true _ _ b.0) (leb-true _ _ b.1)))

one-tested : (limit : ℕ) (xs : List ℕ) (i m k : ℕ) (c : Bool) → k ≡ max m (get_or xs i 0) → i < length xs
    → (leb m limit && every (λ x. leb x limit) (drop i xs)) ≡ c → (leb k limit && every (λ x. leb x limit) (drop (i + 1) xs)) ≡ c
one-tested limit xs i m k c is h e =
    ap (λ (b : Bool). b && every (λ x. leb x limit) (drop (i + 1) xs)) (ap (λ (n : ℕ). leb n limit) is ∙ both-most m (get_or xs i 0) limit)
    ∙ and_assoc (leb m limit) (leb (get_or xs i 0) limit) (every (λ x. leb x limit) (drop (i + 1) xs))
    ∙ ap (λ (l : List ℕ). leb m limit && every (λ x. leb x limit) l) (sym (drop-first xs i 0 h)) ∙ e

pub loop-count-preserved : goal.loop-count-preserved
loop-count-preserved c =
    let fits : get_or c.args.counts.now c.loop-count.count-index 0 < 2 ^ 32 = (c.type_inv.counts c.loop-count.count-index).fits in (
      omega arith,
      one_more c.args.counts.now _ _ _ c.loop-count-test.true c.loop-count.invariant.1,
      one-tested c.args.limit c.args.counts.now _ _ _ _ c.max-most.ensures c.loop-count-test.true c.loop-count.invariant.2,
    )

-- nothing is left
all-seen : (p : ℕ → Bool) (xs ys : List ℕ) (s n : ℕ) (w : Bool) → ys ≡ [] → s + total ys ≡ total xs → (w && every p ys) ≡ every p xs
    → (eqb s n && w) ≡ (eqb (total xs) n && every p xs)
all-seen p xs ys s n w past es ew =
    let e : s ≡ total xs = sym (add-zero s) ∙ ap (λ (l : List ℕ). s + total l) (sym past) ∙ es in
    ap₂ (λ (k : ℕ) (b : Bool). eqb k n && b) e (sym (and-true w) ∙ ap (λ (l : List ℕ). w && every p l) (sym past) ∙ ew)

pub returns : goal.returns
returns c =
    all-seen (λ n. leb n c.args.limit) c.args.counts.now _ _ c.args.entries _ (drop_of_length-le c.args.counts.now (omega arith)) c.loop-count.invariant.1
    c.loop-count.invariant.2
