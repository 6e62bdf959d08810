-- Tables looked through by a range of indices, in the words of the library: a test of each, of none, of no two; and a count.
-- Assumes nothing.
use mathlib.Core.Path.{◌≡◌, refl, sym, ap, ap₂, ◌∙◌}
use mathlib.Core.Bool.{Bool, true, false, cond, not, ◌&&◌}
use mathlib.Core.List.{List}
use Prim.Native.Nat.{ℕ, zero, suc, ◌+◌, ◌-◌}
use native.Mathlib.Nat.{zero-add}
use native.Mathlib.Numerals.{add-one}
use native.Mathlib.Omega.{arith}
use lib.Dec.{eqb}
use borrow.Author.Tests.{ne_eqb}
use Rattle.std.specs.List.{list_all, range_with_len, count_by}
use Rattle.std.proofs.lemmas.List.Recursion.{is_count_by}
use Rattle.laws.specs.Lists.{every, tally, table, same, distinct}
use Rattle.laws.proofs.Tests.{and-false}

module _ {A : Type 0} (f : ℕ → A) (p : A → Bool) where
  -- each passes
  pub each : (i n : ℕ) → list_all (λ (k : ℕ). p (f k)) (range_with_len i n) ≡ every p (table f i n)
  each i zero = refl
  each i (suc n) = rw add-one (ap (λ (b : Bool). p (f i) && b) (each (suc i) n))

  -- none does
  pub none : (i n : ℕ) → list_all (λ (k : ℕ). not (p (f k))) (range_with_len i n) ≡ eqb (tally p (table f i n)) 0
  none i zero = refl
  none i (suc n) = rw add-one (go (p (f i)) _ (none (suc i) n))
    where
      go : (b : Bool) (t : ℕ) {r : Bool} → r ≡ eqb t 0 → (not b && r) ≡ eqb (cond b 1 0 + t) 0
      go true t e = sym (ne_eqb (1 + t) 0 (omega arith))
      go false t e = rw zero-add e

-- each of two tables
pub each-two : {A B : Type 0} (f : ℕ → A) (p : A → Bool) (g : ℕ → B) (q : B → Bool) (i n : ℕ)
    → list_all (λ (k : ℕ). p (f k) && q (g k)) (range_with_len i n) ≡ (every p (table f i n) && every q (table g i n))
each-two f p g q i zero = refl
each-two f p g q i (suc n) = rw add-one (ap (λ (b : Bool). (p (f i) && q (g i)) && b) (each-two f p g q (suc i) n) ∙ apart (p (f i)) (q (g i)) _ _)
  where
    apart : (a b c d : Bool) → ((a && b) && (c && d)) ≡ ((a && c) && (b && d))
    apart false b c d = refl
    apart true false c d = sym (and-false c)
    apart true true c d = refl

-- each is unlike those after it
pub unlike : (f : ℕ → List ℕ) (i n end : ℕ) → i + n ≡ end
    → list_all (λ (k : ℕ). eqb (tally (same (f k)) (table f (k + 1) (end - (k + 1)))) 0) (range_with_len i n) ≡ distinct (table f i n)
unlike f i zero end e = refl
unlike f i (suc n) end e =
    let left : end - suc i ≡ n = omega arith in
    rw add-one (ap₂ (λ (m : ℕ) (b : Bool). eqb (tally (same (f i)) (table f (suc i) m)) 0 && b) left (unlike f (suc i) n end (omega arith)))

-- a count
pub tally-count : {A : Type 0} (p : A → Bool) (xs : List A) → tally p xs ≡ count_by p xs
tally-count p xs = is_count_by (tally p) p refl (λ x xs. go (p x) _) xs
  where
    go : (b : Bool) (t : ℕ) → cond b 1 0 + t ≡ cond b (1 + t) t
    go true t = refl
    go false t = omega arith
