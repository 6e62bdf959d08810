-- Laws of the keys: a name whose key stands once is unlike the others.
-- Assumes nothing.
use mathlib.Core.Path.{◌≡◌, refl, sym, ap, ◌∙◌}
use mathlib.Core.Bool.{Bool, true, false}
use mathlib.Core.List.{List}
use mathlib.Core.Logic.{⊎_elim}
use Prim.Native.Nat.{ℕ, zero, suc, ◌+◌, ◌-◌, ◌≤◌, ◌<◌, zero-le}
use native.Mathlib.Nat.{eq-or-lt_of_le}
use native.Mathlib.Omega.{arith}
use lib.Dec.{eqb}
use lib.ListN.{length, get_or, set, take}
use lib.Seq.{get_or-set_same, get_or-set_other, take-length}
use borrow.Author.Tests.{eq-eqb}
use Rattle.std.specs.List.{count_by}
use Rattle.laws.specs.Lists.{tally, table, same}
use Rattle.laws.proofs.Tests.{never}
use Rattle.laws.proofs.Loops.{take-table}
use Rattle.laws.proofs.Ranges.{tally-count}
use Rattle.laws.proofs.Same.{same_true}
use Rattle.machine.specs.declared.Roster.{Roster}
use Rattle.machine.specs.Names.{name_at}
use Rattle.soundness.specs.Inner.Keys.{key_of, Keyed, times_in}

-- one key more
pub keyed-further : (names : Roster) (keys : List ℕ) (i : ℕ) {key : ℕ} → Keyed names keys i → i < length keys → key ≡ key_of (name_at names i)
    → Keyed names (set keys i key) (i + 1)
keyed-further names keys i {key} keyed h e k l =
    ⊎_elim
    (λ (q : k ≡ i). rw q (get_or-set_same keys i key 0 h ∙ e))
    (λ (g : k < i). get_or-set_other keys i k key 0 (λ q. omega arith) ∙ keyed k g)
    (eq-or-lt_of_le (let m : k ≤ i = omega arith in m))

-- a test that passes nowhere in a table
none_in : {A : Type 0} (p : A → Bool) (f : ℕ → A) (n i : ℕ) → ((k : ℕ) → i ≤ k → k < i + n → p (f k) ≡ false) → tally p (table f i n) ≡ 0
none_in p f zero i e = refl
none_in p f (suc n) i e = rw (e i (omega arith) (omega arith), none_in p f n (suc i) (λ k l h. e k (omega arith) (omega arith)))

-- a test that passes at one place, and at two
module _ (p : ℕ → Bool) (f : ℕ → ℕ) where
  passes-once : (n i k : ℕ) → p (f k) ≡ true → i ≤ k → k < i + n → 1 ≤ tally p (table f i n)
  passes-once zero i k e l h = absurd (let z : ⊥ = omega arith in z)
  passes-once (suc n) i k e l h =
      ⊎_elim (λ (q : i ≡ k). rw (ap (λ (m : ℕ). p (f m)) q ∙ e) (omega arith))
      (λ g. let r : 1 ≤ tally p (table f (suc i) n) = passes-once n (suc i) k e g (omega arith) in omega arith) (eq-or-lt_of_le l)

  passes-twice : (n i j k : ℕ) → p (f j) ≡ true → p (f k) ≡ true → i ≤ j → j < k → k < i + n → 2 ≤ tally p (table f i n)
  passes-twice zero i j k d e l g h = absurd (let z : ⊥ = omega arith in z)
  passes-twice (suc n) i j k d e l g h =
      ⊎_elim
      (λ (q : i ≡ j). let r : 1 ≤ tally p (table f (suc i) n) = passes-once n (suc i) k e (omega arith) (omega arith) in rw (ap (λ (m : ℕ). p (f m)) q ∙ d) (omega arith))
      (λ m. let r : 2 ≤ tally p (table f (suc i) n) = passes-twice n (suc i) j k d e m g (omega arith) in omega arith) (eq-or-lt_of_le l)

-- the keys counted one by one
pub tally-of : (keys : List ℕ) (key : ℕ) → length keys ≡ 16 → count_by (λ (k : ℕ). eqb k key) keys ≡ times_in keys key
unfolding times_in
tally-of keys key e =
    sym (tally-count (λ (k : ℕ). eqb k key) keys)
    ∙ ap (tally (λ (k : ℕ). eqb k key)) (sym (take-length keys) ∙ ap (λ (n : ℕ). take n keys) e ∙ take-table 0 keys 16 (omega arith))

-- a name whose key stands once is unlike those after it
pub once-unlike : (names : Roster) (keys : List ℕ) (held i : ℕ) → Keyed names keys held → i < held → held ≤ 16 → times_in keys (get_or keys i 0) ≡ 1
    → true ≡ eqb (tally (same (name_at names i)) (table (name_at names) (i + 1) (held - (i + 1)))) 0
unfolding times_in
once-unlike names keys held i keyed h few once =
    sym (eq-eqb _ 0 (none_in (same (name i)) name (held - (i + 1)) (i + 1) (λ k l g. sym (never _ (unlike k (omega arith) (omega arith))))))
  where
    name : ℕ → List ℕ
    name = name_at names

    key : ℕ → ℕ
    key k = get_or keys k 0

    unlike : (k : ℕ) → i < k → k < held → same (name i) (name k) ≡ true → ⊥
    unlike k l g s =
        let q : key k ≡ key i = keyed k g ∙ sym (ap key_of (same_true (name i) (name k) s)) ∙ sym (keyed i h) in
        let t : 2 ≤ tally (λ (k : ℕ). eqb k (key i)) (table key 0 16) = passes-twice (λ (k : ℕ). eqb k (key i)) key 16 0 i k (eq-eqb (key i) (key i) refl) (eq-eqb (key k) (key i) q) zero-le l (omega arith) in
        omega arith
