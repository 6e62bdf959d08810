-- The order of refusals: what a call knows that passed its checks, and which numbers a refused one can have.
-- Assumes nothing.
use Prim.Native.Nat.{ℕ}
use mathlib.Core.Path.{◌≡◌, refl, sym, ap, subst, ◌∙◌}
use mathlib.Core.Bool.{Bool, true, false, cond, not, ◌&&◌, ◌||◌, true≢false, false≢true}
use mathlib.Core.List.{List, [], ◌∷◌}
use mathlib.Core.Logic.{◌⊎◌, inl, inr}
use lib.Dec.{T, eqb}
use borrow.Author.Tests.{eqb-true, eq-eqb, not-true}
use Rattle.laws.specs.Lists.{every}
use Rattle.laws.proofs.Tests.{both}
use Rattle.machine.specs.State.{Machine, Outcome, Check, Verdict, accepted, refusal, first, passes, settle}

abbrev pub is_accepted : Verdict → Bool
is_accepted accepted = true
is_accepted (refusal n v) = false

abbrev number_in : Verdict → ℕ
number_in accepted = 0
number_in (refusal n v) = n

-- accepted: no row applies
abbrev pub Passes : List Check → Type 0
Passes [] = Unit {0}
Passes (c ∷ cs) = (c.applies ≡ false) × Passes cs

pub passed : (cs : List Check) → first cs ≡ accepted → Passes cs
passed [] e = tt
passed (c ∷ cs) e = go c.applies refl e (passed cs)
  where
    go : (b : Bool) → c.applies ≡ b → cond b (refusal c.number c.value) (first cs) ≡ accepted → (first cs ≡ accepted → Passes cs)
        → (c.applies ≡ false) × Passes cs
    go true h e r = absurd (false≢true (ap is_accepted e))
    go false h e r = (h, r e)

-- that no row applies is also a test
pub accepts : (cs : List Check) → passes cs ≡ true → first cs ≡ accepted
accepts [] e = refl
accepts (c ∷ cs) e = go c.applies e (accepts cs)
  where
    go : (b : Bool) → (not b && passes cs) ≡ true → (passes cs ≡ true → first cs ≡ accepted)
        → cond b (refusal c.number c.value) (first cs) ≡ accepted
    go true e r = absurd (false≢true e)
    go false e r = r e

pub passes-accepted : (cs : List Check) → passes cs ≡ is_accepted (first cs)
passes-accepted [] = refl
passes-accepted (c ∷ cs) = go c.applies (passes-accepted cs)
  where
    go : (b : Bool) → passes cs ≡ is_accepted (first cs) → (not b && passes cs) ≡ is_accepted (cond b (refusal c.number c.value) (first cs))
    go true r = refl
    go false r = r

pub accepted-passes : (cs : List Check) → first cs ≡ accepted → passes cs ≡ true
accepted-passes cs e = passes-accepted cs ∙ ap is_accepted e

-- refused: the number is that of a row
abbrev pub Numbers : (ℕ → Type 0) → List Check → Type 0
Numbers P [] = Unit {0}
Numbers P (c ∷ cs) = P c.number × Numbers P cs

pub number_of : (P : ℕ → Type 0) (cs : List Check) → Numbers P cs → (n v : ℕ) → first cs ≡ refusal n v → P n
number_of P [] h n v e = absurd (true≢false (ap is_accepted e))
number_of P (c ∷ cs) h n v e = go c.applies e (number_of P cs h.1 n v)
  where
    go : (b : Bool) → cond b (refusal c.number c.value) (first cs) ≡ refusal n v → (first cs ≡ refusal n v → P n) → P n
    go true e r = subst P (ap number_in e) h.0
    go false e r = r e

-- so the number is k where no other row's number passes the test that it passes
pub only : (p : ℕ → Bool) (k : ℕ) (cs : List Check) → every (λ c. not (p c.number) || eqb c.number k) cs ≡ true
    → (n v : ℕ) → first cs ≡ refusal n v → p n ≡ true → n ≡ k
only p k cs e = number_of (λ n. p n ≡ true → n ≡ k) cs (rows cs e)
  where
    rows : (cs : List Check) → every (λ c. not (p c.number) || eqb c.number k) cs ≡ true → Numbers (λ n. p n ≡ true → n ≡ k) cs
    rows [] e = tt
    rows (c ∷ cs) e =
        let h = both (not (p c.number) || eqb c.number k) (every (λ c. not (p c.number) || eqb c.number k) cs) e in
        (λ t. eqb-true c.number k (rw t at h.0), rows cs h.1)

-- two numbers that the test tells apart
pub other : {k n : ℕ} → T (not (eqb k n)) → k ≡ n → ⊥
other {k} {n} t e = subst (λ (b : Bool). T (not b)) (eq-eqb k n e) t

-- a number that is never given: each row that is reached does not apply or has another number
abbrev pub Without : ℕ → List Check → Type 0
Without k [] = Unit {0}
Without k (c ∷ cs) = ((c.applies ≡ false) ⊎ (c.number ≡ k → ⊥)) × (c.applies ≡ false → Without k cs)

pub without : (k : ℕ) (cs : List Check) → Without k cs → (n v : ℕ) → first cs ≡ refusal n v → n ≡ k → ⊥
without k [] w n v e z = true≢false (ap is_accepted e)
without k (c ∷ cs) w n v e z = go c.applies refl e w.0 (λ f e. without k cs (w.1 f) n v e z)
  where
    go : (b : Bool) → c.applies ≡ b → cond b (refusal c.number c.value) (first cs) ≡ refusal n v
        → (c.applies ≡ false) ⊎ (c.number ≡ k → ⊥) → (c.applies ≡ false → first cs ≡ refusal n v → ⊥) → ⊥
    go true h e (inl f) r = true≢false (sym h ∙ f)
    go true h e (inr f) r = f (ap number_in e ∙ z)
    go false h e x r = r h e

-- so where no row has the number
pub others : (k : ℕ) (cs : List Check) → every (λ c. not (eqb c.number k)) cs ≡ true → Without k cs
others k [] e = tt
others k (c ∷ cs) e =
    let p = both (not (eqb c.number k)) (every (λ c. not (eqb c.number k)) cs) e in
    (inr (λ q. true≢false (sym (eq-eqb c.number k q) ∙ not-true (eqb c.number k) p.0)), λ f. others k cs p.1)

-- a refusal leaves the machine as it was and reports 0 writes, steps and pushes
pub record Refused (m : Machine) (o : Outcome) : Type 0 where
  pub machine : o.machine ≡ m
  pub writes : o.writes ≡ 0
  pub steps : o.steps ≡ 0
  pub pushes : o.pushes ≡ 0

pub refused : (n v : ℕ) (m : Machine) (o : Outcome) → Refused m (settle (refusal n v) m o)
refused n v m o = record { machine = refl; writes = refl; steps = refl; pushes = refl }

-- a call with an order of checks is refused and leaves the machine as it was, or it is accepted
pub settle-by-cases : (Q : ℕ → Type 0) (cs : List Check) (m : Machine) (o : Outcome) → Numbers Q cs → (P : Outcome → Type 0)
    → ((n v : ℕ) → first cs ≡ refusal n v → Q n → P (settle (refusal n v) m o))
    → (first cs ≡ accepted → P o)
    → P (settle (first cs) m o)
settle-by-cases Q cs m o h P r a = go (first cs) refl
  where
    go : (v : Verdict) → first cs ≡ v → P (settle v m o)
    go accepted e = a e
    go (refusal n v) e = r n v e (number_of Q cs h n v e)
