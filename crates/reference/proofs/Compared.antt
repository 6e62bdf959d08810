-- What is compared comes to what our calls for it come to, and a list of demand 3's is compared by the single calls as which it counts.
-- Assumes nothing.
use Prim.Native.Nat.{ℕ, zero, suc, ◌+◌}
use mathlib.Core.Path.{◌≡◌, refl, sym, ap, ap₂, ◌∙◌}
use mathlib.Core.Bool.{Bool, true, false, cond}
use mathlib.Core.List.{List, [], ◌∷◌, ◌++◌, append_assoc}
use native.Mathlib.Nat.{add-zero}
use lib.Dec.{eqb}
use Rattle.machine.specs.State.{Machine, Outcome, told_by, joined, passes}
use Rattle.machine.specs.Place.{place}
use Rattle.machine.specs.Start.{start}
use Rattle.match_file.specs.Reading.{warriors_in, warrior_of}
use Rattle.match_load.specs.Loading.{started_at, match_checks}
use Rattle.account.specs.Calls.{Call, Place, Start, outcome, left, reported}
use Rattle.account.specs.Lists.{Listed, One, LoadMatch, outcome_of, calls_in, made, singles, spread}
use Rattle.account.proofs.Spread.{CountsAs, left-append, reported-append, call-counts}
use Rattle.reference.specs.Compared.{Compared, Load, Single, calls_of, comes_to, calls_for, loads_in, compared_of, compared_list, last_answer, SameCompared}

-- one of the list
pub counts : (x : Compared) (m : Machine) → CountsAs (calls_of x m) m (comes_to x m)
counts (Single c) m = (refl, add-zero (outcome c m).writes)
counts (Load name body origin at start_at) m =
    go (eqb p.number 0) (eqb s.number 0)
  where
    p : Outcome
    p = place m name body at

    s : Outcome
    s = start p.machine name start_at

    go : (a b : Bool) → CountsAs (Place name body at ∷ cond a (Start name start_at ∷ cond b [] []) []) m (cond a (joined p s) p)
    go true true = (refl, ap (λ (w : ℕ). p.writes + w) (add-zero s.writes))
    go true false = (refl, ap (λ (w : ℕ). p.writes + w) (add-zero s.writes))
    go false b = (refl, add-zero p.writes)

same-machine : (xs : List Compared) (m : Machine) → left outcome (calls_for xs m) m ≡ left comes_to xs m
same-machine [] m = refl
same-machine (x ∷ xs) m =
    left-append outcome (calls_of x m) (calls_for xs (comes_to x m).machine) m
    ∙ ap (left outcome (calls_for xs (comes_to x m).machine)) (counts x m).0
    ∙ same-machine xs (comes_to x m).machine

same-writes : (xs : List Compared) (m : Machine) → reported outcome (calls_for xs m) m ≡ reported comes_to xs m
same-writes [] m = refl
same-writes (x ∷ xs) m =
    reported-append outcome (calls_of x m) (calls_for xs (comes_to x m).machine) m
    ∙ ap₂ (λ (a b : ℕ). a + b) (counts x m).1
    (ap (reported outcome (calls_for xs (comes_to x m).machine)) (counts x m).0 ∙ same-writes xs (comes_to x m).machine)

-- a place, a start and what follows where both are answered 0: x and y are the calls, o and p what they come to
follows : (x y : Call) (o p : Outcome) (later : Machine → List Compared) (calls : Machine → List Call) → ((m : Machine) → calls_for (later m) m ≡ calls m)
    → let both = cond (eqb o.number 0) (joined o p) o in
    x ∷ (cond (eqb o.number 0) (y ∷ cond (eqb p.number 0) [] []) [] ++ calls_for (cond (eqb both.number 0) (later both.machine) []) both.machine)
    ≡ x ∷ cond (eqb o.number 0) (y ∷ cond (eqb p.number 0) (calls p.machine) []) []
follows x y o p later calls same = go (eqb o.number 0) (eqb p.number 0) refl refl
  where
    go : (a b : Bool) → eqb o.number 0 ≡ a → eqb p.number 0 ≡ b
        → let both = cond a (joined o p) o in
        x ∷ (cond a (y ∷ cond b [] []) [] ++ calls_for (cond (eqb both.number 0) (later both.machine) []) both.machine)
        ≡ x ∷ cond a (y ∷ cond b (calls p.machine) []) []
    go true true e f = rw f (ap (λ (l : List Call). x ∷ y ∷ l) (same p.machine))
    go true false e f = rw f refl
    go false b e f = rw e refl

-- the calls that a match made
same-loads : (f : List ℕ) (k n : ℕ) (m : Machine) → calls_for (loads_in f k n m) m ≡ made (calls_in f k n) m
same-loads f k zero m = refl
same-loads f k (suc n) m =
    let w = warrior_of f k in
    let p = place m w.name w.body w.place in
    follows (Place w.name w.body w.place) (Start w.name (started_at f k)) p (start p.machine w.name (started_at f k))
    (loads_in f (k + 1) n) (made (calls_in f (k + 1) n)) (same-loads f (k + 1) n)

same-listed : (x : Listed) (m : Machine) → calls_for (compared_of x m) m ≡ singles x m
same-listed (One c) m = refl
same-listed (LoadMatch f) m = go (passes (match_checks m f))
  where
    go : (b : Bool) → calls_for (cond b (loads_in f 0 (warriors_in f) m) []) m ≡ cond b (made (calls_in f 0 (warriors_in f)) m) []
    go true = same-loads f 0 (warriors_in f) m
    go false = refl

-- one list after another
calls-append : (xs ys : List Compared) (m : Machine) → calls_for (xs ++ ys) m ≡ calls_for xs m ++ calls_for ys (left comes_to xs m)
calls-append [] ys m = refl
calls-append (x ∷ xs) ys m =
    ap (λ (cs : List Call). calls_of x m ++ cs) (calls-append xs ys (comes_to x m).machine)
    ∙ sym (append_assoc (calls_of x m) (calls_for xs (comes_to x m).machine) (calls_for ys (left comes_to xs (comes_to x m).machine)))

-- what a call is compared with leaves what the call leaves
pub call-left : (x : Listed) (m : Machine) → left comes_to (compared_of x m) m ≡ (outcome_of x m).machine
call-left x m = sym (same-machine (compared_of x m) m) ∙ ap (λ (cs : List Call). left outcome cs m) (same-listed x m) ∙ (call-counts x m).0

same-lists : (xs : List Listed) (m : Machine) → calls_for (compared_list xs m) m ≡ spread xs m
same-lists [] m = refl
same-lists (x ∷ xs) m =
    let n = (outcome_of x m).machine in
    calls-append (compared_of x m) (compared_list xs n) m
    ∙ ap₂ (λ (cs : List Call) (k : Machine). cs ++ calls_for (compared_list xs n) k) (same-listed x m) (call-left x m)
    ∙ ap (λ (cs : List Call). singles x m ++ cs) (same-lists xs n)

-- of a load what is answered last is what it comes to
same-answer : (x : Compared) (m : Machine) → last_answer (calls_of x m) m ≡ told_by (comes_to x m)
same-answer (Single c) m = refl
same-answer (Load name body origin at start_at) m = go (eqb p.number 0) (eqb s.number 0)
  where
    p : Outcome
    p = place m name body at

    s : Outcome
    s = start p.machine name start_at

    go : (a b : Bool) → last_answer (Place name body at ∷ cond a (Start name start_at ∷ cond b [] []) []) m ≡ told_by (cond a (joined p s) p)
    go true true = refl
    go true false = refl
    go false b = refl

pub same-compared : SameCompared
same-compared = record { machine = same-machine; writes = same-writes; answer = same-answer; listed = same-lists }
