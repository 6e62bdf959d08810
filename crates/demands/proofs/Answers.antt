-- The Rust over what a call is compared with: what it answers last is the call's answer.
-- Assumes nothing.
use Prim.Native.Nat.{ℕ, zero, suc, ◌+◌}
use mathlib.Core.Path.{◌≡◌, refl, sym, ap, ◌∙◌}
use mathlib.Core.Bool.{Bool, true, false, cond}
use mathlib.Core.List.{List, [], ◌∷◌, ◌++◌}
use lib.Dec.{eqb}
use borrow.Author.Tests.{eqb-true}
use Rattle.laws.proofs.Every.{◌and◌}
use Rattle.machine.specs.State.{Machine, Outcome, refusal, first}
use Rattle.machine.proofs.Checks.{number_of}
use Rattle.match_format.specs.Faults.{fault}
use Rattle.match_format.specs.Format.{Warrior}
use Rattle.match_file.specs.Reading.{warriors_in, warrior_of}
use Rattle.match_file.proofs.Refusal.{thirteen}
use Rattle.match_load.specs.Loading.{started_at, place_and_start, loads, match_checks}
use Rattle.account.specs.Calls.{Call, outcome, left}
use Rattle.account.specs.Lists.{Listed, One, LoadMatch, outcome_of}
use Rattle.account.proofs.Spread.{match-by-cases, call-counts}
use Rattle.reference.specs.Core.{Core, Answer, Ok}
use Rattle.reference.specs.Same.{Same}
use Rattle.reference.specs.Compared.{Compared, Load, comes_to, loads_in, compared_of}
use Rattle.reference.specs.Refinement.{answered, rust, matching, Agrees}
use Rattle.reference.proofs.Compared.{same-compared}
use Rattle.demands.specs.Groups.{returned_last}

-- the Rust's answer that matches a call's, and the last of a list, Ok where there is none
abbrev pub matched : Outcome → Answer
matched o = matching (answered o.number) o.number o.value

abbrev pub last_matched : List Compared → Machine → Answer
last_matched [] m = Ok
last_matched (x ∷ []) m = matched (comes_to x m)
last_matched (x ∷ y ∷ xs) m = last_matched (y ∷ xs) (comes_to x m).machine

-- a list that agrees: the states are the same before it; and of two lists the first has its last answer, and then the second agrees
pub agrees-same : (xs : List Compared) (m : Machine) (c : Core) → Agrees xs m c → Same m c
agrees-same [] m c a = a
agrees-same (x ∷ xs) m c a = a.0

pub agrees-split : (xs ys : List Compared) (m : Machine) (c : Core) → Agrees (xs ++ ys) m c
    → ((returned_last xs m c).answer ≡ last_matched xs m) × Agrees ys (left comes_to xs m) (returned_last xs m c).core
agrees-split [] ys m c a = (refl, a)
agrees-split (x ∷ []) ys m c a = (a.1, a.2)
agrees-split (x ∷ y ∷ xs) ys m c a = agrees-split (y ∷ xs) ys (comes_to x m).machine (rust (answered (comes_to x m).number) x m c).core a.2

-- the loads of a match: after one that is answered 0 the last answer is that of the others
last-after : (x : Compared) (xs : List Compared) (m : Machine) → (comes_to x m).number ≡ 0 → last_matched (x ∷ xs) m ≡ last_matched xs (comes_to x m).machine
last-after x [] m z = ap (λ (n : ℕ). matching (answered n) n (comes_to x m).value) z
last-after x (y ∷ xs) m z = refl

loads-matched : (f : List ℕ) (k n : ℕ) (m : Machine) → last_matched (loads_in f k n m) m ≡ matched (loads f k n m).outcome
loads-matched f k zero m = refl
loads-matched f k (suc n) m = go (eqb (place_and_start f k m).number 0) refl (loads-matched f (k + 1) n (place_and_start f k m).machine)
  where
    w : Warrior
    w = warrior_of f k

    go : (b : Bool) → eqb (place_and_start f k m).number 0 ≡ b
        → last_matched (loads_in f (k + 1) n (place_and_start f k m).machine) (place_and_start f k m).machine ≡ matched (loads f (k + 1) n (place_and_start f k m).machine).outcome
        → last_matched (loads_in f k (suc n) m) m ≡ matched (loads f k (suc n) m).outcome
    go true z r =
        rw z (last-after (Load w.name w.body w.origin w.place (started_at f k)) (loads_in f (k + 1) n (place_and_start f k m).machine) m (eqb-true _ _ z) ∙ r)
    go false z r = rw z refl

-- a match that is refused before its first place is answered 9, 13 or 1: the Rust does nothing
not-answered : (f : List ℕ) (m : Machine) (n v : ℕ) → first (match_checks m f) ≡ refusal n v → answered n ≡ false
not-answered f m = number_of (λ n. answered n ≡ false) (match_checks m f) (refl and ap answered (thirteen (fault f)) and refl and tt)

pub call-matched : (x : Listed) (m : Machine) → last_matched (compared_of x m) m ≡ matched (outcome_of x m)
call-matched (One c) m = refl
call-matched (LoadMatch f) m =
    match-by-cases f m (λ b l. last_matched (cond b (loads_in f 0 (warriors_in f) m) []) m ≡ matched l.outcome)
    (λ n v e. rw (not-answered f m n v e) refl) (λ e. loads-matched f 0 (warriors_in f) m)
