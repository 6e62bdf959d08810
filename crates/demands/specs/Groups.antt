-- Calls that the program made beside the Rust: each call, and of a load of the Rust's a place followed by a start (02, A.5).
-- Believed. Assumes nothing.
use Rattle.std.specs.Prelude.{ℕ, ◌≡◌, List, [], ◌∷◌, ◌++◌, map}
use Rattle.answer.specs.Numbers.{Told, gives}
use Rattle.machine.specs.State.{Machine}
use Rattle.account.specs.Lists.{Listed, One}
use Rattle.reference.specs.Core.{Core, Ok, Returned}
use Rattle.reference.specs.Same.{Same}
use Rattle.reference.specs.Compared.{Compared, Load, calls_of, comes_to, compared_of}
use Rattle.reference.specs.Refinement.{answered, rust, matching}
use Rattle.demands.specs.Made.{Reply, Made, calls, last}

-- a group: a call of demand 3's lists; or the calls that were made for one load of the Rust's, with what they gave
pub data Group : Type 0 where
  call : Reply → Group
  load : (name body : List ℕ) (origin at start_at : ℕ) (made : List Reply) → Group

abbrev pub replies : Group → List Reply
replies (call x) = x ∷ []
replies (load name body origin at start_at made) = made

-- the calls that are made for it, and what of the Rust's they are compared with
abbrev pub listed : Group → Machine → List Listed
listed (call x) m = x.call ∷ []
listed (load name body origin at start_at made) m = map One (calls_of (Load name body origin at start_at) m)

abbrev pub compares : Group → Machine → List Compared
compares (call x) m = compared_of x.call m
compares (load name body origin at start_at made) m = Load name body origin at start_at ∷ []

-- all were made from the record m on, one after the other
abbrev pub GroupsMade : List Group → Machine → Type 0
GroupsMade [] m = Unit {0}
GroupsMade (x ∷ xs) m = Made (replies x) m × (calls (replies x) ≡ listed x m) × GroupsMade xs (last (replies x) m)

abbrev pub compared : List Group → Machine → List Compared
compared [] m = []
compared (x ∷ xs) m = compares x m ++ compared xs (last (replies x) m)

-- what was answered last, 0 where there was no call
abbrev pub last_told : List Reply → Told
last_told [] = gives 0 0
last_told (x ∷ []) = x.gave.told
last_told (x ∷ y ∷ xs) = last_told (y ∷ xs)

-- the Rust over a list, one after the other: what it returned last, Ok where there is none
abbrev pub returned_last : List Compared → Machine → Core → Returned
returned_last [] m c = record { core = c; answer = Ok }
returned_last (x ∷ []) m c = rust (answered (comes_to x m).number) x m c
returned_last (x ∷ y ∷ xs) m c = returned_last (y ∷ xs) (comes_to x m).machine (rust (answered (comes_to x m).number) x m c).core

-- the Rust beside the program: the states are the same before each and after the last, and each answer is the Rust's: of a load what was answered last; of a
-- match loaded in one call, the Rust's answer to the last load that was made
abbrev pub GroupsAgree : List Group → Machine → Core → Type 0
GroupsAgree [] m c = Same m c
GroupsAgree (x ∷ xs) m c =
    let t = last_told (replies x) in
    let r = returned_last (compares x m) m c in
    Same m c × (r.answer ≡ matching (answered t.number) t.number t.value) × GroupsAgree xs (last (replies x) m) r.core
