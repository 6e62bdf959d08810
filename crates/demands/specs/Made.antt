-- A machine that the program just made, and calls that it made, one after the other; the record that they left, and the writes that they reported.
-- Believed. Assumes nothing.
use Rattle.std.specs.Prelude.{ℕ, ◌+◌, ◌≡◌, List, [], ◌∷◌, ◌⊎◌}
use Rattle.machine.specs.declared.Rules.{Rules}
use Rattle.machine.specs.State.{Machine}
use Rattle.lent.specs.Given.{Given}
use Rattle.account.specs.Lists.{Listed}
use Rattle.demands.specs.Promise.{ListedPromise, FreshPromise, FreshNumber}

-- m is a machine just made by fresh: exported, or by value
abbrev pub JustMade : Rules → List ℕ → List ℕ → Machine → Type 0
JustMade rules core queue m =
    FreshNumber rules core queue 0 m ⊎ ((g : Given) × FreshPromise rules core queue g × (g.told.number ≡ 0) × (g.machine ≡ m))

-- a call of the program, and what it gave back with the record that it left
pub record Reply : Type 0 where
  pub call : Listed
  pub gave : Given

-- the list was made from the record m on: each call gets the record as the one before left it, and keeps its promise.
-- Every list of calls can be made: `can-be-made` (proofs/Lists.antt)
abbrev pub Made : List Reply → Machine → Type 0
Made [] m = Unit {0}
Made (x ∷ xs) m = ListedPromise x.call m x.gave × Made xs x.gave.machine

-- the calls of the list
abbrev pub calls : List Reply → List Listed
calls [] = []
calls (x ∷ xs) = x.call ∷ calls xs

-- the program's last record
abbrev pub last : List Reply → Machine → Machine
last [] m = m
last (x ∷ xs) m = last xs x.gave.machine

-- the writes that the program reported
abbrev pub written : List Reply → ℕ
written [] = 0
written (x ∷ xs) = x.gave.writes + written xs
