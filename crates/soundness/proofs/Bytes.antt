-- A test of each of f 0, f 1, .. , f (n - 1) by a loop that may go on past n: what is found so far, and what is left at j.
-- Assumes nothing.
use mathlib.Core.Path.{◌≡◌, refl, sym, ap, ◌∙◌}
use mathlib.Core.Bool.{Bool, true, false, ◌&&◌, ◌||◌}
use mathlib.Core.List.{List}
use Prim.Native.Nat.{ℕ, ◌+◌, ◌≤◌}
use native.Mathlib.Nat.{sub-zero}
use native.Mathlib.Omega.{arith}
use lib.Dec.{leb}
use lib.ListN.{get_or, drop}
use borrow.Author.Tests.{leb-true, leb-false}
use Rattle.laws.specs.Lists.{every, table}
use Rattle.laws.proofs.Tests.{and_assoc, and-true}
use Rattle.laws.proofs.Loops.{rest, rest-first, rest-none}

-- a byte from the start on
abbrev pub byte : List ℕ → ℕ → ℕ → ℕ
byte names start k = get_or (drop start names) k 0

module _ (p : ℕ → Bool) (f : ℕ → ℕ) (n : ℕ) where
  abbrev pub FoundTo : ℕ → Bool → Type 0
  FoundTo j found = every p (table f 0 n) ≡ (found && every p (rest f n j))

  pub found-start : FoundTo 0 true
  found-start = rw sub-zero

  module _ (j : ℕ) (found : Bool) (so_far : FoundTo j found) where
    pub found-further : FoundTo (j + 1) (found && (leb n j || p (f j)))
    found-further = go (leb n j) refl
      where
        go : (past : Bool) → leb n j ≡ past → every p (table f 0 n) ≡ ((found && (past || p (f j))) && every p (rest f n (j + 1)))
        go true e =
            let h : n ≤ j = leb-true n j e in
            so_far ∙ rw (rest-none f n j h, rest-none f n (j + 1) (omega arith)) (sym (and-true (found && true)))
        go false e =
            so_far ∙ ap (λ (l : List ℕ). found && every p l) (rest-first f n j (leb-false n j e)) ∙ sym (and_assoc found (p (f j)) (every p (rest f n (j + 1))))

    pub found-over : n ≤ j → found ≡ every p (table f 0 n)
    found-over h = sym (so_far ∙ rw (rest-none f n j h) (and-true found))
