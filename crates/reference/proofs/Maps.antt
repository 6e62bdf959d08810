-- The Rust's maps by name are our numbers by slot.
-- Assumes nothing.
use Prim.Native.Nat.{ℕ, suc, ◌≤◌, ◌<◌}
use mathlib.Core.Path.{◌≡◌, refl, ap, ◌∙◌}
use mathlib.Core.Bool.{Bool, true, false, cond}
use mathlib.Core.List.{List, [], ◌∷◌, ◌++◌}
use mathlib.Core.Option.{none, some}
use native.Mathlib.Nat.{le_of_suc-le-suc, not-suc-le-zero}
use native.Mathlib.Omega.{arith}
use lib.ListN.{length, get_or, set}
use Rattle.laws.specs.Lists.{lowest, same}
use Rattle.machine.specs.declared.Header.{Header}
use Rattle.machine.specs.Names.{names}
use Rattle.machine.proofs.Names.{length-names, Held}
use Rattle.reference.specs.Process.{get, insert}
use Rattle.reference.specs.Same.{pairs}

-- a name that is there
pairs-get : (n : List ℕ) (ns : List (List ℕ)) (vs : List ℕ) → lowest (same n) ns < length ns → length ns ≤ length vs
    → get n (pairs ns vs) ≡ some (get_or vs (lowest (same n) ns) 0)
pairs-get n [] vs h l = absurd (not-suc-le-zero h)
pairs-get n (x ∷ xs) [] h l = absurd (not-suc-le-zero l)
pairs-get n (x ∷ xs) (v ∷ vs) h l = go (same n x) h (λ k. pairs-get n xs vs k (le_of_suc-le-suc l))
  where
    go : (b : Bool) → cond b 0 (suc (lowest (same n) xs)) < suc (length xs)
        → (lowest (same n) xs < length xs → get n (pairs xs vs) ≡ some (get_or vs (lowest (same n) xs) 0))
        → cond b (some v) (get n (pairs xs vs)) ≡ some (get_or (v ∷ vs) (cond b 0 (suc (lowest (same n) xs))) 0)
    go true h r = refl
    go false h r = r (le_of_suc-le-suc h)

pairs-insert : (n : List ℕ) (y : ℕ) (ns : List (List ℕ)) (vs : List ℕ) → lowest (same n) ns < length ns → length ns ≤ length vs
    → insert n y (pairs ns vs) ≡ pairs ns (set vs (lowest (same n) ns) y)
pairs-insert n y [] vs h l = absurd (not-suc-le-zero h)
pairs-insert n y (x ∷ xs) [] h l = absurd (not-suc-le-zero l)
pairs-insert n y (x ∷ xs) (v ∷ vs) h l = go (same n x) h (λ k. pairs-insert n y xs vs k (le_of_suc-le-suc l))
  where
    go : (b : Bool) → cond b 0 (suc (lowest (same n) xs)) < suc (length xs)
        → (lowest (same n) xs < length xs → insert n y (pairs xs vs) ≡ pairs xs (set vs (lowest (same n) xs) y))
        → cond b (record { key = x; value = y } ∷ pairs xs vs) (record { key = x; value = v } ∷ insert n y (pairs xs vs))
        ≡ pairs (x ∷ xs) (set (v ∷ vs) (cond b 0 (suc (lowest (same n) xs))) y)
    go true h r = refl
    go false h r = ap (λ l. record { key = x; value = v } ∷ l) (r (le_of_suc-le-suc h))

-- a name that is not
pub pairs-get-new : (n : List ℕ) (ns : List (List ℕ)) (vs : List ℕ) → lowest (same n) ns ≡ length ns → get n (pairs ns vs) ≡ none
pairs-get-new n [] vs h = refl
pairs-get-new n (x ∷ xs) [] h = refl
pairs-get-new n (x ∷ xs) (v ∷ vs) h = go (same n x) h (pairs-get-new n xs vs)
  where
    go : (b : Bool) → cond b 0 (suc (lowest (same n) xs)) ≡ suc (length xs) → (lowest (same n) xs ≡ length xs → get n (pairs xs vs) ≡ none)
        → cond b (some v) (get n (pairs xs vs)) ≡ none
    go true h r = absurd (let f : ⊥ = omega arith in f)
    go false h r = r (omega arith)

pub pairs-insert-new : (n : List ℕ) (y : ℕ) (ns : List (List ℕ)) (vs : List ℕ) → lowest (same n) ns ≡ length ns → length ns < length vs
    → insert n y (pairs ns vs) ≡ pairs (ns ++ (n ∷ [])) (set vs (length ns) y)
pairs-insert-new n y [] [] h l = absurd (not-suc-le-zero l)
pairs-insert-new n y [] (v ∷ vs) h l = refl
pairs-insert-new n y (x ∷ xs) [] h l = absurd (not-suc-le-zero l)
pairs-insert-new n y (x ∷ xs) (v ∷ vs) h l = go (same n x) h (λ k. pairs-insert-new n y xs vs k (le_of_suc-le-suc l))
  where
    go : (b : Bool) → cond b 0 (suc (lowest (same n) xs)) ≡ suc (length xs)
        → (lowest (same n) xs ≡ length xs → insert n y (pairs xs vs) ≡ pairs (xs ++ (n ∷ [])) (set vs (length xs) y))
        → cond b (record { key = x; value = y } ∷ pairs xs vs) (record { key = x; value = v } ∷ insert n y (pairs xs vs))
        ≡ pairs (x ∷ xs ++ (n ∷ [])) (v ∷ set vs (length xs) y)
    go true h r = absurd (let f : ⊥ = omega arith in f)
    go false h r = ap (λ l. record { key = x; value = v } ∷ l) (r (omega arith))

-- a name that is held
module _ (h : Header) (i : ℕ) (t : List ℕ) (r : Held h i t) (few : h.names.held ≤ 16) (vs : List ℕ) (long : length vs ≡ 16) where
  found : lowest (same t) (names h.names) < length (names h.names)
  found = rw (r.own, length-names h) r.below

  enough : length (names h.names) ≤ length vs
  enough = rw (length-names h, long) few

  pub get-held : get t (pairs (names h.names) vs) ≡ some (get_or vs i 0)
  get-held = pairs-get t (names h.names) vs found enough ∙ ap (λ (j : ℕ). some (get_or vs j 0)) r.own

  pub insert-held : (y : ℕ) → insert t y (pairs (names h.names) vs) ≡ pairs (names h.names) (set vs i y)
  insert-held y = pairs-insert t y (names h.names) vs found enough ∙ ap (λ (j : ℕ). pairs (names h.names) (set vs j y)) r.own
