-- A body placed in the core, going on at cell 0 past the end.
-- Assumes nothing.
use mathlib.Core.Path.{◌≡◌, refl, sym, ap, ap₂, ◌∙◌}
use mathlib.Core.List.{List, [], ◌∷◌, ◌++◌}
use mathlib.Core.Logic.{⊎_elim}
use Prim.Native.Nat.{ℕ, suc, ◌+◌, ◌-◌, ◌*◌, ◌/◌, ◌≤◌, ◌<◌, zero-le}
use native.Mathlib.Nat.{mod_self, eq-or-lt_of_le}
use native.Mathlib.Numerals.{add-one}
use native.Mathlib.Omega.{arith}
use lib.ListN.{length, take, drop, set, length-set, drop_of_length-le}
use lib.Seq.{sets}
use Rattle.laws.proofs.Modulo.{mod-small}
use borrow.Author.Tests.{le-leb, lt-leb, lt-ltb, le-ltb}
use Rattle.laws.proofs.Tests.{and-false}
use Rattle.laws.proofs.Lists.{sets-past, to_end, part-written}
use Rattle.offset.specs.Offset.{ahead}
use Rattle.program.specs.Program.{cells}
use Rattle.program.proofs.Program.{length-cells, cells-from}
use Rattle.machine.specs.Place.{placed}
use Rattle.warrior.specs.Tested.{placed_if}

-- a body that fits before the end
placed-before : (core ws : List ℕ) (p : ℕ) → p + length ws ≤ length core → placed core p ws ≡ sets core p ws
placed-before core [] p h = refl
placed-before core (w ∷ []) p h = refl
placed-before core (w ∷ v ∷ ws) p h =
    ap (λ (q : ℕ). placed (set core p w) q (v ∷ ws)) (next)
    ∙ placed-before (set core p w) (v ∷ ws) (suc p) (rw length-set (omega arith))
  where
    next : ahead (length core) p 1 ≡ suc p
    next = sym (mod-small (omega arith)) ∙ add-one p

-- a body from the last cell on: the next word goes to cell 0
at-end : (core ws : List ℕ) (w p : ℕ) → suc p ≡ length core → length ws ≤ length core
    → placed (set core p w) (ahead (length core) p 1) ws ≡ sets (sets (set core p w) (suc p) ws) 0 (drop (length core - p) (w ∷ ws))
at-end core ws w p e l =
    ap (λ (q : ℕ). placed (set core p w) q ws) turned
    ∙ placed-before (set core p w) ws 0 (rw length-set (omega arith))
    ∙ ap (λ (c : List ℕ). sets c 0 ws) (sym (sets-past (set core p w) (suc p) ws (rw length-set (omega arith))))
    ∙ ap (λ (k : ℕ). sets (sets (set core p w) (suc p) ws) 0 (drop k (w ∷ ws))) one
  where
    turned : ahead (length core) p 1 ≡ 0
    turned = rw (add-one p, e, mod_self)

    one : 1 ≡ length core - p
    one = omega arith

-- a body from a place on, and what goes past the end from cell 0 on
pub placed-is : (core ws : List ℕ) (p : ℕ) → p < length core → length ws ≤ length core
    → placed core p ws ≡ sets (sets core p ws) 0 (drop (length core - p) ws)
placed-is core [] p h l = ap (sets core 0) (sym (drop_of_length-le [] {i = length core - p} zero-le))
placed-is core (w ∷ ws) p h l =
    ⊎_elim (λ e. at-end core ws w p e (omega arith))
    (λ g. further g (placed-is (set core p w) ws (suc p) (rw length-set g) (rw length-set (omega arith))))
    (eq-or-lt_of_le h)
  where
    further : suc p < length core
        → placed (set core p w) (suc p) ws ≡ sets (sets (set core p w) (suc p) ws) 0 (drop (length (set core p w) - suc p) ws)
        → placed (set core p w) (ahead (length core) p 1) ws ≡ sets (sets (set core p w) (suc p) ws) 0 (drop (length core - p) (w ∷ ws))
    further g ih =
        ap (λ (q : ℕ). placed (set core p w) q ws) (sym (mod-small (omega arith)) ∙ add-one p)
        ∙ ih
        ∙ ap (λ (ys : List ℕ). sets (sets (set core p w) (suc p) ws) 0 ys) (shorter g)
      where
        shorter : suc p < length core → drop (length (set core p w) - suc p) ws ≡ drop (length core - p) (w ∷ ws)
        shorter g =
            ap (λ (k : ℕ). drop (k - suc p) ws) (length-set core p w)
            ∙ ap (λ (k : ℕ). drop k (w ∷ ws)) (let e : suc (length core - suc p) ≡ length core - p = omega arith in e)

-- a body placed by two stores of as many words as there is room for, or not placed
module _ (core : List ℕ) (place size : ℕ) (body : List ℕ) where
  pub no_place : length core ≤ place → core ≡ placed_if core place (cells size body)
  unfolding placed_if
  no_place h = simp (le-ltb _ _ h)

  pub too_long : length core < length body / 12 → core ≡ placed_if core place (cells size body)
  unfolding placed_if
  too_long h = simp (lt-leb (length (cells size body)) (length core) (rw (length-cells size body) h), and-false)

  module _ (p : place < length core) (l : length body / 12 ≤ length core) where
    is : placed_if core place (cells size body) ≡ sets (sets core place (cells size body)) 0 (drop (length core - place) (cells size body))
    unfolding placed_if
    is =
        simp (lt-ltb place (length core) p, le-leb (length (cells size body)) (length core) (rw (length-cells size body) l))
        (placed-is core (cells size body) place p (rw (length-cells size body) l))

    pub first-written : {part : List ℕ} → part ≡ sets (take (length core - place) (drop place core)) 0 (cells size body)
        → take place core ++ (part ++ drop (length core - place) (drop place core)) ≡ sets core place (cells size body)
    first-written e = rw e (part-written core (cells size body) place (omega arith))

    pub in_one : {part : List ℕ} → length body / 12 ≤ length core - place → part ≡ sets (take (length core - place) (drop place core)) 0 (cells size body)
        → take place core ++ (part ++ drop (length core - place) (drop place core)) ≡ placed_if core place (cells size body)
    in_one g e =
        first-written e
        ∙ sym (is ∙ ap (sets (sets core place (cells size body)) 0) (drop_of_length-le (cells size body) {i = length core - place} (rw (length-cells size body) g)))

    pub in_two : {after part : List ℕ} → length core - place < length body / 12 → part ≡ sets (take (length core - place) (drop place core)) 0 (cells size body)
        → after ≡ sets (take place core ++ (part ++ drop (length core - place) (drop place core))) 0
        (cells size (take (length body - 12 * (length core - place)) (drop (12 * (length core - place)) body)))
        → after ≡ placed_if core place (cells size body)
    in_two g e f =
        f
        ∙ ap₂ (λ (c ws : List ℕ). sets c 0 ws) (first-written e)
        (ap (cells size) (to_end body (12 * (length core - place))) ∙ cells-from size body (length core - place) (omega arith))
        ∙ sym is
