-- Cores of words as cores of cells.
-- Assumes nothing.
use Prim.Native.Nat.{ℕ, ◌<◌}
use mathlib.Core.Path.{◌≡◌, refl, sym, ap, ◌∙◌}
use mathlib.Core.Bool.{Bool, true, false}
use mathlib.Core.List.{List, map}
use lib.Dec.{eqb}
use borrow.Author.Tests.{eqb-true, eqb-false}
use lib.ListN.{length, get_or, set, get_or-map}
use Rattle.laws.proofs.Lists.{map-set}
use Rattle.cell.specs.declared.Cell.{Cell}
use Rattle.types.specs.declared.field.Field.{Field}
use Rattle.types.specs.declared.field.Field.TheVariants.{A}
use Rattle.cell.specs.Cells.{packed, unpacked, with_number}
use Rattle.cell.proofs.Words.{InRange, word-range, with-range, unpack-pack}
use Rattle.machine.specs.Pointers.{changed}
use Rattle.machine.proofs.Pointers.{changed-same, changed-other}
use Rattle.draft.specs.Evaluation.{at, assign}

-- a cell stored
pub stores : (core : List ℕ) (p : ℕ) {c : Cell} → InRange c → map unpacked (set core p (packed c)) ≡ set (map unpacked core) p c
stores core p {c} r = map-set unpacked core p (packed c) ∙ ap (set (map unpacked core) p) (unpack-pack c r)

-- a cell read
pub reads : (core : List ℕ) (p : ℕ) → at (map unpacked core) p ≡ unpacked (get_or core p 0)
reads core p = get_or-map unpacked core p 0

-- a number of a cell changed
pub changes : (f : Field) (core : List ℕ) (p x : ℕ) → x < 65536 → map unpacked (changed core p f x) ≡ assign f (map unpacked core) p x
changes f core p x h =
    stores core p (with-range f x (unpacked (get_or core p 0)) h (word-range (get_or core p 0)))
    ∙ ap (λ (c : Cell). set (map unpacked core) p (with_number f x c)) (sym (reads core p))

-- a change of an A number keeps every B number
pub changed-b : (core : List ℕ) (p q x : ℕ) → p < length core → x < 65536
    → (unpacked (get_or (changed core p A x) q 0)).b.0 ≡ (unpacked (get_or core q 0)).b.0
changed-b core p q x l h = go (eqb q p) refl
  where
    go : (t : Bool) → eqb q p ≡ t → (unpacked (get_or (changed core p A x) q 0)).b.0 ≡ (unpacked (get_or core q 0)).b.0
    go true e = rw (eqb-true q p e) (ap (λ (c : Cell). c.b.0) (changed-same A core p x l h))
    go false e = ap (λ (c : Cell). c.b.0) (changed-other A core p q x (eqb-false q p e))
