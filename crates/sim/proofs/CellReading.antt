-- What cell reading gives.
-- Assumes nothing.
use mathlib.Core.Path.{◌≡◌, sym, ap, ◌∙◌}
use mathlib.Core.Bool.{true, false, cond}
use Prim.Native.Nat.{ℕ, ◌%◌, ◌<◌}
use native.Mathlib.Nat.{zero-add}
use native.Mathlib.Omega.{arith}
use lib.Dec.{eqb, leb}
use lib.IntN.{ℤ}
use lib.ListN.{length, get_or}
use borrow.Author.Tests.{leb-true}
use Rattle.answer.specs.Numbers.{gives}
use Rattle.laws.proofs.Tests.{both}
use Rattle.cell.specs.declared.Cell.{Cell}
use Rattle.laws.proofs.Modulo.{mod-small}
use Rattle.offset.specs.Offset.{euclid, ahead}
use Rattle.cell.specs.Cells.{unpacked, sound_word}
use Rattle.offset.proofs.Offsets.{euclid-lt, sum_is}
use Rattle.machine.specs.State.{Machine}
use Rattle.machine.specs.Soundness.{sound_header}
use Rattle.machine.specs.Run.{word_at, read}
use Rattle.machine.proofs.Soundness.{tested}

module _ (m : Machine) (z : ℤ) where
  pub unsound-header : sound_header m ≡ false → gives 9 0 ≡ gives (read m z).number 0
  unfolding read
  unsound-header e = simp e

  module _ (s : sound_header m ≡ true) where
    tests : (leb 1 m.header.rules.size ≡ true) × (m.header.rules.size ≡ length m.core)
    tests = let t = tested m s in ((both (leb 1 m.header.rules.size) (leb m.header.rules.size 46341) t.size).0, sym t.core)

    positive : 0 < m.header.rules.size
    positive = leb-true 1 m.header.rules.size tests.0

    -- added to place 0, a reduced number is a place of the core
    pub place_is : {r p : ℕ} → r ≡ euclid z m.header.rules.size → p ≡ cond (eqb m.header.rules.size 0) 0 (ahead m.header.rules.size 0 r)
        → p ≡ euclid z m.header.rules.size
    place_is {r} {p} e f =
        sum_is m.header.rules.size (λ n. omega (arith, positive, n)) f ∙ ap (λ (k : ℕ). k % m.header.rules.size) (zero-add r)
        ∙ sym (mod-small (rw e (euclid-lt z m.header.rules.size positive)))
        ∙ e

    pub place-lt : {p : ℕ} → p ≡ euclid z m.header.rules.size → p < length m.core
    place-lt {p} e = rw (e, ← tests.1) (euclid-lt z m.header.rules.size positive)

    pub unsound-cell : {p : ℕ} → p ≡ euclid z m.header.rules.size → sound_word m.header.rules.size (get_or m.core p 0) ≡ false → gives 9 0 ≡ gives (read m z).number 0
    unfolding read
    unsound-cell {p} e f =
        let g : sound_word m.header.rules.size (word_at m z) ≡ false = ap (λ (k : ℕ). sound_word m.header.rules.size (get_or m.core k 0)) (sym e) ∙ f in
        simp (s, g)

    -- what is told of a cell that is read, and the cell
    pub reads : {c : Cell} {p : ℕ} → c ≡ unpacked (get_or m.core p 0) → p ≡ euclid z m.header.rules.size → sound_word m.header.rules.size (get_or m.core p 0) ≡ true
        → (gives 0 0 ≡ gives (read m z).number 0) × (c ≡ unpacked (read m z).value)
    unfolding read
    reads {c} {p} q e f =
        let g : sound_word m.header.rules.size (word_at m z) ≡ true = ap (λ (k : ℕ). sound_word m.header.rules.size (get_or m.core k 0)) (sym e) ∙ f in
        (simp (s, g), q ∙ ap (λ (k : ℕ). unpacked (get_or m.core k 0)) e ∙ simp (s, g))
