-- Cells that differ from a fresh core: each write changes one at most.
-- Assumes nothing.
use Prim.Native.Nat.{ℕ, zero, suc, ◌+◌, ◌≤◌}
use mathlib.Core.Path.{◌≡◌, refl}
use mathlib.Core.Bool.{not}
use mathlib.Core.List.{List, [], ◌∷◌}
use mathlib.Core.Option.{Option, none, some}
use native.Mathlib.Omega.{arith}
use lib.Dec.{eqb}
use lib.ListN.{length, get_or, set, replicate}
use Rattle.laws.proofs.Tally.{tally-set}
use Rattle.cell.specs.declared.Cell.{Cell}
use Rattle.types.specs.declared.field.Field.{Field}
use Rattle.offset.specs.Offset.{ahead}
use Rattle.cell.specs.Cells.{packed, fresh_cell}
use Rattle.machine.specs.State.{Machine}
use Rattle.machine.specs.Place.{placed}
use Rattle.machine.specs.Pointers.{Shift, keeps, lowers, raises, shifts, located, less, more, changed, before, after, shifted, Site, operand}
use Rattle.machine.specs.Instruction.{store_to, stored_at}
use Rattle.machine.specs.Step.{operand_a, operand_b, effect, core_after, step_writes}
use Rattle.machine.proofs.Step.{step-writes}
use Rattle.account.specs.Account.{differing}

set-cells : (core : List ℕ) (i w : ℕ) → differing (set core i w) ≤ suc (differing core)
set-cells core i w = tally-set (λ w. not (eqb w fresh_cell)) core i w

shift-cells : (t : Shift) (size : ℕ) (core : List ℕ) (l : ℕ) (f : Field) (x : ℕ)
    → differing (after t size (before t size core l f x) l f x) ≤ differing core + length (shifted t l)
shift-cells keeps size core l f x = omega arith
shift-cells lowers size core l f x = let h : differing (changed core l f (less size x)) ≤ suc (differing core) = set-cells core l _ in omega arith
shift-cells raises size core l f x = let h : differing (changed core l f (more size x)) ≤ suc (differing core) = set-cells core l _ in omega arith

operand-cells : (s : Site) (core : List ℕ) (mode n : ℕ)
    → differing (operand s core mode n).core ≤ differing core + length (operand s core mode n).written
unfolding operand
operand-cells s core mode n = shift-cells (get_or shifts mode keeps) s.rules.size core (located s s.rules.write n) _ _

store_cells : (c : Option Cell) (core : List ℕ) (p : ℕ) → differing (store_to c core p) ≤ differing core + length (stored_at c p)
store_cells none core p = omega arith
store_cells (some c) core p = let h = set-cells core p (packed c) in omega arith

pub step-cells : (m : Machine) → differing (core_after m) ≤ differing m.core + step_writes m
unfolding core_after effect
step-cells m =
    let a : differing (operand_a m).core ≤ differing m.core + length (operand_a m).written = operand-cells _ _ _ _ in
    let b : differing (operand_b m).core ≤ differing (operand_a m).core + length (operand_b m).written = operand-cells _ _ _ _ in
    let c = store_cells (effect m).cell (operand_b m).core (operand_b m).write in
    omega (arith, step-writes m)

pub placed-cells : (ws core : List ℕ) (p : ℕ) → differing (placed core p ws) ≤ differing core + length ws
placed-cells [] core p = omega arith
placed-cells (w ∷ ws) core p =
    let a : differing (placed (set core p w) (ahead (length core) p 1) ws) ≤ differing (set core p w) + length ws
    = placed-cells ws (set core p w) (ahead (length core) p 1) in
    let b : differing (set core p w) ≤ suc (differing core) = set-cells core p w in
    omega arith

pub fresh_cells : (n : ℕ) → differing (replicate n fresh_cell) ≡ 0
fresh_cells zero = refl
fresh_cells (suc n) = rw (fresh_cells n)
