-- Laws of where B meets an instruction: a comparison looks at the live cell alone, every other opcode at the target alone.
-- Assumes nothing.
use mathlib.Core.Path.{◌≡◌, refl}
use mathlib.Core.Bool.{cond}
use mathlib.Core.List.{List}
use Prim.Native.Nat.{ℕ, ◌<◌}
use Rattle.laws.proofs.Numbers.{below}
use Rattle.laws.proofs.Every.{◌and◌}
use Rattle.cell.specs.declared.Cell.{Cell}
use Rattle.machine.specs.Execution.{Scene, effect_of}
use Rattle.machine.specs.Instruction.{store_to}
use Rattle.chain.specs.Operands.{compares}

module _ (size modifier pc jump : ℕ) (ra rb : Cell) where
  abbrev scene : Cell → Cell → Scene
  scene live target = record { size = size; modifier = modifier; pc = pc; jump = jump; ra = ra; rb = rb; live = live; target = target }

  -- one cell in place of two
  pub one_cell : (live target : Cell) (op : ℕ) → op < 17
      → effect_of op (scene (cond (compares op) live target) (cond (compares op) live target)) ≡ effect_of op (scene live target)
  unfolding effect_of
  one_cell live target =
      below _ 17
      (refl
      and refl
      and refl
      and refl
      and refl
      and refl
      and refl
      and refl
      and refl
      and refl
      and refl
      and refl
      and refl
      and refl
      and refl
      and refl
      and refl
      and tt)

  -- a comparison stores nothing
  pub one_store : (live target : Cell) (core : List ℕ) (p q : ℕ) (op : ℕ) → op < 17
      → store_to (effect_of op (scene live target)).cell core (cond (compares op) p q) ≡ store_to (effect_of op (scene live target)).cell core q
  unfolding effect_of
  one_store live target core p q =
      below _ 17
      (refl
      and refl
      and refl
      and refl
      and refl
      and refl
      and refl
      and refl
      and refl
      and refl
      and refl
      and refl
      and refl
      and refl
      and refl
      and refl
      and refl
      and tt)
