-- What an instruction is executed with, the Rust's closures run on it, and what our next places are to the Rust.
-- Assumes nothing.
use Prim.Native.Nat.{ℕ, ◌≤◌, ◌<◌}
use mathlib.Core.Path.{◌≡◌, refl, sym, ap, ◌∙◌}
use mathlib.Core.Bool.{Bool, true, false, cond}
use mathlib.Core.List.{List, map}
use mathlib.Core.Option.{Option, none, some}
use native.Mathlib.Omega.{arith}
use lib.Dec.{eqb}
use lib.IntN.{pos}
use lib.ListN.{get_or, set}
use Rattle.cell.specs.declared.Cell.{Cell}
use Rattle.offset.specs.Offset.{ahead}
use Rattle.cell.specs.Cells.{unpacked}
use Rattle.types.specs.Modifier.{I}
use Rattle.cell.proofs.Soundness.{Sound}
use Rattle.machine.specs.Execution.{Ending, dat, divisor, Next, ends, goes, splits, Effect, Scene, Met, stored}
use Rattle.machine.proofs.Pointers.{SoundCore, fields_at}
use Rattle.machine.proofs.Execution.{row}
use Rattle.reference.specs.Types.{Instruction}
use Rattle.reference.specs.Offset.{offset, add, sub, add_i32}
use Rattle.reference.specs.Address.{get_offset}
use Rattle.reference.specs.Modifiers.{Executor, Called, Ran, by_modifier, run_on_instructions, run_on_fields}
use Rattle.reference.specs.Process.{Error, ExecuteDat, DivideByZero}
use Rattle.reference.specs.Opcodes as Opcodes
use Rattle.reference.specs.Opcodes.{Result, Ok, Err}
use Rattle.reference.specs.Core.{or_one}
use Rattle.reference.specs.Same.{modifier_of, instruction_of, word_of}
use Rattle.reference.proofs.Offsets.{offset-in, add-num, jump-is}
use Rattle.reference.proofs.Cells.{get-word}
use Rattle.reference.proofs.Pointers.{same_set}
use Rattle.reference.proofs.Closures.{captures, start, whole_if, ran-is}

-- what our endings and our next places are to the Rust
abbrev pub error_of : Ending → ℕ → Error
error_of dat place = ExecuteDat place
error_of divisor place = DivideByZero

abbrev pub Matches : ℕ → ℕ → Next → Result → Type 0
Matches m pc (ends x) r = r ≡ Err (error_of x pc)
Matches m pc (goes p) r = (x : Option ℕ) × (r ≡ Ok (record { program_counter_offset = x; should_split = false })) × (add m pc (or_one m x) ≡ p)
Matches m pc (splits p c) r =
    (x : Option ℕ) × (r ≡ Ok (record { program_counter_offset = x; should_split = true })) × (add_i32 m pc (pos 1) ≡ p) × (add m pc (or_one m x) ≡ c)

-- the target cell afterwards
abbrev pub cell_of : Option Cell → Cell → Cell
cell_of none live = live
cell_of (some c) live = c

-- the core once both operands are evaluated, PC, both pointers, the modifier and both registers
pub record Registers : Type 0 where
  pub size : ℕ
  pub core : List ℕ
  pub pc : ℕ
  pub jump : ℕ
  pub target : ℕ
  pub modifier : ℕ
  pub ra : Cell
  pub rb : Cell
  pub small : size ≤ 46341
  pub sound : SoundCore size core
  pub pc-in : pc < size
  pub jump_in : jump < size
  pub target-in : target < size
  pub modifier-in : modifier < 7
  pub ra-in : Sound size ra
  pub rb-in : Sound size rb
  pub modifier-is : (get_offset (map word_of core) pc).modifier ≡ modifier_of modifier

module _ (its : Registers) where
  abbrev pub live : Cell
  live = unpacked (get_or its.core its.target 0)

  abbrev pub mets : List Met
  mets = row its.modifier its.ra its.rb

  abbrev pub executor : Executor
  executor = record { core = map word_of its.core; program_counter = its.pc; a_value = instruction_of its.ra; b_value = instruction_of its.rb; a_ptr = its.jump; b_ptr = its.target }

  abbrev pub scene : Scene
  scene = record { size = its.size; modifier = its.modifier; pc = its.pc; jump = its.jump; ra = its.ra; rb = its.rb; live = live; target = live }

  -- the target set to what is stored, or to what it was
  pub record Does (x : Opcodes.Execution) (f : Effect) : Type 0 where
    pub core : x.core ≡ set (map word_of its.core) its.target (instruction_of (cell_of f.cell live))
    pub next : Matches its.size its.pc f.next x.result

  pub positive : 0 < its.size
  positive = omega (arith, its.pc-in)

  target_is : get_offset (map word_of its.core) its.target ≡ instruction_of live
  target_is = get-word its.core its.target (rw its.sound.length its.target-in)

  pub kept : set (map word_of its.core) its.target (instruction_of live) ≡ map word_of its.core
  kept = ap (set (map word_of its.core) its.target) (sym target_is) ∙ same_set (map word_of its.core) its.target

  pub live_in : Sound its.size live
  live_in = fields_at its.size its.core its.sound its.target its.target-in

  -- a register's number is its own offset
  reduced : {n : ℕ} → n < its.size → offset its.size (pos n) ≡ n
  reduced {n} h = offset-in its.size positive its.small n h

  -- the closures run
  module _ {S : Type 0} (op : S → ℕ → ℕ → Called S ℕ) (change : S → ℕ → ℕ → S) (val : ℕ → ℕ → Option ℕ) (Such : S → Type 0)
      (called : (s : S) (a b : ℕ) → Such s → a < its.size → b < its.size → (op s a b ≡ record { captured = change s a b; returned = val a b }) × Such (change s a b))
      (s : S) (such : Such s) where
    pub run_is : (instruction_op : Option (S → Instruction → Instruction → Called S Instruction))
        → run_on_instructions its.size executor op instruction_op s
        ≡ whole_if (eqb its.modifier I) instruction_op (instruction_of its.ra) (start (captures change s mets) (stored val mets live))
    run_is instruction_op =
        (λ i. by_modifier (its.modifier-is i) op instruction_op
        (reduced its.ra-in.a i) (reduced its.ra-in.b i) (reduced its.rb-in.a i) (reduced its.rb-in.b i)
        (instruction_of its.ra) (record { captured = s; b_target = target_is i }))
        ∙ ran-is its.size op change val Such called its.ra its.rb live its.ra-in.a its.ra-in.b its.rb-in.a its.rb-in.b
        instruction_op (instruction_of its.ra) s such its.modifier its.modifier-in

    pub fields-is : run_on_fields its.size executor op s ≡ start (captures change s mets) (stored val mets live)
    fields-is = run_is none ∙ go (eqb its.modifier I)
      where
        go : (b : Bool) → whole_if {S = S} b none (instruction_of its.ra) (start (captures change s mets) (stored val mets live)) ≡ start (captures change s mets) (stored val mets live)
        go true = refl
        go false = refl

  -- places
  pub onward : add its.size its.pc (or_one its.size none) ≡ ahead its.size its.pc 1
  onward = add-num its.size positive its.small its.pc 1 its.pc-in

  pub to-place : (b : Bool) (to p : ℕ) (o : Option ℕ) → add its.size its.pc to ≡ p → o ≡ cond b (some to) none
      → add its.size its.pc (or_one its.size o) ≡ cond b p (ahead its.size its.pc 1)
  to-place b to p o h q = ap (λ (x : Option ℕ). add its.size its.pc (or_one its.size x)) q ∙ go b
    where
      go : (b : Bool) → add its.size its.pc (or_one its.size (cond b (some to) none)) ≡ cond b p (ahead its.size its.pc 1)
      go true = h
      go false = onward

  abbrev pub jump_offset : ℕ
  jump_offset = sub its.size its.jump its.pc

  pub jumps : add its.size its.pc jump_offset ≡ its.jump
  jumps = jump-is its.size positive its.small its.pc its.jump its.pc-in its.jump_in

  abbrev pub skip-one : ℕ
  skip-one = offset its.size (pos 2)

  pub skips : add its.size its.pc skip-one ≡ ahead its.size its.pc 2
  skips = add-num its.size positive its.small its.pc 2 its.pc-in

  abbrev pub written : {S : Type 0} → Ran S → List Instruction
  written r = set (map word_of its.core) its.target r.b_target

  -- DAT, JMP, SPL, NOP: nothing is stored
  pub idle : (r : Result) (x : Next) → Matches its.size its.pc x r → Does (record { core = map word_of its.core; result = r }) (record { cell = none; next = x })
  idle r x m = record { core = sym kept; next = m }
