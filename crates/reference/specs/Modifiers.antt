-- modifier.rs: the executor with both operands evaluated, and closures run on its registers by modifier.
-- Believed. Assumes nothing.
use Rattle.std.specs.Prelude.{ℕ, List, set}
use Rattle.std.proofs.Math.Option.{Option, none, some}
use Rattle.reference.specs.Types.{Modifier, A, B, AB, BA, F, X, I, Instruction, set_a, set_b}
use Rattle.reference.specs.Offset.{offset}
use Rattle.reference.specs.Address.{get_offset, Pre, Post, resolve_a_pointer, resolve_b_pointer, apply_a_pointer, apply_b_pointer}

pub record Executor : Type 0 where
  pub core : List Instruction
  pub program_counter : ℕ
  pub a_value : Instruction
  pub b_value : Instruction
  pub a_ptr : ℕ
  pub b_ptr : ℕ

-- one operand of the executor: the pointer first, then what comes before, the copy, and what comes after
pub record Evaluated : Type 0 where
  pub core : List Instruction
  pub ptr : ℕ
  pub value : Instruction

unfoldable pub evaluate_a : ℕ → List Instruction → ℕ → Evaluated
evaluate_a m core program_counter =
    let a_ptr = resolve_a_pointer m core program_counter in
    let before = apply_a_pointer m core program_counter Pre in
    record { core = apply_a_pointer m before program_counter Post; ptr = a_ptr; value = get_offset before a_ptr }

unfoldable pub evaluate_b : ℕ → List Instruction → ℕ → Evaluated
evaluate_b m core program_counter =
    let b_ptr = resolve_b_pointer m core program_counter in
    let before = apply_b_pointer m core program_counter Pre in
    record { core = apply_b_pointer m before program_counter Post; ptr = b_ptr; value = get_offset before b_ptr }

-- new of an Executor: A, then B from the core that A left
abbrev pub executor : ℕ → List Instruction → ℕ → Executor
executor m core program_counter =
    let a = evaluate_a m core program_counter in
    let b = evaluate_b m a.core program_counter in
    record { core = b.core; program_counter = program_counter; a_value = a.value; b_value = b.value; a_ptr = a.ptr; b_ptr = b.ptr }

-- a closure's call: what it has captured, afterwards, and what it returned
pub record Called (S R : Type 0) : Type 0 where
  pub captured : S
  pub returned : Option R

-- the captured and the instruction at the B pointer
pub record Ran (S : Type 0) : Type 0 where
  pub captured : S
  pub b_target : Instruction

-- what is returned goes to the target's A field, to its B field, or gives its opcode and modifier
abbrev pub put_a : Option ℕ → Instruction → Instruction
put_a none i = i
put_a (some res) i = set_a i res

abbrev pub put_b : Option ℕ → Instruction → Instruction
put_b none i = i
put_b (some res) i = set_b i res

abbrev pub put_code : Option Instruction → Instruction → Instruction
put_code none i = i
put_code (some res) i = record { opcode = res.opcode; modifier = res.modifier; a_field = i.a_field; b_field = i.b_field }

module _ {S : Type 0} where
  -- field_op called once, for either field
  abbrev pub to_a : (S → ℕ → ℕ → Called S ℕ) → ℕ → ℕ → Ran S → Ran S
  to_a field_op a b r =
      let c = field_op r.captured a b in
      record { captured = c.captured; b_target = put_a c.returned r.b_target }

  abbrev pub to_b : (S → ℕ → ℕ → Called S ℕ) → ℕ → ℕ → Ran S → Ran S
  to_b field_op a b r =
      let c = field_op r.captured a b in
      record { captured = c.captured; b_target = put_b c.returned r.b_target }

  -- instruction_op, if any, called with the A register and the target as it is by then
  abbrev pub whole : Option (S → Instruction → Instruction → Called S Instruction) → Instruction → Ran S → Ran S
  whole none a_value r = r
  whole (some instruction_op) a_value r =
      let c = instruction_op r.captured a_value r.b_target in
      record { captured = c.captured; b_target = put_code c.returned r.b_target }

  -- by the modifier, with the four offsets of the two registers
  abbrev pub by_modifier : Modifier → (S → ℕ → ℕ → Called S ℕ) → Option (S → Instruction → Instruction → Called S Instruction)
      → (aa ab ba bb : ℕ) → Instruction → Ran S → Ran S
  by_modifier A field_op instruction_op aa ab ba bb a_value r = to_a field_op aa ba r
  by_modifier B field_op instruction_op aa ab ba bb a_value r = to_b field_op ab bb r
  by_modifier AB field_op instruction_op aa ab ba bb a_value r = to_b field_op aa bb r
  by_modifier BA field_op instruction_op aa ab ba bb a_value r = to_a field_op ab ba r
  by_modifier F field_op instruction_op aa ab ba bb a_value r = to_b field_op ab bb (to_a field_op aa ba r)
  by_modifier I field_op instruction_op aa ab ba bb a_value r = whole instruction_op a_value (to_b field_op ab bb (to_a field_op aa ba r))
  by_modifier X field_op instruction_op aa ab ba bb a_value r = to_b field_op aa bb (to_a field_op ab ba r)

  -- run_on_instructions; the modifier is read from the core again
  abbrev pub run_on_instructions : ℕ → Executor → (S → ℕ → ℕ → Called S ℕ) → Option (S → Instruction → Instruction → Called S Instruction) → S → Ran S
  run_on_instructions m e field_op instruction_op s =
      by_modifier (get_offset e.core e.program_counter).modifier field_op instruction_op
      (offset m e.a_value.a_field.value) (offset m e.a_value.b_field.value)
      (offset m e.b_value.a_field.value) (offset m e.b_value.b_field.value)
      e.a_value (record { captured = s; b_target = get_offset e.core e.b_ptr })

  abbrev pub run_on_fields : ℕ → Executor → (S → ℕ → ℕ → Called S ℕ) → S → Ran S
  run_on_fields m e field_op s = run_on_instructions m e field_op none s

-- the core with the instruction at the B pointer
abbrev pub written : {S : Type 0} → Executor → Ran S → List Instruction
written e r = set e.core e.b_ptr r.b_target
