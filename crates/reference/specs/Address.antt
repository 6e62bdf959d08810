-- address.rs: a pointer resolved, and its effects before and after.
-- Believed. Assumes nothing. An index is an Offset of this core, so it is below its length.
use Rattle.std.specs.Prelude.{ℕ, List, ℤ, pos, ◌+ℤ◌, ◌-ℤ◌, get_or, set}
use Rattle.reference.specs.Types.{AddressMode, Immediate, Direct, IndirectA, IndirectB, PreDecIndirectA, PreDecIndirectB, PostIncIndirectA, PostIncIndirectB, Field, Instruction, default, set_a, set_b}
use Rattle.reference.specs.Offset.{offset, i32, add_i32, sub_i32}

-- core.rs, get_offset
abbrev pub get_offset : List Instruction → ℕ → Instruction
get_offset core at = get_or core at default

-- resolve_pointer: by the mode, the field's value, and the A and B values of the instruction pointed to
abbrev pub relative : AddressMode → ℤ → ℤ → ℤ → ℤ
relative Immediate field_value a b = pos 0
relative Direct field_value a b = field_value
relative IndirectA field_value a b = i32 (field_value +ℤ a)
relative PostIncIndirectA field_value a b = i32 (field_value +ℤ a)
relative IndirectB field_value a b = i32 (field_value +ℤ b)
relative PostIncIndirectB field_value a b = i32 (field_value +ℤ b)
relative PreDecIndirectA field_value a b = i32 (i32 (field_value +ℤ a) -ℤ pos 1)
relative PreDecIndirectB field_value a b = i32 (i32 (field_value +ℤ b) -ℤ pos 1)

abbrev pub resolve_pointer : ℕ → List Instruction → ℕ → Field → ℕ
resolve_pointer m core program_counter field =
    let pointed_to = get_offset core (add_i32 m program_counter field.value) in
    add_i32 m program_counter (relative field.address_mode field.value pointed_to.a_field.value pointed_to.b_field.value)

pub data EvalTime : Type 0 where
  Pre Post : EvalTime

-- apply_pointer: the instruction pointed to, afterwards
abbrev pub applied : ℕ → EvalTime → AddressMode → ℕ → ℕ → Instruction → Instruction
applied m Pre PreDecIndirectA a_value b_value pointed_to = set_a pointed_to (sub_i32 m a_value (pos 1))
applied m Pre PreDecIndirectB a_value b_value pointed_to = set_b pointed_to (sub_i32 m b_value (pos 1))
applied m Pre Immediate a_value b_value pointed_to = pointed_to
applied m Pre Direct a_value b_value pointed_to = pointed_to
applied m Pre IndirectA a_value b_value pointed_to = pointed_to
applied m Pre IndirectB a_value b_value pointed_to = pointed_to
applied m Pre PostIncIndirectA a_value b_value pointed_to = pointed_to
applied m Pre PostIncIndirectB a_value b_value pointed_to = pointed_to
applied m Post PostIncIndirectA a_value b_value pointed_to = set_a pointed_to (add_i32 m a_value (pos 1))
applied m Post PostIncIndirectB a_value b_value pointed_to = set_b pointed_to (add_i32 m b_value (pos 1))
applied m Post Immediate a_value b_value pointed_to = pointed_to
applied m Post Direct a_value b_value pointed_to = pointed_to
applied m Post IndirectA a_value b_value pointed_to = pointed_to
applied m Post IndirectB a_value b_value pointed_to = pointed_to
applied m Post PreDecIndirectA a_value b_value pointed_to = pointed_to
applied m Post PreDecIndirectB a_value b_value pointed_to = pointed_to

abbrev pub apply_pointer : ℕ → List Instruction → ℕ → Field → EvalTime → List Instruction
apply_pointer m core program_counter field eval_time =
    let pointer_location = add_i32 m program_counter field.value in
    let pointed_to = get_offset core pointer_location in
    set core pointer_location
    (applied m eval_time field.address_mode (offset m pointed_to.a_field.value) (offset m pointed_to.b_field.value) pointed_to)

-- the four that read the field from the core again
abbrev pub resolve_a_pointer : ℕ → List Instruction → ℕ → ℕ
resolve_a_pointer m core program_counter = resolve_pointer m core program_counter (get_offset core program_counter).a_field

abbrev pub resolve_b_pointer : ℕ → List Instruction → ℕ → ℕ
resolve_b_pointer m core program_counter = resolve_pointer m core program_counter (get_offset core program_counter).b_field

abbrev pub apply_a_pointer : ℕ → List Instruction → ℕ → EvalTime → List Instruction
apply_a_pointer m core program_counter eval_time = apply_pointer m core program_counter (get_offset core program_counter).a_field eval_time

abbrev pub apply_b_pointer : ℕ → List Instruction → ℕ → EvalTime → List Instruction
apply_b_pointer m core program_counter eval_time = apply_pointer m core program_counter (get_offset core program_counter).b_field eval_time
