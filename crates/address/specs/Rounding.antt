-- One less and one more than a field number, by one comparison; the field that a mode goes through, and the number that a pointer is made of.
-- Believed. Assumes nothing.
use Rattle.std.specs.Prelude.{ℕ, ◌+◌, ◌-◌, ◌%◌, cond, eqb, ltb}
use Rattle.types.specs.declared.field.Field.{Field}
use Rattle.types.specs.declared.field.Field.TheVariants.{A, B}
use Rattle.machine.specs.Pointers.{Shift, keeps, lowers, raises}

-- one less and one more than a field number, round the end: `less` and `more` for a number below the size
abbrev pub decremented : ℕ → ℕ → ℕ
decremented size n = cond (eqb n 0) (size - 1) (n - 1)

abbrev pub incremented : ℕ → ℕ → ℕ
incremented size n = cond (ltb (n + 1) size) (n + 1) 0

-- the field that an indirect mode goes through: A for an even mode, B for an odd one
abbrev pub field_through : ℕ → Field
field_through mode = cond (eqb (mode % 2) 0) A B

-- the number that the pointer is made of: `used` for a number below the size
abbrev pub aimed : Shift → ℕ → ℕ → ℕ
aimed keeps size found = found
aimed lowers size found = decremented size found
aimed raises size found = found
