-- The number fields by their first bits, and what a reducing addition gives in a core of some cells.
-- Believed. Assumes nothing.
use Rattle.std.specs.Prelude.{ℕ, ◌<◌, ◌≡◌, cond, eqb}
use Rattle.offset.specs.Offset.{ahead}
use Rattle.types.specs.declared.field.Field.{Field}
use Rattle.types.specs.declared.field.Field.TheVariants.{A, B}

-- a field by its first bit: 16 is the A field's, and any other number is taken for the B field's
abbrev pub field_by : ℕ → Field
field_by bit = cond (eqb bit 16) A B

-- a sum, reduced to a place or a number of the core
pub record Reduced (size a b r : ℕ) : Type 0 where
  pub is : r ≡ ahead size a b
  pub below : r < size
