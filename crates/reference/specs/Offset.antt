-- offset.rs: an offset of a circular core, and its operators. An Offset is its value; its core_size is the core's length, and stands as the first argument of each operation.
-- Believed. Assumes nothing.
-- A number of 32 bits is an integer. A sum or a difference that leaves them wraps round, as in a build without overflow checks;
-- it needs a core of more than 2 ^ 30 cells. A product that leaves them panics, as in a build with them (Opcodes); it needs more than 46,341.
use Rattle.std.specs.Prelude.{ℕ, ◌/◌, ◌%◌, ◌^◌, Bool, ◌||◌, eqb, leb, ℤ, pos, ◌+ℤ◌, ◌-ℤ◌}
use Rattle.offset.specs.Offset.{euclid}
use Rattle.encoding.specs.Bytes.{signed}

-- new and set_value: the Euclidean remainder by core_size
abbrev pub offset : ℕ → ℤ → ℕ
offset m value = euclid value m

-- new panics: core_size has no i32, or is the zero divisor
abbrev pub no_offset : ℕ → Bool
no_offset m = eqb m 0 || leb (2 ^ 31) m

-- an integer wrapped round to 32 bits
abbrev pub i32 : ℤ → ℤ
i32 z = signed (euclid z (2 ^ 32))

-- the operators of two offsets: that of i32, then set_value
abbrev pub add : ℕ → ℕ → ℕ → ℕ
add m x y = offset m (i32 (pos x +ℤ pos y))

abbrev pub sub : ℕ → ℕ → ℕ → ℕ
sub m x y = offset m (i32 (pos x -ℤ pos y))

abbrev pub div : ℕ → ℕ → ℕ → ℕ
div m x y = offset m (pos (x / y))

abbrev pub rem : ℕ → ℕ → ℕ → ℕ
rem m x y = offset m (pos (x % y))

-- those of an offset and an i32, which becomes an offset first
abbrev pub add_i32 : ℕ → ℕ → ℤ → ℕ
add_i32 m x n = add m x (offset m n)

abbrev pub sub_i32 : ℕ → ℕ → ℤ → ℕ
sub_i32 m x n = sub m x (offset m n)
