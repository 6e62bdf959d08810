-- Bytes: a part of them, and the numbers that they spell, little-endian (01, 'Match file').
-- Believed. Assumes nothing.
use Rattle.std.specs.Prelude.{ℕ, zero, suc, ◌+◌, ◌-◌, ◌*◌, ◌/◌, ◌%◌, ◌^◌, cond, List, [], ◌∷◌, ltb, ℤ, pos, negsuc, take, drop}

-- the k bytes from position p on, or as many as there are
abbrev pub part : List ℕ → ℕ → ℕ → List ℕ
part bytes p k = take k (drop p bytes)

-- the number that bytes spell, the lowest first
abbrev pub value : List ℕ → ℕ
value [] = 0
value (b ∷ bs) = b + 256 * value bs

-- the k bytes that spell a number
abbrev pub spelled : ℕ → ℕ → List ℕ
spelled zero n = []
spelled (suc k) n = n % 256 ∷ spelled k (n / 256)

-- the number of 32 bits as an i32
abbrev pub signed : ℕ → ℤ
signed n = cond (ltb n (2 ^ 31)) (pos n) (negsuc (2 ^ 32 - 1 - n))
