-- The position that 13 gives (01, 'Match file'): fields are checked in file order.
-- Believed. Assumes nothing.
use Rattle.std.specs.Prelude.{ℕ, zero, suc, ◌+◌, ◌-◌, ◌*◌, Option, Some, None, Bool, true, false, ◌&&◌, List, [], ◌∷◌, leb, ltb, eqb, length, get_or}
use Rattle.encoding.specs.Bytes.{part}
use Rattle.metadata.specs.Metadata.{valid_byte}
use Rattle.match_format.specs.Format.{number}

infixr 20 ◌else◌
-- a fault at p, unless it is right
abbrev pub unless : Bool → ℕ → Option ℕ
unless true p = None
unless false p = Some p

-- the first of two faults
abbrev pub ◌else◌ : Option ℕ → Option ℕ → Option ℕ
None else g = g
Some p else g = Some p

-- a field of k bytes at p: past the end it gives the file's length, faulty its first byte
abbrev pub field : List ℕ → ℕ → ℕ → Bool → Option ℕ
field f p k right = unless (leb (p + k) (length f)) (length f) else unless right p

-- within a name or its padding, the faulty byte: the first that is not right, of bytes whose first stands at p
abbrev pub faulty : (ℕ → Bool) → ℕ → List ℕ → Option ℕ
faulty right p [] = None
faulty right p (b ∷ bs) = unless (right b) p else faulty right (p + 1) bs

-- a byte from lo to hi
abbrev pub within : ℕ → ℕ → ℕ → Bool
within lo hi b = leb lo b && leb b hi

-- a name obeys 5's byte rule; its padding is zeros
abbrev pub name_fault : List ℕ → ℕ → Option ℕ
name_fault f p = faulty valid_byte (p + 1) (part f (p + 1) (get_or f p 0))

abbrev pub padding_fault : List ℕ → ℕ → Option ℕ
padding_fault f p = faulty (within 0 0) (p + 1 + get_or f p 0) (part f (p + 1 + get_or f p 0) (32 - get_or f p 0))

-- a line of 43 bytes at p: name length (1), name (32, zero padded), body start (4), instruction count (2), origin (2), place (2)
unfoldable pub line_fault : List ℕ → ℕ → ℕ → Option ℕ
line_fault f p start =
    field f p 1 (leb (get_or f p 0) 32)
    else field f (p + 1) 32 true
    else name_fault f p
    else padding_fault f p
    else field f (p + 33) 4 (eqb (number f (p + 33) 4) start)
    else field f (p + 37) 2 true
    else field f (p + 39) 2 true
    else field f (p + 41) 2 true

-- bodies to the file's end: one past the end gives the file's length, extra bytes the first of them
abbrev pub end_fault : List ℕ → ℕ → Option ℕ
end_fault f end = unless (leb end (length f)) (length f) else unless (leb (length f) end) end

-- n lines from p on, and the bodies; the next body starts at start, without gaps
unfoldable pub lines_fault : List ℕ → ℕ → ℕ → ℕ → Option ℕ
lines_fault f p start zero = end_fault f start
lines_fault f p start (suc n) = line_fault f p start else lines_fault f (p + 43) (start + 12 * number f (p + 37) 2) n

-- warriors n (1 byte, 1–16), M (2), a zero byte; then n lines
unfoldable pub fault : List ℕ → Option ℕ
fault f =
    field f 0 1 (leb 1 (get_or f 0 0) && leb (get_or f 0 0) 16)
    else field f 1 2 true
    else field f 3 1 (eqb (get_or f 3 0) 0)
    else lines_fault f 4 (4 + 43 * get_or f 0 0) (get_or f 0 0)

-- warrior numbers start at 0; one not below n is 13 at 0, tested last
abbrev pub fault_at : List ℕ → ℕ → Option ℕ
fault_at f k = fault f else unless (ltb k (get_or f 0 0)) 0
