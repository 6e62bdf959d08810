-- One operand (01, 'Cells' for the modes, 'Pointers'; 02, A.2).
-- Believed. Assumes nothing.
use Rattle.std.specs.Prelude.{ℕ, ◌+◌, ◌-◌, ◌/◌, ◌%◌, cond, List, [], ◌∷◌, ltb, get_or}
use Rattle.cell.specs.declared.Cell.{Cell}
use Rattle.offset.specs.Offset.{ahead}
use Rattle.types.specs.declared.field.Field.{Field}
use Rattle.types.specs.declared.field.Field.TheVariants.{A, B}
use Rattle.cell.specs.Cells.{packed, number, with_number, cell_at, store}
use Rattle.machine.specs.declared.Rules.{Rules}

-- where a mode points, and what it does to the number that it goes through
pub data Reach : Type 0 where
  here there : Reach
  through : Field → Reach

pub data Shift : Type 0 where
  keeps lowers raises : Shift

-- modes 0–7: # $ * @ { < } >. `* { }` go through the pointed cell's A number, `@ < >` through its B number
abbrev pub reaches : List Reach
reaches = here ∷ there ∷ through A ∷ through B ∷ through A ∷ through B ∷ through A ∷ through B ∷ []

-- `{ <` decrement before use, `} >` increment after
abbrev pub shifts : List Shift
shifts = keeps ∷ keeps ∷ keeps ∷ keeps ∷ lowers ∷ lowers ∷ raises ∷ raises ∷ []

-- the field that a mode goes through; `#` and `$` go through none, and look at either
abbrev pub field_of : Reach → Field
field_of here = B
field_of there = B
field_of (through f) = f

-- where an instruction is executed: the rules and PC
pub record Site : Type 0 where
  pub rules : Rules
  pub pc : ℕ

abbrev pub site_at : Rules → ℕ → Site
site_at rules pc = record { rules = rules; pc = pc }

-- a pointer p, taken from PC, mod the limit folds to r; when r is over half the limit (halved downward), M − limit is added
abbrev pub fold : ℕ → ℕ → ℕ → ℕ
fold limit size p = let r = p % limit in cond (ltb (limit / 2) r) (r + (size - limit)) r

-- location: PC + the number folded
abbrev pub located : Site → ℕ → ℕ → ℕ
located s limit n = ahead s.rules.size s.pc (fold limit s.rules.size n)

-- the pointer at the end of a chain: PC for `#`, the location for `$`; else the number folded, then the folded sum with the number found
abbrev pub pointed : Reach → Site → ℕ → ℕ → List ℕ → ℕ
pointed here s limit n core = s.pc
pointed there s limit n core = located s limit n
pointed (through f) s limit n core =
    located s limit (fold limit s.rules.size n + number f (cell_at core (located s limit n)))

-- one less and one more, mod M
abbrev pub less : ℕ → ℕ → ℕ
less size x = ahead size x (size - 1)

abbrev pub more : ℕ → ℕ → ℕ
more size x = ahead size x 1

-- the core with another number in a field of the cell at a place
abbrev pub changed : List ℕ → ℕ → Field → ℕ → List ℕ
changed core place f n = store core place (packed (with_number f n (cell_at core place)))

-- the decrement
abbrev pub before : Shift → ℕ → List ℕ → ℕ → Field → ℕ → List ℕ
before keeps size core location f found = core
before lowers size core location f found = changed core location f (less size found)
before raises size core location f found = core

-- the increment
abbrev pub after : Shift → ℕ → List ℕ → ℕ → Field → ℕ → List ℕ
after keeps size core location f found = core
after lowers size core location f found = core
after raises size core location f found = changed core location f (more size found)

-- the places written: one for each operand mode among `{ < } >`
abbrev pub shifted : Shift → ℕ → List ℕ
shifted keeps location = []
shifted lowers location = location ∷ []
shifted raises location = location ∷ []

-- the core afterwards; the read pointer and the write pointer; the register; the words of the cells read; the places written
pub record Operand : Type 0 where
  pub core : List ℕ
  pub read : ℕ
  pub write : ℕ
  pub register : Cell
  pub seen : List ℕ
  pub written : List ℕ

-- a decrement is made at the write location first; both chains then read the numbers they find, with no further minus 1;
-- the register is a copy of the cell at the read pointer; then the increment, at the write location.
-- The cells read are those of both chains: at two locations, and at two pointers
unfoldable pub operand : Site → List ℕ → ℕ → ℕ → Operand
operand s core mode n =
    let size = s.rules.size in
    let reach = get_or reaches mode here in
    let shift = get_or shifts mode keeps in
    let f = field_of reach in
    let location = located s s.rules.write n in
    let found = number f (cell_at core location) in
    let lowered = before shift size core location f found in
    let read = pointed reach s s.rules.read n lowered in
    let write = pointed reach s s.rules.write n lowered in
    record {
      core = after shift size lowered location f found;
      read = read;
      write = write;
      register = cell_at lowered read;
      seen = get_or core (located s s.rules.read n) 0 ∷ get_or core location 0 ∷ get_or lowered read 0 ∷ get_or lowered write 0 ∷ [];
      written = shifted shift location;
    }
