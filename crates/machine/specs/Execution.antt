-- What an instruction does with its registers (01, 'One step'; 02, A.2).
-- Believed. Assumes nothing.
use Rattle.std.specs.Prelude.{ℕ, zero, suc, ◌-◌, ◌*◌, ◌/◌, ◌%◌, Bool, true, false, cond, not, ◌&&◌, ◌||◌, List, [], ◌∷◌, map, eqb, ltb, get_or}
use Rattle.std.proofs.Math.Option.{Option, none, some}
use Rattle.laws.specs.Lists.{every}
use Rattle.cell.specs.declared.Cell.{Cell}
use Rattle.offset.specs.Offset.{ahead}
use Rattle.types.specs.declared.field.Field.{Field}
use Rattle.types.specs.Types.{pairs}
use Rattle.cell.specs.Cells.{packed, number, with_number}
use Rattle.types.specs.Modifier.{I}
use Rattle.machine.specs.Pointers.{less}

-- how a process ends, and where it goes on
pub data Ending : Type 0 where
  dat divisor : Ending

pub data Next : Type 0 where
  ends : Ending → Next
  goes : ℕ → Next
  splits : ℕ → ℕ → Next

-- two next places: SPL's, PC+1 and its child's
abbrev pub is_split : Next → Bool
is_split (ends x) = false
is_split (goes p) = false
is_split (splits p c) = true

-- the target cell as stored, if any field is, and the next places
pub record Effect : Type 0 where
  pub cell : Option Cell
  pub next : Next

-- the executed instruction's modifier, PC, the A read pointer, both registers, the live cell, which is at the B read pointer, and the target, at the B write pointer
pub record Scene : Type 0 where
  pub size : ℕ
  pub modifier : ℕ
  pub pc : ℕ
  pub jump : ℕ
  pub ra : Cell
  pub rb : Cell
  pub live : Cell
  pub target : Cell

-- a, b and b's field, which is the target, for each pair
pub record Met : Type 0 where
  pub a : ℕ
  pub b : ℕ
  pub target : Field

-- let a, b be register numbers, by the field pairs of the modifier
abbrev pub mets : Scene → List Met
mets s = map (λ p. record { a = number p.from s.ra; b = number p.to s.rb; target = p.to }) (get_or pairs s.modifier [])

abbrev pub some? : (Met → Bool) → Scene → Bool
some? p s = not (every (λ x. not (p x)) (mets s))

-- PC+1
abbrev pub onward : Scene → ℕ
onward s = ahead s.size s.pc 1

abbrev pub going : ℕ → Effect
going p = record { cell = none; next = goes p }

-- to p when the test passes, else to PC+1
abbrev pub branch : Scene → Bool → ℕ → Effect
branch s b p = going (cond b p (onward s))

-- skip: next PC+2
abbrev pub skip : Scene → Bool → Effect
skip s b = branch s b (ahead s.size s.pc 2)

-- MOV a, which is below M; ADD a+b; SUB b−a; MUL a×b; DIV a/b; MOD a mod b, all mod M; none for a zero b
abbrev pub moved : ℕ → ℕ → ℕ → Option ℕ
moved size a b = some a

abbrev pub sum : ℕ → ℕ → ℕ → Option ℕ
sum size a b = some (ahead size a b)

abbrev pub difference : ℕ → ℕ → ℕ → Option ℕ
difference size a b = some (ahead size b (size - a))

abbrev pub product : ℕ → ℕ → ℕ → Option ℕ
product size a b = some (a * b % size)

abbrev pub quotient : ℕ → ℕ → ℕ → Option ℕ
quotient size a zero = none
quotient size a (suc b) = some (a / suc b % size)

abbrev pub remainder : ℕ → ℕ → ℕ → Option ℕ
remainder size a zero = none
remainder size a (suc b) = some (a % suc b % size)

-- DJN b−1
abbrev pub lowered : ℕ → ℕ → ℕ → Option ℕ
lowered size a b = some (less size b)

abbrev pub is_none : Option ℕ → Bool
is_none none = true
is_none (some n) = false

abbrev pub put : Option ℕ → Field → Cell → Cell
put none t c = c
put (some n) t c = with_number t n c

-- the results stored to their target fields of a cell, first pair first
abbrev pub stored : (ℕ → ℕ → Option ℕ) → List Met → Cell → Cell
stored f [] c = c
stored f (x ∷ xs) c = stored f xs (put (f x.a x.b) x.target c)

-- a zero b leaves that field and ends the process; the other field is still written
abbrev pub computes : Scene → (ℕ → ℕ → ℕ → Option ℕ) → Cell → Effect
computes s f c =
    let v = f s.size in
    record {
      cell = cond (some? (λ x. not (is_none (v x.a x.b))) s) (some (stored v (mets s) c)) none;
      next = cond (some? (λ x. is_none (v x.a x.b)) s) (ends divisor) (goes (onward s));
    }

-- MOV.I also copies opcode and modifier, not modes
abbrev pub copied : Scene → Cell
copied s =
    let c = s.target in
    cond (eqb s.modifier I)
    (record { opcode = s.ra.opcode; modifier = s.ra.modifier; a_mode = c.a_mode; b_mode = c.b_mode; a = c.a; b = c.b })
    c

-- DJN stores b−1 and goes when some result isn't 0
abbrev pub counts : Scene → Effect
counts s =
    record {
      cell = some (stored (lowered s.size) (mets s) s.target);
      next = goes (cond (some? (λ x. not (eqb (less s.size x.b) 0)) s) s.jump (onward s));
    }

-- all pairs are equal; under I the A register is also compared whole with the live cell
abbrev pub equal : Scene → Bool
equal s = every (λ x. eqb x.a x.b) (mets s) && (not (eqb s.modifier I) || eqb (packed s.ra) (packed s.live))

-- opcodes 0–16: DAT MOV ADD SUB MUL DIV MOD JMP JMZ JMN DJN CMP SEQ SNE SLT SPL NOP
abbrev pub effects : Scene → List Effect
effects s =
    record { cell = none; next = ends dat }
    ∷ computes s moved (copied s)
    ∷ computes s sum s.target
    ∷ computes s difference s.target
    ∷ computes s product s.target
    ∷ computes s quotient s.target
    ∷ computes s remainder s.target
    ∷ going s.jump
    ∷ branch s (some? (λ x. eqb x.b 0) s) s.jump
    ∷ branch s (some? (λ x. not (eqb x.b 0)) s) s.jump
    ∷ counts s
    ∷ skip s (equal s)
    ∷ skip s (equal s)
    ∷ skip s (not (equal s))
    ∷ skip s (every (λ x. ltb x.a x.b) (mets s))
    ∷ record { cell = none; next = splits (onward s) s.jump }
    ∷ going (onward s)
    ∷ []

unfoldable pub effect_of : ℕ → Scene → Effect
effect_of opcode s = get_or (effects s) opcode (going (onward s))
