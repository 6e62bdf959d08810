-- One operand of the ICWS'94 draft, in the manner and with the names of its sample interpreter.
-- Believed. Assumes nothing. Of 01's machine it shares the record of a cell, with its number fields and codes.
use Rattle.std.specs.Prelude.{ℕ, ◌+◌, ◌-◌, ◌/◌, ◌%◌, cond, List, [], ◌∷◌, ltb, get_or, set}
use Rattle.cell.specs.declared.Cell.{Cell}
use Rattle.cell.specs.Cells.{relative, number, with_number}
use Rattle.types.specs.declared.field.Field.{Field}
use Rattle.types.specs.declared.field.Field.TheVariants as field

-- the draft's names of a cell's two numbers
abbrev pub ANumber : Field
ANumber = field.A

abbrev pub BNumber : Field
BNumber = field.B

-- the indirect modes go through the A number or the B number
pub data Mode : Type 0 where
  immediate direct : Mode
  indirect predecrement postincrement : Field → Mode

-- by 01's codes: # $ * @ { < } >
abbrev pub modes : List Mode
modes =
    immediate
    ∷ direct
    ∷ indirect ANumber
    ∷ indirect BNumber
    ∷ predecrement ANumber
    ∷ predecrement BNumber
    ∷ postincrement ANumber
    ∷ postincrement BNumber
    ∷ []

-- core size, read limit and write limit
pub record Rules : Type 0 where
  pub M : ℕ
  pub ReadLimit : ℕ
  pub WriteLimit : ℕ

-- a pointer folded by a limit: at most half the limit ahead of PC, or behind it
abbrev pub Fold : ℕ → ℕ → ℕ → ℕ
Fold pointer limit M =
    let result = pointer % limit in
    cond (ltb (limit / 2) result) (result + (M - limit)) result

-- Core[p]; a place past the core is never met
abbrev pub at : List Cell → ℕ → Cell
at core p = get_or core p (record { opcode = 0; modifier = 0; a_mode = 0; b_mode = 0; a = relative 0; b = relative 0 })

-- Core[p].ANumber = x, or Core[p].BNumber = x
abbrev pub assign : Field → List Cell → ℕ → ℕ → List Cell
assign f core p x = set core p (with_number f x (at core p))

-- what evaluating an operand leaves: the core, the pointers from PC, and the register
-- copies and jumps go by RP, folded by the read limit; changes and stores by WP, folded by the write limit
pub record Operand : Type 0 where
  pub core : List Cell
  pub RP : ℕ
  pub WP : ℕ
  pub register : Cell

-- the register is a copy of Core[PC + RP]
abbrev pub copy : Rules → List Cell → ℕ → ℕ → ℕ → Operand
copy r core PC RP WP = record { core = core; RP = RP; WP = WP; register = at core ((PC + RP) % r.M) }

-- each pointer goes on by the number of the cell that it points to, and is folded again
abbrev pub through : Rules → List Cell → ℕ → Field → ℕ → ℕ → Operand
through r core PC f RP WP =
    copy r core PC
    (Fold (RP + number f (at core ((PC + RP) % r.M))) r.ReadLimit r.M)
    (Fold (WP + number f (at core ((PC + WP) % r.M))) r.WriteLimit r.M)

abbrev pub decrement : Rules → List Cell → Field → ℕ → List Cell
decrement r core f p = assign f core p ((number f (at core p) + r.M - 1) % r.M)

abbrev pub increment : Rules → List Cell → Field → ℕ → List Cell
increment r core f p = assign f core p ((number f (at core p) + 1) % r.M)

-- pointer 0 for `#`; the number for `$`; else through the cell at that place:
-- `{ <` decrement it first, `} >` increment it after the register was copied, both at the write pointer
abbrev pub evaluate : Rules → List Cell → ℕ → Mode → ℕ → Operand
evaluate r core PC immediate n = copy r core PC 0 0
evaluate r core PC direct n = copy r core PC (Fold n r.ReadLimit r.M) (Fold n r.WriteLimit r.M)
evaluate r core PC (indirect f) n = through r core PC f (Fold n r.ReadLimit r.M) (Fold n r.WriteLimit r.M)
evaluate r core PC (predecrement f) n =
    let RP = Fold n r.ReadLimit r.M in
    let WP = Fold n r.WriteLimit r.M in
    through r (decrement r core f ((PC + WP) % r.M)) PC f RP WP
evaluate r core PC (postincrement f) n =
    let RP = Fold n r.ReadLimit r.M in
    let WP = Fold n r.WriteLimit r.M in
    let o = through r core PC f RP WP in
    record { core = increment r core f ((PC + WP) % r.M); RP = o.RP; WP = o.WP; register = o.register }
