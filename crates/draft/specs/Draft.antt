-- One step of the ICWS'94 draft on unpacked cells, in the manner of its sample interpreter: IR is the instruction as fetched, IRA and IRB the registers.
-- Believed. Assumes nothing. Of 01's machine it shares the record of a cell, with its number fields and codes, and nothing of operands or execution.
use Rattle.std.specs.Prelude.{ℕ, zero, suc, ◌+◌, ◌-◌, ◌*◌, ◌/◌, ◌%◌, Bool, cond, not, ◌&&◌, List, [], ◌∷◌, eqb, ltb, get_or, set}
use Rattle.std.proofs.Math.Option.{Option, none, some}
use Rattle.cell.specs.declared.Cell.{Cell}
use Rattle.types.specs.declared.field.Field.{Field}
use Rattle.types.specs.Opcode as opcode
use Rattle.draft.specs.Evaluation.{ANumber, BNumber, modes, immediate, Rules, at, assign, Operand, evaluate}

pub data Opcode : Type 0 where
  DAT MOV ADD SUB MUL DIV MOD JMP JMZ JMN DJN SEQ SNE SLT SPL NOP : Opcode

pub data Modifier : Type 0 where
  A B AB BA F X I : Modifier

-- by 01's codes. CMP and SEQ are one opcode; the draft has no LDP and STP
abbrev pub opcodes : List Opcode
opcodes = DAT ∷ MOV ∷ ADD ∷ SUB ∷ MUL ∷ DIV ∷ MOD ∷ JMP ∷ JMZ ∷ JMN ∷ DJN ∷ SEQ ∷ SEQ ∷ SNE ∷ SLT ∷ SPL ∷ NOP ∷ []

abbrev pub modifiers : List Modifier
modifiers = A ∷ B ∷ AB ∷ BA ∷ F ∷ X ∷ I ∷ []

-- what is executed: the modifier, PC, the A pointer PC + RPA, the target PC + WPB, both registers, and the core
pub record State : Type 0 where
  pub M : ℕ
  pub modifier : Modifier
  pub PC : ℕ
  pub jump : ℕ
  pub target : ℕ
  pub IRA : Cell
  pub IRB : Cell
  pub core : List Cell

-- the core afterwards and the places queued, in order
pub record Done : Type 0 where
  pub core : List Cell
  pub next : List ℕ

abbrev pub store : Field → Option ℕ → ℕ → List Cell → List Cell
store f none p core = core
store f (some x) p core = assign f core p x

-- an operation on a number of IRB and one of IRA, stored to the target, by modifier
abbrev pub compute : (ℕ → ℕ → Option ℕ) → Modifier → ℕ → Cell → Cell → List Cell → List Cell
compute op A t IRA IRB core = store ANumber (op IRB.a.0 IRA.a.0) t core
compute op B t IRA IRB core = store BNumber (op IRB.b.0 IRA.b.0) t core
compute op AB t IRA IRB core = store BNumber (op IRB.b.0 IRA.a.0) t core
compute op BA t IRA IRB core = store ANumber (op IRB.a.0 IRA.b.0) t core
compute op F t IRA IRB core = store BNumber (op IRB.b.0 IRA.b.0) t (store ANumber (op IRB.a.0 IRA.a.0) t core)
compute op X t IRA IRB core = store ANumber (op IRB.a.0 IRA.b.0) t (store BNumber (op IRB.b.0 IRA.a.0) t core)
compute op I t IRA IRB core = store BNumber (op IRB.b.0 IRA.b.0) t (store ANumber (op IRB.a.0 IRA.a.0) t core)

-- a test of a number of IRA and one of IRB, passed by all that the modifier names
abbrev pub test : (ℕ → ℕ → Bool) → Modifier → Cell → Cell → Bool
test p A IRA IRB = p IRA.a.0 IRB.a.0
test p B IRA IRB = p IRA.b.0 IRB.b.0
test p AB IRA IRB = p IRA.a.0 IRB.b.0
test p BA IRA IRB = p IRA.b.0 IRB.a.0
test p F IRA IRB = p IRA.a.0 IRB.a.0 && p IRA.b.0 IRB.b.0
test p X IRA IRB = p IRA.a.0 IRB.b.0 && p IRA.b.0 IRB.a.0
test p I IRA IRB = p IRA.a.0 IRB.a.0 && p IRA.b.0 IRB.b.0

-- Queue (PC + 1)
abbrev pub onward : State → List ℕ
onward s = (s.PC + 1) % s.M ∷ []

-- Queue (PC + 2) where the test passes, else PC + 1
abbrev pub skip : State → Bool → Done
skip s t = record { core = s.core; next = cond t ((s.PC + 2) % s.M ∷ []) (onward s) }

-- Queue (PC + RPA) where the test passes, else PC + 1
abbrev pub jumps : State → Bool → Done
jumps s t = record { core = s.core; next = cond t (s.jump ∷ []) (onward s) }

-- ADD, SUB, MUL store mod M from the registers
abbrev pub arithmetic : State → (ℕ → ℕ → ℕ) → Done
arithmetic s op =
    record { core = compute (λ b a. some (op b a % s.M)) s.modifier s.target s.IRA s.IRB s.core; next = onward s }

-- none for a zero divisor
abbrev pub divided_by : ℕ → ℕ → Option ℕ
divided_by zero x = none
divided_by (suc a) x = some x

-- DIV, MOD compute b / a and b mod a, leave a field whose a is 0 and then queue nothing
abbrev pub division : State → (ℕ → ℕ → ℕ) → Done
division s op =
    record {
      core = compute (λ b a. divided_by a (op b a)) s.modifier s.target s.IRA s.IRB s.core;
      next = cond (test (λ a b. not (eqb a 0)) s.modifier s.IRA s.IRB) (onward s) [];
    }

-- whole instructions under I, else the numbers
abbrev pub under : {R : Type 0} → Modifier → R → R → R
under A whole numbers = numbers
under B whole numbers = numbers
under AB whole numbers = numbers
under BA whole numbers = numbers
under F whole numbers = numbers
under X whole numbers = numbers
under I whole numbers = whole

-- MOV stores numbers, and under I the whole A register
abbrev pub move : State → Done
move s =
    record {
      core =
          under s.modifier (set s.core s.target s.IRA)
          (compute (λ b a. some a) s.modifier s.target s.IRA s.IRB s.core);
      next = onward s;
    }

-- CMP is SEQ
abbrev pub one_code : ℕ → ℕ
one_code n = cond (eqb n opcode.CMP) opcode.SEQ n

abbrev pub same_instruction : Cell → Cell → Bool
same_instruction c d =
    eqb (one_code c.opcode) (one_code d.opcode) && eqb c.modifier d.modifier
    && eqb c.a_mode d.a_mode && eqb c.b_mode d.b_mode && eqb c.a.0 d.a.0 && eqb c.b.0 d.b.0

-- SEQ and SNE compare the registers, under I whole instructions
abbrev pub equal : State → Bool
equal s = under s.modifier (same_instruction s.IRA s.IRB) (test eqb s.modifier s.IRA s.IRB)

-- DJN lowers the live target's numbers; it jumps when some number of IRB, lowered, is not 0
abbrev pub decrement_jump : State → Done
decrement_jump s =
    let lowered : ℕ → ℕ = λ b. (b + s.M - 1) % s.M in
    record {
      core = compute (λ b a. some (lowered b)) s.modifier s.target s.IRA (at s.core s.target) s.core;
      next = cond (test (λ a b. eqb (lowered b) 0) s.modifier s.IRA s.IRB) (onward s) (s.jump ∷ []);
    }

-- JMZ jumps when all tested b are 0, JMN when some is not
abbrev pub zeros : State → Bool
zeros s = test (λ a b. eqb b 0) s.modifier s.IRA s.IRB

-- DAT queues nothing; SPL queues PC + 1, then PC + RPA
abbrev pub execute : Opcode → State → Done
execute DAT s = record { core = s.core; next = [] }
execute MOV s = move s
execute ADD s = arithmetic s (λ b a. b + a)
execute SUB s = arithmetic s (λ b a. b + (s.M - a))
execute MUL s = arithmetic s (λ b a. b * a)
execute DIV s = division s (λ b a. b / a)
execute MOD s = division s (λ b a. b % a)
execute JMP s = record { core = s.core; next = s.jump ∷ [] }
execute JMZ s = jumps s (zeros s)
execute JMN s = jumps s (not (zeros s))
execute DJN s = decrement_jump s
execute SEQ s = skip s (equal s)
execute SNE s = skip s (not (equal s))
execute SLT s = skip s (test ltb s.modifier s.IRA s.IRB)
execute SPL s = record { core = s.core; next = (s.PC + 1) % s.M ∷ s.jump ∷ [] }
execute NOP s = record { core = s.core; next = onward s }

-- the A operand, then the B operand, of the instruction as fetched
abbrev pub operand_a : Rules → List Cell → ℕ → Cell → Operand
operand_a r core PC IR = evaluate r core PC (get_or modes IR.a_mode immediate) IR.a.0

abbrev pub operand_b : Rules → List Cell → ℕ → Cell → Operand
operand_b r core PC IR = evaluate r (operand_a r core PC IR).core PC (get_or modes IR.b_mode immediate) IR.b.0

abbrev pub state : Rules → List Cell → ℕ → Cell → State
state r core PC IR =
    let o_a = operand_a r core PC IR in
    let o_b = operand_b r core PC IR in
    record {
      M = r.M;
      modifier = get_or modifiers IR.modifier I;
      PC = PC;
      jump = (PC + o_a.RP) % r.M;
      target = (PC + o_b.WP) % r.M;
      IRA = o_a.register;
      IRB = o_b.register;
      core = o_b.core;
    }

abbrev pub obey : Rules → List Cell → ℕ → Cell → Done
obey r core PC IR = execute (get_or opcodes IR.opcode NOP) (state r core PC IR)

-- IR = Core[PC]
unfoldable pub step : Rules → List Cell → ℕ → Done
step r core PC = obey r core PC (at core PC)
