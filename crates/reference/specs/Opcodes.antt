-- opcode.rs: the closures of each opcode, and one instruction executed.
-- Believed. Assumes nothing.
use Rattle.std.specs.Prelude.{ℕ, ◌*◌, ◌^◌, Bool, true, false, cond, not, ◌||◌, List, eqb, leb, pos}
use Rattle.std.proofs.Math.Option.{Option, none, some}
use Rattle.reference.specs.Types.{Opcode, Add, Cmp, Dat, Div, Djn, Jmn, Jmp, Jmz, Ldp, Mod, Mov, Mul, Nop, Seq, Slt, Sne, Spl, Stp, Sub, Instruction, instruction_eq}
use Rattle.reference.specs.Offset.{offset, add, sub, div, rem, sub_i32}
use Rattle.reference.specs.Address.{get_offset}
use Rattle.reference.specs.Modifiers.{Executor, executor, Called, Ran, run_on_instructions, run_on_fields, written}
use Rattle.reference.specs.Process.{Error, ExecuteDat, DivideByZero}

pub record Executed : Type 0 where
  pub program_counter_offset : Option ℕ
  pub should_split : Bool

-- what execute returns, or a panic
pub data Result : Type 0 where
  Ok : Executed → Result
  Err : Error → Result
  Panic : Result

-- with the core that it leaves
pub record Execution : Type 0 where
  pub core : List Instruction
  pub result : Result

-- a closure returns a value or none, and leaves or changes what it has captured
module _ {S R : Type 0} where
  abbrev pub returns : S → R → Called S R
  returns s x = record { captured = s; returned = some x }

  abbrev pub leaves : S → Called S R
  leaves s = record { captured = s; returned = none }

-- of MOV, for fields and for the whole
abbrev pub moves : {S R : Type 0} → S → R → R → Called S R
moves s a b = returns s a

-- of MUL; what is captured tells whether it has panicked: a product left 32 bits, and nothing is stored from then on
abbrev pub multiplies : ℕ → Bool → ℕ → ℕ → Called Bool ℕ
multiplies m s a b = cond (s || leb (2 ^ 31) (a * b)) (leaves true) (returns false (offset m (pos (a * b))))

-- of DIV and MOD: the error where b is 0
abbrev pub divides : (ℕ → ℕ → ℕ) → Option Error → ℕ → ℕ → Called (Option Error) ℕ
divides f s a b = cond (eqb b 0) (leaves (some DivideByZero)) (returns s (f a b))

-- of the others: where the test passes, program_counter_offset is set
abbrev pub sets_if : {R : Type 0} → Option ℕ → Bool → Option ℕ → Called (Option ℕ) R
sets_if to test s = leaves (cond test to s)

abbrev pub decrements : ℕ → ℕ → ℕ → Option ℕ → ℕ → ℕ → Called (Option ℕ) ℕ
decrements m nothing jump_offset s a b =
    let decremented = sub_i32 m b (pos 1) in
    returns (cond (not (eqb decremented nothing)) (some jump_offset) s) decremented

-- fields and whole instructions that differ
abbrev pub unlike : Option ℕ → Option ℕ → ℕ → ℕ → Called (Option ℕ) ℕ
unlike to s a b = sets_if to (not (eqb a b)) s

abbrev pub unlike_whole : Option ℕ → Option ℕ → Instruction → Instruction → Called (Option ℕ) Instruction
unlike_whole to s a b = sets_if to (not (instruction_eq a b)) s

-- execution ends well, with program_counter_offset
abbrev pub fine : List Instruction → Option ℕ → Execution
fine core to = record { core = core; result = Ok (record { program_counter_offset = to; should_split = false }) }

-- so it does with the instruction at the B pointer written
abbrev pub finished : Executor → Ran (Option ℕ) → Execution
finished e r = fine (written e r) r.captured

-- an error that was captured is returned
abbrev pub unless_error : Option Error → Result
unless_error none = Ok (record { program_counter_offset = none; should_split = false })
unless_error (some err) = Err err

abbrev pub divided : Executor → Ran (Option Error) → Execution
divided e r = record { core = written e r; result = unless_error r.captured }

abbrev pub multiplied : Executor → Ran Bool → Execution
multiplied e r = record { core = written e r; result = cond r.captured Panic (unless_error none) }

-- by the opcode; zero is offset m 0, skip_one offset m 2, jump_offset the A pointer less program_counter
abbrev pub by_opcode : Opcode → ℕ → ℕ → Executor → Execution
by_opcode Dat m pc e = record { core = e.core; result = Err (ExecuteDat pc) }
by_opcode Mov m pc e = finished e (run_on_instructions m e moves (some moves) none)
by_opcode Nop m pc e = fine e.core none
by_opcode Add m pc e = finished e (run_on_fields m e (λ s a b. returns s (add m a b)) none)
by_opcode Mul m pc e = multiplied e (run_on_fields m e (multiplies m) false)
by_opcode Sub m pc e = finished e (run_on_fields m e (λ s a b. returns s (sub m b a)) none)
by_opcode Div m pc e = divided e (run_on_fields m e (divides (div m)) none)
by_opcode Mod m pc e = divided e (run_on_fields m e (divides (rem m)) none)
by_opcode Cmp m pc e = finished e (run_on_instructions m e (unlike none) (some (unlike_whole none)) (some (offset m (pos 2))))
by_opcode Seq m pc e = finished e (run_on_instructions m e (unlike none) (some (unlike_whole none)) (some (offset m (pos 2))))
by_opcode Slt m pc e = finished e (run_on_fields m e (λ s a b. sets_if none (leb b a) s) (some (offset m (pos 2))))
by_opcode Sne m pc e =
    finished e (run_on_instructions m e (unlike (some (offset m (pos 2)))) (some (unlike_whole (some (offset m (pos 2))))) none)
by_opcode Djn m pc e = finished e (run_on_fields m e (decrements m (offset m (pos 0)) (sub m e.a_ptr pc)) none)
by_opcode Jmn m pc e = finished e (run_on_fields m e (λ s a b. sets_if (some (sub m e.a_ptr pc)) (not (eqb b (offset m (pos 0)))) s) none)
by_opcode Jmp m pc e = fine e.core (some (sub m e.a_ptr pc))
by_opcode Spl m pc e =
    record { core = e.core; result = Ok (record { program_counter_offset = some (sub m e.a_ptr pc); should_split = true }) }
by_opcode Jmz m pc e = finished e (run_on_fields m e (λ s a b. sets_if (some (sub m e.a_ptr pc)) (eqb b (offset m (pos 0))) s) none)
by_opcode Ldp m pc e = record { core = e.core; result = Panic }
by_opcode Stp m pc e = record { core = e.core; result = Panic }

-- execute: the opcode is read before the operands are evaluated
unfoldable pub execute : ℕ → List Instruction → ℕ → Execution
execute m core program_counter = by_opcode (get_offset core program_counter).opcode m program_counter (executor m core program_counter)
