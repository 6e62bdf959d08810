-- One instruction executed: of a sound machine with both limits M, what the Rust executes is our effect on our core.
-- Assumes nothing.
use Prim.Native.Nat.{ℕ, ◌≤◌, ◌<◌}
use mathlib.Core.Path.{◌≡◌, sym, ap, ap₂, subst, ◌∙◌}
use mathlib.Core.List.{List, map}
use native.Mathlib.Omega.{arith}
use Rattle.types.specs.declared.field.Field.TheVariants.{A, B}
use Rattle.cell.specs.Cells.{cell_at}
use Rattle.cell.proofs.Soundness.{Sound}
use Rattle.machine.specs.declared.Rules.{Rules}
use Rattle.machine.specs.State.{Machine}
use Rattle.machine.specs.Pointers.{operand}
use Rattle.machine.specs.Instruction.{fetched}
use Rattle.machine.specs.Execution.{Effect, effect_of}
use Rattle.machine.specs.Step.{pc, site, instruction, operand_a, operand_b, effect}
use Rattle.machine.specs.Whole.{former, Unlimited}
use Rattle.machine.proofs.Soundness.{size-positive, size-most}
use Rattle.machine.proofs.Pointers.{fields_at, SoundOperand}
use Rattle.machine.proofs.Step.{operand-a-sound, operand-b-sound}
use Rattle.machine.proofs.SoundMachine.{SoundMachine}
use Rattle.machine.proofs.Whole.{whole-b}
use Rattle.reference.specs.Types.{Instruction}
use Rattle.reference.specs.Address.{get_offset}
use Rattle.reference.specs.Modifiers.{Executor, Evaluated, executor, evaluate_a, evaluate_b}
use Rattle.reference.specs.Opcodes.{Execution, by_opcode, execute}
use Rattle.reference.specs.Same.{modifier_of, instruction_of, word_of}
use Rattle.reference.proofs.Cells.{get-word}
use Rattle.reference.proofs.Operands.{seen, operand-codes, evaluate-is}
use Rattle.reference.proofs.Executions.{Done, executes}

module _ (m : Machine) (s : SoundMachine m) (whole : Unlimited m.header.rules) (pc-in : pc m < m.header.rules.size) (opcode-in : (instruction m).opcode < 17) where
  abbrev rules : Rules
  rules = m.header.rules

  abbrev size : ℕ
  size = rules.size

  abbrev instructions : List Instruction
  instructions = map word_of m.core

  small : size ≤ 46341
  small = size-most m s.header

  cell : Sound size (instruction m)
  cell = fields_at size m.core s.core (pc m) pc-in

  a-sound : SoundOperand size (operand_a m)
  a-sound = operand-a-sound m s.core pc-in

  b-sound : SoundOperand size (operand_b m)
  b-sound = operand-b-sound m s.core pc-in

  a-is : evaluate_a size instructions (pc m) ≡ seen (operand_a m)
  unfolding evaluate_a
  a-is = evaluate-is rules whole small m.core s.core A (pc m) pc-in

  -- the B number is read again; the B mode is as it was
  b-is : evaluate_b size (map word_of (operand_a m).core) (pc m) ≡ seen (operand_b m)
  unfolding evaluate_b
  b-is =
      evaluate-is rules whole small (operand_a m).core a-sound.core B (pc m) pc-in
      ∙ ap (λ (k : ℕ). seen (operand (site m) (operand_a m).core k (fetched (operand_a m).core (pc m)).b.0))
      (operand-codes rules whole small m.core s.core (size-positive m s.header) (pc m) _ _ (pc m)).b_mode

  -- B has one pointer
  one_pointer : (operand_b m).read ≡ (operand_b m).write
  unfolding former
  one_pointer = let b = whole-b (site m) m.core whole s.header.size s.header.core in b.read ∙ sym b.write

  abbrev executed : Executor
  executed =
      record {
        core = map word_of (operand_b m).core;
        program_counter = pc m;
        a_value = instruction_of (operand_a m).register;
        b_value = instruction_of (operand_b m).register;
        a_ptr = (operand_a m).read;
        b_ptr = (operand_b m).write;
      }

  executor-is : executor size instructions (pc m) ≡ executed
  executor-is =
      ap (λ (a : Evaluated). record {
        core = (evaluate_b size a.core (pc m)).core;
        program_counter = pc m;
        a_value = a.value;
        b_value = (evaluate_b size a.core (pc m)).value;
        a_ptr = a.ptr;
        b_ptr = (evaluate_b size a.core (pc m)).ptr;
      }) a-is
      ∙ ap (λ (b : Evaluated). record {
        core = b.core;
        program_counter = pc m;
        a_value = instruction_of (operand_a m).register;
        b_value = b.value;
        a_ptr = (operand_a m).read;
        b_ptr = b.ptr;
      }) b-is
      ∙ ap (λ (p : ℕ). record {
        core = map word_of (operand_b m).core;
        program_counter = pc m;
        a_value = instruction_of (operand_a m).register;
        b_value = instruction_of (operand_b m).register;
        a_ptr = (operand_a m).read;
        b_ptr = p;
      }) one_pointer

  -- the modifier is read again, too, and is as it was
  modifier-is : (get_offset (map word_of (operand_b m).core) (pc m)).modifier ≡ modifier_of (instruction m).modifier
  modifier-is =
      ap (λ (i : Instruction). i.modifier) (get-word (operand_b m).core (pc m) (rw b-sound.core.length pc-in))
      ∙ ap modifier_of ((operand-codes rules whole small (operand_a m).core a-sound.core (size-positive m s.header) (pc m) _ _ (pc m)).modifier
      ∙ (operand-codes rules whole small m.core s.core (size-positive m s.header) (pc m) _ _ (pc m)).modifier)

  -- the live cell is the target
  abbrev effect_with : ℕ → Effect
  effect_with p =
      effect_of (instruction m).opcode
      (record {
        size = size;
        modifier = (instruction m).modifier;
        pc = pc m;
        jump = (operand_a m).read;
        ra = (operand_a m).register;
        rb = (operand_b m).register;
        live = cell_at (operand_b m).core p;
        target = cell_at (operand_b m).core (operand_b m).write;
      })

  pub execute-is : Done size (pc m) (operand_b m).write (operand_b m).core (execute size instructions (pc m)) (effect m)
  unfolding execute effect
  execute-is =
      subst (λ (p : ℕ). Done size (pc m) (operand_b m).write (operand_b m).core (execute size instructions (pc m)) (effect_with p)) (sym one_pointer)
      (subst (λ (x : Execution). Done size (pc m) (operand_b m).write (operand_b m).core x (effect_with (operand_b m).write))
      (sym (ap₂ (λ (i : Instruction) (e : Executor). by_opcode i.opcode size (pc m) e) (get-word m.core (pc m) (rw s.core.length pc-in)) executor-is))
      (executes (record {
        size = size;
        core = (operand_b m).core;
        pc = pc m;
        jump = (operand_a m).read;
        target = (operand_b m).write;
        modifier = (instruction m).modifier;
        ra = (operand_a m).register;
        rb = (operand_b m).register;
        small = small;
        sound = b-sound.core;
        pc-in = pc-in;
        jump_in = a-sound.read;
        target-in = b-sound.write;
        modifier-in = omega (arith, cell.modifier);
        ra-in = a-sound.register;
        rb-in = b-sound.register;
        modifier-is = modifier-is;
      }) (instruction m).opcode opcode-in))
