-- Both limits M (02, A.2: 'all is as before'): 01's operand, which has one location and one pointer, and what was an effect and a step with it.
-- Believed. Assumes nothing. The theorems are in proofs/Whole.antt.
use Rattle.std.specs.Prelude.{ℕ, ◌≡◌, Bool, true, not, List, [], ◌∷◌, length, get_or}
use Rattle.laws.specs.Lists.{every}
use Rattle.offset.specs.Offset.{ahead}
use Rattle.cell.specs.Cells.{sound_word, number, cell_at}
use Rattle.machine.specs.declared.Rules.{Rules}
use Rattle.machine.specs.State.{Machine, Outcome, check, first, settle}
use Rattle.machine.specs.Soundness.{valid_size, sound_header}
use Rattle.machine.specs.Pointers.{Reach, here, there, through, reaches, Shift, keeps, lowers, raises, shifts, field_of, less, before, after, shifted, Site, Operand, operand}
use Rattle.machine.specs.Instruction.{fetched, Instructed, instructed, instructed_at}
use Rattle.machine.specs.Step.{site, executed_by, checks_by, step}

-- the number found there (minus 1 for `{ <`)
abbrev pub used : Shift → ℕ → ℕ → ℕ
used keeps size found = found
used lowers size found = less size found
used raises size found = found

-- pointer: PC for `#`, the location for `$`, else location + number
abbrev pub pointer_of : Reach → ℕ → ℕ → ℕ → ℕ → ℕ
pointer_of here size pc location n = pc
pointer_of there size pc location n = location
pointer_of (through f) size pc location n = ahead size location n

-- location: PC + number. Pointer. Then the decrement; the register is a copy of the cell at the pointer; then the increment
unfoldable pub former : Site → List ℕ → ℕ → ℕ → Operand
former s core mode n =
    let size = s.rules.size in
    let reach = get_or reaches mode here in
    let shift = get_or shifts mode keeps in
    let f = field_of reach in
    let location = ahead size s.pc n in
    let found = number f (cell_at core location) in
    let pointer = pointer_of reach size s.pc location (used shift size found) in
    let lowered = before shift size core location f found in
    record {
      core = after shift size lowered location f found;
      read = pointer;
      write = pointer;
      register = cell_at lowered pointer;
      seen = get_or core location 0 ∷ get_or lowered pointer 0 ∷ [];
      written = shifted shift location;
    }

-- the A operand, the B operand, the instruction at PC and the step
abbrev pub former_a : Site → List ℕ → Operand
former_a s core = former s core (fetched core s.pc).a_mode (fetched core s.pc).a.0

abbrev pub former_b : Site → List ℕ → Operand
former_b s core =
    let a = former_a s core in
    former s a.core (fetched core s.pc).b_mode (fetched a.core s.pc).b.0

abbrev pub former_at : Site → List ℕ → Instructed
former_at s core = instructed s (fetched core s.pc) (former_a s core) (former_b s core)

abbrev pub former_step : Machine → Outcome
former_step m =
    let i = former_at (site m) m.core in
    settle (first (check (not (sound_header m)) 9 ∷ checks_by (every (sound_word m.header.rules.size) i.seen) m)) m
    (executed_by i.effect i.core (length i.written) m)

-- alike: the cells read are the same ones, each for both chains
pub record SameOperand (o p : Operand) : Type 0 where
  pub core : o.core ≡ p.core
  pub read : o.read ≡ p.read
  pub write : o.write ≡ p.write
  pub register : o.register ≡ p.register
  pub seen : (t : ℕ → Bool) → every t o.seen ≡ every t p.seen
  pub written : o.written ≡ p.written

pub record SameInstructed (i j : Instructed) : Type 0 where
  pub effect : i.effect ≡ j.effect
  pub core : i.core ≡ j.core
  pub seen : (t : ℕ → Bool) → every t i.seen ≡ every t j.seen
  pub written : i.written ≡ j.written

-- both limits are M
pub record Unlimited (rules : Rules) : Type 0 where
  pub read : rules.read ≡ rules.size
  pub write : rules.write ≡ rules.size

-- every operand and every effect in a core of M cells, and every step, is the former one
pub record Whole : Type 0 where
  pub operands : (s : Site) (core : List ℕ) (mode n : ℕ) → Unlimited s.rules → valid_size s.rules.size ≡ true → length core ≡ s.rules.size
      → SameOperand (operand s core mode n) (former s core mode n)
  pub effects : (s : Site) (core : List ℕ) → Unlimited s.rules → valid_size s.rules.size ≡ true → length core ≡ s.rules.size
      → SameInstructed (instructed_at s core) (former_at s core)
  pub steps : (m : Machine) → Unlimited m.header.rules → step m ≡ former_step m
