-- Both chains of one operand as the code has them: words for cells.
-- Inner. Assumes nothing.
use Rattle.std.specs.Prelude.{ℕ, ◌+◌, ◌<◌, ◌≡◌, List, length, get_or}
use Rattle.offset.specs.Offset.{ahead}
use Rattle.types.specs.declared.field.Field.{Field}
use Rattle.cell.specs.Cells.{packed, unpacked, number, with_number}
use Rattle.machine.specs.declared.Rules.{Rules}
use Rattle.machine.specs.Pointers.{Reach, here, there, through, Shift, keeps, lowers, raises, less, more, fold, located, Site, operand}
use Rattle.chain.specs.declared.Chains.{Chains}
use Rattle.chain.specs.Operands.{absolute}

-- the core has M cells, PC is one of them, and no limit is 0
pub record Placed (rules : Rules) (core : List ℕ) (pc : ℕ) : Type 0 where
  pub cells : length core ≡ rules.size
  pub place : pc < rules.size
  pub read : 0 < rules.read
  pub write : 0 < rules.write

-- a word after the decrement, and after the increment
abbrev pub word_before : Shift → ℕ → ℕ → Field → ℕ
word_before keeps size w f = w
word_before lowers size w f = packed (with_number f (less size (number f (unpacked w))) (unpacked w))
word_before raises size w f = w

abbrev pub word_after : Shift → ℕ → ℕ → Field → ℕ
word_after keeps size w f = w
word_after lowers size w f = w
word_after raises size w f = packed (with_number f (more size (number f (unpacked w))) (unpacked w))

-- the end of a chain, of the number folded and the word at its location
abbrev pub pointer_by : Reach → ℕ → ℕ → ℕ → ℕ → ℕ → ℕ
pointer_by here size limit pc folded w = pc
pointer_by there size limit pc folded w = ahead size pc folded
pointer_by (through f) size limit pc folded w = ahead size pc (fold limit size (folded + number f (unpacked w)))

-- the pointers, the write location, the words of the cells read, and the word left at the write location
unfoldable pub chains_of : Site → List ℕ → ℕ → ℕ → Chains
chains_of s core mode n =
    let o = operand s core mode n in
    let location = located s s.rules.write n in
    record {
      read = absolute o.read;
      write = absolute o.write;
      location = absolute location;
      near = get_or o.seen 0 0;
      old = get_or o.seen 1 0;
      register = get_or o.seen 2 0;
      there = get_or o.seen 3 0;
      left = get_or o.core location 0;
    }
