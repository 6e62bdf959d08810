-- Run and cell reading (01, 'One step', its last paragraph, and 'What a call gives back').
-- Believed. Assumes nothing.
use Rattle.std.specs.Prelude.{ℕ, zero, suc, ◌-◌, not, List, [], ◌∷◌, ℤ, get_or, Option, None, Some}
use Rattle.offset.specs.Offset.{euclid}
use Rattle.cell.specs.Cells.{sound_word}
use Rattle.machine.specs.State.{Machine, Outcome, done, and_then, Check, check, first, settle}
use Rattle.machine.specs.Soundness.{sound_header}
use Rattle.machine.specs.Step.{step}

-- up to k steps, up to the first answer not 0
abbrev pub plays : ℕ → Machine → Outcome
plays zero m = done m 0 0
plays (suc k) m = and_then (step m) (plays k)

-- a ceiling on total steps, where one is given
abbrev pub Ceiling : Type 0
Ceiling = Option ℕ

-- none: 10,000
abbrev pub ceiling_of : Ceiling → ℕ
ceiling_of None = 10000
ceiling_of (Some n) = n

-- order of run: 9 (header), then its steps, while steps taken are below the ceiling: a step answered 0 counts one
unfoldable pub run : Ceiling → Machine → Outcome
run ceiling m = settle (first (check (not (sound_header m)) 9 ∷ [])) m (plays (ceiling_of ceiling - m.header.steps) m)

-- any i32, reduced
abbrev pub word_at : Machine → ℤ → ℕ
word_at m z = get_or m.core (euclid z m.header.rules.size) 0

-- order of cell reading: 9 (header), 9 (cell)
abbrev pub read_checks : Machine → ℤ → List Check
read_checks m z = check (not (sound_header m)) 9 ∷ check (not (sound_word m.header.rules.size (word_at m z))) 9 ∷ []

-- its value is the cell's word
unfoldable pub read : Machine → ℤ → Outcome
read m z = settle (first (read_checks m z)) m (record { machine = m; number = 0; value = word_at m z; writes = 0; steps = 0; pushes = 0 })
