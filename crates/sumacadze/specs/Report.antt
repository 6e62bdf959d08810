-- An answer in numbers, a ceiling from numbers, and a cell of its fields.
-- Believed. Assumes nothing.
use Rattle.std.specs.Prelude.{ℕ, Bool, true, false, None, Some}
use Rattle.cell.specs.declared.Cell.{Cell}
use Rattle.cell.specs.Cells.{relative}
use Rattle.machine.specs.Run.{Ceiling}
use Rattle.answer.specs.Numbers.{Answer, told}
use Rattle.sumacadze.specs.declared.Report.{Report}

-- an answer, its writes and its steps, in numbers
abbrev pub report : ℕ → ℕ → ℕ → ℕ → Report
report number value writes steps = record { number = number; value = value; writes = writes; steps = steps }

abbrev pub reported : Answer → ℕ → ℕ → Report
reported answer writes steps = report (told answer).number (told answer).value writes steps

-- a ceiling, where one is said
abbrev pub ceiling_if : Bool → ℕ → Ceiling
ceiling_if true n = Some n
ceiling_if false n = None

-- a cell of these fields
abbrev pub cell_of : ℕ → ℕ → ℕ → ℕ → ℕ → ℕ → Cell
cell_of opcode modifier a_mode b_mode a b =
    record { opcode = opcode; modifier = modifier; a_mode = a_mode; b_mode = b_mode; a = relative a; b = relative b }
