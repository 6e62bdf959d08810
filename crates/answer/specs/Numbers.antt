-- 01's number, and the value given with it, for each case of the answer (01, 'What a call gives back'; 02's new numbers).
-- Believed. Assumes nothing.
use Rattle.std.specs.Prelude.{ℕ, Result, Ok, Err}
use Rattle.answer.specs.declared.Error.{Error}
use Rattle.answer.specs.declared.Error.TheVariants.{InvalidCoreSize, InvalidMemory, WarriorTooLong, InvalidCode, InvalidNameOrPlace, NoRoom, NoRemainingProcesses, NumbersExhausted, UnsoundRecord, PrivateMemory, ExecuteDat, DivideByZero, Malformed, InvalidLimit}

-- the number, and its value: 4's index, 11's place, 13's position; else 0
pub record Told : Type 0 where
  pub number : ℕ
  pub value : ℕ

abbrev pub gives : ℕ → ℕ → Told
gives n v = record { number = n; value = v }

-- of each error
abbrev pub told_error : Error → Told
told_error InvalidCoreSize = gives 1 0
told_error InvalidMemory = gives 2 0
told_error WarriorTooLong = gives 3 0
told_error (InvalidCode index) = gives 4 index
told_error InvalidNameOrPlace = gives 5 0
told_error NoRoom = gives 6 0
told_error NoRemainingProcesses = gives 7 0
told_error NumbersExhausted = gives 8 0
told_error UnsoundRecord = gives 9 0
told_error PrivateMemory = gives 10 0
told_error (ExecuteDat place) = gives 11 place
told_error DivideByZero = gives 12 0
told_error (Malformed position) = gives 13 position
told_error InvalidLimit = gives 14 0

-- of an answer, and of any call that gives a value or an error: 0 is no error
abbrev pub told : {A : Type 0} → Result A Error → Told
told (Ok _) = gives 0 0
told (Err error) = told_error error

-- the answer of a call that gives no value
abbrev pub Answer : Type 0
Answer = Result Unit Error
