-- Laws of numbers: an error's is not 0.
-- Assumes nothing.
use Rattle.std.proofs.Common.{◌≡◌, arith}
use Rattle.answer.specs.declared.Error.{Error}
use Rattle.answer.specs.declared.Error.TheVariants.{InvalidCoreSize, InvalidMemory, WarriorTooLong, InvalidCode, InvalidNameOrPlace, NoRoom, NoRemainingProcesses, NumbersExhausted, UnsoundRecord, PrivateMemory, ExecuteDat, DivideByZero, Malformed, InvalidLimit}
use Rattle.answer.specs.Numbers.{told_error}

pub not_zero : (error : Error) → (told_error error).number ≡ 0 → ⊥
not_zero InvalidCoreSize h = omega arith
not_zero InvalidMemory h = omega arith
not_zero WarriorTooLong h = omega arith
not_zero (InvalidCode n) h = omega arith
not_zero InvalidNameOrPlace h = omega arith
not_zero NoRoom h = omega arith
not_zero NoRemainingProcesses h = omega arith
not_zero NumbersExhausted h = omega arith
not_zero UnsoundRecord h = omega arith
not_zero PrivateMemory h = omega arith
not_zero (ExecuteDat n) h = omega arith
not_zero DivideByZero h = omega arith
not_zero (Malformed n) h = omega arith
not_zero InvalidLimit h = omega arith
