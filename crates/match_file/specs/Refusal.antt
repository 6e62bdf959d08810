-- 13 as a row of an order of checks (01, 'Match file').
-- Believed. Assumes nothing.
use Rattle.std.specs.Prelude.{ℕ, Option, Some, None, true, false}
use Rattle.machine.specs.State.{Check, check}

-- 13 with its position
abbrev pub malformed : Option ℕ → Check
malformed None = check false 13
malformed (Some p) = record { applies = true; number = 13; value = p }
