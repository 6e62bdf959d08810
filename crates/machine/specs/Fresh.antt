-- The fresh machine (01, 'Queue and names'; 02, A.2 and A.4).
-- Believed. Assumes nothing.
use Rattle.std.specs.Prelude.{ℕ, List, length, replicate}
use Rattle.cell.specs.Cells.{fresh_cell}
use Rattle.machine.specs.declared.Header.{Header}
use Rattle.machine.specs.declared.Rules.{Rules}
use Rattle.machine.specs.State.{of_size, Machine, Outcome, first, settle, done}
use Rattle.machine.specs.Soundness.{fresh_checks}

-- head, length, steps and all 16 name slots 0
abbrev pub blank : Rules → Header
blank rules =
    record {
      rules = rules;
      ring = record { head = 0; length = 0 };
      steps = 0;
      names = record { held = 0; bytes = replicate 512 0; lengths = replicate 16 0 };
      counts = replicate 16 0;
      threads = replicate 16 0;
    }

-- fresh leaves fresh cells, and zeros in the queue memory
abbrev pub fresh_machine : Rules → List ℕ → List ℕ → Machine
fresh_machine rules core queue =
    record { core = replicate (length core) fresh_cell; queue = replicate (length queue) 0; header = blank rules }

-- a refusal leaves the memories as they are lent, and gives a header of zeros
abbrev pub lent : List ℕ → List ℕ → Machine
lent core queue = record { core = core; queue = queue; header = blank (of_size 0 0) }

unfoldable pub fresh : Rules → List ℕ → List ℕ → Outcome
fresh rules core queue =
    settle (first (fresh_checks rules core queue)) (lent core queue) (done (fresh_machine rules core queue) 0 0)
