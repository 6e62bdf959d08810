-- The refusal of the next step, for any parts of a record (01, 'One step').
-- Believed. Assumes nothing.
use Rattle.std.specs.Prelude.{Bool, not, List, ◌∷◌}
use Rattle.answer.specs.Numbers.{Told}
use Rattle.machine.specs.State.{Machine, Check, check, first, verdict_told}
use Rattle.machine.specs.Step.{next_checks}
use Rattle.soundness.specs.Bounds.{bounded}

-- M, the memories' lengths, P and the limits are such as fresh takes, and the head lies in the queue memory: so no read leaves a memory
abbrev pub in_bounds : Machine → Bool
in_bounds m = bounded m.core m.queue m.header.rules m.header.ring.head

-- 9 where that is not so, then the order of a step after its header's 9
abbrev pub refusal_checks : Machine → List Check
refusal_checks m = check (not (in_bounds m)) 9 ∷ next_checks m

-- the first that applies, 0 where none does
unfoldable pub refused : Machine → Told
refused m = verdict_told (first (refusal_checks m))
