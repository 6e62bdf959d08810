-- The statement of agreement with the draft (the mission, demand 2). The theorem is `agreement` in proofs/Agreement.antt.
-- Believed. Assumes nothing.
use Rattle.std.specs.Prelude.{◌≡◌, true, false, ◌++◌, take, drop}
use Rattle.machine.specs.State.{Machine}
use Rattle.machine.specs.Step.{step, executes}
use Rattle.draft.specs.Comparison.{cells, drafted, places, room}
use Rattle.draft.specs.Departures.{departs}

-- from m the draft's step leads to m': every cell of the core is the draft's; and the places queued are those before without the front one,
-- and after them the draft's next places, in order, as many as the process limit has room for
abbrev pub Drafted : Machine → Machine → Type 0
Drafted m m' = (cells m' ≡ (drafted m).core) × (places m' ≡ drop 1 (places m) ++ take (room m) (drafted m).next)

-- THE STATEMENT. Each step that is executed, answered 0, 11 or 12, and to which no departure applies
abbrev pub Agreement : Type 0
Agreement = (m : Machine) → executes (step m).number ≡ true → departs m ≡ false → Drafted m (step m).machine
