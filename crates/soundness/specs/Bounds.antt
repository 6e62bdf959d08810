-- M, the limits, P and the memories' lengths are such as fresh takes, and the head lies in the queue memory: so no read leaves a memory.
-- Believed. Assumes nothing.
use Rattle.std.specs.Prelude.{ℕ, Bool, ◌&&◌, List, ltb, length}
use Rattle.machine.specs.declared.Rules.{Rules}
use Rattle.machine.specs.State.{passes}
use Rattle.machine.specs.Soundness.{fresh_checks}

-- of these memories, rules and head
abbrev pub bounded : List ℕ → List ℕ → Rules → ℕ → Bool
bounded core queue rules head = passes (fresh_checks rules core queue) && ltb head (length queue)
