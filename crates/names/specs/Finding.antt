-- The index of a name, where it is held (01, 'Queue and names').
-- Believed. Assumes nothing.
use Rattle.std.specs.Prelude.{ℕ, cond, not, ◌&&◌, List, leb, Option, None, Some}
use Rattle.machine.specs.declared.Roster.{Roster}
use Rattle.machine.specs.Names.{slot, is_new}

-- none of a record that says that it holds more than 16
abbrev pub found : Roster → List ℕ → Option ℕ
found r n = cond (leb r.held 16 && not (is_new r n)) (Some (slot r n)) None
