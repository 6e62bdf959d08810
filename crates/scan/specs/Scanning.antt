-- A whole record looked through: every cell, every queued entry, every count and every counter.
-- Believed. Assumes nothing.
use Rattle.std.specs.Prelude.{ℕ, ◌+◌, Bool, ◌&&◌, eqb, leb, get_or}
use Rattle.laws.specs.Lists.{every, tally, table}
use Rattle.cell.specs.Cells.{sound_word}
use Rattle.machine.specs.State.{Machine}
use Rattle.machine.specs.Queue.{unpacked_entry, entries}
use Rattle.machine.specs.Soundness.{sound_entry}
use Rattle.lent.specs.Parts.{headed}

-- as a sound header has it: the head lies in a queue memory of at most 65,535 entries, and at most 16 names are held
abbrev pub in_range : Machine → Bool
in_range m = headed m && leb m.header.names.held 16

-- every cell of the core is sound
abbrev pub sound_cells : Machine → Bool
sound_cells m = every (sound_word m.header.rules.size) m.core

-- every queued entry is sound
abbrev pub sound_entries : Machine → Bool
sound_entries m = every (sound_entry m.header) (entries m)

-- the entries of the name at an index
abbrev pub entries_at : Machine → ℕ → ℕ
entries_at m i = tally (λ w. eqb (unpacked_entry w).name i) (entries m)

-- each held name's count is the number of its entries
abbrev pub tallied : Machine → Bool
tallied m = every (λ i. eqb (get_or m.header.counts i 0) (entries_at m i)) (table (λ i. i) 0 m.header.names.held)

-- a counter that rises by one a step at most is below 4,294,967,295 before each of k steps
abbrev pub lasting : ℕ → ℕ → Bool
lasting k n = leb (n + k) 4294967295

-- steps taken and the next thread numbers are such counters
abbrev pub lasting_all : ℕ → Machine → Bool
lasting_all k m = lasting k m.header.steps && every (lasting k) m.header.threads

-- the record is sound all through, and no counter comes to its end within k steps
unfoldable pub scanned : ℕ → Machine → Bool
scanned k m = in_range m && sound_cells m && sound_entries m && tallied m && lasting_all k m
