-- A machine from the parts that a call is lent, and what a call does to it where its numbers are in range.
-- Believed. Assumes nothing.
use Rattle.std.specs.Prelude.{ℕ, Bool, cond, not, ◌&&◌, List, [], eqb, leb, ltb, length, get_or}
use Rattle.machine.specs.declared.Header.{Header}
use Rattle.machine.specs.declared.Processes.{Processes}
use Rattle.machine.specs.declared.Roster.{Roster}
use Rattle.machine.specs.declared.Rules.{Rules}
use Rattle.machine.specs.State.{of_size, Machine}
use Rattle.machine.specs.Names.{register}
use Rattle.machine.specs.Queue.{started}

-- a machine of these memories and header
abbrev pub machine_of : List ℕ → List ℕ → Header → Machine
machine_of core queue header = record { core = core; queue = queue; header = header }

-- the names' part
abbrev pub names_of : ℕ → List ℕ → List ℕ → Roster
names_of held bytes lengths = record { held = held; bytes = bytes; lengths = lengths }

-- what placing, starting and a step change of a header beside its names
abbrev pub processes_of : Header → Processes
processes_of h = record { ring = h.ring; steps = h.steps; counts = h.counts; threads = h.threads }

-- a header of its parts
abbrev pub header_of : Rules → Roster → Processes → Header
header_of rules names p = record { rules = rules; ring = p.ring; steps = p.steps; names = names; counts = p.counts; threads = p.threads }

-- a machine from the parts that a call is lent
abbrev pub parts : List ℕ → List ℕ → Rules → Roster → Processes → Machine
parts core queue rules names p = machine_of core queue (header_of rules names p)

-- the same of how many names are held, and not their bytes
abbrev pub unnamed : List ℕ → List ℕ → Rules → ℕ → Processes → Machine
unnamed core queue rules held p = parts core queue rules (names_of held [] []) p

-- names alone, with the processes
abbrev pub named_of : Roster → Processes → Header
named_of names p = header_of (of_size 0 0) names p

-- a queue alone: its memory and the processes
abbrev pub queue_of : List ℕ → Processes → Machine
queue_of queue p = unnamed [] queue (of_size 0 0) 0 p

-- the head lies in a queue memory of at most 65,535 entries
abbrev pub headed : Machine → Bool
headed m = leb (length m.queue) 65535 && ltb m.header.ring.head (length m.queue)

-- the number after it fits its field, too
abbrev pub can_rise : ℕ → Bool
can_rise n = not (eqb n 4294967295)

-- the head lies in its memory, i is below 16, and the length, and the count and the next thread number of the name at i can rise
abbrev pub can_start : Machine → ℕ → Bool
can_start m i =
    headed m && ltb i 16 && (can_rise m.header.ring.length && can_rise (get_or m.header.counts i 0) && can_rise (get_or m.header.threads i 0))

-- a process started, where one can be
unfoldable pub start_if : ℕ → ℕ → Machine → Machine
start_if place i m = cond (can_start m i) (started place i m) m

-- a name registered, where there is a slot for it
unfoldable pub register_if : Header → List ℕ → Header
register_if h name = cond (ltb h.names.held 16 && leb (length name) 32) (register h name) h

-- a name's length byte
abbrev pub valid_length : ℕ → Bool
valid_length k = leb 1 k && leb k 32
