-- Names (01, 'Queue and names'): 16 slots in the header, those below `held` in use.
-- Believed. Assumes nothing.
use Rattle.std.specs.Prelude.{ℕ, ◌+◌, ◌-◌, ◌*◌, Bool, cond, ◌&&◌, List, ◌++◌, eqb, length, get_or, take, drop, set, replicate}
use Rattle.std.proofs.lemmas.List.Edits.{sets}
use Rattle.laws.specs.Lists.{lowest, table, same}
use Rattle.machine.specs.declared.Header.{Header}
use Rattle.machine.specs.declared.Roster.{Roster}

abbrev pub name_at : Roster → ℕ → List ℕ
name_at r i = take (get_or r.lengths i 0) (drop (32 * i) r.bytes)

-- the names held, in order of registration
abbrev pub names : Roster → List (List ℕ)
names r = table (name_at r) 0 r.held

-- the index of a name: the next free slot where it is not held
abbrev pub slot : Roster → List ℕ → ℕ
slot r n = lowest (same n) (names r)

abbrev pub is_new : Roster → List ℕ → Bool
is_new r n = eqb (slot r n) r.held

-- a seventeenth name
abbrev pub seventeenth : Roster → List ℕ → Bool
seventeenth r n = is_new r n && eqb r.held 16

-- each name has a count and a next thread number: its count, 0 where it is not held
abbrev pub count_of : Header → List ℕ → ℕ
count_of h n = get_or (take h.names.held h.counts) (slot h.names n) 0

-- both from 0: registering a name writes its whole slot, bytes padded with zeros, length, count and next thread number
unfoldable pub register : Header → List ℕ → Header
register h n =
    let i = h.names.held in
    record {
      rules = h.rules;
      ring = h.ring;
      steps = h.steps;
      names = record {
        held = i + 1;
        bytes = sets h.names.bytes (32 * i) (n ++ replicate (32 - length n) 0);
        lengths = set h.names.lengths i (length n);
      };
      counts = set h.counts i 0;
      threads = set h.threads i 0;
    }

-- a held name is shared
abbrev pub registered : Header → List ℕ → Header
registered h n = cond (is_new h.names n) (register h n) h

-- the next thread number of the name at an index rises by one
unfoldable pub numbered : ℕ → Header → Header
numbered i h =
    record {
      rules = h.rules;
      ring = h.ring;
      steps = h.steps;
      names = h.names;
      counts = h.counts;
      threads = set h.threads i (get_or h.threads i 0 + 1);
    }
