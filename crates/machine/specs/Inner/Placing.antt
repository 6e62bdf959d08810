-- Bodies placed and processes started (02, A.5), one row for each place that could be read otherwise: what the definitions give, and what is wanted. The theorem is in proofs/Battles.antt.
-- Inner. Assumes nothing.
use Rattle.std.specs.Prelude.{ℕ, ◌≡◌, List, [], ◌∷◌, ◌++◌, map, replicate}
use Rattle.cell.specs.Cells.{fresh_cell}
use Rattle.types.specs.Modifier as modifier
use Rattle.types.specs.Mode as mode
use Rattle.program.specs.Program.{lawful, lowest_fault, cells}
use Rattle.metadata.specs.Metadata.{called}
use Rattle.machine.specs.State.{Machine, with_core, Outcome}
use Rattle.machine.specs.Names.{register, numbered}
use Rattle.machine.specs.Queue.{entries, push, started}
use Rattle.machine.specs.Soundness.{sound_header}
use Rattle.machine.specs.Fresh.{fresh}
use Rattle.machine.specs.Place.{placing, place}
use Rattle.machine.specs.Start.{starting, start}
use Rattle.machine.specs.Battles.{Row, bytes, datum, cell}
use Rattle.machine.specs.Inner.Processes.{eight, A, B, call, crowded, dat, with_counts, with_threads, told, leaves}

-- an instruction with no such opcode
abbrev bad : List ℕ
bad = bytes 19 modifier.F mode.Direct 0 mode.Direct 0

-- a header that is not sound: one cell too few
abbrev short : Machine
short = with_core (replicate 7 0) (eight 1)

-- a seventeenth name of 16 that are held
abbrev more : List ℕ
more = call 16

-- what a call gives and leaves: its number, value, writes and pushes, how many names are held, and the core
abbrev leaves_core : Outcome → List ℕ
leaves_core o = o.number ∷ o.value ∷ o.writes ∷ o.pushes ∷ o.machine.header.names.held ∷ o.machine.core

unfoldable pub placings : List Row
unfolding lawful lowest_fault cells register numbered entries push started sound_header fresh placing place starting start
placings =
    -- place: the body lies past the end too, the name is held, nothing is queued; writes are its instructions
    record {
      got = leaves_core (place (eight 1) A (datum 1 2 ++ datum 3 4) 7);
      wanted = 0 ∷ 0 ∷ 2 ∷ 0 ∷ 1 ∷ cell 3 4 ∷ (replicate 6 fresh_cell ++ (cell 1 2 ∷ []));
    }
    ∷ record { got = leaves (place (eight 1) A (datum 1 2) 7); wanted = 0 ∷ 0 ∷ (replicate 2 0 ++ replicate 2 0) }
    -- start: the core stays, an entry of the name's next thread number is pushed; writes 0. A second start has the number 1
    ∷ record { got = leaves_core (start (eight 1) A 7); wanted = 0 ∷ 0 ∷ 0 ∷ 1 ∷ 1 ∷ replicate 8 fresh_cell }
    ∷ record {
      got = leaves (start (start (eight 2) A 7).machine A 3);
      wanted = 0 ∷ 1 ∷ 0 ∷ 7 ∷ 0 ∷ 0 ∷ 3 ∷ 1 ∷ 2 ∷ 0 ∷ 2 ∷ 0 ∷ [];
    }
    -- placing under B, an empty body too, registers it: then A is registered second, and its entry has index 1
    ∷ record {
      got = leaves (start (place (eight 1) B [] 0).machine A 5);
      wanted = 0 ∷ 1 ∷ 1 ∷ 5 ∷ 0 ∷ 0 ∷ 1 ∷ 0 ∷ 1 ∷ [];
    }
    -- an empty name is Warrior0 in both calls: one name
    ∷ record {
      got = let m = (place (start (eight 1) [] 0).machine (called []) (datum 0 0) 4).machine in m.header.names.held ∷ told (entries m);
      wanted = 1 ∷ 0 ∷ 0 ∷ 0 ∷ [];
    }
    -- a refused call registers nothing
    ∷ record {
      got = leaves_core (place (eight 1) A bad 0) ++ leaves_core (start (eight 1) A 8);
      wanted = 4 ∷ 0 ∷ 0 ∷ 0 ∷ 0 ∷ (replicate 8 fresh_cell ++ (5 ∷ 0 ∷ 0 ∷ 0 ∷ 0 ∷ replicate 8 fresh_cell));
    }
    -- count and next thread number of a name only placed under are 0, whatever stood there
    ∷ record { got = leaves (place (with_threads (replicate 16 7) (with_counts (replicate 16 9) (eight 1))) A [] 0); wanted = 0 ∷ 0 ∷ 0 ∷ 9 ∷ 0 ∷ 7 ∷ [] }
    -- place under a name that holds P, and under one with the last thread number: 0; start: 6. A name only placed under starts with P 1
    ∷ record {
      got =
          (place (dat A (eight 1)).machine A (datum 0 0) 3).number
          ∷ (place (with_threads (replicate 16 4294967295) (dat A (eight 1)).machine) A (datum 0 0) 3).number
          ∷ (start (dat A (eight 1)).machine A 3).number
          ∷ (start (place (eight 1) A (datum 0 0) 3).machine A 3).number
          ∷ [];
      wanted = 0 ∷ 0 ∷ 6 ∷ 0 ∷ [];
    }
    -- order of place: 9, 3, 4 with the lowest index, 5 of a name and of a place, 6 of a seventeenth name alone
    ∷ record {
      got =
          (place short [] (bad ++ replicate 108 0) 8).number
          ∷ (place (eight 1) (replicate 33 65) (bad ++ replicate 108 0) 8).number
          ∷ (place (eight 1) (32 ∷ []) (datum 0 0 ++ bad) 8).number
          ∷ (place (eight 1) (32 ∷ []) (datum 0 0 ++ bad) 8).value
          ∷ (place (crowded 16 (eight 1)) (32 ∷ []) (datum 0 0) 0).number
          ∷ (place (crowded 16 (eight 1)) more (datum 0 0) 8).number
          ∷ (place (crowded 16 (eight 1)) more (datum 0 0) 7).number
          ∷ (place (crowded 16 (eight 1)) (call 3) (datum 0 0) 7).number
          ∷ [];
      wanted = 9 ∷ 3 ∷ 4 ∷ 1 ∷ 5 ∷ 5 ∷ 6 ∷ 0 ∷ [];
    }
    -- order of start: 9, 5 of a name and of a place, 6 of a seventeenth name and of one that holds P, and then 8
    ∷ record {
      got =
          let worn = with_threads (replicate 16 4294967295) (crowded 16 (eight 2)) in
          (start short (32 ∷ []) 8).number
          ∷ (start (crowded 16 (eight 1)) (32 ∷ []) 0).number
          ∷ (start (crowded 16 (eight 1)) more 8).number
          ∷ (start (crowded 16 (eight 1)) more 7).number
          ∷ (start worn more 7).number
          ∷ (start (with_threads (replicate 16 4294967295) (crowded 16 (eight 1))) A 7).number
          ∷ (start worn A 7).number
          ∷ [];
      wanted = 9 ∷ 5 ∷ 5 ∷ 6 ∷ 6 ∷ 6 ∷ 8 ∷ [];
    }
    ∷ []

-- every row gives what is wanted
abbrev pub PlacingsHold : Type 0
PlacingsHold = map (λ (r : Row). r.got) placings ≡ map (λ (r : Row). r.wanted) placings
