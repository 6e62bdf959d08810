-- Match files loaded in one call, and what came of each: accepted, refused by each row of the order, and stopped at a warrior. The theorem is in proofs/Matches.antt.
-- Inner. Assumes nothing.
use Rattle.std.specs.Prelude.{ℕ, ◌*◌, List, [], ◌∷◌, ◌++◌, map, replicate}
use Rattle.cell.specs.Cells.{fresh_cell}
use Rattle.types.specs.Opcode.{NOP}
use Rattle.types.specs.Modifier.{F}
use Rattle.types.specs.Mode.{Direct}
use Rattle.program.specs.Program.{lawful, lowest_fault, cells}
use Rattle.machine.specs.State.{of_size, Machine}
use Rattle.machine.specs.Names.{register, numbered}
use Rattle.machine.specs.Queue.{unpacked_entry, entries, push, started}
use Rattle.machine.specs.Soundness.{sound_header}
use Rattle.machine.specs.Fresh.{blank, fresh}
use Rattle.machine.specs.Place.{placing, place}
use Rattle.machine.specs.Start.{starting, start}
use Rattle.machine.specs.Battles.{word}
use Rattle.match_format.specs.Format.{warrior, line, file}
use Rattle.match_format.specs.Faults.{line_fault, lines_fault, fault}
use Rattle.lent.specs.Parts.{machine_of}
use Rattle.match_load.specs.Loading.{Loads, load_match}

pub record Row : Type 0 where
  pub got : List ℕ
  pub wanted : List ℕ

-- number, value, warrior, writes; names held and queued entries of the machine that is left
abbrev told : Loads → List ℕ
told l =
    let o = l.outcome in
    let h = o.machine.header in
    o.number ∷ o.value ∷ l.warrior ∷ o.writes ∷ h.names.held ∷ h.ring.length ∷ []

-- NOP.F $0,$0, and an instruction with no such opcode
abbrev nop : List ℕ
nop = 16 ∷ 4 ∷ 1 ∷ 1 ∷ replicate 8 0

abbrev bad : List ℕ
bad = 19 ∷ 4 ∷ 1 ∷ 1 ∷ replicate 8 0

-- a fresh machine of 8 cells and that P
abbrev eight : ℕ → Machine
eight processes = (fresh (of_size 8 processes) (replicate 8 0) (replicate (16 * processes) 0)).machine

-- its record with one cell too few
abbrev unsound : Machine
unsound = machine_of (replicate 7 0) (replicate 16 0) (blank (of_size 8 1))

-- a file of M and two warriors: A with one NOP, and B with a body, at 4
abbrev pair : ℕ → List ℕ → List ℕ
pair size body = file size (warrior (65 ∷ []) nop 0 0 ∷ warrior (66 ∷ []) body 0 4 ∷ [])

unfoldable pub matches : List Row
unfolding lawful lowest_fault cells register numbered entries push started sound_header fresh placing place starting start line file line_fault lines_fault fault load_match
matches =
    -- both are loaded
    record { got = told (load_match (eight 4) (pair 8 (nop ++ nop))); wanted = 0 ∷ 0 ∷ 0 ∷ 3 ∷ 2 ∷ 2 ∷ [] }
    -- warrior 1 is refused with 4, index 1: warrior 0 stands, with its write
    ∷ record { got = told (load_match (eight 4) (pair 8 (nop ++ bad))); wanted = 4 ∷ 1 ∷ 1 ∷ 1 ∷ 1 ∷ 1 ∷ [] }
    -- warrior 0 is refused: none stands
    ∷ record { got = told (load_match (eight 4) (file 8 (warrior [] bad 0 0 ∷ warrior [] nop 0 4 ∷ []))); wanted = 4 ∷ 0 ∷ 0 ∷ 0 ∷ 0 ∷ 0 ∷ [] }
    -- three warriors, P 1, the second of the first's name: it stops there, before the third is placed
    ∷ record {
      got = told (load_match (eight 1) (file 8 (warrior (65 ∷ []) nop 0 0 ∷ warrior (65 ∷ []) nop 0 2 ∷ warrior (66 ∷ []) nop 0 4 ∷ [])));
      wanted = 6 ∷ 0 ∷ 1 ∷ 2 ∷ 1 ∷ 1 ∷ [];
    }
    -- warrior 1 has the name of warrior 0, which holds P: its start is refused, and both bodies lie there
    ∷ record { got = told (load_match (eight 1) (file 8 (warrior [] nop 0 0 ∷ warrior [] nop 0 4 ∷ []))); wanted = 6 ∷ 0 ∷ 1 ∷ 2 ∷ 1 ∷ 1 ∷ [] }
    ∷ record { got = (load_match (eight 1) (file 8 (warrior [] nop 0 0 ∷ warrior [] nop 0 4 ∷ []))).outcome.machine.core; wanted = word NOP F Direct 0 Direct 0 ∷ (replicate 3 fresh_cell ++ (word NOP F Direct 0 Direct 0 ∷ replicate 3 fresh_cell)) }
    -- place 7 and origin 3: started at 2; place 7 without an origin: at 7
    ∷ record {
      got = let h = load_match (eight 4) (file 8 (warrior [] nop 3 7 ∷ warrior [] nop 65535 7 ∷ [])) in map (λ w. (unpacked_entry w).place.0) (entries h.outcome.machine);
      wanted = 2 ∷ 7 ∷ [];
    }
    -- an M unlike the machine's, of a core or not
    ∷ record { got = told (load_match (eight 4) (pair 9 nop)); wanted = 1 ∷ 0 ∷ 0 ∷ 0 ∷ 0 ∷ 0 ∷ [] }
    ∷ record { got = told (load_match (eight 4) (pair 0 nop)); wanted = 1 ∷ 0 ∷ 0 ∷ 0 ∷ 0 ∷ 0 ∷ [] }
    -- 13 before 1, and 9 before 13
    ∷ record { got = told (load_match (eight 4) (pair 9 nop ++ (0 ∷ []))); wanted = 13 ∷ 114 ∷ 0 ∷ 0 ∷ 0 ∷ 0 ∷ [] }
    ∷ record { got = told (load_match unsound []); wanted = 9 ∷ 0 ∷ 0 ∷ 0 ∷ 0 ∷ 0 ∷ [] }
    ∷ []
