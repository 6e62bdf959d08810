-- Each number that fresh, place and start can give occurs: one table of calls on small machines, with the number and value of each answer.
-- Assumes nothing.
use mathlib.Core.Path.{◌≡◌, refl}
use mathlib.Core.List.{List, [], ◌∷◌, ◌++◌, map}
use Prim.Native.Nat.{ℕ, zero, suc, ◌+◌}
use lib.ListN.{replicate}
use Rattle.answer.specs.Numbers.{gives}
use Rattle.cell.specs.Cells.{sound_word}
use Rattle.program.specs.Program.{lawful, lowest_fault, cells}
use Rattle.machine.specs.State.{of_size, Machine, Outcome, told_by}
use Rattle.machine.specs.Names.{register, numbered}
use Rattle.machine.specs.Queue.{push, started}
use Rattle.machine.specs.Soundness.{sound_header}
use Rattle.machine.specs.Fresh.{blank, fresh}
use Rattle.machine.specs.Place.{placing, place}
use Rattle.machine.specs.Start.{starting, start}
use Rattle.lent.specs.Parts.{names_of, header_of, machine_of}

-- DAT.F $0,$0, and an instruction with no such opcode
abbrev pub dat : List ℕ
dat = 0 ∷ 4 ∷ 1 ∷ 1 ∷ replicate 8 0

abbrev pub bad : List ℕ
bad = 19 ∷ 4 ∷ 1 ∷ 1 ∷ replicate 8 0

-- a fresh machine of 2 cells
abbrev pub two : ℕ → Machine
two processes = (fresh (of_size 2 processes) (0 ∷ 0 ∷ []) (replicate 32 0)).machine

-- n names of one byte each, placed under one after the other
abbrev pub crowd : ℕ → Machine → Machine
crowd zero m = m
crowd (suc n) m = crowd n (place m ((65 + n) ∷ []) dat 0).machine

-- its record with one cell too few
abbrev pub unsound : Machine
unsound = machine_of (0 ∷ []) (replicate 16 0) (blank (of_size 2 1))

-- one name with the greatest next thread number, and no entry
abbrev pub worn : Machine
worn = machine_of (two 1).core (replicate 16 0) (header_of (of_size 2 1) (names_of 1 (65 ∷ replicate 511 0) (1 ∷ replicate 15 0))
    (record { ring = record { head = 0; length = 0 }; steps = 0; counts = replicate 16 0; threads = 4294967295 ∷ replicate 15 0 }))

unfoldable pub outcomes : List Outcome
unfolding sound_word lawful lowest_fault cells register numbered push started sound_header fresh placing place starting start
outcomes =
    fresh (of_size 2 1) (0 ∷ 0 ∷ []) (replicate 16 0)
    ∷ fresh (of_size 0 1) [] (replicate 16 0)
    ∷ fresh (of_size 2 1) (0 ∷ []) (replicate 16 0)
    ∷ fresh (record { size = 2; read = 2; write = 0; processes = 1 }) (0 ∷ 0 ∷ []) (replicate 16 0)
    ∷ place (two 1) [] dat 0
    ∷ place unsound [] dat 0
    ∷ place (two 1) [] (dat ++ (dat ++ dat)) 0
    ∷ place (two 1) [] (dat ++ bad) 0
    ∷ place (two 1) (32 ∷ []) dat 0
    ∷ place (two 1) [] dat 2
    ∷ place (crowd 16 (two 1)) (97 ∷ []) dat 0
    ∷ start (two 1) [] 1
    ∷ start unsound [] 0
    ∷ start (two 1) (32 ∷ []) 0
    ∷ start (two 1) [] 2
    ∷ start (start (two 1) [] 0).machine [] 0
    ∷ start (crowd 16 (two 1)) (97 ∷ []) 0
    ∷ start worn (65 ∷ []) 0
    ∷ []

pub each-occurs : map told_by outcomes
    ≡ gives 0 0 ∷ gives 1 0 ∷ gives 2 0 ∷ gives 14 0
    ∷ gives 0 0 ∷ gives 9 0 ∷ gives 3 0 ∷ gives 4 1 ∷ gives 5 0 ∷ gives 5 0 ∷ gives 6 0
    ∷ gives 0 0 ∷ gives 9 0 ∷ gives 5 0 ∷ gives 5 0 ∷ gives 6 0 ∷ gives 6 0 ∷ gives 8 0 ∷ []
unfolding outcomes
each-occurs = refl
