-- Files written, and each refusal of writing: each row has what the definitions give (number, value, length, output), and what 01 says.
-- The theorem is in proofs/Examples.antt.
-- Inner. Assumes nothing.
use Rattle.std.specs.Prelude.{ℕ, List, [], ◌∷◌, ◌++◌, set, take, replicate}
use Rattle.program.specs.Program.{lawful, lowest_fault}
use Rattle.match_format.specs.Format.{warrior, line, file}
use Rattle.match_format.specs.Faults.{line_fault, lines_fault, fault}
use Rattle.match_format.specs.Inner.Damaged.{mov, dat, imp, unnamed, sound}
use Rattle.write_checks.specs.Refusal.{Written}
use Rattle.match_write.specs.Writing.{write, write_first, write_added}

pub record Row : Type 0 where
  pub got : List ℕ
  pub wanted : List ℕ

abbrev pub all : Written → List ℕ
all g = g.told.number ∷ g.told.value ∷ g.length ∷ g.output

-- an output of 200 bytes
abbrev pub output : List ℕ
output = replicate 200 238

abbrev pub refuses : Written → ℕ → ℕ → Row
refuses g number value = record { got = all g; wanted = number ∷ value ∷ 0 ∷ output }

-- the file of M 8 and one unnamed DAT.F $0,$0 without origin, byte for byte
abbrev pub smallest : List ℕ
smallest =
    (1 ∷ 8 ∷ 0 ∷ 0 ∷ [])
    ++ ((0 ∷ replicate 32 0)
    ++ ((47 ∷ 0 ∷ 0 ∷ 0 ∷ 1 ∷ 0 ∷ 255 ∷ 255 ∷ 0 ∷ 0 ∷ []) ++ (0 ∷ 4 ∷ 1 ∷ 1 ∷ 0 ∷ 0 ∷ 0 ∷ 0 ∷ 0 ∷ 0 ∷ 0 ∷ 0 ∷ [])))

-- a file of 16 warriors without instructions
unfoldable pub full : List ℕ
unfolding line file
full = file 8 (replicate 16 (warrior [] [] 0 0))

unfoldable pub examples : List Row
unfolding lawful lowest_fault line file line_fault lines_fault fault sound full write write_added
examples =
    record { got = all (write_first 8 (warrior [] dat 65535 0) output); wanted = 0 ∷ 0 ∷ 59 ∷ (smallest ++ replicate 141 238) }
    ∷ record { got = all (write_added (file 8000 (imp ∷ [])) unnamed output); wanted = 0 ∷ 0 ∷ 126 ∷ (sound ++ replicate 74 238) }
    -- 13, before all others
    ∷ refuses (write_added (set sound 20 1) (warrior (32 ∷ []) mov 0 9000) output) 13 20
    -- 1, of a file too
    ∷ refuses (write_first 0 (warrior [] mov 0 0) output) 1 0
    ∷ refuses (write_first 46342 (warrior [] mov 0 0) output) 1 0
    ∷ refuses (write_added (set (set sound 1 6) 2 181) (warrior [] mov 0 0) output) 1 0
    -- 3, before 4; a last one cut short counts
    ∷ refuses (write_first 1 (warrior [] (mov ++ (99 ∷ [])) 0 0) output) 3 0
    -- 4, before 5: opcode 19, 255 without a default, a body cut short
    ∷ refuses (write_first 8 (warrior (32 ∷ []) (mov ++ set dat 0 19) 0 0) output) 4 1
    ∷ refuses (write_first 8 (warrior [] (mov ++ (dat ++ set (set dat 0 17) 1 255)) 0 0) output) 4 2
    ∷ refuses (write_first 8 (warrior [] (mov ++ take 11 dat) 0 0) output) 4 1
    -- 5: a byte of 127, 33 bytes, a place not below M
    ∷ refuses (write_first 8 (warrior (33 ∷ 127 ∷ []) mov 0 0) output) 5 0
    ∷ refuses (write_first 8 (warrior (replicate 33 65) mov 0 0) output) 5 0
    ∷ refuses (write_first 8 (warrior [] mov 0 8) output) 5 0
    -- 6: a 17th warrior; an output one byte too short
    ∷ refuses (write_added full (warrior [] [] 0 0) output) 6 0
    ∷ record { got = all (write_first 8 imp (replicate 58 238)); wanted = 6 ∷ 0 ∷ 0 ∷ replicate 58 238 }
    ∷ record { got = all (write_added (file 8000 (imp ∷ [])) unnamed (replicate 125 238)); wanted = 6 ∷ 0 ∷ 0 ∷ replicate 125 238 }
    ∷ []
