-- Damaged match files, one or more for each rule of 01's 'Match file': each row has the fault that the definitions give, and the one
-- that 01 asks for. The theorem is in proofs/Damaged.antt.
-- Inner. Assumes nothing.
use Rattle.std.specs.Prelude.{ℕ, Option, Some, None, List, [], ◌∷◌, ◌++◌, set, take, replicate}
use Rattle.encoding.specs.Bytes.{spelled}
use Rattle.match_format.specs.Format.{Warrior, warrior, line, file}
use Rattle.match_format.specs.Faults.{line_fault, lines_fault, fault, fault_at}

pub record Row : Type 0 where
  pub got : Option ℕ
  pub wanted : Option ℕ

abbrev pub row : List ℕ → Option ℕ → Row
row f wanted = record { got = fault f; wanted = wanted }

-- MOV.I $0,$1 and DAT.F $0,$0
abbrev pub mov : List ℕ
mov = 1 ∷ 6 ∷ 1 ∷ 1 ∷ (spelled 4 0 ++ spelled 4 1)

abbrev pub dat : List ℕ
dat = 0 ∷ 4 ∷ 1 ∷ 1 ∷ replicate 8 0

-- a warrior called Imp, and an unnamed one
abbrev pub imp : Warrior
imp = warrior (73 ∷ 109 ∷ 112 ∷ []) mov 0 5

abbrev pub unnamed : Warrior
unnamed = warrior [] (mov ++ dat) 1 4000

-- the file of both: lines at 4 and 47, bodies at 90 and 102, 126 bytes
unfoldable pub sound : List ℕ
unfolding line file
sound = file 8000 (imp ∷ unnamed ∷ [])

unfoldable pub damaged : List Row
unfolding sound line_fault lines_fault fault
damaged =
    row sound None
    -- warriors n, 1–16
    ∷ row [] (Some 0)
    ∷ row (set sound 0 0) (Some 0)
    ∷ row (set sound 0 17) (Some 0)
    -- M is not checked by reading, but may be past the end
    ∷ row (set (set sound 1 0) 2 0) None
    ∷ row (take 2 sound) (Some 2)
    -- a zero byte
    ∷ row (take 3 sound) (Some 3)
    ∷ row (set sound 3 1) (Some 3)
    -- name length
    ∷ row (take 4 sound) (Some 4)
    ∷ row (set sound 4 33) (Some 4)
    -- name: past the end, also where a byte that is there is faulty; a byte below 33 and one above 126
    ∷ row (take 9 sound) (Some 9)
    ∷ row (take 9 (set sound 5 32)) (Some 9)
    ∷ row (set sound 6 32) (Some 6)
    ∷ row (set sound 7 127) (Some 7)
    -- its padding: the first, one within and the last byte
    ∷ row (set sound 8 1) (Some 8)
    ∷ row (set sound 20 255) (Some 20)
    ∷ row (set sound 36 33) (Some 36)
    -- body start: past the end; too low, and wrong in its last byte
    ∷ row (take 40 sound) (Some 40)
    ∷ row (set sound 37 89) (Some 37)
    ∷ row (set sound 40 1) (Some 37)
    -- instruction count, origin and place past the end
    ∷ row (take 42 sound) (Some 42)
    ∷ row (take 43 sound) (Some 43)
    ∷ row (take 46 sound) (Some 46)
    -- the second line: missing, with a name byte, and with a gap before its body
    ∷ row (take 47 sound) (Some 47)
    ∷ row (set sound 48 1) (Some 48)
    ∷ row (set sound 80 103) (Some 80)
    ∷ row (set sound 41 2) (Some 80)
    -- a body past the end; extra bytes
    ∷ row (take 125 sound) (Some 125)
    ∷ row (set sound 84 3) (Some 126)
    ∷ row (set sound 84 1) (Some 114)
    ∷ row (sound ++ (0 ∷ [])) (Some 126)
    -- of two faults the first in file order
    ∷ row (set (set sound 20 1) 3 1) (Some 3)
    ∷ row (set (take 125 sound) 20 1) (Some 20)
    -- a warrior number not below n, tested last
    ∷ record { got = fault_at sound 1; wanted = None }
    ∷ record { got = fault_at sound 2; wanted = Some 0 }
    ∷ record { got = fault_at (set sound 20 1) 2; wanted = Some 20 }
    ∷ []
