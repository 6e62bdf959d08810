-- Calls of the writer, one after the other, and what the reader's calls give of a file.
-- Believed. Assumes nothing.
use Rattle.std.specs.Prelude.{ℕ, None, suc, ◌<◌, ◌≡◌, List, [], ◌∷◌, length, get_or, take}
use Rattle.answer.specs.Numbers.{gives}
use Rattle.program.specs.Program.{instructions}
use Rattle.match_format.specs.Format.{Warrior, warrior}
use Rattle.match_format.specs.Faults.{fault, fault_at}
use Rattle.match_file.specs.Reading.{warriors_in, size_in, count_of, warrior_of}
use Rattle.write_checks.specs.Refusal.{Written}
use Rattle.match_write.specs.Writing.{write_first, write_added}

-- the file that a call made: as many bytes of the output as it wrote
abbrev pub made : Written → List ℕ
made g = take g.length g.output

-- a call that answers 0
abbrev pub Done : Written → Type 0
Done g = g.told ≡ gives 0 0

-- the writer accepts M and a warrior, in some output
abbrev pub Accepts : ℕ → Warrior → Type 0
Accepts size w = (output : List ℕ) × Done (write_first size w output)

abbrev pub AllAccepted : ℕ → List Warrior → Type 0
AllAccepted size [] = Unit {0}
AllAccepted size (w ∷ ws) = Accepts size w × AllAccepted size ws

-- warriors added to a file, a call for each; call i is lent the output of that number
abbrev pub add_all : (ℕ → List ℕ) → ℕ → List ℕ → List Warrior → List ℕ
add_all outputs i f [] = f
add_all outputs i f (w ∷ ws) = add_all outputs (suc i) (made (write_added f w (outputs i))) ws

-- M and warriors written by one call with the first warrior, and one more for each other
abbrev pub write_all : (ℕ → List ℕ) → ℕ → List Warrior → List ℕ
write_all outputs size [] = []
write_all outputs size (w ∷ ws) = add_all outputs 1 (made (write_first size w (outputs 0))) ws

-- read past the last warrior
abbrev pub nobody : Warrior
nobody = warrior [] [] 0 0

-- every call of the reader gives what was written: how many warriors, M, and of each warrior name, body, origin, place and count
pub record Reads (f : List ℕ) (size : ℕ) (ws : List Warrior) : Type 0 where
  pub sound : fault f ≡ None
  pub warriors : warriors_in f ≡ length ws
  pub core : size_in f ≡ size
  pub line : (k : ℕ) → k < length ws → fault_at f k ≡ None
  pub warrior : (k : ℕ) → k < length ws → warrior_of f k ≡ get_or ws k nobody
  pub count : (k : ℕ) → k < length ws → count_of f k ≡ instructions (get_or ws k nobody).body
