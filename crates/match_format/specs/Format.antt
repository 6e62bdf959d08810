-- What a match file is: which bytes, in which order (01, 'Match file').
-- Believed. Assumes nothing.
use Rattle.std.specs.Prelude.{ℕ, ◌+◌, ◌-◌, ◌*◌, ◌≤◌, ◌<◌, ◌≡◌, true, List, [], ◌∷◌, ◌++◌, length, get_or, replicate}
use Rattle.encoding.specs.Bytes.{part, value, spelled}
use Rattle.program.specs.Program.{instructions}
use Rattle.metadata.specs.Metadata.{valid_name}
use Rattle.metadata.specs.declared.Warrior.{Warrior as Handed}

-- a byte is below 256
abbrev pub Bytes : List ℕ → Type 0
Bytes f = (i : ℕ) → get_or f i 0 < 256

-- the number in the k bytes of f from position p on
abbrev pub number : List ℕ → ℕ → ℕ → ℕ
number f p k = value (part f p k)

-- a warrior as a file has it; the body is its instructions, 12 bytes each
pub record Warrior : Type 0 where
  pub name : List ℕ
  pub body : List ℕ
  pub origin : ℕ
  pub place : ℕ

abbrev pub warrior : List ℕ → List ℕ → ℕ → ℕ → Warrior
warrior name body origin place = record { name = name; body = body; origin = origin; place = place }

-- one as it is handed in
abbrev pub handed : Handed → Warrior
handed w = warrior w.name.now w.body.now w.origin w.place

-- a line of 43 bytes: name length (1), name (32, zero padded), body start (4), instruction count (2), origin (2), place (2)
unfoldable pub line : List ℕ → ℕ → ℕ → ℕ → ℕ → List ℕ
line name start count origin place =
    length name
    ∷ (name ++ (replicate (32 - length name) 0 ++ (spelled 4 start ++ (spelled 2 count ++ (spelled 2 origin ++ spelled 2 place)))))

-- a line for each warrior; the next body starts at start
abbrev pub lines : ℕ → List Warrior → List ℕ
lines start [] = []
lines start (w ∷ ws) = line w.name start (instructions w.body) w.origin w.place ++ lines (start + length w.body) ws

-- bodies follow in that order without gaps
abbrev pub bodies : List Warrior → List ℕ
bodies [] = []
bodies (w ∷ ws) = w.body ++ bodies ws

-- contents first: warriors n (1 byte), M (2), a zero byte; then n lines of 43 bytes; bodies follow to the file's end
unfoldable pub file : ℕ → List Warrior → List ℕ
file size ws = length ws ∷ (spelled 2 size ++ (0 ∷ (lines (4 + 43 * length ws) ws ++ bodies ws)))

-- a warrior that a file can hold: the name obeys 5's rule, instructions are whole, and each number fits its bytes
pub record Fits (w : Warrior) : Type 0 where
  pub name : valid_name w.name ≡ true
  pub body : length w.body ≡ 12 * instructions w.body
  pub count : instructions w.body < 65536
  pub origin : w.origin < 65536
  pub place : w.place < 65536

abbrev pub AllFit : List Warrior → Type 0
AllFit [] = Unit {0}
AllFit (w ∷ ws) = Fits w × AllFit ws

-- bytes that are the file of some M and of 1 to 16 warriors
pub record IsFile (f : List ℕ) : Type 0 where
  pub size : ℕ
  pub warriors : List Warrior
  pub small : size < 65536
  pub some : 1 ≤ length warriors
  pub few : length warriors ≤ 16
  pub fit : AllFit warriors
  pub is : f ≡ file size warriors
