-- The lines that `play` prints (01, 'Match file'): bytes of ASCII, each line ending in byte 10.
-- Believed. Assumes nothing.
use Rattle.std.specs.Prelude.{ℕ, zero, suc, ◌+◌, ◌/◌, ◌%◌, ◌≤◌, ◌≡◌, cond, List, [], ◌∷◌, ◌++◌, eqb, leb, ltb, length, get_or}
use Rattle.std.proofs.lemmas.List.Edits.{sets}
use Rattle.answer.specs.Numbers.{Told}
use Rattle.machine.specs.declared.Header.{Header}
use Rattle.machine.specs.Names.{name_at}

-- decimal digits of a number that has at most k of them
abbrev pub digits : ℕ → ℕ → List ℕ
digits zero n = []
digits (suc k) n = cond (ltb n 10) ((48 + n) ∷ []) (digits k (n / 10) ++ ((48 + n % 10) ∷ []))

-- 20 digits hold every number of 64 bits
unfoldable pub decimal : ℕ → List ℕ
decimal n = digits 20 n

-- a name and its count
unfoldable pub line_of : List ℕ → ℕ → List ℕ
line_of name count = name ++ (32 ∷ (decimal count ++ (10 ∷ [])))

-- name and count for each name in order of registration: of the n names from slot i on
abbrev pub name_lines : Header → ℕ → ℕ → List ℕ
name_lines h i zero = []
name_lines h i (suc n) = line_of (name_at h.names i) (get_or h.counts i 0) ++ name_lines h (i + 1) n

-- refused earlier: one line, the number, and for 13 its position
abbrev pub position : Told → List ℕ
position t = cond (eqb t.number 13) (32 ∷ decimal t.value) []

abbrev pub refusal_text : Told → List ℕ
refusal_text t = decimal t.number ++ (position t ++ (10 ∷ []))

-- answer, steps, writes of the run; then the names
abbrev pub run_text : ℕ → ℕ → ℕ → Header → List ℕ
run_text number steps writes h = decimal number ++ (32 ∷ (decimal steps ++ (32 ∷ (decimal writes ++ (10 ∷ name_lines h 0 h.names.held)))))

-- a header that holds more than 16 names is not printed
abbrev pub run_text_if : ℕ → ℕ → ℕ → Header → List ℕ
run_text_if number steps writes h = cond (leb h.names.held 16) (run_text number steps writes h) []

-- a call on l that leaves m and gives q has put xs at p, inside l
pub record Puts (l m : List ℕ) (p q : ℕ) (xs : List ℕ) : Type 0 where
  pub out : m ≡ sets l p xs
  pub to : q ≡ p + length xs
  pub inside : q ≤ length l
