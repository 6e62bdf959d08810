-- A match file written (01, 'Match file').
-- Believed. Assumes nothing.
use Rattle.std.specs.Prelude.{ℕ, None, ◌<◌, ◌≡◌, List, [], ◌∷◌, ◌++◌, length}
use Rattle.machine.specs.State.{Check, first}
use Rattle.match_format.specs.Format.{Warrior, file}
use Rattle.match_format.specs.Faults.{lines_fault, fault, fault_at}
use Rattle.match_file.specs.Reading.{size_in, warriors_of}
use Rattle.match_file.specs.Refusal.{malformed}
use Rattle.write_checks.specs.Refusal.{Written, settle, write_checks}

-- order of writing: 13, 1, 3, 4, 5, 6; of M and the new warrior w, beside earlier warriors ws, in an output of that many bytes
abbrev pub checks : ℕ → List Warrior → Warrior → ℕ → List Check
checks size ws w room = write_checks size (length ws) w.name w.body w.place (length (file size (ws ++ (w ∷ [])))) room

unfoldable pub write : ℕ → List Warrior → Warrior → List ℕ → Written
write size ws w output = settle (first (checks size ws w (length output))) (file size (ws ++ (w ∷ []))) output

-- a file from M and one warrior
abbrev pub write_first : ℕ → Warrior → List ℕ → Written
write_first size w output = write size [] w output

-- a copy of a file that reads, with one added
unfoldable pub write_added : List ℕ → Warrior → List ℕ → Written
write_added f w output =
    settle (first (malformed (fault f) ∷ checks (size_in f) (warriors_of f) w (length output))) (file (size_in f) (warriors_of f ++ (w ∷ []))) output

-- n lines of a file that read, with bodies from a position to its end; none before the first warrior
pub record Earlier (f : List ℕ) (n start : ℕ) : Type 0 where
  pub lines : lines_fault f 4 start n ≡ None
  pub numbers : (i : ℕ) → i < n → fault_at f i ≡ None
