-- The cells of a core looked at one by one, from i on.
-- Assumes nothing.
use mathlib.Core.Path.{◌≡◌, ◌∙◌, sym, ap}
use mathlib.Core.Bool.{true}
use mathlib.Core.List.{List}
use Prim.Native.Nat.{ℕ, ◌+◌, ◌<◌, ◌≤◌}
use native.Mathlib.Omega.{arith}
use lib.ListN.{length, get_or}
use lib.Seq.{take-length}
use Rattle.laws.specs.Lists.{every, table}
use Rattle.laws.proofs.Loops.{EveryFrom, every-further, every-over, take-table}
use Rattle.cell.specs.Cells.{sound_word}

module _ (core : List ℕ) (size : ℕ) where
  abbrev pub SoundFrom : ℕ → Type 0
  SoundFrom i = EveryFrom (λ (k : ℕ). get_or core k 0) (sound_word size) (length core) i

  all-of-them : every (sound_word size) (table (λ (k : ℕ). get_or core k 0) 0 (length core)) ≡ every (sound_word size) core
  all-of-them = ap (every (sound_word size)) (sym (take-table 0 core (length core) (omega arith)) ∙ take-length core)

  module _ (i : ℕ) (so_far : SoundFrom i) where
    pub further : i < length core → sound_word size (get_or core i 0) ≡ true → SoundFrom (i + 1)
    further h e = every-further (λ (k : ℕ). get_or core k 0) (sound_word size) (length core) i so_far h e

    pub over : length core ≤ i → true ≡ every (sound_word size) core
    over h = every-over (λ (k : ℕ). get_or core k 0) (sound_word size) (length core) i so_far h ∙ all-of-them
