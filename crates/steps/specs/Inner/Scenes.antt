-- What holds of what an opcode works on: a valid core size, a modifier and a place of it, sound registers, at most two writes.
-- Inner. Assumes nothing.
use Rattle.std.specs.Prelude.{ℕ, ◌≤◌, ◌<◌, ◌≡◌, true}
use Rattle.cell.specs.Cells.{sound_word}

pub record SoundScene (size modifier pc ra rb writes : ℕ) : Type 0 where
  pub valid : size ≤ 46341
  pub row : modifier ≤ 6
  pub place : pc < size
  pub sound_a : sound_word size ra ≡ true
  pub sound_b : sound_word size rb ≡ true
  pub few : writes ≤ 2
