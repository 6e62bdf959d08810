-- What a call on a text adds to it.
-- Inner. Assumes nothing.
use Rattle.std.specs.Prelude.{ℕ, ◌≡◌, List, length}
use Rattle.printing.specs.declared.text.Text.{Text}
use Rattle.printing.specs.Text.{Puts}

-- a call on a text has put xs at its end, in the same memory
pub record Adds (old new : Text) (xs : List ℕ) : Type 0 where
  pub same : new.memory.ghost_name ≡ old.memory.ghost_name
  pub kept : length new.memory.now ≡ length old.memory.now
  pub puts : Puts old.memory.now new.memory.now old.length new.length xs
