-- The keys by which unlike names are told apart before their bytes are compared.
-- Inner. Assumes nothing.
use Rattle.std.specs.Prelude.{ℕ, ◌+◌, ◌-◌, ◌*◌, ◌%◌, ◌<◌, ◌≡◌, cond, List, eqb, ltb, length, get_or}
use Rattle.laws.specs.Lists.{tally, table}
use Rattle.machine.specs.declared.Roster.{Roster}
use Rattle.machine.specs.Names.{name_at}

-- the length, and the first byte, the last but one and the last; 0 where there is none
abbrev pub key_of : List ℕ → ℕ
key_of name =
    length name % 256 + get_or name 0 0 * 256 + cond (ltb (length name) 2) 0 (get_or name (length name - 2) 0) * 65536
    + get_or name (length name - 1) 0 * 16777216

-- the key of each name held
abbrev pub Keyed : Roster → List ℕ → ℕ → Type 0
Keyed names keys held = (k : ℕ) → k < held → get_or keys k 0 ≡ key_of (name_at names k)

-- how many of the sixteen keys are this one
unfoldable pub times_in : List ℕ → ℕ → ℕ
times_in keys key = tally (λ (k : ℕ). eqb k key) (table (λ (k : ℕ). get_or keys k 0) 0 16)
