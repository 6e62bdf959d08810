-- A name, byte by byte, and what a warrior is called.
-- Assumes nothing.
use mathlib.Core.Path.{◌≡◌, refl}
use mathlib.Core.Bool.{true}
use mathlib.Core.List.{List, [], ◌∷◌}
use Prim.Native.Nat.{ℕ, ◌≤◌}
use native.Mathlib.Omega.{arith}
use lib.ListN.{length}
use lib.Dec.{leb}
use borrow.Author.Tests.{le-leb, leb-true}
use Rattle.std.specs.List.{list_all}
use Rattle.laws.specs.Lists.{every}
use Rattle.laws.proofs.Every.{all-every}
use Rattle.laws.proofs.Tests.{both}
use Rattle.metadata.specs.Metadata.{valid_byte, valid_name, called}

-- a name of at most 32 bytes is valid where its bytes are
pub short : (name : List ℕ) → length name ≤ 32 → list_all valid_byte name ≡ valid_name name
short name h = simp (le-leb (length name) 32 h) (all-every valid_byte name)

-- a valid name: its length, and its bytes
pub valid-name : (name : List ℕ) → valid_name name ≡ true → (length name ≤ 32) × (every valid_byte name ≡ true)
valid-name name e = let p = both (leb (length name) 32) (every valid_byte name) e in (leb-true (length name) 32 p.0, p.1)

-- what a warrior is called has 1 to 32 bytes, all valid, where its name is valid
pub called-valid : (name : List ℕ) → valid_name name ≡ true
    → (length (called name) ≤ 32) × (1 ≤ length (called name)) × (every valid_byte (called name) ≡ true)
called-valid [] e = (omega arith, omega arith, refl)
called-valid (b ∷ bs) e =
    let p = valid-name (b ∷ bs) e in
    (p.0, omega arith, p.1)
