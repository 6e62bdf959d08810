-- The number fields of an instruction, and which of them meet by modifier (01, 'One step').
-- Believed. Assumes nothing.
use Rattle.std.specs.Prelude.{ℕ, List, [], ◌∷◌, map}
use Rattle.types.specs.declared.field.Field.{Field}
use Rattle.types.specs.declared.field.Field.TheVariants.{A, B}

-- a's field, and b's field and target
pub record Pair : Type 0 where
  pub from : Field
  pub to : Field

abbrev pub pair : Field → Field → Pair
pair f t = record { from = f; to = t }

-- the seven rows. A: AA. B: BB. AB: A with B. BA: B with A. F: AA then BB. X: B with A, then A with B. I: AA then BB
abbrev pub pairs : List (List Pair)
pairs =
    (pair A A ∷ [])
    ∷ (pair B B ∷ [])
    ∷ (pair A B ∷ [])
    ∷ (pair B A ∷ [])
    ∷ (pair A A ∷ pair B B ∷ [])
    ∷ (pair B A ∷ pair A B ∷ [])
    ∷ (pair A A ∷ pair B B ∷ [])
    ∷ []

-- its first bit in a cell's word: B number in bits 0–15, A number 16–31
abbrev pub first_bit : Field → ℕ
first_bit A = 16
first_bit B = 0

-- the first and the last pair of a row: the same one where the row has one
abbrev pub ends : List Pair → List Field
ends [] = []
ends (p ∷ []) = p.from ∷ p.to ∷ p.from ∷ p.to ∷ []
ends (p ∷ q ∷ ps) = p.from ∷ p.to ∷ q.from ∷ q.to ∷ []

-- those of the seven rows
abbrev pub field_pairs : List (List Field)
field_pairs = map ends pairs
