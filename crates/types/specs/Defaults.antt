-- The default modifier of an instruction that names none (01, 'Cells'; the draft, A.2.1.2).
-- Believed. Assumes nothing.
use Rattle.std.specs.Prelude.{ℕ, Bool, cond, ◌&&◌, [], ◌∷◌, eqb, leb, Option, None, Some, Result, Ok, Err}
use Rattle.answer.specs.declared.Error.{Error}
use Rattle.answer.specs.declared.Error.TheVariants.{InvalidCode}
use Rattle.laws.specs.Lists.{among}
use Rattle.types.specs.Opcode.{DAT, MOV, ADD, SUB, MUL, DIV, MOD, JMP, JMZ, JMN, DJN, CMP, SEQ, SNE, SLT, SPL, NOP, STP}
use Rattle.types.specs.Modifier.{B, AB, F, I}
use Rattle.types.specs.Mode.{Immediate, PostIncIndirectB}

-- in a match file 255 asks for the default; as a default it says that there is none
abbrev pub unnamed : ℕ
unnamed = 255

-- DAT: F. JMP JMZ JMN DJN SPL NOP: B. Else A mode `#`: AB. Else B mode `#`: B.
-- Else MOV CMP SEQ SNE: I; SLT: B; ADD SUB MUL DIV MOD: F; LDP STP: none
abbrev pub default_modifier : ℕ → ℕ → ℕ → ℕ
default_modifier op a b =
    cond (eqb op DAT) F
    (cond (among (JMP ∷ JMZ ∷ JMN ∷ DJN ∷ SPL ∷ NOP ∷ []) op) B
    (cond (eqb a Immediate) AB
    (cond (eqb b Immediate) B
    (cond (among (MOV ∷ CMP ∷ SEQ ∷ SNE ∷ []) op) I
    (cond (eqb op SLT) B
    (cond (among (ADD ∷ SUB ∷ MUL ∷ DIV ∷ MOD ∷ []) op) F
    unnamed))))))

-- codes in range
abbrev pub ranged : ℕ → ℕ → ℕ → Bool
ranged op a b = leb op STP && leb a PostIncIndirectB && leb b PostIncIndirectB

-- the default of these codes, 255 where there is none
abbrev pub default_of : ℕ → ℕ → ℕ → ℕ
default_of op a b = cond (ranged op a b) (default_modifier op a b) unnamed

-- a default modifier, where there is one
abbrev pub given : ℕ → Option ℕ
given modifier = cond (eqb modifier unnamed) None (Some modifier)

-- the same as what a call gives: 4, index 0, where there is none
abbrev pub defaulted : ℕ → Result ℕ Error
defaulted modifier = cond (eqb modifier unnamed) (Err (InvalidCode 0)) (Ok modifier)
