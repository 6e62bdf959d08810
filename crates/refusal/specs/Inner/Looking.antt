-- The other cells that an instruction reads, looked at and nothing written: where both limits are M an operand's two, and the word that it leaves at its location; and the rows of a step that look at cells.
-- Inner. Assumes nothing.
use Rattle.std.specs.Prelude.{ℕ, Bool, true, not, ◌&&◌, List, [], ◌∷◌, get_or}
use Rattle.laws.specs.Lists.{among, every}
use Rattle.offset.specs.Offset.{ahead}
use Rattle.cell.specs.Cells.{packed, unpacked, sound_word, number, with_number}
use Rattle.types.specs.declared.field.Field.{Field}
use Rattle.types.specs.Opcode.{LDP, STP}
use Rattle.machine.specs.State.{Check, check}
use Rattle.machine.specs.Pointers.{Reach, here, there, through, Shift, keeps, lowers, raises, reaches, shifts, field_of, less, more, Site}
use Rattle.machine.specs.Whole.{used, former_at}
use Rattle.machine.specs.Instruction.{fetched, seen_at}

-- the cell at the pointer, of a mode that goes through a number of the word at the location; `#` points at PC, `$` at the location
abbrev pub sound_pointed : Reach → Shift → ℕ → List ℕ → ℕ → ℕ → Bool
sound_pointed here t size core location w = true
sound_pointed there t size core location w = true
sound_pointed (through f) t size core location w = sound_word size (get_or core (ahead size location (used t size (number f (unpacked w)))) 0)

-- both cells of an operand whose location has that word
unfoldable pub sound_both : ℕ → List ℕ → ℕ → ℕ → ℕ → Bool
sound_both size core location w mode = sound_word size w && sound_pointed (get_or reaches mode here) (get_or shifts mode keeps) size core location w

-- the word that an operand leaves at its location
abbrev pub left_by : Shift → ℕ → ℕ → Field → ℕ
left_by keeps size w f = w
left_by lowers size w f = packed (with_number f (less size (number f (unpacked w))) (unpacked w))
left_by raises size w f = packed (with_number f (more size (number f (unpacked w))) (unpacked w))

unfoldable pub left : ℕ → ℕ → ℕ → ℕ
left size w mode = left_by (get_or shifts mode keeps) size w (field_of (get_or reaches mode here))

-- the other cells read where both limits are M
abbrev pub former_sound : Site → List ℕ → Bool
former_sound s core = every (sound_word s.rules.size) (former_at s core).seen

-- the other cells read
abbrev pub sound_seen_at : Site → List ℕ → Bool
sound_seen_at s core = every (sound_word s.rules.size) (seen_at s core)

-- the last three rows of a step: 9 (executed cell), 10, 9 (other cells read)
abbrev pub cell_checks : Site → List ℕ → List Check
cell_checks s core =
    check (not (sound_word s.rules.size (get_or core s.pc 0))) 9
    ∷ check (among (LDP ∷ STP ∷ []) (fetched core s.pc).opcode) 10
    ∷ check (not (sound_seen_at s core)) 9
    ∷ []
