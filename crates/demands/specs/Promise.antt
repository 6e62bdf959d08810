-- What each call promises, as a proposition in the words of its `ensures`: the call, the record before, what was given and the record after.
-- specs/Kept.antt says of the code that these are its contracts. 'Exported' are the calls of crate sumacadze, in numbers: crate sumacadze_c gives each its symbol, under the same clauses.
-- Believed. Assumes nothing.
use Rattle.std.specs.Prelude.{ℕ, ◌*◌, ◌≡◌, List, ℤ, Result, IfOk}
use Rattle.answer.specs.declared.Error.{Error}
use Rattle.answer.specs.Numbers.{Told, gives, told}
use Rattle.cell.specs.declared.Cell.{Cell}
use Rattle.cell.specs.Cells.{unpacked}
use Rattle.types.specs.Defaults.{default_of, defaulted}
use Rattle.machine.specs.declared.Rules.{Rules}
use Rattle.machine.specs.State.{Machine}
use Rattle.machine.specs.Fresh.{fresh}
use Rattle.machine.specs.Place.{place}
use Rattle.machine.specs.Start.{start}
use Rattle.machine.specs.Step.{step}
use Rattle.machine.specs.Run.{run, read}
use Rattle.lent.specs.Given.{Given, given_by}
use Rattle.account.specs.Calls.{Call, Place, Start, Step, Run}
use Rattle.account.specs.Lists.{Listed, One, LoadMatch}
use Rattle.match_format.specs.Format.{Warrior}
use Rattle.match_format.specs.Faults.{fault, fault_at}
use Rattle.match_file.specs.declared.Contents.{Contents}
use Rattle.match_file.specs.declared.Line.{Line}
use Rattle.match_file.specs.Reading.{told_by, unless_malformed, zeroed, emptied, contents_in, warriors_in, size_in, line_at, line_in, name_start, name_length, body_start, count_of, warrior_of}
use Rattle.match_load.specs.Loading.{load_match}
use Rattle.write_checks.specs.Refusal.{Written}
use Rattle.match_write.specs.Writing.{write_first, write_added}
use Rattle.sumacadze.specs.declared.file.Line as exported

-- place, start, step and run, by value and exported: the answer, the writes, the steps and every field and memory of the record
abbrev pub Promise : Call → Machine → Given → Type 0
Promise (Place name body at) m g = g ≡ given_by (place m name body at)
Promise (Start name at) m g = g ≡ given_by (start m name at)
Promise Step m g = g ≡ given_by (step m)
Promise (Run ceiling) m g = g ≡ given_by (run ceiling m)

-- a match loaded in one call, by value and exported: the same, and the number of the warrior at which it stopped
abbrev pub MatchPromise : List ℕ → Machine → Given → ℕ → Type 0
MatchPromise f m g warrior = (g ≡ given_by (load_match m f).outcome) × (warrior ≡ (load_match m f).warrior)

-- a call of a list
abbrev pub ListedPromise : Listed → Machine → Given → Type 0
ListedPromise (One c) m g = Promise c m g
ListedPromise (LoadMatch f) m g = (warrior : ℕ) × MatchPromise f m g warrior

-- fresh, by value
abbrev pub FreshPromise : Rules → List ℕ → List ℕ → Given → Type 0
FreshPromise rules core queue g = g ≡ given_by (fresh rules core queue)

-- exported: the number and the record
abbrev pub FreshNumber : Rules → List ℕ → List ℕ → ℕ → Machine → Type 0
FreshNumber rules core queue number m = (number ≡ (fresh rules core queue).number) × (m ≡ (fresh rules core queue).machine)

-- cell reading, by value: the answer, and the cell where it is not refused
abbrev pub CellPromise : Machine → ℤ → Result Cell Error → Type 0
CellPromise m z r = (told r ≡ gives (read m z).number 0) × IfOk r (λ c. c ≡ unpacked (read m z).value)

-- exported: the number and the cell
abbrev pub CellNumber : Machine → ℤ → ℕ → Cell → Type 0
CellNumber m z number cell = (number ≡ (read m z).number) × (cell ≡ unpacked (read m z).value)

-- the default modifier of an opcode and two modes: it, or the error
abbrev pub DefaultPromise : ℕ → ℕ → ℕ → Result ℕ Error → Type 0
DefaultPromise opcode a b r = r ≡ defaulted (default_of opcode a b)

-- a match file read, by value: how many warriors it has and M, or the error
abbrev pub FilePromise : List ℕ → Result Contents Error → Type 0
FilePromise f r = r ≡ unless_malformed (fault f) (contents_in f)

-- exported: the answer, how many warriors it has, and M
abbrev pub FileNumbers : List ℕ → Told → ℕ → ℕ → Type 0
FileNumbers f told warriors size =
    (told ≡ told_by (fault f)) × (warriors ≡ zeroed (fault f) (warriors_in f)) × (size ≡ zeroed (fault f) (size_in f))

-- the line of warrior k, by value: it, or the error
abbrev pub LinePromise : List ℕ → ℕ → Result Line Error → Type 0
LinePromise f k r = r ≡ unless_malformed (fault_at f k) (line_in f k)

-- exported: which bytes of the file are its name and its body, its origin and its place
abbrev pub LineNumbers : List ℕ → ℕ → exported.Line → Type 0
LineNumbers f k l =
    (gives l.number l.position ≡ told_by (fault_at f k))
    × (l.name_start ≡ zeroed (fault_at f k) (name_start (line_at k)))
    × (l.name_length ≡ zeroed (fault_at f k) (name_length f (line_at k)))
    × (l.body_start ≡ zeroed (fault_at f k) (body_start f (line_at k)))
    × (l.body_length ≡ zeroed (fault_at f k) (12 * count_of f k))
    × (l.origin ≡ zeroed (fault_at f k) (warrior_of f k).origin)
    × (l.place ≡ zeroed (fault_at f k) (warrior_of f k).place)

-- its name and its body: those very parts of the file
abbrev pub NamePromise : List ℕ → ℕ → List ℕ → Type 0
NamePromise f k name = name ≡ emptied (fault_at f k) (warrior_of f k).name

abbrev pub BodyPromise : List ℕ → ℕ → List ℕ → Type 0
BodyPromise f k body = body ≡ emptied (fault_at f k) (warrior_of f k).body

-- a match file written from M and one warrior, and copied with one added: the answer, the length written, and the output
abbrev pub FirstPromise : ℕ → Warrior → List ℕ → Written → Type 0
FirstPromise size w output g = g ≡ write_first size w output

abbrev pub AddedPromise : List ℕ → Warrior → List ℕ → Written → Type 0
AddedPromise f w output g = g ≡ write_added f w output
