-- Demand 1 call by call: refused by which number, in which order, with the record unchanged; and refused nowhere else.
-- A row of an order is a `Check` (crates/machine/specs/State.antt); each order stands beside its call's definition.
-- Believed. Assumes nothing.
use Rattle.std.specs.Prelude.{ℕ, ◌+◌, ◌-◌, ◌<◌, ◌≡◌, true, false, List, eqb, ℤ, Some, ◌⊎◌}
use Rattle.answer.specs.Numbers.{Told, gives}
use Rattle.laws.specs.Lists.{among}
use Rattle.cell.specs.declared.Cell.{Cell}
use Rattle.cell.specs.Cells.{unpacked}
use Rattle.types.specs.Defaults.{unnamed, default_of}
use Rattle.machine.specs.declared.Rules.{Rules}
use Rattle.machine.specs.State.{Machine, Check, refusal, first, passes}
use Rattle.machine.specs.Soundness.{sound_header, fresh_checks}
use Rattle.machine.specs.Fresh.{lent}
use Rattle.machine.specs.Place.{place_checks, place}
use Rattle.machine.specs.Start.{start_checks}
use Rattle.machine.specs.Step.{step_checks, executes}
use Rattle.machine.specs.Run.{Ceiling, plays, ceiling_of, read_checks}
use Rattle.lent.specs.Given.{Given, given}
use Rattle.match_format.specs.Format.{Bytes, IsFile}
use Rattle.match_format.specs.Faults.{fault, fault_at}
use Rattle.match_file.specs.Reading.{warriors_in, warrior_of}
use Rattle.match_load.specs.Loading.{started_at, loads, match_checks}
use Rattle.write_checks.specs.Refusal.{Written}

-- a call whose order has these rows, lent m, gave g: the first row that applies tells the number and its value, 0 is reported and the record is as it was;
-- and it is answered one of the other numbers exactly where no row applies
pub record Refused (rows : List Check) (others : List ℕ) (m : Machine) (g : Given) : Type 0 where
  pub by : (n v : ℕ) → first rows ≡ refusal n v → g ≡ given (gives n v) 0 0 m
  pub exactly : among others g.told.number ≡ passes rows

-- fresh: what was lent is as it was, and the header is all zero
pub record FreshRefused (rules : Rules) (core queue : List ℕ) (number : ℕ) (m : Machine) : Type 0 where
  pub by : (n v : ℕ) → first (fresh_checks rules core queue) ≡ refusal n v → (number ≡ n) × (m ≡ lent core queue)
  pub exactly : eqb number 0 ≡ passes (fresh_checks rules core queue)

-- cell reading: it is lent nothing that it could change; exported, the cell is all zero
pub record CellRefused (m : Machine) (z : ℤ) (number : ℕ) : Type 0 where
  pub by : (n v : ℕ) → first (read_checks m z) ≡ refusal n v → number ≡ n
  pub exactly : eqb number 0 ≡ passes (read_checks m z)

abbrev pub CellZero : Machine → ℤ → Cell → Type 0
CellZero m z cell = (n v : ℕ) → first (read_checks m z) ≡ refusal n v → cell ≡ unpacked 0

-- a run: 9 (header), then its steps. A refusal inside it is that of the step which it would take next: the steps before are answered 0, and the record is
-- as the last of them left it; and where a row applies to the step after k that are answered 0, it is refused there
pub record RunRefused (ceiling : Ceiling) (m : Machine) (g : Given) : Type 0 where
  pub header : sound_header m ≡ false → g ≡ given (gives 9 0) 0 0 m
  pub inside : sound_header m ≡ true → executes g.told.number ≡ false
      → (first (step_checks g.machine) ≡ refusal g.told.number g.told.value) × ((plays g.steps m).number ≡ 0) × (g.machine ≡ (plays g.steps m).machine)
  pub there : sound_header m ≡ true → (k : ℕ) → k < ceiling_of ceiling - m.header.steps → (plays k m).number ≡ 0
      → (n v : ℕ) → first (step_checks (plays k m).machine) ≡ refusal n v → (g.told ≡ gives n v) × (g.steps ≡ k) × (g.machine ≡ (plays k m).machine)

-- warrior k of a file is refused from a record m on, with an answer, the record left and the writes: by a row that applies to its place, and then nothing is
-- done; or, its place answered 0, by one that applies to its start, and then the body stays placed, with its writes
abbrev pub WarriorRefused : List ℕ → ℕ → Machine → Told → Machine → ℕ → Type 0
WarriorRefused f k m t left writes =
    let w = warrior_of f k in
    let p = place m w.name w.body w.place in
    ((first (place_checks m w.name w.body w.place) ≡ refusal t.number t.value) × (left ≡ m) × (writes ≡ 0))
    ⊎ ((p.number ≡ 0) × (first (start_checks p.machine w.name (started_at f k)) ≡ refusal t.number t.value) × (left ≡ p.machine) × (writes ≡ p.writes))

-- a match loaded in one call: 9 (header), 13, 1, then its places and starts. A refusal inside it is that of the warrior whose number it tells: those before
-- are answered 0, the record is as that warrior's refusal left it, and the writes are theirs and those of its body, if it stays; and where warrior k is
-- refused and those before it are answered 0, the call is refused there
pub record MatchRefused (f : List ℕ) (m : Machine) (g : Given) (warrior : ℕ) : Type 0 where
  pub by : (n v : ℕ) → first (match_checks m f) ≡ refusal n v → (g ≡ given (gives n v) 0 0 m) × (warrior ≡ 0)
  pub inside : passes (match_checks m f) ≡ true → eqb g.told.number 0 ≡ false
      → let o = (loads f 0 warrior m).outcome in
      (writes : ℕ) × (warrior < warriors_in f) × (o.number ≡ 0) × WarriorRefused f warrior o.machine g.told g.machine writes × (g.writes ≡ o.writes + writes)
  pub there : passes (match_checks m f) ≡ true → (k : ℕ) → k < warriors_in f → (loads f 0 k m).outcome.number ≡ 0
      → (t : Told) (left : Machine) (writes : ℕ) → WarriorRefused f k (loads f 0 k m).outcome.machine t left writes
      → (g.told ≡ t) × (warrior ≡ k) × (g.machine ≡ left) × (g.writes ≡ (loads f 0 k m).outcome.writes + writes)

-- the default modifier: 4, index 0, exactly where there is none
pub record DefaultRefused (opcode a b : ℕ) (told : Told) : Type 0 where
  pub by : default_of opcode a b ≡ unnamed → told ≡ gives 4 0
  pub accepted : eqb (default_of opcode a b) unnamed ≡ false → told ≡ gives 0 0

-- reading a match file: 13 with the position of the first fault; accepted are exactly the files of the format; exported, the numbers are zero
pub record FileRefused (f : List ℕ) (told : Told) : Type 0 where
  pub by : (p : ℕ) → fault f ≡ Some p → told ≡ gives 13 p
  pub accepted : Bytes f → IsFile f → told ≡ gives 0 0
  pub only : Bytes f → told ≡ gives 0 0 → IsFile f

abbrev pub FileZero : List ℕ → ℕ → ℕ → Type 0
FileZero f warriors size = (p : ℕ) → fault f ≡ Some p → (warriors ≡ 0) × (size ≡ 0)

-- reading a warrior's line: a warrior number not below n is refused too
pub record LineRefused (f : List ℕ) (k : ℕ) (told : Told) : Type 0 where
  pub by : (p : ℕ) → fault_at f k ≡ Some p → told ≡ gives 13 p
  pub accepted : Bytes f → IsFile f → k < warriors_in f → told ≡ gives 0 0
  pub only : Bytes f → told ≡ gives 0 0 → IsFile f × (k < warriors_in f)

-- writing one: the output is as it was, and the length is 0
pub record WriteRefused (rows : List Check) (output : List ℕ) (g : Written) : Type 0 where
  pub by : (n v : ℕ) → first rows ≡ refusal n v → g ≡ record { told = gives n v; length = 0; output = output }
  pub exactly : eqb g.told.number 0 ≡ passes rows
