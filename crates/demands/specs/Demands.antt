-- THE MISSION'S THREE DEMANDS, in its order. The program is the code's calls (specs/Promise.antt): that these are the code's own contracts is
-- `CodeKeeps` (specs/Kept.antt). Each demand names the theorem in proofs/ that proves it.
-- Believed. Assumes nothing.
use Rattle.std.specs.Prelude.{ℕ, ◌≡◌, true, false, List, [], ◌∷◌, ℤ, length, Result}
use Rattle.std.proofs.Math.Option.{some}
use Rattle.answer.specs.declared.Error.{Error}
use Rattle.answer.specs.Numbers.{Told, gives, told}
use Rattle.cell.specs.declared.Cell.{Cell}
use Rattle.machine.specs.Run.{Ceiling}
use Rattle.machine.specs.declared.Rules.{Rules}
use Rattle.machine.specs.State.{Machine}
use Rattle.machine.specs.Soundness.{fresh_checks}
use Rattle.machine.specs.Battles.{BattlesHold}
use Rattle.machine.specs.Fresh.{fresh, lent}
use Rattle.machine.specs.Place.{place_checks}
use Rattle.machine.specs.Start.{start_checks}
use Rattle.machine.specs.Step.{step_checks, executes}
use Rattle.machine.specs.Whole.{Unlimited, Whole}
use Rattle.machine.specs.ProcessLimit.{ProcessLimit}
use Rattle.lent.specs.Given.{Given}
use Rattle.account.specs.Calls.{Place, Start, Step, Run, left, reported}
use Rattle.account.specs.Lists.{outcome_of, logged_of, Spread}
use Rattle.account.specs.Account.{Account}
use Rattle.account.specs.Endings.{NoEntryLeft, NoEntryLeftSays, RunsOn, EndedOne, AnswerSays, NeverNine, ReadingDone}
use Rattle.draft.specs.Departures.{departs}
use Rattle.draft.specs.Agreement.{Drafted, Agreement}
use Rattle.reference.specs.Core.{Core, new}
use Rattle.reference.specs.Compared.{SameCompared}
use Rattle.reference.specs.Refinement.{Domain, Refinement}
use Rattle.match_format.specs.Format.{Warrior}
use Rattle.match_format.specs.Faults.{fault}
use Rattle.match_file.specs.declared.Contents.{Contents}
use Rattle.match_file.specs.declared.Line.{Line}
use Rattle.match_file.specs.Reading.{size_in, warriors_of}
use Rattle.match_file.specs.Refusal.{malformed}
use Rattle.write_checks.specs.Refusal.{Written}
use Rattle.match_write.specs.Writing.{checks}
use Rattle.sumacadze.specs.declared.file.Line as exported
use Rattle.round_trip.specs.RoundTrip.{FirstReads, AddedReads, WritesBack}
use Rattle.demands.specs.Promise.{Promise, MatchPromise, FreshPromise, FreshNumber, CellPromise, CellNumber, DefaultPromise, FilePromise, FileNumbers, LinePromise, LineNumbers, FirstPromise, AddedPromise}
use Rattle.demands.specs.Kept.{CodeKeeps}
use Rattle.demands.specs.Made.{JustMade, Reply, Made, calls, last, written}
use Rattle.demands.specs.Groups.{Group, GroupsMade, compared, GroupsAgree}
use Rattle.demands.specs.Refusals.{Refused, FreshRefused, CellRefused, CellZero, RunRefused, MatchRefused, DefaultRefused, FileRefused, FileZero, LineRefused, WriteRefused}

-- DEMAND 1. A call refuses by 01's numbers, in 01's order, and leaves the machine as it was (a run: as its last step left it; a match loaded in one
-- call: as the places and starts before the refused one left it); what no row names is accepted.
-- That a call ends and stays inside the lent memory holds by the language, of every function that is proved; `Keeps` says it of each of these.
-- The theorem is `demand-1` (proofs/Demands.antt)
pub record Demand1 : Type 0 where
  -- Fresh: 1, 2, 14
  pub fresh : (rules : Rules) (core queue : List ℕ) (g : Given) → FreshPromise rules core queue g → Refused (fresh_checks rules core queue) (0 ∷ []) (lent core queue) g
  pub fresh_exported : (rules : Rules) (core queue : List ℕ) (number : ℕ) (m : Machine) → FreshNumber rules core queue number m → FreshRefused rules core queue number m
  -- Place: 9 (header), 3, 4, 5, 6
  pub place : (name body : List ℕ) (at : ℕ) (m : Machine) (g : Given) → Promise (Place name body at) m g → Refused (place_checks m name body at) (0 ∷ []) m g
  -- Start: 9 (header), 5, 6, 8
  pub start : (name : List ℕ) (at : ℕ) (m : Machine) (g : Given) → Promise (Start name at) m g → Refused (start_checks m name at) (0 ∷ []) m g
  -- Step: 9 (header), 7, 9 (front entry), 8, 9 (executed cell), 10, 9 (other cells read)
  pub step : (m : Machine) (g : Given) → Promise Step m g → Refused (step_checks m) (0 ∷ 11 ∷ 12 ∷ []) m g
  -- Run: 9 (header), then its steps
  pub run : (ceiling : Ceiling) (m : Machine) (g : Given) → Promise (Run ceiling) m g → RunRefused ceiling m g
  -- A match in one call: 9 (header), 13, 1, then its places and starts
  pub load_match : (f : List ℕ) (m : Machine) (g : Given) (warrior : ℕ) → MatchPromise f m g warrior → MatchRefused f m g warrior
  -- Cell reading: 9 (header), 9 (cell)
  pub get : (m : Machine) (z : ℤ) (r : Result Cell Error) → CellPromise m z r → CellRefused m z (told r).number
  pub get_exported : (m : Machine) (z : ℤ) (number : ℕ) (cell : Cell) → CellNumber m z number cell → CellRefused m z number × CellZero m z cell
  -- Default modifier: 4, index 0
  pub default : (opcode a b : ℕ) (r : Result ℕ Error) → DefaultPromise opcode a b r → DefaultRefused opcode a b (told r)
  -- Reading a match file: 13
  pub read : (f : List ℕ) (r : Result Contents Error) → FilePromise f r → FileRefused f (told r)
  pub read_exported : (f : List ℕ) (t : Told) (warriors size : ℕ) → FileNumbers f t warriors size → FileRefused f t × FileZero f warriors size
  pub read_line : (f : List ℕ) (k : ℕ) (r : Result Line Error) → LinePromise f k r → LineRefused f k (told r)
  pub read_line_exported : (f : List ℕ) (k : ℕ) (line : exported.Line) → LineNumbers f k line → LineRefused f k (gives line.number line.position)
  -- Writing: 13, 1, 3, 4, 5, 6
  pub write_first : (size : ℕ) (w : Warrior) (output : List ℕ) (g : Written) → FirstPromise size w output g → WriteRefused (checks size [] w (length output)) output g
  pub write_added : (f : List ℕ) (w : Warrior) (output : List ℕ) (g : Written) → AddedPromise f w output g
      → WriteRefused (malformed (fault f) ∷ checks (size_in f) (warriors_of f) w (length output)) output g

-- DEMAND 2. The theorem is `demand-2` (proofs/Demands.antt)
pub record Demand2 : Type 2 where
  -- The draft, with the machine's limits, where no departure (crates/draft/specs/Departures.antt) applies: an executed step, in a run too, changes the core as the draft's does and queues
  -- its next places; and so does a step that the program made
  pub draft : Agreement
  pub draft_made : (m : Machine) (g : Given) → Promise Step m g → executes g.told.number ≡ true → departs m ≡ false → Drafted m g.machine
  -- 01's machine: its battles; each function's own contract says that machine's place, start, match in one call, step and run; and so it is with every list of them that
  -- the program made
  pub battles : BattlesHold
  pub code : CodeKeeps
  pub machine : (made : List Reply) (m : Machine) → Made made m → (last made m ≡ left outcome_of (calls made) m) × (written made ≡ reported outcome_of (calls made) m)
  -- The Rust, in its domain, both limits M, a load of it being a place followed by a start: core, queue, thread numbers, counts, steps and ending; and so for
  -- the program
  pub rust : Refinement
  pub rust_calls : SameCompared
  pub rust_made : (rules : Rules) (core queue : List ℕ) (m : Machine) → Unlimited rules → JustMade rules core queue m
      → (c : Core) × (new rules.size ≡ some c) × ((made : List Group) → GroupsMade made m → Domain (compared made m) m → GroupsAgree made m c)
  -- Round trips: what was written reads back
  pub first_reads : FirstReads
  pub added_reads : AddedReads
  -- and what the writer accepts of a file is written back byte for byte
  pub writes_back : WritesBack

-- DEMAND 3. Whatever places, starts, matches loaded in one call, steps and runs the program made, refused ones among them, on a machine that fresh had made: the
-- account holds of the program's last record and of the writes that it reported, against what 01's machine tells of the same calls. That machine is never
-- shown the program's record: it has memories of its own, as long as those lent to fresh. The account's sentences are the fields of `Account`
-- (crates/account/specs/Account.antt).
-- The theorem is `demand-3` (proofs/Demands.antt)
abbrev pub Demand3 : Type 0
Demand3 =
    (rules : Rules) (core queue : List ℕ) (m : Machine) → JustMade rules core queue m
    → (own_core own_queue : List ℕ) → length own_core ≡ length core → length own_queue ≡ length queue
    → (made : List Reply) → Made made m
    → Account (last made m) (written made) (logged_of (calls made) (fresh rules own_core own_queue).machine [])

-- BESIDE THE DEMANDS. A match loaded in one call counts as the places and starts that it made; with both limits M all is as before; the process limit belongs to each warrior; what the mission tells
-- apart, that a name has no entry left and that one entry of a name has ended; and that no call answers 9.
-- The theorem is `facts` (proofs/Demands.antt)
pub record Facts : Type 0 where
  pub spread : Spread
  pub whole : Whole
  pub process_limit : ProcessLimit
  pub no_entry_left : NoEntryLeft
  pub no_entry_left_says : NoEntryLeftSays
  pub runs_on : RunsOn
  pub ended_one : EndedOne
  pub answer_says : AnswerSays
  pub never_nine : NeverNine
  pub reading_done : ReadingDone
