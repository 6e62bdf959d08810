-- The code keeps its promises: each public call's own contract, as the checker makes it of the text in src/, is the promise of specs/Promise.antt.
-- The proofs are in proofs/Kept.antt: each is the call's own theorem, and nothing else.
-- Believed. Assumes nothing.
use seplogic.Ra.Ura.{Ura}
use prog.Model.{Model}
use prog.Wired.{Code, Wired}
use mir.Syntax.{Callee}
use types.Logic.{Logic}
use contract.Lifetimes.{Lfts}
use contract.Notation as notation
use contract.Running.{Running}
use denote.Triple.Entry.{Args, Res}
use denote.Triple.Spec.{Meets}
use denote.Triple.Clauses.{Ended, AtExit, Clauses, closing}
use Rattle.answer.specs.Numbers.{told, gives}
use Rattle.lent.specs.Parts.{machine_of}
use Rattle.lent.specs.Given.{given}
use Rattle.account.specs.Calls.{Place, Start, Step, Run}
use Rattle.match_format.specs.Format.{handed}
use Rattle.write_checks.specs.Refusal as writing
use Rattle.sumacadze.specs.Report.{ceiling_if, cell_of}
use Rattle.sim.specs.contracts.fresh as fresh
use Rattle.sim.proofs.fresh.Symbol as fresh_code
use Rattle.sim.specs.contracts.get as get
use Rattle.sim.proofs.get.Symbol as get_code
use Rattle.warrior.specs.contracts.place as place
use Rattle.warrior.proofs.place.Symbol as place_code
use Rattle.warrior.specs.contracts.start as start
use Rattle.warrior.proofs.start.Symbol as start_code
use Rattle.cycle.specs.contracts.step as step
use Rattle.cycle.proofs.step.Symbol as step_code
use Rattle.cycle.specs.contracts.run as run
use Rattle.cycle.proofs.run.Symbol as run_code
use Rattle.types.specs.contracts.default_88_to_94 as default
use Rattle.types.proofs.default_88_to_94.Symbol as default_code
use Rattle.match_file.specs.contracts.read as read
use Rattle.match_file.proofs.read.Symbol as read_code
use Rattle.match_file.specs.contracts.read_line as read_line
use Rattle.match_file.proofs.read_line.Symbol as read_line_code
use Rattle.match_file.specs.contracts.name as name
use Rattle.match_file.proofs.name.Symbol as name_code
use Rattle.match_file.specs.contracts.body as body
use Rattle.match_file.proofs.body.Symbol as body_code
use Rattle.match_load.specs.contracts.load_match as load_match
use Rattle.match_load.proofs.load_match.Symbol as load_match_code
use Rattle.match_write.specs.contracts.write_first as write_first
use Rattle.match_write.proofs.write_first.Symbol as write_first_code
use Rattle.match_write.specs.contracts.write_added as write_added
use Rattle.match_write.proofs.write_added.Symbol as write_added_code
use Rattle.sumacadze.specs.contracts.sumacadze_fresh as sumacadze_fresh
use Rattle.sumacadze.proofs.sumacadze_fresh.Symbol as sumacadze_fresh_code
use Rattle.sumacadze.specs.contracts.sumacadze_get as sumacadze_get
use Rattle.sumacadze.proofs.sumacadze_get.Symbol as sumacadze_get_code
use Rattle.sumacadze.specs.contracts.sumacadze_place as sumacadze_place
use Rattle.sumacadze.proofs.sumacadze_place.Symbol as sumacadze_place_code
use Rattle.sumacadze.specs.contracts.sumacadze_start as sumacadze_start
use Rattle.sumacadze.proofs.sumacadze_start.Symbol as sumacadze_start_code
use Rattle.sumacadze.specs.contracts.sumacadze_step as sumacadze_step
use Rattle.sumacadze.proofs.sumacadze_step.Symbol as sumacadze_step_code
use Rattle.sumacadze.specs.contracts.sumacadze_run as sumacadze_run
use Rattle.sumacadze.proofs.sumacadze_run.Symbol as sumacadze_run_code
use Rattle.sumacadze.specs.contracts.load_match.sumacadze_load_match as sumacadze_load_match
use Rattle.sumacadze.proofs.load_match.sumacadze_load_match.Symbol as sumacadze_load_match_code
use Rattle.sumacadze.specs.contracts.file.sumacadze_read as sumacadze_read
use Rattle.sumacadze.proofs.file.sumacadze_read.Symbol as sumacadze_read_code
use Rattle.sumacadze.specs.contracts.file.sumacadze_read_line as sumacadze_read_line
use Rattle.sumacadze.proofs.file.sumacadze_read_line.Symbol as sumacadze_read_line_code
use Rattle.demands.specs.Promise.{Promise, MatchPromise, FreshPromise, FreshNumber, CellPromise, CellNumber, DefaultPromise, FilePromise, FileNumbers, LinePromise, LineNumbers, NamePromise, BodyPromise, FirstPromise, AddedPromise}

-- a fact of a call's arguments a, its result r and the lent memory at its exit e
abbrev pub Fact : Ended → Type 1
Fact T = (κs : Lfts T.signature.lifetimes) → Args T.signature κs → Res T.signature κs → AtExit T κs → Type 0

-- the contract that asks nothing and ensures that fact
abbrev pub ensuring : {M : Type 1} (𝓤 : Ura M) (T : Ended) → Fact T → Clauses 𝓤 T
ensuring 𝓤 T P κs a =
    record {
      ghost = Unit {0};
      requires = λ g. (notation.connectives 𝓤).⊤ₛ;
      ensures = λ g r e. (notation.connectives 𝓤).⌜◌⌝ (P κs a r e);
    }

-- the code meets it at every model, in every environment that has the code: every call ends, stays inside the memory that it was lent, and leaves the fact
abbrev pub Keeps : (T : Ended) → Code → Callee → Fact T → Type 2
Keeps T code name P =
    (M : Type 1) (𝓤 : Ura M) (𝓛 : Logic 𝓤) (𝓜 : Model 𝓤 𝓛.H) (𝓡 : Running 𝓤 𝓛.H 𝓜) → Wired 𝓡.env code
    → Meets 𝓛 T.signature (𝓡.run (𝓡.env name)) (closing 𝓛 T (ensuring 𝓤 T P))

-- every public call of the machine and of match files. `a.0`, `a.1.0`, `a.1.1.0` and so on are its arguments in their order, `e.0` and so on the same at exit
pub record CodeKeeps : Type 2 where
  -- the header by value
  pub fresh : Keeps fresh.ended fresh_code.code fresh_code.name (λ κs a r e. FreshPromise a.0 a.1.0.now a.1.1.0.now
      (given (told r.answer) r.writes r.steps (machine_of e.1.0.now e.1.1.0.now r.header)))
  pub get : Keeps get.ended get_code.code get_code.name (λ κs a r e. CellPromise (machine_of a.0.now a.1.0.now a.1.1.0) a.1.1.1.0 r)
  pub place : Keeps place.ended place_code.code place_code.name (λ κs a r e.
      Promise (Place a.1.1.1.0.now a.1.1.1.1.0.now a.1.1.1.1.1.0) (machine_of a.0.now a.1.0.now a.1.1.0)
      (given (told r.answer) r.writes r.steps (machine_of e.0.now a.1.0.now r.header)))
  pub start : Keeps start.ended start_code.code start_code.name (λ κs a r e.
      Promise (Start a.1.1.1.0.now a.1.1.1.1.0) (machine_of a.0.now a.1.0.now a.1.1.0)
      (given (told r.answer) r.writes r.steps (machine_of a.0.now e.1.0.now r.header)))
  pub step : Keeps step.ended step_code.code step_code.name (λ κs a r e. Promise Step (machine_of a.0.now a.1.0.now a.1.1.0)
      (given (told r.answer) r.writes r.steps (machine_of e.0.now e.1.0.now r.header)))
  pub run : Keeps run.ended run_code.code run_code.name (λ κs a r e. Promise (Run a.1.1.1.0) (machine_of a.0.now a.1.0.now a.1.1.0)
      (given (told r.answer) r.writes r.steps (machine_of e.0.now e.1.0.now r.header)))
  pub load_match : Keeps load_match.ended load_match_code.code load_match_code.name (λ κs a r e.
      MatchPromise a.1.1.1.0.now (machine_of a.0.now a.1.0.now a.1.1.0)
      (given (told r.outcome.answer) r.outcome.writes r.outcome.steps (machine_of e.0.now e.1.0.now r.outcome.header)) r.warrior)
  -- exported (crate sumacadze): of place, start, step and run the header is lent, and changed in place
  pub sumacadze_fresh : Keeps sumacadze_fresh.ended sumacadze_fresh_code.code sumacadze_fresh_code.name (λ κs a r e.
      FreshNumber a.0 a.1.0.now a.1.1.0.now r.number (machine_of e.1.0.now e.1.1.0.now r.header))
  pub sumacadze_get : Keeps sumacadze_get.ended sumacadze_get_code.code sumacadze_get_code.name (λ κs a r e. CellNumber (machine_of a.0.now a.1.0.now a.1.1.0) a.1.1.1.0
      r.number (cell_of r.opcode r.modifier r.a_mode r.b_mode r.a r.b))
  pub sumacadze_place : Keeps sumacadze_place.ended sumacadze_place_code.code sumacadze_place_code.name (λ κs a r e.
      Promise (Place a.1.1.1.0.now a.1.1.1.1.0.now a.1.1.1.1.1.0) (machine_of a.0.now a.1.0.now a.1.1.0.now)
      (given (gives r.number r.value) r.writes r.steps (machine_of e.0.now a.1.0.now e.1.1.0.now)))
  pub sumacadze_start : Keeps sumacadze_start.ended sumacadze_start_code.code sumacadze_start_code.name (λ κs a r e.
      Promise (Start a.1.1.1.0.now a.1.1.1.1.0) (machine_of a.0.now a.1.0.now a.1.1.0.now)
      (given (gives r.number r.value) r.writes r.steps (machine_of a.0.now e.1.0.now e.1.1.0.now)))
  pub sumacadze_step : Keeps sumacadze_step.ended sumacadze_step_code.code sumacadze_step_code.name (λ κs a r e. Promise Step (machine_of a.0.now a.1.0.now a.1.1.0.now)
      (given (gives r.number r.value) r.writes r.steps (machine_of e.0.now e.1.0.now e.1.1.0.now)))
  pub sumacadze_run : Keeps sumacadze_run.ended sumacadze_run_code.code sumacadze_run_code.name (λ κs a r e.
      Promise (Run (ceiling_if a.1.1.1.0 a.1.1.1.1.0)) (machine_of a.0.now a.1.0.now a.1.1.0.now)
      (given (gives r.number r.value) r.writes r.steps (machine_of e.0.now e.1.0.now e.1.1.0.now)))
  pub sumacadze_load_match : Keeps sumacadze_load_match.ended sumacadze_load_match_code.code sumacadze_load_match_code.name (λ κs a r e.
      MatchPromise a.1.1.1.0.now (machine_of a.0.now a.1.0.now a.1.1.0)
      (given (gives r.report.number r.report.value) r.report.writes r.report.steps (machine_of e.0.now e.1.0.now r.header)) r.warrior)
  -- the default modifier
  pub default : Keeps default.ended default_code.code default_code.name (λ κs a r e. DefaultPromise a.0 a.1.0 a.1.1.0 r)
  -- match files, read by value and exported, and written
  pub read : Keeps read.ended read_code.code read_code.name (λ κs a r e. FilePromise a.0.now r)
  pub read_line : Keeps read_line.ended read_line_code.code read_line_code.name (λ κs a r e. LinePromise a.0.now a.1.0 r)
  pub name : Keeps name.ended name_code.code name_code.name (λ κs a r e. NamePromise a.0.now a.1.0 r.now)
  pub body : Keeps body.ended body_code.code body_code.name (λ κs a r e. BodyPromise a.0.now a.1.0 r.now)
  pub sumacadze_read : Keeps sumacadze_read.ended sumacadze_read_code.code sumacadze_read_code.name (λ κs a r e. FileNumbers a.0.now (gives r.number r.position) r.warriors r.size)
  pub sumacadze_read_line : Keeps sumacadze_read_line.ended sumacadze_read_line_code.code sumacadze_read_line_code.name (λ κs a r e. LineNumbers a.0.now a.1.0 r)
  pub write_first : Keeps write_first.ended write_first_code.code write_first_code.name (λ κs a r e.
      FirstPromise a.0 (handed a.1.0) a.1.1.0.now (writing.given r e.1.1.0.now))
  pub write_added : Keeps write_added.ended write_added_code.code write_added_code.name (λ κs a r e.
      AddedPromise a.0.now (handed a.1.0) a.1.1.0.now (writing.given r e.1.1.0.now))
