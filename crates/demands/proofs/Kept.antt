-- The code keeps its promises: each call's own theorem says so.
-- Assumes nothing.
use Rattle.sim.proofs.fresh.Met as fresh
use Rattle.sim.proofs.get.Met as get
use Rattle.warrior.proofs.place.Met as place
use Rattle.warrior.proofs.start.Met as start
use Rattle.cycle.proofs.step.Met as step
use Rattle.cycle.proofs.run.Met as run
use Rattle.types.proofs.default_88_to_94.Met as default
use Rattle.match_file.proofs.read.Met as read
use Rattle.match_file.proofs.read_line.Met as read_line
use Rattle.match_file.proofs.name.Met as name
use Rattle.match_file.proofs.body.Met as body
use Rattle.match_load.proofs.load_match.Met as load_match
use Rattle.match_write.proofs.write_first.Met as write_first
use Rattle.match_write.proofs.write_added.Met as write_added
use Rattle.sumacadze.proofs.sumacadze_fresh.Met as sumacadze_fresh
use Rattle.sumacadze.proofs.sumacadze_get.Met as sumacadze_get
use Rattle.sumacadze.proofs.sumacadze_place.Met as sumacadze_place
use Rattle.sumacadze.proofs.sumacadze_start.Met as sumacadze_start
use Rattle.sumacadze.proofs.sumacadze_step.Met as sumacadze_step
use Rattle.sumacadze.proofs.sumacadze_run.Met as sumacadze_run
use Rattle.sumacadze.proofs.load_match.sumacadze_load_match.Met as sumacadze_load_match
use Rattle.sumacadze.proofs.file.sumacadze_read.Met as sumacadze_read
use Rattle.sumacadze.proofs.file.sumacadze_read_line.Met as sumacadze_read_line
use Rattle.demands.specs.Kept.{CodeKeeps}

pub code-keeps : CodeKeeps
code-keeps =
    record {
      fresh = λ M. fresh.met;
      get = λ M. get.met;
      place = λ M. place.met;
      start = λ M. start.met;
      step = λ M. step.met;
      run = λ M. run.met;
      load_match = λ M. load_match.met;
      sumacadze_fresh = λ M. sumacadze_fresh.met;
      sumacadze_get = λ M. sumacadze_get.met;
      sumacadze_place = λ M. sumacadze_place.met;
      sumacadze_start = λ M. sumacadze_start.met;
      sumacadze_step = λ M. sumacadze_step.met;
      sumacadze_run = λ M. sumacadze_run.met;
      sumacadze_load_match = λ M. sumacadze_load_match.met;
      default = λ M. default.met;
      read = λ M. read.met;
      read_line = λ M. read_line.met;
      name = λ M. name.met;
      body = λ M. body.met;
      sumacadze_read = λ M. sumacadze_read.met;
      sumacadze_read_line = λ M. sumacadze_read_line.met;
      write_first = λ M. write_first.met;
      write_added = λ M. write_added.met;
    }
