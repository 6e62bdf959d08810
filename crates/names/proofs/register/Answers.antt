-- The goals of `names::register` that the check leaves.
use Rattle.std.proofs.Common.{arith}
use Rattle.machine.specs.Names.{register}
use Rattle.lent.specs.Parts.{named_of}
use Rattle.names.proofs.Naming.{none_free, too_long, registered-is}
use Rattle.names.proofs.register.Goals as goal
use Rattle.names.proofs.register.Goals.{then-names-ge-MOST_NAMES-via-then-names-ge-MOST_NAMES, then-names-ge-MOST_NAMES-via-else-names-ge-MOST_NAMES+then-name-gt-LONGEST}

pub returns-then-names-ge-MOST_NAMES : goal.returns-then-names-ge-MOST_NAMES
returns-then-names-ge-MOST_NAMES c =
    let h = named_of c.args.names.now c.args.processes.now in
    elim c.then-names-ge-MOST_NAMES.branch [
      | then-names-ge-MOST_NAMES-via-then-names-ge-MOST_NAMES w ↦ none_free h c.args.name.now w.if-names-ge-MOST_NAMES.true
      | then-names-ge-MOST_NAMES-via-else-names-ge-MOST_NAMES+then-name-gt-LONGEST w ↦ too_long h c.args.name.now w.if-name-gt-LONGEST.true
    ]

pub returns : goal.returns
unfolding register
returns c =
    let a = c.args in
    registered-is (named_of a.names.now a.processes.now) a.name.now (omega arith) (omega arith) (rw c.write_name.ensures)
