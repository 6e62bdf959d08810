-- What a loop of `match_format::check_lines` keeps.
use Rattle.std.proofs.Common.{◌≡◌, ◌+◌, ◌-◌, ◌*◌, ◌≤◌}
use Rattle.match_format.specs.Faults.{lines_fault}
use Rattle.match_format.proofs.check_lines.Given as goal

abbrev pub invariant-loop-line : goal.invariant-loop-line
invariant-loop-line l = (l.start ≤ 10969 + 786420 * l.line) × (lines_fault l.file 4 (4 + 43 * l.n) l.n ≡ lines_fault l.file (4 + 43 * l.line) l.start (l.n - l.line))
