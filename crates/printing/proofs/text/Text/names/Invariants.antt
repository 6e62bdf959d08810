-- What the loop of `printing::text::Text::names` keeps: the lines of the names before are added.
use Rattle.std.proofs.Common.{◌+◌, ◌*◌, ◌≤◌}
use Rattle.printing.specs.Text.{name_lines}
use Rattle.printing.specs.Inner.Adding.{Adds}
use Rattle.printing.proofs.text.Text.names.Given as goal

abbrev pub invariant-loop-i : goal.invariant-loop-i
invariant-loop-i l = record {
  added : Adds l.fn.self l.self (name_lines l.fn.h 0 l.i);
  short : l.self.length ≤ l.fn.self.length + 540 * l.i;
}
