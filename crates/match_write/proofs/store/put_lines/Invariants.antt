-- What a loop of `match_write::store::put_lines` keeps.
use Rattle.std.proofs.Common.{◌≡◌, ◌+◌, ◌*◌, length}
use Rattle.std.proofs.lemmas.List.Edits.{sets}
use Rattle.match_format.specs.Format.{lines, bodies}
use Rattle.match_format.proofs.Format.{Short}
use Rattle.match_write.proofs.Lines.{left}
use Rattle.match_write.proofs.store.put_lines.Given as goal

abbrev pub invariant-loop-number : goal.invariant-loop-number
invariant-loop-number l =
    Short (left l.file l.n l.number)
    × (l.first + length (bodies (left l.file l.n 0)) ≡ l.next + length (bodies (left l.file l.n l.number)))
    × (sets l.fn.out 4 (lines l.first (left l.file l.n 0)) ≡ sets l.out (4 + 43 * l.number) (lines l.next (left l.file l.n l.number)))
