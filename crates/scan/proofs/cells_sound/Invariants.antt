-- What the loop of `scan::cells_sound` keeps.
use mathlib.Core.Path.{◌≡◌}
use mathlib.Core.Bool.{true}
use Rattle.cell.specs.Cells.{sound_word}
use Rattle.scan.proofs.Cells.{SoundFrom}
use Rattle.scan.proofs.cells_sound.Given as goal

abbrev pub invariant-loop-w : goal.invariant-loop-w
invariant-loop-w l = SoundFrom l.core l.size l.w-index × (sound_word l.size l.last ≡ true)
