-- The goals of `scan::cells_sound` that the check leaves.
use mathlib.Core.Path.{◌≡◌, sym, ap, ◌∙◌}
use mathlib.Core.Bool.{true}
use lib.ListN.{get_or}
use Rattle.cell.specs.Cells.{sound_word}
use Rattle.scan.proofs.Cells.{further, over}
use Rattle.scan.proofs.cells_sound.Goals.{then-w-last+else-not-sound-2, else-w-last}
use Rattle.scan.proofs.cells_sound.Goals as goal

pub loop-w-preserved : goal.loop-w-preserved
loop-w-preserved c =
    let a = c.args in
    let k = c.loop-w in
    let sound = sound_word a.size in
    let both : (sound (get_or a.core.now k.w-index 0) ≡ true) × (sound c.if-w-last.last ≡ true) =
    elim c.if-w-last.branch [
      | then-w-last+else-not-sound-2 w ↦
          let t = sym w.sound-then-w-last.ensures ∙ w.if-not-sound-2.false in (t, ap sound w.last-is ∙ t)
      | else-w-last w ↦ (ap sound w.if-w-last.false ∙ k.invariant.1, ap sound w.last-is ∙ k.invariant.1)
    ] in
    (further a.core.now a.size _ k.invariant.0 c.loop-w-test.true both.0, both.1)

pub returns : goal.returns
returns c = over c.args.core.now c.args.size _ c.loop-w.invariant.0 c.loop-w-test.false
