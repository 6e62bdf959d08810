-- The goals of `refusal::whole_readable` that the check leaves.
use native.Mathlib.Omega.{arith}
use Rattle.word.proofs.Cells.{reduced}
use Rattle.refusal.proofs.Reading.{no-a, old-sound, by-b}
use Rattle.refusal.proofs.whole_readable.Goals as goal

pub returns-then-not-look : goal.returns-then-not-look
returns-then-not-look c =
    no-a _ c.args.core.now _ _ c.requires c.a_mode-mode.ensures c.number.ensures (reduced _ _ c.requires.place c.add-location.ensures).is
    c.look.ensures c.if-not-look.true

pub changed-word-requires : goal.changed-word-requires
changed-word-requires c = (
  old-sound _ c.args.core.now _ _ c.requires c.a_mode-mode.ensures c.number.ensures (reduced _ _ c.requires.place c.add-location.ensures).is
      c.look.ensures c.if-not-look.false,
  rw c.a_mode-mode.ensures (omega arith),
)

pub returns : goal.returns
returns c =
    by-b _ c.args.core.now _ _ c.requires c.a_mode-mode.ensures c.number.ensures (reduced _ _ c.requires.place c.add-location.ensures).is
    c.look.ensures c.if-not-look.false c.changed-word.ensures c.word_at-again.ensures
    c.b_mode.ensures c.number-2.ensures (reduced _ _ c.requires.place c.add-second.ensures).is c.word_at-found.ensures c.look-2.ensures
