-- The goals of `chain::follow` that the check leaves.
use lib.ListN.{set}
use Rattle.chain.proofs.Chaining.{ahead-is, fold_is, placed-set, positive, followed}
use Rattle.chain.proofs.follow.Goals as goal

pub returns : goal.returns
returns c =
    let a = c.args in
    followed a.rules (set a.core.now a.at.0 a.word) a.pc.0 a.mode a.n.0 (placed-set a.rules a.core.now a.pc.0 a.at.0 a.word c.requires.0)
    (fold_is _ _ c.requires.0.write c.fold-far.ensures) (fold_is _ _ c.requires.0.read c.fold-close.ensures)
    (ahead-is _ _ (positive c.requires.0) c.add-location.ensures) (ahead-is _ _ (positive c.requires.0) c.add-other.ensures)
    c.word_in-old.ensures c.lowered-low.ensures c.word_in-near.ensures c.word_at-found.ensures c.pointer-read.ensures c.pointer-write.ensures
    c.word_in.ensures c.word_at-register.ensures c.word_in-2.ensures c.word_at-there.ensures c.raised.ensures
