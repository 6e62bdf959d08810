-- The goals of `match_write::store::put_line` that the check leaves.
use Rattle.std.proofs.Common.{◌∙◌, ap, length}
use Rattle.encoding.specs.Bytes.{spelled}
use Rattle.match_write.proofs.Stores.{two, four, zeros}
use Rattle.match_write.proofs.Lines.{line-stored}
use Rattle.match_write.proofs.store.put_line.Goals as goal

pub returns : goal.returns
returns c =
    line-stored _ _ _ _ _ _ _ _ _ _ _ _ _ _ _ _ _ _ _ c.requires.0
    c.copy.ensures
    c.copy-2.ensures
    c.copy-3.ensures (zeros 32 (length c.args.w.name.now))
    c.copy-4.ensures (four c.args.start c.to_le_bytes.ensures)
    c.copy-5.ensures (two c.len.result c.to_le_bytes-2.ensures ∙ ap (spelled 2) c.len.ensures)
    c.copy-6.ensures c.to_le_bytes-3.ensures
    c.copy-7.ensures (two c.args.w.place c.to_le_bytes-4.ensures)
