-- The goals of `memory::read_into` that the check leaves: the next read's bytes follow the filled part.
use Rattle.std.proofs.Common.{◌≡◌, ℕ, ◌+◌, ◌≤◌, List, ◌++◌, rules, length, take, sym, ap, ◌∙◌, subst, le_refl, drop_at, length-take-le, drop}
use Rattle.std.proofs.lemmas.Slice.{take-put_mid_below}
use Rattle.std.specs.Io.KnownBytes.{Consumes}
use Rattle.std.proofs.KnownBytes.{Consumes-trans}
use borrow.Rule.Slice.PartMut.{put_mid, post_of}
use lib.Seq.{take-add, take-append-le}
use Rattle.memory.proofs.read_into.Goals as goal

joined : (from k n : ℕ) (old part : List ℕ) → from ≤ length old → n ≤ length part → take from old ++ take n part ≡ take (from + n) (put_mid from k old part)
joined from k n old part within fits =
    let new = put_mid from k old part in
    let front : take from new ≡ take from old = take-put_mid_below _ _ _ _ _ (le_refl _) within in
    let middle = ap (take n) (drop_at (take from old) (part ++ post_of from k old) from (length-take-le from old within)) ∙ take-append-le n part (post_of from k old) fits in
    sym (take-add from n new ∙ ap (λ l. l ++ take n (drop from new)) front ∙ ap (λ l. take from old ++ l) middle)

pub loop-filled-preserved : goal.loop-filled-preserved
loop-filled-preserved g c =
    let within = c.loop-filled.invariant.1 in
    let read = c.in_ok-n.ensures in
    (search rules, search rules, subst (Consumes _ _) (joined _ _ _ _ _ within read.bound.0) (Consumes-trans _ _ _ _ _ c.loop-filled.invariant.2 read.bytes.0))
