-- What a loop of `soundness::counts_sound` keeps.
use Rattle.std.proofs.Common.{◌≡◌, ◌+◌, ◌*◌, ◌≤◌, ◌&&◌, leb, drop}
use Rattle.laws.specs.Lists.{every, total}
use Rattle.soundness.proofs.counts_sound.Given as goal

abbrev pub invariant-loop-count : goal.invariant-loop-count
invariant-loop-count l =
    (l.sum ≤ l.count-index * 4294967295) × (l.sum + total (drop l.count-index l.counts) ≡ total l.counts)
    × ((leb l.most l.limit && every (λ c. leb c l.limit) (drop l.count-index l.counts)) ≡ every (λ c. leb c l.limit) l.counts)
