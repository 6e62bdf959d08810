-- The goals of `encoding::store::copy` that the check leaves.
use Rattle.std.proofs.Common.{◌≡◌, ◌+◌, ◌-◌, ℕ, arith}
use Rattle.encoding.proofs.Stores.{stored}
use Rattle.encoding.proofs.store.copy.Goals as goal

pub returns : goal.returns
returns c =
    let j : ℕ = c.min-at.result in
    let n : ℕ = c.min-count.result in
    let e : j + n - j ≡ n = omega arith in
    rw (c.copy_from_slice.ensures.after, e) (stored c.args.out.now c.args.bytes.now c.args.at j n c.min-at.ensures c.min-count.ensures)
