-- The goals of `cell::sound` that the check leaves.
use Prim.Native.Nat.{◌*◌, ◌≤◌, ◌<◌}
use mathlib.Core.Path.{subst}
use lib.Bits.{and_mask}
use Rattle.cell.proofs.Soundness.{over-b, over-numbers, over-modifier, opcode-decides}
use Rattle.cell.proofs.sound.Goals as goal

pub returns-then-w-m : goal.returns-then-w-m
returns-then-w-m c = over-b c.args.size c.args.w (subst (λ n. c.args.size ≤ n) (and_mask c.args.w 16) c.if-w-m.true)

pub returns-then-w-m-2 : goal.returns-then-w-m-2
returns-then-w-m-2 c = over-numbers c.args.size c.args.w (subst (λ n. c.args.size * 65536 ≤ n) (and_mask c.args.w 32) c.if-w-m-2.true)

pub returns-then-w : goal.returns-then-w
returns-then-w c = over-modifier c.args.size c.args.w (subst (λ n. 6 < n) (and_mask _ 3) c.if-w.true)

pub returns : goal.returns
returns c =
    opcode-decides
    c.args.size c.args.w
    (subst (λ n. n < c.args.size) (and_mask c.args.w 16) c.if-w-m.false)
    (subst (λ n. n < c.args.size * 65536) (and_mask c.args.w 32) c.if-w-m-2.false)
    (subst (λ n. n ≤ 6) (and_mask _ 3) c.if-w.false)
