-- The goals of `steps::running::play` that the check leaves.
use mathlib.Core.Path.{sym, ◌∙◌}
use mathlib.Core.List.{[]}
use native.Mathlib.Omega.{arith}
use Rattle.lent.specs.Parts.{names_of}
use Rattle.word.proofs.Cells.{reduced}
use Rattle.steps.proofs.Trust.{plays-first}
use Rattle.steps.proofs.Loop.{begun, over, giving, failed, went}
use Rattle.steps.proofs.Rounds.{can-count, can-fetch, private-stops, can-step, one-more, writes-few, step-stops, goes-round}
use Rattle.steps.proofs.running.play.Goals as goal

pub loop-processes-init : goal.loop-processes-init
loop-processes-init c = record {
  going = begun _ _ c.requires.0;
  playing = plays-first _ _ c.requires.0 c.requires.1;
  behind = (reduced _ _ c.requires.0.head c.ahead-tail.ensures).is;
  counted = omega arith;
}

pub fetch-f-requires : goal.fetch-f-requires
fetch-f-requires c = can-fetch c.loop-processes.invariant c.loop-processes-test.true

pub returns-then-opcode-gt-NOP-clause-plays : goal.returns-then-opcode-gt-NOP-clause-plays
returns-then-opcode-gt-NOP-clause-plays c =
    giving _ _ c.ran.ensures
    (private-stops c.loop-processes.invariant c.loop-processes-test.true c.fetch-f.ensures.1 c.opcode.ensures c.if-opcode-gt-NOP.true)

pub step_once-s-requires : goal.step_once-s-requires
step_once-s-requires c =
    let i = c.loop-processes.invariant in
    let s = can-step i c.loop-processes-test.true c.fetch-f.ensures.1 c.opcode.ensures c.if-opcode-gt-NOP.false in
    (s.0, c.fetch-f.ensures.0, s.1, can-count i c.loop-processes-test.true)

pub overflow_add-writes : goal.overflow_add-writes
overflow_add-writes c =
    let i = c.loop-processes.invariant in
    let b = c.loop-processes-test.true in
    let d = can-count i b in
    let s = c.step_once-s.ensures.0 (names_of c.args.setting.held [] []) in
    let f = writes-few i b c.fetch-f.ensures.1 c.opcode.ensures c.if-opcode-gt-NOP.false s in
    let n = one-more i b c.fetch-f.ensures.1 c.opcode.ensures c.if-opcode-gt-NOP.false s in
    record { fits = omega arith }

pub returns-then-is_err-clause-plays : goal.returns-then-is_err-clause-plays
returns-then-is_err-clause-plays c =
    giving _ _ c.ran-then-is_err.ensures
    (step-stops c.loop-processes.invariant c.loop-processes-test.true c.fetch-f.ensures.1 c.opcode.ensures c.if-opcode-gt-NOP.false
    (c.step_once-s.ensures.0 (names_of c.args.setting.held [] [])) (failed _ (sym c.is_err.ensures.value ∙ c.if-is_err.true)))

pub loop-processes-preserved : goal.loop-processes-preserved
loop-processes-preserved c =
    let s = c.step_once-s.ensures in
    goes-round c.loop-processes.invariant c.loop-processes-test.true c.fetch-f.ensures.1 c.opcode.ensures c.if-opcode-gt-NOP.false
    (s.0 (names_of c.args.setting.held [] [])) (went _ (sym c.is_err.ensures.value ∙ c.if-is_err.false)) s.1

pub returns-clause-plays : goal.returns-clause-plays
returns-clause-plays c = giving _ _ c.ran-2.ensures (over c.loop-processes.invariant.going c.loop-processes-test.false)

pub returns-then-is_err-clause-counted : goal.returns-then-is_err-clause-counted
returns-then-is_err-clause-counted c =
    let i = c.loop-processes.invariant in
    let b = c.loop-processes-test.true in
    let d = can-count i b in
    let n = one-more i b c.fetch-f.ensures.1 c.opcode.ensures c.if-opcode-gt-NOP.false (c.step_once-s.ensures.0 (names_of c.args.setting.held [] [])) in
    omega arith

pub ran-requires-then-is_err : goal.ran-requires-then-is_err
ran-requires-then-is_err c =
    let i = c.loop-processes.invariant in
    let b = c.loop-processes-test.true in
    let s = i.going.since in
    let n = one-more i b c.fetch-f.ensures.1 c.opcode.ensures c.if-opcode-gt-NOP.false (c.step_once-s.ensures.0 (names_of c.args.setting.held [] [])) in
    omega arith

pub loop-processes-smaller : goal.loop-processes-smaller
loop-processes-smaller c =
    let i = c.loop-processes.invariant in
    let b = c.loop-processes-test.true in
    let n = one-more i b c.fetch-f.ensures.1 c.opcode.ensures c.if-opcode-gt-NOP.false (c.step_once-s.ensures.0 (names_of c.args.setting.held [] [])) in
    omega arith
