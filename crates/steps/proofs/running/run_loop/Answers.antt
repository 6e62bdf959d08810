-- The goals of `steps::running::run_loop` that the check leaves.
use mathlib.Core.Path.{sym, ◌∙◌}
use native.Mathlib.Omega.{arith}
use Rattle.steps.proofs.Loop.{over, giving, failed, went}
use Rattle.steps.proofs.Rounds.{call-writes, call-since, call-stops, call-again, call-rises, call-trusting}
use Rattle.steps.proofs.running.run_loop.Goals as goal

pub overflow_add-writes : goal.overflow_add-writes
overflow_add-writes c =
    let f = call-writes c.loop-processes.invariant.0 c.loop-processes-test.true c.loop-processes.invariant.1 c.ask-s.ensures.plays in
    record { fits = omega arith }

pub ran-requires : goal.ran-requires
ran-requires c = call-since c.loop-processes.invariant.0 c.loop-processes-test.true c.loop-processes.invariant.1 c.ask-s.ensures.plays

pub returns-then-is_err : goal.returns-then-is_err
returns-then-is_err c =
    giving _ _ c.ran.ensures
    (call-stops c.loop-processes.invariant.0 c.loop-processes-test.true c.loop-processes.invariant.1 c.ask-s.ensures.plays (failed _ (sym c.is_err.ensures.value ∙ c.if-is_err.true)))

pub loop-processes-smaller : goal.loop-processes-smaller
loop-processes-smaller c =
    let b = c.loop-processes-test.true in
    let h = call-rises c.loop-processes.invariant.0 b c.loop-processes.invariant.1 c.ask-s.ensures.plays (went _ (sym c.is_err.ensures.value ∙ c.if-is_err.false)) in
    omega arith

pub loop-processes-preserved : goal.loop-processes-preserved
loop-processes-preserved c =
    let i = c.loop-processes.invariant in
    let b = c.loop-processes-test.true in
    let e = went _ (sym c.is_err.ensures.value ∙ c.if-is_err.false) in
    (call-again i.0 b i.1 c.ask-s.ensures.plays e, call-trusting i.0 b i.1 c.ask-s.ensures.plays e, c.ask-s.ensures.counted)

pub returns : goal.returns
returns c = giving _ _ c.ran-2.ensures (over c.loop-processes.invariant.0 c.loop-processes-test.false)
