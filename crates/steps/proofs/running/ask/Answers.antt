-- The goals of `steps::running::ask` that the check leaves.
use mathlib.Core.Path.{sym, subst, ◌∙◌}
use Prim.Native.Nat.{ℕ}
use Rattle.lent.specs.Parts.{unnamed}
use Rattle.steps.specs.Inner.Ready.{Plays}
use Rattle.steps.proofs.Trust.{not-refused, is-refused}
use Rattle.steps.proofs.Loop.{giving, failed, went}
use Rattle.steps.proofs.Rounds.{refused-call}
use Rattle.steps.proofs.running.ask.Goals as goal

pub returns-then-is_err-clause-plays : goal.returns-then-is_err-clause-plays
returns-then-is_err-clause-plays c =
    let a = c.args in
    let m = unnamed a.core.now a.queue.now a.setting.rules a.setting.held a.processes.now in
    giving _ _ c.ran.ensures
    (refused-call a.trusted m c.requires.0
    (is-refused a.trusted m c.requires.0 _ c.asked-answer.ensures (failed _ (sym c.is_err.ensures.value ∙ c.if-is_err.true))))

pub play-requires : goal.play-requires
play-requires c =
    let a = c.args in
    let m = unnamed a.core.now a.queue.now a.setting.rules a.setting.held a.processes.now in (
      c.requires.0,
      subst (λ (u : ℕ). Plays u m) (sym c.max-until.ensures)
          (not-refused a.trusted m c.requires.0 _ c.asked-answer.ensures (went _ (sym c.is_err.ensures.value ∙ c.if-is_err.false)) c.requires.1),
    )
