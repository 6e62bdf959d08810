-- The goals of `steps::stepping::step_once` that the check leaves.
use mathlib.Core.Path.{sym, ap, subst, ◌∙◌}
use lib.ListN.{length}
use Rattle.machine.specs.declared.Entry.{Entry}
use Rattle.machine.specs.Pointers.{site_at}
use Rattle.machine.specs.Queue.{unpacked_entry}
use Rattle.machine.specs.Instruction.{effect_at, core_at, written_at}
use Rattle.steps.specs.Inner.Instruction.{Executable, answered}
use Rattle.steps.proofs.Executing.{near}
use Rattle.steps.proofs.Answers.{executes, counted-front}
use Rattle.steps.proofs.stepping.step_once.Goals as goal

pub execute-executed-requires : goal.execute-executed-requires
execute-executed-requires c =
    let a = c.args in
    subst (λ (e : Entry). Executable a.rules a.core.now e.place.0 a.fetched.cell) (sym (c.unpack.ensures ∙ ap unpacked_entry c.requires.1)) c.requires.2

pub requeue-requires : goal.requeue-requires
requeue-requires c =
    let a = c.args in
    let e = c.unpack.ensures ∙ ap unpacked_entry c.requires.1 in (
      counted-front c.requires.0,
      c.requires.1,
      near _ _ _ _ (subst (λ (e : Entry). Executable a.rules a.core.now e.place.0 a.fetched.cell) (sym e) c.requires.2) _ c.execute-executed.ensures.0,
    )

pub returns : goal.returns
returns c =
    let a = c.args in
    let execute = c.execute-executed in
    let e = c.unpack.ensures ∙ ap unpacked_entry c.requires.1 in (
      executes a.core.now a.queue.now a.rules a.processes.now (
        execute.ensures.0 ∙ ap (λ (e : Entry). answered (effect_at (site_at a.rules e.place.0) a.core.now).next (length (written_at (site_at a.rules e.place.0) a.core.now))) e,
        execute.ensures.1 ∙ ap (λ (e : Entry). core_at (site_at a.rules e.place.0) a.core.now) e,
      )
          c.requeue.ensures,
      c.requeue.ensures.tail,
    )
