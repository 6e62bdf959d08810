-- The goals of `match_load::load_all` that the check leaves.
use Prim.Native.Nat.{◌+◌, ◌-◌}
use mathlib.Core.Path.{sym, ap, subst, ◌∙◌}
use native.Mathlib.Omega.{arith}
use Rattle.answer.specs.Numbers.{gives, told}
use Rattle.machine.specs.Soundness.{sound_header}
use Rattle.machine.proofs.Names.{Shape}
use Rattle.machine.proofs.Soundness.{sound-header}
use Rattle.lent.specs.Given.{given}
use Rattle.lent.specs.Parts.{machine_of, parts}
use Rattle.lent.proofs.Parts.{whole}
use Rattle.match_load.specs.Loading.{loads}
use Rattle.match_load.proofs.Warrior.{placed-and-started}
use Rattle.match_load.proofs.Loading.{refused, taken, Leaves, stopping, load-stops, load-goes-on, few-more, still-sound, loads-begin, loads-end}
use Rattle.match_load.proofs.load_all.Goals as goal

pub loop-i-init : goal.loop-i-init
loop-i-init c =
    let a = c.args in
    let begins = machine_of a.core.now a.queue.now a.h in
    let m = parts a.core.now a.queue.now a.h.rules a.h.names c.processes_of-processes.result in
    let w = whole a.core.now a.queue.now a.h c.processes_of-processes.ensures in
    let z = c.sized.ensures in
    let shape : Shape m.header = record { names = z.0; lengths = z.1; counts = z.2; threads = z.3 } in
    record {
      left = subst (λ n. Leaves 0 (loads a.file.now 0 (a.count - 0) n) (loads a.file.now 0 a.count begins)) (sym w) (loads-begin a.file.now a.count begins);
      sound = sound-header m shape (ap sound_header w ∙ c.requires.2);
      few = omega arith;
    }

pub overflow_add-writes : goal.overflow_add-writes
overflow_add-writes c =
    let a = c.args in
    let l = c.loop-i in
    let o = c.place_and_start-answer in
    let m = parts l.core l.queue a.h.rules l.names l.processes in
    let n = parts o.new.core o.new.queue a.h.rules o.new.names o.new.processes in
    let gave = placed-and-started a.file.now l.i m _ l.invariant.sound c.requires.1 c.warrior_in-w.ensures o.ensures in
    let more = few-more a.file.now l.i m (told o.result.0) n gave l.invariant.sound in
    record { fits = omega (arith, more, l.invariant.few, c.loop-i-test.true, c.requires.0) }

pub returns-then-is_err : goal.returns-then-is_err
returns-then-is_err c =
    let a = c.args in
    let l = c.loop-i in
    let o = c.place_and_start-answer in
    let m = parts l.core l.queue a.h.rules l.names l.processes in
    let n = parts o.new.core o.new.queue a.h.rules o.new.names o.new.processes in
    let gave = placed-and-started a.file.now l.i m _ l.invariant.sound c.requires.1 c.warrior_in-w.ensures o.ensures in
    let all = loads a.file.now 0 a.count (machine_of a.core.now a.queue.now a.h) in
    let stops = load-stops a.file.now l.i m (told o.result.0) n gave a.count l.writes c.loop-i-test.true all l.invariant.left (refused o.result.0 (sym c.if-is_err.true ∙ c.is_err.ensures.value)) in
    stopping o.new.core o.new.queue c.stopped.ensures
    (ap (λ h. given (told o.result.0) (l.writes + o.result.1) 0 (machine_of o.new.core o.new.queue h)) c.header_of-header.ensures ∙ stops.0, stops.1)

pub loop-i-preserved : goal.loop-i-preserved
loop-i-preserved c =
    let a = c.args in
    let l = c.loop-i in
    let o = c.place_and_start-answer in
    let m = parts l.core l.queue a.h.rules l.names l.processes in
    let n = parts o.new.core o.new.queue a.h.rules o.new.names o.new.processes in
    let gave = placed-and-started a.file.now l.i m _ l.invariant.sound c.requires.1 c.warrior_in-w.ensures o.ensures in
    let all = loads a.file.now 0 a.count (machine_of a.core.now a.queue.now a.h) in
    let more = few-more a.file.now l.i m (told o.result.0) n gave l.invariant.sound in
    record {
      left = load-goes-on a.file.now l.i m (told o.result.0) n gave a.count l.writes c.loop-i-test.true all l.invariant.left (taken o.result.0 (sym c.if-is_err.false ∙ c.is_err.ensures.value));
      sound = still-sound a.file.now l.i m (told o.result.0) n gave l.invariant.sound;
      few = omega (arith, more, l.invariant.few);
    }

pub returns : goal.returns
returns c =
    let a = c.args in
    let l = c.loop-i in
    let m = parts l.core l.queue a.h.rules l.names l.processes in
    let all = loads a.file.now 0 a.count (machine_of a.core.now a.queue.now a.h) in
    let ends = loads-end a.file.now a.count m l.i l.writes all l.invariant.left (omega (arith, c.loop-i-test.false)) in
    stopping l.core l.queue c.stopped-2.ensures
    (ap (λ h. given (gives 0 0) l.writes 0 (machine_of l.core l.queue h)) c.header_of-header-2.ensures ∙ ends.0, ends.1)
