-- The goals of `match_load::place_and_start` that the check leaves.
use mathlib.Core.Path.{◌≡◌, refl, sym, ap, ◌∙◌}
use Prim.Native.Nat.{ℕ}
use native.Mathlib.Nat.{add-zero}
use native.Mathlib.Omega.{arith}
use Rattle.answer.proofs.Numbers.{not_zero}
use Rattle.answer.specs.Numbers.{told}
use Rattle.offset.specs.Offset.{ahead}
use Rattle.offset.proofs.Offsets.{sum_is}
use Rattle.machine.specs.State.{Machine}
use Rattle.lent.specs.Parts.{parts}
use Rattle.lent.specs.Given.{Given, given, given_by}
use Rattle.warrior.specs.Tested.{place_tested, start_tested}
use Rattle.warrior.proofs.Placing.{place-beside-queue, place-fits}
use Rattle.warrior.proofs.Starting.{start-beside-core}
use Rattle.match_load.specs.Loading.{origin_of}
use Rattle.match_load.proofs.Warrior.{then-refused, then-follows}
use Rattle.match_load.proofs.place_and_start.Goals as goal

pub returns-in-Err : goal.returns-in-Err
returns-in-Err c =
    let a = c.args in
    let m = parts a.core.now a.queue.now a.rules a.names.now a.processes.now in
    let gave = place-beside-queue a.core.now a.queue.now a.rules a.names.now a.processes.now a.w.name.now a.w.body.now a.w.place c.in-Err.ensures in
    then-refused (place_tested m a.w.name.now a.w.body.now a.w.place) (λ (n : Machine). start_tested n a.w.name.now (ahead a.rules.size a.w.place (origin_of a.w.origin)))
    gave (not_zero c.in-Err.error)

pub returns : goal.returns
returns c =
    let a = c.args in
    let p = c.place_parts in
    let m = parts a.core.now a.queue.now a.rules a.names.now a.processes.now in
    let n = parts p.new.core a.queue.now a.rules p.new.names p.new.processes in
    let o = place_tested m a.w.name.now a.w.body.now a.w.place in
    let at = ahead a.rules.size a.w.place (origin_of a.w.origin) in
    let gave = place-beside-queue a.core.now a.queue.now a.rules a.names.now a.processes.now a.w.name.now a.w.body.now a.w.place c.in-Ok.ensures in
    let some : a.rules.size ≡ 0 → ⊥ = (λ z. let f = (place-fits m a.w.name.now a.w.body.now a.w.place (sym (ap (λ (g : Given). g.told.number) gave))).below in omega (arith, f, z)) in
    let there = sum_is a.rules.size some c.add-at.ensures ∙ ap (ahead a.rules.size a.w.place) c.origin_of.ensures in
    let started = start-beside-core p.new.core a.queue.now a.rules p.new.names p.new.processes a.w.name.now c.add-at.result.0 c.start_parts-answer.ensures in
    ap (λ (w : ℕ). given (told c.start_parts-answer.result) w 0 (parts p.new.core c.start_parts-answer.new.queue a.rules c.start_parts-answer.new.names c.start_parts-answer.new.processes)) (sym (add-zero c.in-Ok.writes))
    ∙ then-follows o (λ (k : Machine). start_tested k a.w.name.now at) gave refl (started ∙ ap (λ (k : ℕ). given_by (start_tested n a.w.name.now k)) there)
