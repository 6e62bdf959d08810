-- The goals of `chain::readable` that the check leaves.
use Rattle.cell.specs.Cells.{unpacked}
use lib.ListN.{set}
use mathlib.Core.Path.{sym, refl, ap, ◌∙◌}
use Prim.Native.Nat.{ℕ}
use Rattle.chain.proofs.Evaluating.{is-placed, a-core, a-unsound, again-is, b-sound}
use Rattle.chain.proofs.readable.Goals as goal

pub returns-then-not-sound_chains : goal.returns-then-not-sound_chains
returns-then-not-sound_chains c =
    let a = c.args in
    let place = sym c.is_place.ensures ∙ c.if-not-is_place.false in
    let p = is-placed a.rules a.core.now a.pc.0 place in
    a-unsound a.rules a.core.now a.pc.0 p refl c.a_mode.ensures c.number.ensures c.follow-a.ensures
    c.sound_chains.ensures c.if-not-sound_chains.true place

pub returns : goal.returns
returns c =
    let a = c.args in
    let place = sym c.is_place.ensures ∙ c.if-not-is_place.false in
    let p = is-placed a.rules a.core.now a.pc.0 place in
    b-sound a.rules a.core.now a.pc.0 p refl c.a_mode.ensures c.number.ensures c.follow-a.ensures
    (set a.core.now c.follow-a.result.location.0 c.follow-a.result.left)
    (a-core a.rules a.core.now a.pc.0 p refl c.a_mode.ensures c.number.ensures c.follow-a.ensures)
    c.b_mode.ensures
    (c.number-2.ensures ∙ ap (λ (w : ℕ). (unpacked w).b.0)
    (again-is a.rules a.core.now a.pc.0 p refl c.a_mode.ensures c.number.ensures c.follow-a.ensures c.word_at-again.ensures))
    c.follow-b.ensures c.sound_chains.ensures c.if-not-sound_chains.false c.sound_chains-2.ensures place
