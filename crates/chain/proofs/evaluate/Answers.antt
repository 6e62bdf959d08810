-- The goals of `chain::evaluate` that the check leaves.
use lib.ListN.{set}
use mathlib.Core.Path.{sym, refl, ◌∙◌}
use Rattle.chain.proofs.Evaluating.{is-placed, same-core, a-below, a-core, b-below, b-core, given}
use Rattle.chain.proofs.evaluate.Goals as goal

pub bounds-core-first : goal.bounds-core-first
bounds-core-first c =
    let a = c.args in
    let p = is-placed a.rules a.core.now a.pc.0 (sym c.is_place.ensures ∙ c.if-not-is_place.false) in
    a-below a.rules a.core.now a.pc.0 p refl c.a_mode.ensures c.number.ensures c.follow-a.ensures

pub bounds-core-second : goal.bounds-core-second
bounds-core-second c =
    let a = c.args in
    let p = is-placed a.rules a.core.now a.pc.0 (sym c.is_place.ensures ∙ c.if-not-is_place.false) in
    let x = set a.core.now c.follow-a.result.location.0 c.follow-a.result.left in
    b-below a.rules a.core.now a.pc.0 p refl c.a_mode.ensures c.number.ensures c.follow-a.ensures x
    (a-core a.rules a.core.now a.pc.0 p refl c.a_mode.ensures c.number.ensures c.follow-a.ensures)
    c.b_mode.ensures c.number-2.ensures (same-core _ _ x _ _ c.follow-b.ensures)

pub returns : goal.returns
returns c =
    let a = c.args in
    let place = sym c.is_place.ensures ∙ c.if-not-is_place.false in
    let p = is-placed a.rules a.core.now a.pc.0 place in
    let x = set a.core.now c.follow-a.result.location.0 c.follow-a.result.left in
    let ac = a-core a.rules a.core.now a.pc.0 p refl c.a_mode.ensures c.number.ensures c.follow-a.ensures in
    let same = same-core a.rules a.pc.0 x _ _ c.follow-b.ensures in (
      given a.rules a.core.now a.pc.0 p refl c.a_mode.ensures c.number.ensures c.follow-a.ensures x ac c.b_mode.ensures c.number-2.ensures same
          c.met.ensures ∙ simp place,
      b-core a.rules a.core.now a.pc.0 p refl c.a_mode.ensures c.number.ensures c.follow-a.ensures x ac c.b_mode.ensures c.number-2.ensures same
          ∙ simp place,
    )
