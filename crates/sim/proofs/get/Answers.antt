-- The goals of `sim::get` that the check leaves.
use mathlib.Core.Path.{sym, ◌≡◌, ◌∙◌, ap}
use mathlib.Core.Bool.{true}
use lib.IntN.{ℤ}
use mir.Syntax.{w32}
use mir.Facts.{to_z-of_z}
use Rattle.offset.specs.Offset.{euclid}
use Rattle.machine.specs.Soundness.{sound_header}
use Rattle.lent.specs.Parts.{machine_of}
use Rattle.lent.proofs.Parts.{whole}
use Rattle.sim.proofs.CellReading.{unsound-header, place_is, place-lt, unsound-cell, reads}
use Rattle.sim.proofs.get.Goals as goal

pub returns-then-not-sound_header : goal.returns-then-not-sound_header
returns-then-not-sound_header c =
    let a = c.args in
    let m = machine_of a.core.now a.queue.now a.h in (
      unsound-header m a.number
          (sym (c.sound_header.ensures ∙ ap sound_header (whole a.core.now a.queue.now a.h c.processes_of.ensures)) ∙ c.if-not-sound_header.true),
      tt,
    )

pub bounds-core-at : goal.bounds-core-at
bounds-core-at c =
    let a = c.args in
    let m = machine_of a.core.now a.queue.now a.h in
    let sound : sound_header m ≡ true = sym (c.sound_header.ensures ∙ ap sound_header (whole a.core.now a.queue.now a.h c.processes_of.ensures)) ∙ c.if-not-sound_header.false in
    let place : c.add-place.result.0 ≡ euclid a.number a.h.rules.size =
    place_is m a.number sound (c.reduce.ensures ∙ ap (λ (z : ℤ). euclid z a.h.rules.size) (to_z-of_z {w = w32} c.ranges.number)) c.add-place.ensures in
    place-lt m a.number sound place

pub returns-then-not-sound : goal.returns-then-not-sound
returns-then-not-sound c =
    let a = c.args in
    let m = machine_of a.core.now a.queue.now a.h in
    let sound : sound_header m ≡ true = sym (c.sound_header.ensures ∙ ap sound_header (whole a.core.now a.queue.now a.h c.processes_of.ensures)) ∙ c.if-not-sound_header.false in
    let place : c.add-place.result.0 ≡ euclid a.number a.h.rules.size =
    place_is m a.number sound (c.reduce.ensures ∙ ap (λ (z : ℤ). euclid z a.h.rules.size) (to_z-of_z {w = w32} c.ranges.number)) c.add-place.ensures in
    (unsound-cell m a.number sound place (sym c.sound.ensures ∙ c.if-not-sound.true), tt)

pub returns : goal.returns
returns c =
    let a = c.args in
    let m = machine_of a.core.now a.queue.now a.h in
    let sound : sound_header m ≡ true = sym (c.sound_header.ensures ∙ ap sound_header (whole a.core.now a.queue.now a.h c.processes_of.ensures)) ∙ c.if-not-sound_header.false in
    let place : c.add-place.result.0 ≡ euclid a.number a.h.rules.size =
    place_is m a.number sound (c.reduce.ensures ∙ ap (λ (z : ℤ). euclid z a.h.rules.size) (to_z-of_z {w = w32} c.ranges.number)) c.add-place.ensures in
    let read = reads m a.number sound c.unpack.ensures place (sym c.sound.ensures ∙ c.if-not-sound.false) in
    (read.0, read.1)
