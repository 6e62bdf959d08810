-- The goals of `match_load::load_match` that the check leaves.
use mathlib.Core.Path.{◌≡◌, sym, ap, ◌∙◌}
use mathlib.Core.Bool.{true}
use native.Mathlib.Omega.{arith}
use Rattle.std.proofs.Common.{None}
use Rattle.machine.specs.Soundness.{sound_header}
use Rattle.match_format.specs.Faults.{fault}
use Rattle.match_format.proofs.Whole.{head_ok}
use Rattle.match_file.specs.Reading.{contents_in}
use Rattle.match_file.specs.declared.Contents.{Contents}
use Rattle.match_file.proofs.Values.{no-fault, is_read, refusal-told}
use Rattle.lent.specs.Parts.{machine_of}
use Rattle.lent.specs.Given.{given_by}
use Rattle.lent.proofs.Parts.{whole}
use Rattle.match_load.specs.Loading.{Loads, loads}
use Rattle.match_load.proofs.Loading.{stopping, unsound, malformed-file, other-size, then-loads}
use Rattle.match_load.proofs.load_match.Goals as goal

pub returns-then-not-sound_header : goal.returns-then-not-sound_header
returns-then-not-sound_header c =
    let a = c.args in
    let w = whole a.core.now a.queue.now a.h c.processes_of-processes.ensures in
    stopping a.core.now a.queue.now c.stopped.ensures
    (unsound (machine_of a.core.now a.queue.now a.h) a.file.now (sym (c.sound_header.ensures ∙ ap sound_header w) ∙ c.if-not-sound_header.true))

pub returns-in-Err : goal.returns-in-Err
returns-in-Err c =
    let a = c.args in
    let w = whole a.core.now a.queue.now a.h c.processes_of-processes.ensures in
    let sound : sound_header (machine_of a.core.now a.queue.now a.h) ≡ true = sym (c.sound_header.ensures ∙ ap sound_header w) ∙ c.if-not-sound_header.false in
    stopping a.core.now a.queue.now c.stopped-in-Err.ensures
    (malformed-file (machine_of a.core.now a.queue.now a.h) a.file.now sound c.in-Err.error (refusal-told (fault a.file.now) (contents_in a.file.now) c.in-Err.ensures))

pub returns-then-contents-h : goal.returns-then-contents-h
returns-then-contents-h c =
    let a = c.args in
    let w = whole a.core.now a.queue.now a.h c.processes_of-processes.ensures in
    let sound : sound_header (machine_of a.core.now a.queue.now a.h) ≡ true = sym (c.sound_header.ensures ∙ ap sound_header w) ∙ c.if-not-sound_header.false in
    let reads : fault a.file.now ≡ None = no-fault (fault a.file.now) (contents_in a.file.now) c.in-Ok.ensures in
    let is = is_read (fault a.file.now) (contents_in a.file.now) c.in-Ok.ensures in
    stopping a.core.now a.queue.now c.stopped-then-contents-h.ensures
    (other-size (machine_of a.core.now a.queue.now a.h) a.file.now sound reads (λ q. c.if-contents-h.true (ap (λ (x : Contents). x.size) is ∙ q)))

pub load_all-requires : goal.load_all-requires
load_all-requires c =
    let a = c.args in
    let w = whole a.core.now a.queue.now a.h c.processes_of-processes.ensures in
    let reads : fault a.file.now ≡ None = no-fault (fault a.file.now) (contents_in a.file.now) c.in-Ok.ensures in
    let is = is_read (fault a.file.now) (contents_in a.file.now) c.in-Ok.ensures in (
      omega (arith, (head_ok a.file.now reads).high, ap (λ (x : Contents). x.warriors) is),
      sym (ap (λ (x : Contents). x.size) is) ∙ c.if-contents-h.false,
      sym (c.sound_header.ensures ∙ ap sound_header w) ∙ c.if-not-sound_header.false,
    )

pub returns : goal.returns
returns c =
    let a = c.args in
    let w = whole a.core.now a.queue.now a.h c.processes_of-processes.ensures in
    let sound : sound_header (machine_of a.core.now a.queue.now a.h) ≡ true = sym (c.sound_header.ensures ∙ ap sound_header w) ∙ c.if-not-sound_header.false in
    let reads : fault a.file.now ≡ None = no-fault (fault a.file.now) (contents_in a.file.now) c.in-Ok.ensures in
    let is = is_read (fault a.file.now) (contents_in a.file.now) c.in-Ok.ensures in
    let m = machine_of a.core.now a.queue.now a.h in
    let all = ap (λ k. loads a.file.now 0 k m) (ap (λ (x : Contents). x.warriors) is)
    ∙ then-loads m a.file.now sound reads (sym (ap (λ (x : Contents). x.size) is) ∙ c.if-contents-h.false) in
    (c.load_all.ensures.0 ∙ ap (λ (x : Loads). given_by x.outcome) all, c.load_all.ensures.1 ∙ ap (λ (x : Loads). x.warrior) all)
