-- The goals of `soundness::names_valid` that the check leaves.
use Rattle.std.proofs.Common.{rules, ℕ, ◌≤◌, ◌≡◌, ◌∙◌, ◌&&◌, get_or, min, List, length, take, sym, ap, arith}
use lib.Seq.{length-take-le}
use Rattle.std.proofs.lemmas.Iterator.{YieldsList-from_range}
use Rattle.std.proofs.lemmas.Iterator.Search.{all_from_yields_List}
use mathlib.Core.Path.{refl}
use borrow.Author.Tests.{tests}
use Rattle.laws.specs.Lists.{every, table}
use Rattle.laws.proofs.Loops.{take-table}
use Rattle.laws.proofs.Ranges.{each-two}
use Rattle.metadata.specs.Metadata.{valid_byte}
use Rattle.machine.specs.Names.{name_at}
use Rattle.lent.specs.Parts.{valid_length}
use Rattle.soundness.proofs.names_valid.Goals as goal

pub returns : goal.returns
returns c =
    let r = c.args.names.now in
    let name = name_at r in
    let size : ℕ → ℕ = λ (i : ℕ). get_or r.lengths i 0 in
    let n = min r.held 16 in
    let fits : n ≤ length r.lengths = omega (arith, c.held.ensures) in
    let m = length (take c.held.result r.lengths) in
    let is : m ≡ n = ap (λ (k : ℕ). length (take k r.lengths)) c.held.ensures ∙ length-take-le n r.lengths fits in
    all_from_yields_List (λ (i : ℕ). valid_length (size i) && every valid_byte (name i)) _ _ _ c.all.ensures.ran
    (YieldsList-from_range 0 m m refl (omega arith)) (λ x b q k. search (rules, tests))
    ∙ each-two size valid_length name (every valid_byte) 0 m
    ∙ ap (λ (k : ℕ). every valid_length (table size 0 k) && every (every valid_byte) (table name 0 k)) is
    ∙ ap (λ (xs : List ℕ). every valid_length xs && every (every valid_byte) (table name 0 n)) (sym (take-table 0 r.lengths n fits))
