-- The goals of `program::lowest_fault` that the check leaves.
use Rattle.std.proofs.Common.{rules, arith, not, length, eqb, ap, ◌≡◌, ◌∙◌, ◌/◌, ◌%◌}
use Rattle.std.proofs.lemmas.Iterator.{YieldsList-from_slice}
use Rattle.std.proofs.lemmas.Iterator.Search.{position_from_yields_List}
use Rattle.program.specs.Program.{lawful}
use Rattle.program.proofs.Bodies.{first_of}
use Rattle.program.proofs.lowest_fault.Goals as goal

pub returns : goal.returns
returns c =
    let body = c.args.body.now in
    let n : length c.as_chunks.result.0.now ≡ length body / 12 = omega arith in
    let m : length c.as_chunks.result.1.now ≡ length body % 12 = omega arith in
    rw (c.or.ensures, c.then_some.ensures, n)
    (first_of body (position_from_yields_List {all = c.as_chunks.result.0.now} (λ x. not (lawful x)) _ _ c.position-faulty.result c.position-faulty.ensures.ran (YieldsList-from_slice _ cc) (λ x b q k. search rules))
    c.as_chunks.ensures.front (c.is_empty.ensures ∙ ap (λ k. eqb k 0) m))
