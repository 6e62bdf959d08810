-- The goals of `match_write::store::put_lines` that the check leaves.
use Rattle.std.proofs.Common.{◌≡◌, ◌≤◌, ◌∙◌, ap, sym, subst, ◌+◌, ◌*◌, length, arith}
use Rattle.std.proofs.lemmas.List.Edits.{sets}
use Rattle.match_format.specs.Format.{Warrior}
use Rattle.match_format.proofs.Format.{line_of}
use Rattle.match_file.specs.Reading.{warrior_of}
use Rattle.match_write.proofs.Lines.{shorts, start-turn, lines-turn}
use Rattle.match_write.proofs.store.put_lines.Goals as goal

pub put_line-requires : goal.put_line-requires
put_line-requires c =
    let l = c.loop-number in
    let s = shorts c.args.file.now c.args.n l.number c.loop-number-test.true l.invariant.0 in
    (subst (λ (w : Warrior). length w.name ≤ 32) (sym c.warrior_in-w.ensures) s.0, omega arith)

pub loop-number-preserved : goal.loop-number-preserved
loop-number-preserved c =
    let l = c.loop-number in
    let f = c.args.file.now in
    let t = c.loop-number-test.true in
    let s = shorts f c.args.n l.number t l.invariant.0 in
    let e = c.warrior_in-w.ensures in
    let b : length c.warrior_in-w.result.body.now ≡ length (warrior_of f l.number).body = ap (λ (w : Warrior). length w.body) e in (
      s.1,
      l.invariant.1 ∙ start-turn f c.args.n l.number t l.next ∙ rw b,
      l.invariant.2 ∙ lines-turn f c.args.n l.number t l.out c.put_line.new.out l.next s.0 (c.put_line.ensures ∙ ap (λ (w : Warrior). sets l.out (4 + 43 * l.number) (line_of w l.next)) e) ∙ rw b,
    )
