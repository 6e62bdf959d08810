-- The goals of `match_write::store::store_file` that the check leaves.
use Rattle.std.proofs.Common.{arith, sym, ap, length, length-drop, ◌∙◌, List, ℕ, ◌∷◌, [], ◌+◌, get_or}
use Rattle.laws.proofs.Lists.{to_end}
use Rattle.match_format.specs.Format.{handed}
use Rattle.match_file.specs.Reading.{warriors_at}
use Rattle.match_format.proofs.Whole.{lines_start}
use Rattle.match_file.proofs.Warriors.{length-warriors, bodies-are, short-names}
use Rattle.match_write.proofs.Lines.{rest-length, file-stored}
use Rattle.match_write.proofs.store.store_file.Goals as goal

pub put_lines-next-requires : goal.put_lines-next-requires
put_lines-next-requires c =
    let f = c.args.file.now in
    let e = c.requires.1.lines in
    (c.requires.0, short-names f 4 c.args.start c.args.n e, omega (arith, ap length (bodies-are f 4 c.args.start c.args.n e), length-drop c.args.start f))

pub slice_bounds-bodies-count : goal.slice_bounds-bodies-count
slice_bounds-bodies-count c = omega (arith, lines_start c.args.file.now 4 c.args.start c.args.n c.requires.1.lines)

pub slice_bounds-bodies-start : goal.slice_bounds-bodies-start
slice_bounds-bodies-start c = omega (arith, lines_start c.args.file.now 4 c.args.start c.args.n c.requires.1.lines)

pub returns : goal.returns
returns c =
    let a = c.args in
    let f = a.file.now in
    let e = c.requires.1.lines in (
      omega (arith, rest-length f a.start),
      file-stored a.size a.n (warriors_at f 4 a.n) (handed a.w) (length-warriors f 4 a.n) (short-names f 4 a.start a.n e) c.requires.2
          a.out.now _ _ _ _ _ _ _ _
          c.copy.ensures (ap (λ (bs : List ℕ). (a.n + 1) ∷ get_or bs 0 0 ∷ get_or bs 1 0 ∷ 0 ∷ []) c.to_le_bytes.ensures)
          c.put_lines-next.ensures.1
          c.put_lines-next.ensures.0
          c.put_line.ensures
          (to_end f a.start ∙ sym (bodies-are f 4 a.start a.n e))
          c.copy-2.ensures
          c.copy-3.ensures,
    )
