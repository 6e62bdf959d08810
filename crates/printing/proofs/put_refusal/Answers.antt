-- The goals of `printing::put_refusal` that the check leaves.
use Rattle.std.proofs.Common.{rules}
use mathlib.Core.Path.{◌≡◌, sym, subst}
use Rattle.answer.specs.Numbers.{told}
use Rattle.printing.specs.declared.text.Text.{Text}
use Rattle.printing.specs.Text.{decimal, position}
use Rattle.printing.specs.Inner.Adding.{Adds}
use Rattle.printing.proofs.Adding.{then, from-start}
use Rattle.printing.proofs.Lines.{placed, unplaced}
use Rattle.printing.proofs.put_refusal.Goals as goal
use Rattle.printing.proofs.put_refusal.Goals.{in-Err-Malformed, in-Err+in-InvalidCoreSize-1, in-Ok-1}

pub returns : goal.returns
returns c =
    let t = told c.args.answer in
    let before = c.decimal.new.self in
    let first : Adds c.new-line.result before (decimal t.number) = subst (λ n. Adds c.new-line.result before (decimal n)) c.number.ensures c.decimal.ensures.adds in
    let middle : Adds before c.match-answer.line (position t) =
    elim c.match-answer.branch [
      | in-Err-Malformed w ↦
          let is : t.number ≡ 13 = search rules in
          let at : w.in-Err-Malformed.position ≡ t.value = search rules in
          subst (λ (x : Text). Adds before x (position t)) (sym w.line-is) (placed t is at w.byte.ensures w.decimal-in-Err-Malformed.ensures.adds)
      | in-Err+in-InvalidCoreSize-1 w ↦
          let other : t.number ≡ 13 → ⊥ = search rules in
          subst (λ (x : Text). Adds before x (position t)) (sym w.line-is) (unplaced t other c.decimal.ensures.adds)
      | in-Ok-1 w ↦
          let other : t.number ≡ 13 → ⊥ = search rules in
          subst (λ (x : Text). Adds before x (position t)) (sym w.line-is) (unplaced t other c.decimal.ensures.adds)
    ] in
    from-start c.new-line.ensures.same_bytes c.new-line.ensures.empty (then first (then middle c.byte-2.ensures))
