-- What was put into the memory lent for it is what is printed for the file.
-- Assumes nothing.
use Prim.Native.Nat.{ℕ, ◌≤◌}
use mathlib.Core.Path.{◌≡◌, sym, ap, subst, ◌∙◌}
use mathlib.Core.Bool.{Bool, cond}
use mathlib.Core.List.{List, []}
use native.Mathlib.Nat.{zero-add}
use lib.ListN.{length}
use lib.Seq.{sets, length-sets}
use borrow.Author.Tests.{le-leb}
use Rattle.std.specs.Prelude.{Ok, Err}
use Rattle.answer.specs.declared.Error.{Error}
use Rattle.answer.specs.Numbers.{told, told_error}
use Rattle.machine.specs.declared.Outcome.{Outcome}
use Rattle.battle.specs.Match as spec
use Rattle.printing.specs.Text.{refusal_text, run_text, run_text_if, Puts}
use Rattle.battle.specs.Text.{text, printed}
use Rattle.battle.specs.Inner.Given.{result_of}

module _ (f : List ℕ) where
  -- the memory and the length afterwards
  abbrev Prints : List ℕ → List ℕ → ℕ → Type 0
  Prints l m q = (m ≡ sets l 0 (printed f)) × (q ≡ length (printed f)) × (q ≤ length m)

  prints : {l m : List ℕ} {q : ℕ} (r : spec.Result) → r ≡ spec.result f → Puts l m 0 q (text r) → Prints l m q
  unfolding printed
  prints {l = l} {m = m} {q = q} r is a =
      let p = subst (λ (r : spec.Result). Puts l m 0 q (text r)) is a in
      (p.out, p.to ∙ zero-add (length (printed f)), subst (λ (n : ℕ). q ≤ n) (sym (ap length p.out ∙ length-sets l 0 (printed f))) p.inside)

  pub prints-run : (run : Outcome) {l m : List ℕ} {q : ℕ} → result_of (Ok run) ≡ spec.result f → run.header.names.held ≤ 16
      → Puts l m 0 q (run_text_if (told run.answer).number run.steps run.writes run.header) → Prints l m q
  prints-run run {l = l} {m = m} {q = q} is few a =
      prints (result_of (Ok run)) is
      (subst (λ (b : Bool). Puts l m 0 q (cond b (run_text (told run.answer).number run.steps run.writes run.header) [])) (le-leb run.header.names.held 16 few) a)

  pub prints-refusal : (error : Error) {l m : List ℕ} {q : ℕ} → result_of (Err error) ≡ spec.result f → Puts l m 0 q (refusal_text (told_error error)) → Prints l m q
  prints-refusal error is a = prints (result_of (Err error)) is a
