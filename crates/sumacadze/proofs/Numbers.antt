-- What place, start, step and run give back, in numbers.
-- Assumes nothing.
use Prim.Native.Nat.{ℕ}
use mathlib.Core.Path.{◌≡◌, ap, ◌∙◌}
use Rattle.answer.specs.Numbers.{Answer, told, gives}
use Rattle.machine.specs.State.{Machine}
use Rattle.lent.specs.Given.{Given, given}
use Rattle.sumacadze.specs.declared.Report.{Report}
use Rattle.sumacadze.specs.Report.{reported}

-- of place, start, step and run: with the record that the call leaves
pub in-numbers : (answer : Answer) {writes steps : ℕ} (m : Machine) {r : Report} {g : Given} → r ≡ reported answer writes steps → given (told answer) writes steps m ≡ g
    → given (gives r.number r.value) r.writes r.steps m ≡ g
in-numbers answer m e p = ap (λ (r : Report). given (gives r.number r.value) r.writes r.steps m) e ∙ p
