-- The header at entry with what a step or a run changes of it: that is all, where the rules and the names stay.
-- Assumes nothing.
use mathlib.Core.Path.{◌≡◌, sym, ap, ◌∙◌}
use mathlib.Core.List.{List}
use Prim.Native.Nat.{ℕ}
use Rattle.answer.specs.Numbers.{Answer, Told, told, gives}
use Rattle.machine.specs.declared.Header.{Header}
use Rattle.machine.specs.declared.Roster.{Roster}
use Rattle.machine.specs.declared.Rules.{Rules}
use Rattle.machine.specs.State as state
use Rattle.lent.specs.Parts.{processes_of, header_of, machine_of}
use Rattle.lent.specs.Given.{Given, given, given_by}
use Rattle.sumacadze.specs.declared.Report.{Report}
use Rattle.sumacadze.specs.Report.{reported}
use Rattle.sumacadze.proofs.Numbers.{in-numbers}

abbrev pub changed : Header → Header → Header
changed h k = header_of h.rules h.names (processes_of k)

-- which is all, where the rules and the names stay
pub all_changed : (h : Header) (o : state.Outcome) {t : Told} {writes steps : ℕ} {core queue : List ℕ} {k : Header}
    → given t writes steps (machine_of core queue k) ≡ given_by o
    → (o.machine.header.rules ≡ h.rules) × (o.machine.header.names ≡ h.names) → changed h k ≡ k
all_changed h o {k} e fixed =
    ap (λ (x : Rules). header_of x h.names (processes_of k))
    (sym (ap (λ (g : Given). g.machine.header.rules) e ∙ fixed.0))
    ∙ ap (λ (x : Roster). header_of k.rules x (processes_of k))
    (sym (ap (λ (g : Given). g.machine.header.names) e ∙ fixed.1))

-- what a call by value gives back, told in numbers, with the header so changed
pub changed-in_numbers : (h : Header) (o : state.Outcome) (answer : Answer) {writes steps : ℕ} {core queue : List ℕ} {g k : Header} {r : Report}
    → g ≡ changed h k → r ≡ reported answer writes steps → given (told answer) writes steps (machine_of core queue k) ≡ given_by o
    → (o.machine.header.rules ≡ h.rules) × (o.machine.header.names ≡ h.names)
    → given (gives r.number r.value) r.writes r.steps (machine_of core queue g) ≡ given_by o
changed-in_numbers h o answer {writes} {steps} {core} {queue} {g} is n e fixed =
    in-numbers answer (machine_of core queue g) n (ap (λ (x : Header). given (told answer) writes steps (machine_of core queue x)) (is ∙ all_changed h o e fixed) ∙ e)
