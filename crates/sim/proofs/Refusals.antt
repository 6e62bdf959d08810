-- A refusal as the code gives it: an answer, the writes that stand, no step, and a header.
-- Assumes nothing.
use Prim.Native.Nat.{ℕ}
use mathlib.Core.Path.{◌≡◌, ap, ap₂, ◌∙◌}
use mathlib.Core.List.{List}
use Rattle.answer.specs.Numbers.{Answer, told}
use Rattle.machine.specs.declared.Header.{Header}
use Rattle.lent.specs.Parts.{machine_of}
use Rattle.lent.specs.Given.{Given, given}

pub refusing : {answer A : Answer} {writes w steps : ℕ} {g h : Header} (core queue : List ℕ) {X : Given} → (answer ≡ A) × (writes ≡ w) × (steps ≡ 0) × (g ≡ h)
    → given (told A) w 0 (machine_of core queue h) ≡ X → given (told answer) writes steps (machine_of core queue g) ≡ X
refusing {A = A} {writes = v} {w = w} {steps = n} {g = g} core queue r e =
    ap (λ (x : Answer). given (told x) v n (machine_of core queue g)) r.0
    ∙ ap₂ (λ (i j : ℕ). given (told A) i j (machine_of core queue g)) r.1 r.2
    ∙ ap (λ (h : Header). given (told A) w 0 (machine_of core queue h)) r.3
    ∙ e
