-- Laws of fresh: refusals, what it accepts, and that it looks at the lengths of the lent memories alone.
-- Assumes nothing.
use Prim.Native.Nat.{ℕ}
use mathlib.Core.Path.{◌≡◌, refl, sym, ◌∙◌}
use mathlib.Core.Bool.{false, true≢false}
use mathlib.Core.List.{List}
use lib.Dec.{eqb}
use lib.ListN.{length}
use Rattle.laws.proofs.Every.{◌and◌}
use Rattle.machine.specs.declared.Rules.{Rules}
use Rattle.machine.specs.State.{Machine, Outcome, done, Verdict, accepted, refusal, first, settle, told_by}
use Rattle.machine.specs.Soundness.{fresh_checks}
use Rattle.machine.specs.Fresh.{fresh_machine, lent, fresh}
use Rattle.machine.proofs.Checks.{accepts, number_of, Refused}
use Rattle.machine.proofs.Soundness.{Taken, takes}

module _ (rules : Rules) (core queue : List ℕ) where
  pub fresh-by-cases : (P : Outcome → Type 0)
      → ((n v : ℕ) → eqb n 0 ≡ false → P (settle (refusal n v) (lent core queue) (done (fresh_machine rules core queue) 0 0)))
      → (first (fresh_checks rules core queue) ≡ accepted
      → P (done (fresh_machine rules core queue) 0 0))
      → P (fresh rules core queue)
  unfolding fresh
  fresh-by-cases P r a = go (first (fresh_checks rules core queue)) refl
    where
      go : (v : Verdict) → first (fresh_checks rules core queue) ≡ v
          → P (settle v (lent core queue) (done (fresh_machine rules core queue) 0 0))
      go accepted e = a e
      go (refusal n v) e = r n v (number_of (λ n. eqb n 0 ≡ false) (fresh_checks rules core queue) (refl and refl and refl and tt) n v e)

  -- refused: what was lent is as it was
  pub fresh-refused : eqb (fresh rules core queue).number 0 ≡ false → Refused (lent core queue) (fresh rules core queue)
  fresh-refused =
      fresh-by-cases (λ o. eqb o.number 0 ≡ false → Refused (lent core queue) o)
      (λ n v x f. record { machine = refl; writes = refl; steps = refl; pushes = refl }) (λ e f. absurd (true≢false f))

  pub fresh-accepted : (fresh rules core queue).number ≡ 0
      → (first (fresh_checks rules core queue) ≡ accepted) × ((fresh rules core queue).machine ≡ fresh_machine rules core queue)
  fresh-accepted =
      fresh-by-cases (λ o. o.number ≡ 0 → (first (fresh_checks rules core queue) ≡ accepted) × (o.machine ≡ fresh_machine rules core queue))
      (λ n v x z. absurd (true≢false (sym (rw z) ∙ x))) (λ e z. (e, refl))

-- it accepts every valid size, queue length and pair of limits
pub fresh-accepts : (rules : Rules) (core queue : List ℕ) → Taken rules core queue → (fresh rules core queue).number ≡ 0
unfolding fresh
fresh-accepts rules core queue t =
    let e = accepts (fresh_checks rules core queue) (takes rules core queue t) in
    rw e

-- it makes the same machine of any memories of the same lengths
pub fresh-lengths : (rules : Rules) (core queue core' queue' : List ℕ) → length core' ≡ length core → length queue' ≡ length queue
    → (fresh rules core queue).number ≡ 0 → (fresh rules core' queue').machine ≡ (fresh rules core queue).machine
unfolding fresh
fresh-lengths rules core queue core' queue' a b ok =
    let e : first (fresh_checks rules core queue) ≡ accepted = (fresh-accepted rules core queue ok).0 in
    rw (a, b, e)

-- and it tells the same of them, refused or not
pub fresh-tells : (rules : Rules) (core queue core' queue' : List ℕ) → length core' ≡ length core → length queue' ≡ length queue
    → told_by (fresh rules core' queue') ≡ told_by (fresh rules core queue)
unfolding fresh
fresh-tells rules core queue core' queue' a b = rw (a, b) (settled (first (fresh_checks rules core queue)) _ _ _ _ refl)
  where
    settled : (v : Verdict) (m m' : Machine) (o o' : Outcome) → told_by o ≡ told_by o' → told_by (settle v m o) ≡ told_by (settle v m' o')
    settled accepted m m' o o' e = e
    settled (refusal n v) m m' o o' e = refl
