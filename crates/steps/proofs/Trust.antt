-- Which steps can be played without tests: those of a record that was looked through, and one whose refusal was asked.
-- Assumes nothing.
use mathlib.Core.Path.{◌≡◌, refl, sym, ap, subst, ◌∙◌}
use mathlib.Core.Bool.{Bool, true, false, cond, true≢false}
use mathlib.Core.Logic.{◌⊎◌, inl, inr, ⊎_elim}
use Rattle.std.specs.Prelude.{max}
use Prim.Native.Nat.{ℕ, zero, suc, ◌+◌, ◌-◌, ◌<◌}
use native.Mathlib.Omega.{arith}
use lib.Dec.{eqb, ltb}
use borrow.Author.Tests.{eqb-true, lt-ltb, ltb-true, ltb-false}
use Rattle.laws.proofs.Every.{◌and◌}
use Rattle.answer.specs.Numbers.{Told, gives}
use Rattle.machine.specs.State.{Machine, Outcome, Verdict, accepted, refusal, first, settle, verdict_told}
use Rattle.machine.specs.Queue.{entries}
use Rattle.machine.specs.Soundness.{sound_entry}
use Rattle.machine.specs.Step.{next_checks, step_checks, executed, step}
use Rattle.machine.proofs.Checks.{number_of}
use Rattle.lent.specs.Given.{given, given_by}
use Rattle.refusal.specs.Checks as check
use Rattle.scan.specs.Scanning.{scanned}
use Rattle.scan.proofs.Trusting.{Trusted, scan-trusts, trusted-step, only-ten, step-leaves}
use Rattle.steps.specs.Inner.Ready.{Ready, Playable, Scanned, Plays, step_of}
use Rattle.steps.proofs.Naming.{naming, letters, ones, lettered, sound-all, named, step-named}

-- the steps left of a scanned record are trusted beside the sixteen names of one letter; else the one step is
abbrev pub Playing : ℕ → Machine → Type 0
Playing ceiling m =
    (Trusted (ceiling - m.header.steps) (naming letters ones m) × (0 < m.header.ring.length))
    ⊎ (m.header.steps < ceiling → (ceiling ≡ m.header.steps + 1) × Playable m)

module _ (ceiling : ℕ) (m : Machine) (r : Ready m) where
  abbrev plain : Machine
  plain = naming letters ones m

  scanned-beside : (k : ℕ) → scanned k m ≡ true → scanned k plain ≡ true
  unfolding scanned sound_entry entries
  scanned-beside k e = e

  pub plays-first : Plays ceiling m → Playing ceiling m
  plays-first p =
      ⊎_elim (λ s. inl (scan-trusts (ceiling - m.header.steps) plain (sound-all plain (lettered m r)) (scanned-beside (ceiling - m.header.steps) s.all), s.some))
      (λ q. inr (λ h. q)) p

  -- a next step to play
  module _ (below : m.header.steps < ceiling) where
    -- one of so many steps to go
    next_of : {X : Type 0} → Trusted (ceiling - m.header.steps) plain → ((k : ℕ) → ceiling - m.header.steps ≡ suc k → Trusted (suc k) plain → X) → X
    next_of {X} t f = go (ceiling - m.header.steps) refl
      where
        go : (n : ℕ) → ceiling - m.header.steps ≡ n → X
        go zero e = absurd (omega arith)
        go (suc k) e = f k e (subst (λ (j : ℕ). Trusted j plain) e t)

    checks-are : first (step_checks plain) ≡ first (next_checks m)
    unfolding sound_entry
    checks-are = let h = (lettered m r).header in simp h

    pub playable : Playing ceiling m → Playable m
    playable p =
        ⊎_elim (λ t. next_of t.0 (λ k e u. record { only = λ n v f. only-ten k plain u t.1 n v (checks-are ∙ f) })) (λ q. (q below).1) p

    pub plays-on : (n : Machine) → n ≡ (step_of m).machine → n.header.steps ≡ m.header.steps + 1 → (step_of m).number ≡ 0 → Playing ceiling m → Playing ceiling n
    plays-on n en es z p = ⊎_elim (λ t. inl (further t.0)) (λ q. inr (λ h. absurd (let y = (q below).0 in omega arith))) p
      where
        one : step plain ≡ named letters ones (step_of m)
        one = step-named letters ones m (lettered m r)

        further : Trusted (ceiling - m.header.steps) plain → Trusted (ceiling - n.header.steps) (naming letters ones n) × (0 < n.header.ring.length)
        further t =
            next_of t
            (λ k e u.
            let w : k ≡ ceiling - n.header.steps = omega arith in
            let at : (step plain).machine ≡ naming letters ones n = ap (λ (o : Outcome). o.machine) one ∙ ap (naming letters ones) (sym en) in (
              subst (λ (j : ℕ). Trusted j (naming letters ones n)) w (subst (Trusted k) at (trusted-step k plain u)),
              subst (λ (x : Machine). 0 < x.header.ring.length) at (step-leaves plain u.sound (ap (λ (o : Outcome). o.number) one ∙ z)),
            ))

-- the next step, asked whether it is refused unless the record is trusted for it
module _ (trusted : ℕ) (m : Machine) (r : Ready m) (said : Told) (asked : said ≡ cond (ltb m.header.steps trusted) (gives 0 0) (check.refused m)) where
  bounds-are : check.in_bounds m ≡ true
  bounds-are = let t = r.taken in let h = lt-ltb _ _ r.head in simp (t, h)

  verdict-is : check.refused m ≡ verdict_told (first (next_checks m))
  unfolding check.refused
  verdict-is = let w = bounds-are in simp w

  -- told 0: it is not
  pub not-refused : eqb said.number 0 ≡ true → (m.header.steps < trusted → Scanned trusted m) → Plays (max trusted (m.header.steps + 1)) m
  not-refused e s = go (ltb m.header.steps trusted) refl asked
    where
      go : (t : Bool) → ltb m.header.steps trusted ≡ t → said ≡ cond t (gives 0 0) (check.refused m) → Plays (max trusted (m.header.steps + 1)) m
      go true q a =
          let h = ltb-true m.header.steps trusted q in
          let f : trusted ≡ max trusted (m.header.steps + 1) = omega arith in inl (subst (λ (u : ℕ). Scanned u m) f (s h))
      go false q a =
          inr (
            let h = ltb-false m.header.steps trusted q in omega arith,
            record {
              only = λ n v f.
                  let z : n ≡ 0 = sym (ap (λ (t : Told). t.number) (a ∙ verdict-is ∙ ap verdict_told f)) ∙ eqb-true said.number 0 e in
                  absurd
                  (number_of (λ k. k ≡ 0 → ⊥) (next_checks m)
                  ((λ q. omega arith) and (λ q. omega arith) and (λ q. omega arith) and (λ q. omega arith) and (λ q. omega arith) and (λ q. omega arith) and tt) n v f z);
            },
          )

  pub is-refused : eqb said.number 0 ≡ false → (ltb m.header.steps trusted ≡ false) × (given said 0 0 m ≡ given_by (step_of m))
  unfolding step_of
  is-refused e = go (ltb m.header.steps trusted) refl asked
    where
      settled : (v : Verdict) → first (next_checks m) ≡ v → said ≡ verdict_told v → given said 0 0 m ≡ given_by (settle v m (executed m))
      settled accepted f t = absurd (true≢false (sym (ap (λ (k : Told). eqb k.number 0) t) ∙ e))
      settled (refusal n v) f t = ap (λ (k : Told). given k 0 0 m) t

      go : (t : Bool) → ltb m.header.steps trusted ≡ t → said ≡ cond t (gives 0 0) (check.refused m) → (ltb m.header.steps trusted ≡ false) × (given said 0 0 m ≡ given_by (settle (first (next_checks m)) m (executed m)))
      go true f a = absurd (true≢false (sym (ap (λ (k : Told). eqb k.number 0) a) ∙ e))
      go false f a = (f, settled (first (next_checks m)) refl (a ∙ verdict-is))
