-- What writing gives: its refusals in their order, and a warrior that passes the checks.
-- Assumes nothing.
use mathlib.Core.Path.{◌≡◌, refl, sym, ap, ap₂, ◌∙◌}
use mathlib.Core.Bool.{Bool, true, false, not}
use mathlib.Core.List.{List, [], ◌∷◌, ◌++◌}
use Prim.Native.Nat.{ℕ, ◌+◌, ◌-◌, ◌*◌, ◌≤◌, ◌<◌}
use native.Mathlib.Omega.{arith}
use lib.Dec.{leb, ltb}
use lib.ListN.{length, length-drop}
use lib.Seq.{sets}
use borrow.Author.Tests.{leb-false, ltb-false, not-false}
use Rattle.std.specs.Prelude.{Ok, Err}
use Rattle.answer.specs.declared.Error.{Error}
use Rattle.answer.specs.Numbers.{Told, told_error, gives}
use Rattle.answer.proofs.Numbers.{not_zero}
use Rattle.laws.proofs.Stores.{stored}
use Rattle.laws.proofs.Tests.{neither}
use Rattle.metadata.specs.Metadata.{valid_name}
use Rattle.metadata.proofs.Names.{valid-name}
use Rattle.machine.specs.State.{Check, Verdict, accepted, refusal, first}
use Rattle.machine.proofs.Checks.{passed, without, others}
use Rattle.match_format.specs.Format.{Warrior, file}
use Rattle.match_file.specs.Reading.{warriors_at}
use Rattle.match_format.proofs.Format.{length_more}
use Rattle.match_file.proofs.Warriors.{length-warriors, bodies-are, short-names}
use Rattle.write_checks.specs.Refusal.{given, settle, write_checks, write_told}
use Rattle.match_write.specs.Writing.{checks, write, Earlier}

module _ (f : List ℕ) (n start size : ℕ) (w : Warrior) (out : List ℕ) (earlier : Earlier f n start) where
  abbrev ws : List Warrior
  ws = warriors_at f 4 n

  abbrev room : ℕ
  room = 4 + 43 * (n + 1) + (length f - start) + length w.body

  how-many : length ws ≡ n
  how-many = length-warriors f 4 n

  how-long : valid_name w.name ≡ true → length (file size (ws ++ (w ∷ []))) ≡ room
  how-long v =
      length_more size n ws w how-many (short-names f 4 start n earlier.lines) (valid-name w.name v).0
      ∙ ap (λ (k : ℕ). 4 + 43 * (n + 1) + k + length w.body) (ap length (bodies-are f 4 start n earlier.lines) ∙ length-drop start f)

  -- the checks by numbers; a name that is too long is refused before the file's length is asked for
  same_first : first (checks size ws w (length out)) ≡ first (write_checks size n w.name w.body w.place room (length out))
  same_first = go (valid_name w.name) refl
    where
      go : (b : Bool) → valid_name w.name ≡ b
          → first (checks size ws w (length out)) ≡ first (write_checks size n w.name w.body w.place room (length out))
      go true v = ap₂ (λ (x y : ℕ). first (write_checks size x w.name w.body w.place y (length out))) how-many (how-long v)
      go false v = simp v

  abbrev verdict : Verdict
  verdict = first (write_checks size n w.name w.body w.place room (length out))

  tells : {t : Told} (v : Verdict) → t ≡ write_told size n w.name w.body w.place room (length out) → verdict ≡ v → t ≡ (settle v [] []).told
  unfolding write_told
  tells v t e = t ∙ ap (λ (v : Verdict). (settle v [] []).told) e

  -- a refusal
  pub refused : (error : Error) → told_error error ≡ write_told size n w.name w.body w.place room (length out) → given (Err error) out ≡ write size ws w out
  unfolding write
  refused error t = go verdict refl
    where
      go : (v : Verdict) → verdict ≡ v → given (Err error) out ≡ write size ws w out
      go accepted e = absurd (not_zero error (ap (λ (t : Told). t.number) (tells accepted t e)))
      go (refusal k x) e =
          ap (λ (t : Told). record { told = t; length = 0; output = out }) (tells (refusal k x) t e)
          ∙ ap (λ (v : Verdict). settle v (file size (ws ++ (w ∷ []))) out) {x = refusal k x} (sym (same_first ∙ e))

  module _ (t : gives 0 0 ≡ write_told size n w.name w.body w.place room (length out)) where
    all-passed : verdict ≡ accepted
    all-passed = go verdict refl
      where
        rows : List Check
        rows = write_checks size n w.name w.body w.place room (length out)

        go : (v : Verdict) → verdict ≡ v → verdict ≡ accepted
        go accepted e = e
        go (refusal k x) e = absurd (without 0 rows (others 0 rows refl) k x e (sym (ap (λ (t : Told). t.number) (tells (refusal k x) t e))))

    -- what the store asks
    pub fits : (n ≤ 15) × (length w.name ≤ 32) × (room ≤ length out)
    fits =
        let p = passed (write_checks size n w.name w.body w.place room (length out)) all-passed in
        let five = neither (not (valid_name w.name)) (leb size w.place) p.1.1.1.0 in
        let six = neither (leb 16 n) (ltb (length out) room) p.1.1.1.1.0 in
        let few : n < 16 = leb-false 16 n six.0 in
        (omega arith, (valid-name w.name (not-false _ five.0)).0, ltb-false (length out) room six.1)

    pub written : {t : ℕ} {after : List ℕ} → t ≡ room → after ≡ sets out 0 (file size (ws ++ (w ∷ []))) → given (Ok t) after ≡ write size ws w out
    unfolding write
    written d s =
        let made : List ℕ = file size (ws ++ (w ∷ [])) in
        let p = passed (write_checks size n w.name w.body w.place room (length out)) all-passed in
        let five = neither (not (valid_name w.name)) (leb size w.place) p.1.1.1.0 in
        let h : length made ≡ room = how-long (not-false _ five.0) in
        let l = fits.2 in
        ap₂ (λ (k : ℕ) (o : List ℕ). given (Ok k) o) (d ∙ sym h) (s ∙ stored out made (omega arith))
        ∙ ap (λ (x : Verdict). settle x made out) {x = accepted} (sym (same_first ∙ all-passed))
