-- What writing answers past the test of M: the checks of M and a warrior, and then the room.
-- Assumes nothing.
use mathlib.Core.Path.{◌≡◌, refl, sym, ap, ◌∙◌}
use mathlib.Core.Bool.{Bool, true, false, cond, not, ◌||◌}
use mathlib.Core.List.{List, [], ◌∷◌, ◌++◌}
use Prim.Native.Nat.{ℕ}
use lib.Dec.{leb, ltb}
use Rattle.answer.specs.declared.Error.{Error}
use Rattle.answer.specs.Numbers.{Told, gives, told_error}
use Rattle.machine.specs.State.{Check, check, Verdict, accepted, refusal, first, verdict_told}
use Rattle.machine.specs.Soundness.{valid_size}
use Rattle.machine.specs.Place.{warrior_checks}
use Rattle.warrior_checks.specs.Refusal.{warrior_told}
use Rattle.warrior_checks.proofs.Warrior.{warrior-refused, warrior-accepted}
use Rattle.write_checks.specs.Refusal.{settle, write_checks, write_told}

abbrev tells : Verdict → Told
tells v = (settle v [] []).told

told-is : (v : Verdict) → verdict_told v ≡ tells v
told-is accepted = refl
told-is (refusal n v) = refl

module _ (size n : ℕ) (name body : List ℕ) (place long room : ℕ) (valid : valid_size size ≡ true) where
  abbrev rest : List Check
  rest = check (leb 16 n || ltb room long) 6 ∷ []

  past : first (write_checks size n name body place long room) ≡ first (warrior_checks size name body place ++ rest)
  past = ap (λ (b : Bool). cond (not b) (refusal 1 0) (first (warrior_checks size name body place ++ rest))) valid

  pub refused : (e : Error) → told_error e ≡ warrior_told size name body place → told_error e ≡ write_told size n name body place long room
  unfolding write_told
  refused e is = warrior-refused size name body place rest e is ∙ told-is (first (warrior_checks size name body place ++ rest)) ∙ ap tells (sym past)

  module _ (taken : gives 0 0 ≡ warrior_told size name body place) where
    reached : first (write_checks size n name body place long room) ≡ first rest
    reached = past ∙ warrior-accepted size name body place rest taken

    pub no_room : (leb 16 n || ltb room long) ≡ true → gives 6 0 ≡ write_told size n name body place long room
    unfolding write_told
    no_room h = ap tells {x = refusal 6 0} (sym (reached ∙ simp h))

    pub passed : (leb 16 n || ltb room long) ≡ false → gives 0 0 ≡ write_told size n name body place long room
    unfolding write_told
    passed h = ap tells {x = accepted} (sym (reached ∙ simp h))
