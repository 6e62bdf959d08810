-- Calls that answer 0: the file that each made.
-- Assumes nothing.
use mathlib.Core.Path.{◌≡◌, refl, sym, ap, ◌∙◌}
use mathlib.Core.Bool.{false, true≢false}
use mathlib.Core.List.{List, [], ◌∷◌, ◌++◌}
use Prim.Native.Nat.{ℕ}
use native.Mathlib.Omega.{arith}
use lib.ListN.{length, drop}
use lib.Seq.{take_at}
use Rattle.std.specs.Prelude.{Option, Some, None}
use Rattle.machine.specs.State.{Verdict, accepted, first}
use Rattle.machine.proofs.Checks.{passed}
use Rattle.match_format.specs.Format.{Warrior, file}
use Rattle.match_format.specs.Faults.{fault}
use Rattle.match_file.specs.Reading.{size_in, warriors_of}
use Rattle.match_file.specs.Refusal.{malformed}
use Rattle.match_file.proofs.Refusal.{thirteen}
use Rattle.write_checks.specs.Refusal.{settle}
use Rattle.match_write.specs.Writing.{checks, write, write_first, write_added}
use Rattle.round_trip.specs.Calls.{made, Done}
use Rattle.round_trip.proofs.Accept.{accepted-of, refusals}

settled : (v : Verdict) (f output : List ℕ) → v ≡ accepted → made (settle v f output) ≡ f
settled v f output e = ap (λ (x : Verdict). made (settle x f output)) e ∙ take_at f (drop (length f) output) (length f) refl

module _ (size : ℕ) (w : Warrior) (output : List ℕ) where
  pub first-accepted : Done (write_first size w output) → first (checks size [] w (length output)) ≡ accepted
  unfolding write
  first-accepted d = accepted-of (checks size [] w (length output)) (refusals size [] w (length output)) (file size (w ∷ [])) output d

  pub first_made : first (checks size [] w (length output)) ≡ accepted → made (write_first size w output) ≡ file size (w ∷ [])
  unfolding write
  first_made e = settled (first (checks size [] w (length output))) (file size (w ∷ [])) output e

no-fault : (x : Option ℕ) → (malformed x).applies ≡ false → x ≡ None
no-fault None e = refl
no-fault (Some p) e = absurd (true≢false e)

module _ (f : List ℕ) (w : Warrior) (output : List ℕ) where
  abbrev made_of : List ℕ
  made_of = file (size_in f) (warriors_of f ++ (w ∷ []))

  pub added-accepted : Done (write_added f w output) → (fault f ≡ None) × (first (checks (size_in f) (warriors_of f) w (length output)) ≡ accepted)
  unfolding write_added
  added-accepted d =
      let cs = checks (size_in f) (warriors_of f) w (length output) in
      let e = accepted-of (malformed (fault f) ∷ cs) (λ z. omega (arith, thirteen (fault f)), refusals (size_in f) (warriors_of f) w (length output)) made_of output d in
      let s : fault f ≡ None = no-fault (fault f) (passed (malformed (fault f) ∷ cs) e).0 in
      (s, sym (ap (λ (x : Option ℕ). first (malformed x ∷ cs)) s) ∙ e)

  pub added-made : fault f ≡ None → first (checks (size_in f) (warriors_of f) w (length output)) ≡ accepted → made (write_added f w output) ≡ made_of
  unfolding write_added
  added-made s e =
      let cs = checks (size_in f) (warriors_of f) w (length output) in
      settled (first (malformed (fault f) ∷ cs)) made_of output (ap (λ (x : Option ℕ). first (malformed x ∷ cs)) s ∙ e)
