-- A file with one warrior added: a file that does not read is refused, and one that reads is copied.
-- Assumes nothing.
use mathlib.Core.Path.{◌≡◌, refl, sym, ap, ◌∙◌}
use mathlib.Core.List.{List, [], ◌∷◌, ◌++◌}
use Prim.Native.Nat.{ℕ, ◌+◌, ◌*◌, ◌<◌}
use native.Mathlib.Omega.{arith}
use lib.ListN.{length}
use Rattle.std.specs.Prelude.{Option, Some, None, Ok, Err}
use Rattle.answer.specs.declared.Error.{Error}
use Rattle.answer.specs.Numbers.{Told}
use Rattle.machine.specs.State.{first}
use Rattle.match_format.specs.Format.{Warrior, file}
use Rattle.match_format.specs.Faults.{lines_fault, fault}
use Rattle.match_file.specs.declared.Contents.{Contents}
use Rattle.match_file.specs.Reading.{unless_malformed, contents_in, warriors_in, size_in, warriors_at, warriors_of}
use Rattle.match_file.specs.Refusal.{malformed}
use Rattle.match_format.proofs.Whole.{head_ok}
use Rattle.match_file.proofs.Values.{no-fault, is_read, refusal-told, warrior-reads}
use Rattle.write_checks.specs.Refusal.{Written, given, settle}
use Rattle.match_write.specs.Writing.{checks, write, write_added, Earlier}

-- none before the first warrior
pub none : Earlier [] 0 0
unfolding lines_fault
none = record { lines = refl; numbers = λ i h. absurd (let z : ⊥ = omega arith in z) }

module _ (f : List ℕ) (c : Contents) (e : Ok c ≡ unless_malformed (fault f) (contents_in f)) where
  none-faulty : fault f ≡ None
  none-faulty = no-fault (fault f) (contents_in f) e

  its-contents : c ≡ contents_in f
  its-contents = is_read (fault f) (contents_in f) e

  few : warriors_in f < 17
  few = let h = head_ok f none-faulty in omega (arith, h.high)

  earlier-of : Earlier f (warriors_in f) (4 + 43 * warriors_in f)
  earlier-of = record { lines = (head_ok f none-faulty).lines; numbers = λ i h. warrior-reads f i none-faulty h }

  pub earlier : Earlier f c.warriors (4 + 43 * c.warriors)
  earlier = rw its-contents earlier-of

  pub added : (w : Warrior) (out : List ℕ) {X : Written} → X ≡ write c.size (warriors_at f 4 c.warriors) w out → X ≡ write_added f w out
  unfolding write write_added
  added w out x =
      x
      ∙ ap (λ (c : Contents). settle (first (checks c.size (warriors_at f 4 c.warriors) w (length out))) (file c.size (warriors_at f 4 c.warriors ++ (w ∷ []))) out) its-contents
      ∙ sym (ap (λ (y : Option ℕ). settle (first (malformed y ∷ checks (size_in f) (warriors_of f) w (length out))) (file (size_in f) (warriors_of f ++ (w ∷ []))) out) none-faulty)

pub not-read : (f : List ℕ) (w : Warrior) (out : List ℕ) (error : Error) → Err error ≡ unless_malformed (fault f) (contents_in f) → given (Err error) out ≡ write_added f w out
unfolding write_added
not-read f w out error e = go (fault f) refl e
  where
    go : (x : Option ℕ) → fault f ≡ x → Err error ≡ unless_malformed x (contents_in f)
        → given (Err error) out ≡ settle (first (malformed (fault f) ∷ checks (size_in f) (warriors_of f) w (length out))) (file (size_in f) (warriors_of f ++ (w ∷ []))) out
    go None d k = cc
    go (Some p) d k = rw d (ap (λ (t : Told). record { told = t; length = 0; output = out }) (refusal-told (Some p) (contents_in f) k))
