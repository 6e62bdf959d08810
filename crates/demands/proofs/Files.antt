-- Demand 1 of match files: reading and writing.
-- Assumes nothing.
use Prim.Native.Nat.{ℕ}
use mathlib.Core.Path.{◌≡◌, refl, sym, ap, subst, ◌∙◌}
use mathlib.Core.Bool.{Bool, false}
use mathlib.Core.List.{List, [], ◌∷◌}
use lib.Dec.{eqb, ltb}
use lib.ListN.{length}
use borrow.Author.Tests.{ltb-true, lt-ltb}
use Rattle.answer.specs.Numbers.{Told, gives}
use Rattle.laws.proofs.Every.{◌and◌}
use Rattle.machine.specs.State.{Check, Verdict, accepted, refusal, first}
use Rattle.machine.proofs.Checks.{is_accepted, passes-accepted, number_of}
use Rattle.std.proofs.Common.{Option, None}
use Rattle.match_format.specs.Format.{Warrior, file}
use Rattle.match_format.specs.Faults.{unless, ◌else◌, fault, fault_at}
use Rattle.match_format.proofs.Chains.{else-left, else-right, unless-true}
use Rattle.match_file.specs.Reading.{told_by, zeroed, size_in, warriors_in, warriors_of}
use Rattle.match_file.specs.Refusal.{malformed}
use Rattle.match_file.proofs.Refusal.{thirteen, not-told}
use Rattle.write_checks.specs.Refusal.{Written, settle}
use Rattle.match_write.specs.Writing.{checks, write, write_added}
use Rattle.round_trip.proofs.RoundTrip.{exact}
use Rattle.demands.specs.Promise.{FileNumbers, FirstPromise, AddedPromise}
use Rattle.demands.specs.Refusals.{FileRefused, FileZero, LineRefused, WriteRefused}

nowhere : (x : Option ℕ) → told_by x ≡ gives 0 0 → x ≡ None
nowhere x t = not-told x (ap (λ (y : Told). y.number) t)

pub file-refuses : (f : List ℕ) (t : Told) → t ≡ told_by (fault f) → FileRefused f t
file-refuses f t e =
    record {
      by = λ p q. e ∙ ap told_by q;
      accepted = λ b i. e ∙ ap told_by ((exact f b).1 i);
      only = λ b z. (exact f b).0 (nowhere (fault f) (sym e ∙ z));
    }

pub file-zero : (f : List ℕ) (t : Told) (warriors size : ℕ) → FileNumbers f t warriors size → FileZero f warriors size
file-zero f t warriors size e p q = (e.1 ∙ ap (λ (x : Option ℕ). zeroed x (warriors_in f)) q, e.2 ∙ ap (λ (x : Option ℕ). zeroed x (size_in f)) q)

pub line-refuses : (f : List ℕ) (k : ℕ) (told : Told) → told ≡ told_by (fault_at f k) → LineRefused f k told
line-refuses f k told e =
    record {
      by = λ p q. e ∙ ap told_by q;
      accepted = λ b i h.
          e ∙ ap (λ (x : Option ℕ). told_by (x else unless (ltb k (warriors_in f)) 0)) ((exact f b).1 i)
          ∙ ap (λ (t : Bool). told_by (unless t 0)) (lt-ltb k (warriors_in f) h);
      only = λ b t.
          let n = nowhere (fault_at f k) (sym e ∙ t) in (
            (exact f b).0 (else-left (fault f) (unless (ltb k (warriors_in f)) 0) n),
            ltb-true k (warriors_in f) (unless-true (ltb k (warriors_in f)) 0 (else-right (fault f) (unless (ltb k (warriors_in f)) 0) n)),
          );
    }

settled : (rows : List Check) (made output : List ℕ) → ((n v : ℕ) → first rows ≡ refusal n v → eqb n 0 ≡ false) → WriteRefused rows output (settle (first rows) made output)
settled rows made output none =
    record { by = λ n v e. ap (λ (w : Verdict). settle w made output) e; exactly = go (first rows) refl ∙ sym (passes-accepted rows) }
  where
    go : (v : Verdict) → first rows ≡ v → eqb (settle v made output).told.number 0 ≡ is_accepted v
    go accepted e = refl
    go (refusal n v) e = none n v e

pub first-refuses : (size : ℕ) (w : Warrior) (output : List ℕ) (g : Written) → FirstPromise size w output g
    → WriteRefused (checks size [] w (length output)) output g
unfolding write
first-refuses size w output g e =
    subst (WriteRefused (checks size [] w (length output)) output) (sym e)
    (settled (checks size [] w (length output)) (file size (w ∷ [])) output
    (number_of (λ n. eqb n 0 ≡ false) (checks size [] w (length output)) (refl and refl and refl and refl and refl and tt)))

pub added-refuses : (f : List ℕ) (w : Warrior) (output : List ℕ) (g : Written) → AddedPromise f w output g
    → WriteRefused (malformed (fault f) ∷ checks (size_in f) (warriors_of f) w (length output)) output g
unfolding write_added
added-refuses f w output g e =
    subst (WriteRefused rows output) (sym e)
    (settled rows _ output (number_of (λ n. eqb n 0 ≡ false) rows (ap (λ (n : ℕ). eqb n 0) (thirteen (fault f)) and refl and refl and refl and refl and refl and tt)))
  where
    rows : List Check
    rows = malformed (fault f) ∷ checks (size_in f) (warriors_of f) w (length output)
