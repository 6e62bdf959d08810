-- Demand 1 of fresh, place, start, step, cell reading and the default modifier: their definitions take the first row that applies.
-- Assumes nothing.
use Prim.Native.Nat.{ℕ}
use mathlib.Core.Path.{◌≡◌, refl, sym, ap, subst, ◌∙◌}
use mathlib.Core.Bool.{Bool, true, false, cond, not, true≢false}
use mathlib.Core.List.{List, [], ◌∷◌}
use lib.Dec.{eqb}
use lib.IntN.{ℤ}
use Rattle.std.specs.Prelude.{Result, Ok, Err}
use borrow.Author.Tests.{eq-eqb}
use Rattle.answer.specs.declared.Error.{Error}
use Rattle.answer.specs.declared.Error.TheVariants.{InvalidCode}
use Rattle.answer.specs.Numbers.{told}
use Rattle.laws.specs.Lists.{among}
use Rattle.laws.proofs.Every.{◌and◌}
use Rattle.cell.specs.declared.Cell.{Cell}
use Rattle.cell.specs.Cells.{sound_word, unpacked}
use Rattle.types.specs.Defaults.{default_of}
use Rattle.metadata.specs.Metadata.{called}
use Rattle.machine.specs.declared.Rules.{Rules}
use Rattle.machine.specs.State.{Machine, Outcome, done, Check, check, Verdict, accepted, refusal, first, passes, settle}
use Rattle.machine.specs.Soundness.{sound_header, fresh_checks}
use Rattle.machine.specs.Fresh.{fresh_machine, fresh, lent}
use Rattle.machine.specs.Place.{placing, place, place_checks}
use Rattle.machine.specs.Start.{starting, start, start_checks}
use Rattle.machine.specs.Step.{executed, step, step_checks, executes}
use Rattle.machine.specs.Run.{word_at, read_checks, read}
use Rattle.machine.proofs.Checks.{is_accepted, passes-accepted, number_of}
use Rattle.machine.proofs.Place.{is-placed}
use Rattle.machine.proofs.Start.{is-started}
use Rattle.machine.proofs.Step.{is-executed}
use Rattle.lent.specs.Given.{Given, given_by}
use Rattle.account.specs.Calls.{Place, Start, Step}
use Rattle.demands.specs.Promise.{Promise, FreshPromise, FreshNumber, DefaultPromise}
use Rattle.demands.specs.Refusals.{Refused, FreshRefused, CellRefused, CellZero, DefaultRefused}

abbrev value_in : Verdict → ℕ
value_in accepted = 0
value_in (refusal n v) = v

-- whatever looks at the number of what a call settles on, where no row's number passes the test and the number of its work does
pub settled-exactly : (test : ℕ → Bool) (rows : List Check) (m : Machine) (o : Outcome) → ((n v : ℕ) → first rows ≡ refusal n v → test n ≡ false)
    → test o.number ≡ true → test (settle (first rows) m o).number ≡ passes rows
settled-exactly test rows m o none does = go (first rows) refl ∙ sym (passes-accepted rows)
  where
    go : (v : Verdict) → first rows ≡ v → test (settle v m o).number ≡ is_accepted v
    go accepted e = does
    go (refusal n v) e = none n v e

settled : (rows : List Check) (others : List ℕ) (m : Machine) (o : Outcome) → ((n v : ℕ) → first rows ≡ refusal n v → among others n ≡ false)
    → among others o.number ≡ true → Refused rows others m (given_by (settle (first rows) m o))
settled rows others m o none does =
    record { by = λ n v e. ap (λ (w : Verdict). given_by (settle w m o)) e; exactly = settled-exactly (among others) rows m o none does }

pub place-refuses : (name body : List ℕ) (at : ℕ) (m : Machine) (g : Given) → Promise (Place name body at) m g
    → Refused (place_checks m name body at) (0 ∷ []) m g
unfolding place
place-refuses name body at m g e =
    subst (Refused (place_checks m name body at) (0 ∷ []) m) (sym e)
    (settled (place_checks m name body at) (0 ∷ []) m (placing m (called name) body at)
    (number_of (λ n. among (0 ∷ []) n ≡ false) (place_checks m name body at) (refl and refl and refl and refl and refl and tt))
    (ap (among (0 ∷ [])) (is-placed m name body at).number))

pub start-refuses : (name : List ℕ) (at : ℕ) (m : Machine) (g : Given) → Promise (Start name at) m g → Refused (start_checks m name at) (0 ∷ []) m g
unfolding start
start-refuses name at m g e =
    subst (Refused (start_checks m name at) (0 ∷ []) m) (sym e)
    (settled (start_checks m name at) (0 ∷ []) m (starting m (called name) at)
    (number_of (λ n. among (0 ∷ []) n ≡ false) (start_checks m name at) (refl and refl and refl and refl and refl and tt))
    (ap (among (0 ∷ [])) (is-started m name at).number))

pub step-refuses : (m : Machine) (g : Given) → Promise Step m g → Refused (step_checks m) (0 ∷ 11 ∷ 12 ∷ []) m g
unfolding step
step-refuses m g e =
    subst (Refused (step_checks m) (0 ∷ 11 ∷ 12 ∷ []) m) (sym e)
    (settled (step_checks m) (0 ∷ 11 ∷ 12 ∷ []) m (executed m)
    (number_of (λ n. executes n ≡ false) (step_checks m) (refl and refl and refl and refl and refl and refl and refl and tt)) (is-executed m).executes)

module _ (rules : Rules) (core queue : List ℕ) where
  numbers : (n v : ℕ) → first (fresh_checks rules core queue) ≡ refusal n v → eqb n 0 ≡ false
  numbers = number_of (λ n. eqb n 0 ≡ false) (fresh_checks rules core queue) (refl and refl and refl and tt)

  pub fresh-refuses : (g : Given) → FreshPromise rules core queue g → Refused (fresh_checks rules core queue) (0 ∷ []) (lent core queue) g
  unfolding fresh
  fresh-refuses g e =
      subst (Refused (fresh_checks rules core queue) (0 ∷ []) (lent core queue)) (sym e)
      (settled (fresh_checks rules core queue) (0 ∷ []) (lent core queue) (done (fresh_machine rules core queue) 0 0)
      (number_of (λ n. among (0 ∷ []) n ≡ false) (fresh_checks rules core queue) (refl and refl and refl and tt)) refl)

  pub exported-fresh-refuses : (number : ℕ) (m : Machine) → FreshNumber rules core queue number m → FreshRefused rules core queue number m
  unfolding fresh
  exported-fresh-refuses number m e =
      record {
        by = λ n v f. (
          e.0 ∙ ap (λ (w : Verdict). (settle w (lent core queue) (done (fresh_machine rules core queue) 0 0)).number) f,
          e.1 ∙ ap (λ (w : Verdict). (settle w (lent core queue) (done (fresh_machine rules core queue) 0 0)).machine) f,
        );
        exactly =
            ap (λ (n : ℕ). eqb n 0) e.0
            ∙ settled-exactly (λ n. eqb n 0) (fresh_checks rules core queue) (lent core queue) (done (fresh_machine rules core queue) 0 0) numbers refl;
      }

-- cell reading's rows tell no value
no_value : (a b : Bool) (n v : ℕ) → first (check a 9 ∷ check b 9 ∷ []) ≡ refusal n v → v ≡ 0
no_value true b n v e = sym (ap value_in e)
no_value false true n v e = sym (ap value_in e)
no_value false false n v e = absurd (true≢false (ap is_accepted e))

module _ (m : Machine) (z : ℤ) where
  abbrev word : Outcome
  word = record { machine = m; number = 0; value = word_at m z; writes = 0; steps = 0; pushes = 0 }

  pub cell-refuses : (number : ℕ) → number ≡ (read m z).number → CellRefused m z number
  unfolding read
  cell-refuses number e =
      record {
        by = λ n v f. e ∙ ap (λ (w : Verdict). (settle w m word).number) f;
        exactly =
            ap (λ (n : ℕ). eqb n 0) e
            ∙ settled-exactly (λ n. eqb n 0) (read_checks m z) m word (number_of (λ n. eqb n 0 ≡ false) (read_checks m z) (refl and refl and tt)) refl;
      }

  pub cell-zero : (cell : Cell) → cell ≡ unpacked (read m z).value → CellZero m z cell
  unfolding read
  cell-zero cell e n v f =
      e ∙ ap (λ (w : Verdict). unpacked (settle w m word).value) f ∙ ap unpacked (no_value (not (sound_header m)) (not (sound_word m.header.rules.size (word_at m z))) n v f)

pub default-refuses : (opcode a b : ℕ) (r : Result ℕ Error) → DefaultPromise opcode a b r → DefaultRefused opcode a b (told r)
default-refuses opcode a b r e =
    record {
      by = λ q. ap told e ∙ ap (λ (t : Bool). told (cond {A = Result ℕ Error} t (Err (InvalidCode 0)) (Ok (default_of opcode a b)))) (eq-eqb (default_of opcode a b) 255 q);
      accepted = λ q. ap told e ∙ ap (λ (t : Bool). told (cond {A = Result ℕ Error} t (Err (InvalidCode 0)) (Ok (default_of opcode a b)))) q;
    }
