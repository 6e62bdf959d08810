-- The loads of a match file: one turn of the loop over its warriors, and what the call gives by the first of its checks that applies.
-- Assumes nothing.
use Prim.Native.Nat.{ℕ, ◌+◌, ◌-◌, ◌≤◌, ◌<◌}
use mathlib.Core.Path.{◌≡◌, refl, sym, ap, ap₂, subst, ◌∙◌}
use mathlib.Core.Bool.{Bool, true, false, cond, true≢false}
use mathlib.Core.List.{List}
use native.Mathlib.Nat.{add-zero, zero-add, add_assoc, sub-zero}
use lib.Dec.{eqb}
use borrow.Author.Tests.{eq-eqb, ne_eqb}
use Rattle.laws.proofs.Lists.{fall, done}
use Rattle.std.proofs.Common.{Option, Some, None, Ok, Err}
use Rattle.std.specs.Result.{is_err}
use Rattle.answer.specs.declared.Error.{Error}
use Rattle.answer.specs.Numbers.{Told, gives, Answer, told, told_error}
use Rattle.answer.proofs.Numbers.{not_zero}
use Rattle.machine.specs.declared.Header.{Header}
use Rattle.machine.specs.State as state
use Rattle.machine.specs.State.{Machine, Outcome, joined, Verdict, accepted, refusal, first}
use Rattle.machine.specs.Soundness.{sound_header}
use Rattle.machine.proofs.Soundness.{SoundHeader}
use Rattle.match_format.specs.Faults.{fault}
use Rattle.match_file.specs.Reading.{told_by, warriors_in, size_in}
use Rattle.lent.specs.Parts.{machine_of}
use Rattle.lent.specs.Given.{Given, given, given_by}
use Rattle.sim.proofs.Refusals.{refusing}
use Rattle.match_load.specs.Loading.{Loads, place_and_start, loads, match_checks, after_checks, load_match}
use Rattle.match_load.proofs.Warrior.{no-steps, few-writes, stays-sound}

-- an answer that is an error, and one that is not
pub refused : (answer : Answer) → true ≡ is_err answer → (told answer).number ≡ 0 → ⊥
refused (Ok _) e = λ z. true≢false e
refused (Err error) e = not_zero error

pub taken : (answer : Answer) → false ≡ is_err answer → (told answer).number ≡ 0
taken (Ok _) e = refl
taken (Err error) e = absurd (true≢false (sym e))

-- loads that stopped, as the code gives them, with the number of the warrior
pub stopping : {answer A : Answer} {writes w steps : ℕ} {g h : Header} {warrior k : ℕ} (core queue : List ℕ) {X : Given} {y : ℕ}
    → (answer ≡ A) × (writes ≡ w) × (steps ≡ 0) × (g ≡ h) × (warrior ≡ k) → (given (told A) w 0 (machine_of core queue h) ≡ X) × (k ≡ y)
    → (given (told answer) writes steps (machine_of core queue g) ≡ X) × (warrior ≡ y)
stopping core queue r e = (refusing core queue (r.0, r.1, r.2, r.3) e.0, r.4 ∙ e.1)

-- what is given of loads, with the writes of those before them
abbrev after : ℕ → Loads → Given
after w l = given (state.told_by l.outcome) (w + l.outcome.writes) l.outcome.steps l.outcome.machine

-- the loads that are left, after w writes, give what all of them give
abbrev pub Leaves : ℕ → Loads → Loads → Type 0
Leaves w rest all = (after w rest ≡ given_by all.outcome) × (rest.warrior ≡ all.warrior)

-- one turn of the loop over the warriors: warrior i placed and started
module _ (f : List ℕ) (i : ℕ) (m : Machine) (t : Told) {writes steps : ℕ} (n : Machine) (gave : given t writes steps n ≡ given_by (place_and_start f i m)) where
  abbrev o : Outcome
  o = place_and_start f i m

  told_is : t ≡ state.told_by o
  told_is = ap (λ (x : Given). x.told) gave

  machine-is : n ≡ o.machine
  machine-is = ap (λ (x : Given). x.machine) gave

  zero_is : t.number ≡ 0 → o.number ≡ 0
  zero_is z = sym (ap (λ (x : Told). x.number) told_is) ∙ z

  pub few-more : SoundHeader m → writes ≤ 46341
  few-more s = subst (λ (x : ℕ). x ≤ 46341) (sym (ap (λ (x : Given). x.writes) gave)) (few-writes f i m s)

  pub still-sound : SoundHeader m → SoundHeader n
  still-sound s = subst SoundHeader (sym machine-is) (stays-sound f i m s)

  -- whatever all loads give
  module _ (count w : ℕ) (below : i < count) (all : Loads) (left : Leaves w (loads f i (count - i) m) all) where
    abbrev more : Loads
    more = loads f (i + 1) (count - (i + 1)) o.machine

    abbrev turn : Bool → Loads
    turn b = cond b (record { outcome = joined o more.outcome; warrior = more.warrior }) (record { outcome = o; warrior = i })

    opened : loads f i (count - i) m ≡ turn (eqb o.number 0)
    opened = ap (λ (k : ℕ). loads f i k m) (fall count i below)

    pub load-stops : (t.number ≡ 0 → ⊥) → (given t (w + writes) 0 n ≡ given_by all.outcome) × (i ≡ all.warrior)
    load-stops z =
        let not-zero : o.number ≡ 0 → ⊥ = λ q. z (ap (λ (x : Told). x.number) told_is ∙ q) in
        let e = opened ∙ ap turn (ne_eqb o.number 0 not-zero) in (
          ap₂ (λ (t : Told) (k : Machine). given t (w + writes) 0 k) told_is machine-is
              ∙ ap₂ (λ (a b : ℕ). given (state.told_by o) a b o.machine) (ap (λ (x : Given). w + x.writes) gave) (sym (no-steps f i m))
              ∙ sym (ap (after w) e)
              ∙ left.0,
          sym (ap (λ (l : Loads). l.warrior) e) ∙ left.1,
        )

    pub load-goes-on : t.number ≡ 0 → Leaves (w + writes) (loads f (i + 1) (count - (i + 1)) n) all
    load-goes-on z =
        let e = opened ∙ ap turn (eq-eqb o.number 0 (zero_is z)) in (
          ap₂ (λ (x : ℕ) (k : Machine). after (w + x) (loads f (i + 1) (count - (i + 1)) k)) (ap (λ (x : Given). x.writes) gave) machine-is
              ∙ ap₂ (λ (a b : ℕ). given (state.told_by more.outcome) a b more.outcome.machine) (add_assoc w o.writes more.outcome.writes)
              (sym (ap (λ (s : ℕ). s + more.outcome.steps) (no-steps f i m) ∙ zero-add more.outcome.steps))
              ∙ sym (ap (after w) e)
              ∙ left.0,
          ap (λ (k : Machine). (loads f (i + 1) (count - (i + 1)) k).warrior) machine-is ∙ sym (ap (λ (l : Loads). l.warrior) e) ∙ left.1,
        )

-- before the first, and after the last
module _ (f : List ℕ) (count : ℕ) (m : Machine) where
  pub loads-begin : Leaves 0 (loads f 0 (count - 0) m) (loads f 0 count m)
  loads-begin =
      let e = ap (λ (k : ℕ). loads f 0 k m) (sub-zero count) in (
        ap (after 0) e ∙ ap (λ (x : ℕ). given (state.told_by (loads f 0 count m).outcome) x (loads f 0 count m).outcome.steps (loads f 0 count m).outcome.machine) (zero-add _),
        ap (λ (l : Loads). l.warrior) e,
      )

  pub loads-end : (i w : ℕ) (all : Loads) → Leaves w (loads f i (count - i) m) all → count ≤ i → (given (gives 0 0) w 0 m ≡ given_by all.outcome) × (0 ≡ all.warrior)
  loads-end i w all left h =
      let e = ap (λ (k : ℕ). loads f i k m) (done count i h) in (
        ap (λ (x : ℕ). given (gives 0 0) x 0 m) (sym (add-zero w)) ∙ sym (ap (after w) e) ∙ left.0,
        sym (ap (λ (l : Loads). l.warrior) e) ∙ left.1,
      )

-- the call, by its checks
module _ (m : Machine) (f : List ℕ) where
  abbrev all : Loads
  all = loads f 0 (warriors_in f) m

  abbrev by : Verdict → Loads
  by v = after_checks v m all

  -- refused before the loads
  refuses : (t : Told) (n v : ℕ) → t ≡ gives n v → first (match_checks m f) ≡ refusal n v
      → (given t 0 0 m ≡ given_by (load_match m f).outcome) × (0 ≡ (load_match m f).warrior)
  unfolding load_match
  refuses t n v e c = (
    ap (λ (x : Told). given x 0 0 m) e ∙ ap (λ (x : Verdict). given_by (by x).outcome) {x = refusal n v} (sym c),
    ap (λ (x : Verdict). (by x).warrior) {x = refusal n v} (sym c),
  )

  pub unsound : sound_header m ≡ false → (given (gives 9 0) 0 0 m ≡ given_by (load_match m f).outcome) × (0 ≡ (load_match m f).warrior)
  unsound s = refuses (gives 9 0) 9 0 refl (simp s)

  module _ (s : sound_header m ≡ true) where
    pub malformed-file : (e : Error) → told_error e ≡ told_by (fault f) → (given (told_error e) 0 0 m ≡ given_by (load_match m f).outcome) × (0 ≡ (load_match m f).warrior)
    malformed-file e told_is = go (fault f) refl
      where
        go : (x : Option ℕ) → fault f ≡ x → (given (told_error e) 0 0 m ≡ given_by (load_match m f).outcome) × (0 ≡ (load_match m f).warrior)
        go None q = absurd (not_zero e (ap (λ (t : Told). t.number) (told_is ∙ ap told_by q)))
        go (Some p) q = refuses (told_error e) 13 p (told_is ∙ ap told_by q) (simp (s, q))

    module _ (reads : fault f ≡ None) where
      pub other-size : (size_in f ≡ m.header.rules.size → ⊥) → (given (gives 1 0) 0 0 m ≡ given_by (load_match m f).outcome) × (0 ≡ (load_match m f).warrior)
      other-size n = refuses (gives 1 0) 1 0 refl (simp (s, reads, ne_eqb (size_in f) m.header.rules.size n))

      -- then its loads
      pub then-loads : size_in f ≡ m.header.rules.size → loads f 0 (warriors_in f) m ≡ load_match m f
      unfolding load_match
      then-loads q =
          let e : first (match_checks m f) ≡ accepted = simp (s, reads, eq-eqb (size_in f) m.header.rules.size q) in
          sym (ap by e)
