-- Laws of the field pairs: the one pair or two of a modifier are the two that the code has.
-- Assumes nothing.
use mathlib.Core.Path.{◌≡◌, refl, sym, ap, ◌∙◌}
use mathlib.Core.Bool.{Bool, true, false, not, ◌&&◌, ◌||◌}
use mathlib.Core.Logic.{◌⊎◌, inl, inr, ⊎_elim}
use mathlib.Core.List.{[], ◌∷◌}
use mathlib.Core.Option.{Option, none, some}
use Prim.Native.Nat.{ℕ, ◌≤◌, ◌<◌, zero-le}
use native.Mathlib.Omega.{arith}
use Rattle.laws.specs.Lists.{every}
use Rattle.laws.proofs.Cases.{span}
use Rattle.laws.proofs.Tests.{and-true}
use Rattle.cell.specs.declared.Cell.{Cell}
use Rattle.types.specs.declared.field.Field.{Field}
use Rattle.types.specs.declared.field.Field.TheVariants.{A, B}
use Rattle.cell.specs.Cells.{unpacked, sound_word}
use Rattle.machine.specs.Execution as machine
use Rattle.machine.specs.Execution.{mets, some?, stored, put}
use Rattle.steps.specs.declared.modifier.Met.{Met}
use Rattle.steps.specs.Inner.Acts.{met_by, first_of, last_of, plain, Below}
use Rattle.word.proofs.Cells.{number-below}

and-twice : (b : Bool) → (b && true) ≡ (b && b)
and-twice true = refl
and-twice false = refl

neither-not : (a b : Bool) → not (not a && not b) ≡ (a || b)
neither-not true b = refl
neither-not false true = refl
neither-not false false = refl

pub put-twice : (o : Option ℕ) (f : Field) (c : Cell) → put o f c ≡ put o f (put o f c)
put-twice none f c = refl
put-twice (some n) A c = refl
put-twice (some n) B c = refl

-- a modifier has one pair, which the code has twice, or two
abbrev pub Shape : machine.Scene → Met → Met → Type 0
Shape s p q = ((mets s ≡ (plain p ∷ [])) × (plain q ≡ plain p)) ⊎ (mets s ≡ (plain p ∷ plain q ∷ []))

pub shape : (k ra rb : ℕ) (s : machine.Scene) → s.modifier ≡ k → s.ra ≡ unpacked ra → s.rb ≡ unpacked rb → k ≤ 6 → Shape s (first_of k ra rb) (last_of k ra rb)
unfolding first_of last_of
shape k ra rb s em ea eb h =
    rw (em, ea, eb)
    (span k 0 7 zero-le (omega arith) (
      λ e. rw e (inl (refl, refl)),
      (
        λ e. rw e (inl (refl, refl)),
        (
          λ e. rw e (inl (refl, refl)),
          (λ e. rw e (inl (refl, refl)), (λ e. rw e (inr refl), (λ e. rw e (inr refl), (λ e. rw e (inr refl), tt)))),
        ),
      ),
    ))

-- A, B, AB and BA have one
pub one-pair : (k ra rb : ℕ) → k < 4 → last_of k ra rb ≡ first_of k ra rb
unfolding first_of last_of
one-pair k ra rb h = span k 0 4 zero-le h (λ q. rw q, (λ q. rw q, (λ q. rw q, (λ q. rw q, tt))))

module _ (s : machine.Scene) (p q : Met) (sh : Shape s p q) where
  pub every_two : (t : machine.Met → Bool) → every t (mets s) ≡ (t (plain p) && t (plain q))
  every_two t =
      ⊎_elim (λ x. rw (x.0, x.1) (and-twice (t (plain p)))) (λ x. rw x (ap (λ (b : Bool). t (plain p) && b) (and-true (t (plain q))))) sh

  pub some-two : (t : machine.Met → Bool) → some? t s ≡ (t (plain p) || t (plain q))
  some-two t = ap not (every_two (λ x. not (t x))) ∙ neither-not (t (plain p)) (t (plain q))

  pub stored-two : (f : ℕ → ℕ → Option ℕ) (c : Cell)
      → stored f (mets s) c ≡ put (f q.a.0 q.b.0) q.target (put (f p.a.0 p.b.0) p.target c)
  stored-two f c =
      ⊎_elim (λ x. rw x.0 (put-twice (f p.a.0 p.b.0) p.target c ∙ again x.1)) (λ x. rw x) sh
    where
      again : plain q ≡ plain p
          → put (f p.a.0 p.b.0) p.target (put (f p.a.0 p.b.0) p.target c)
          ≡ put (f q.a.0 q.b.0) q.target (put (f p.a.0 p.b.0) p.target c)
      again e = ap (λ (x : machine.Met). put (f x.a x.b) x.target (put (f p.a.0 p.b.0) p.target c)) (sym e)

-- the numbers that meet are those of sound cells
met-below : (a b : Field) (size ra rb : ℕ) → sound_word size ra ≡ true → sound_word size rb ≡ true → Below size (met_by a b ra rb)
met-below a b size ra rb f g = record { a = number-below a size ra f; b = number-below b size rb g }

pub first-below : (k size ra rb : ℕ) → sound_word size ra ≡ true → sound_word size rb ≡ true → Below size (first_of k ra rb)
unfolding first_of
first-below k size ra rb = met-below _ _ size ra rb

pub last-below : (k size ra rb : ℕ) → sound_word size ra ≡ true → sound_word size rb ≡ true → Below size (last_of k ra rb)
unfolding last_of
last-below k size ra rb = met-below _ _ size ra rb
