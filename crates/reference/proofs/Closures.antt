-- A closure run on the registers by the Rust's modifier is a fold over our field pairs; what such folds leave.
-- Assumes nothing.
use Prim.Native.Nat.{ℕ, ◌<◌}
use mathlib.Core.Path.{◌≡◌, refl, ap, ◌∙◌}
use mathlib.Core.Bool.{Bool, true, false, cond, not, ◌&&◌, false≢true}
use mathlib.Core.List.{List, [], ◌∷◌}
use mathlib.Core.Option.{Option, none, some}
use lib.Dec.{eqb}
use Rattle.laws.specs.Lists.{every}
use Rattle.laws.proofs.Numbers.{below}
use Rattle.laws.proofs.Every.{◌and◌}
use Rattle.cell.specs.declared.Cell.{Cell}
use Rattle.types.specs.declared.field.Field.{Field}
use Rattle.types.specs.declared.field.Field.TheVariants.{A, B}
use Rattle.types.specs.Modifier.{I}
use Rattle.machine.specs.Execution.{Met, is_none, put, stored}
use Rattle.machine.proofs.Execution.{row}
use Rattle.reference.specs.Types.{Instruction}
use Rattle.reference.specs.Modifiers.{Called, Ran, put_a, put_b, to_a, to_b, whole, by_modifier}
use Rattle.reference.specs.Same.{modifier_of, instruction_of}

-- what is captured once the closure was called for each pair
abbrev pub captures : {S : Type 0} → (S → ℕ → ℕ → S) → S → List Met → S
captures change s [] = s
captures change s (x ∷ xs) = captures change (change s x.a x.b) xs

abbrev pub start : {S : Type 0} → S → Cell → Ran S
start s c = record { captured = s; b_target = instruction_of c }

-- instruction_op is called under I alone
abbrev pub whole_if : {S : Type 0} → Bool → Option (S → Instruction → Instruction → Called S Instruction) → Instruction → Ran S → Ran S
whole_if true instruction_op a_value r = whole instruction_op a_value r
whole_if false instruction_op a_value r = r

put-a-is : (o : Option ℕ) (c : Cell) → put_a o (instruction_of c) ≡ instruction_of (put o A c)
put-a-is none c = refl
put-a-is (some x) c = refl

put-b-is : (o : Option ℕ) (c : Cell) → put_b o (instruction_of c) ≡ instruction_of (put o B c)
put-b-is none c = refl
put-b-is (some x) c = refl

-- any
abbrev pub Any : {S : Type 0} → S → Type 0
Any s = Unit {0}

-- a closure that, as long as what it has captured is such, changes it so and returns that value, at offsets below m
module _ {S : Type 0} (m : ℕ) (op : S → ℕ → ℕ → Called S ℕ) (change : S → ℕ → ℕ → S) (val : ℕ → ℕ → Option ℕ) (Such : S → Type 0)
    (called : (s : S) (a b : ℕ) → Such s → a < m → b < m → (op s a b ≡ record { captured = change s a b; returned = val a b }) × Such (change s a b)) where
  to-a-is : (s : S) (c : Cell) (a b : ℕ) → Such s → a < m → b < m → to_a op a b (start s c) ≡ start (change s a b) (put (val a b) A c)
  to-a-is s c a b such ha hb =
      ap (λ (x : Called S ℕ). record { captured = x.captured; b_target = put_a x.returned (instruction_of c) }) (called s a b such ha hb).0
      ∙ ap (λ (i : Instruction). record { captured = change s a b; b_target = i }) (put-a-is (val a b) c)

  to-b-is : (s : S) (c : Cell) (a b : ℕ) → Such s → a < m → b < m → to_b op a b (start s c) ≡ start (change s a b) (put (val a b) B c)
  to-b-is s c a b such ha hb =
      ap (λ (x : Called S ℕ). record { captured = x.captured; b_target = put_b x.returned (instruction_of c) }) (called s a b such ha hb).0
      ∙ ap (λ (i : Instruction). record { captured = change s a b; b_target = i }) (put-b-is (val a b) c)

  module _ (ra rb live : Cell) (aa : ra.a.0 < m) (ab : ra.b.0 < m) (ba : rb.a.0 < m) (bb : rb.b.0 < m)
      (instruction_op : Option (S → Instruction → Instruction → Called S Instruction)) (a_value : Instruction) (s : S) (such : Such s) where
    -- to the A field first, then to the B field
    twice : (x y u v : ℕ) → x < m → y < m → u < m → v < m
        → to_b op u v (to_a op x y (start s live)) ≡ start (change (change s x y) u v) (put (val u v) B (put (val x y) A live))
    twice x y u v hx hy hu hv =
        ap (to_b op u v) (to-a-is s live x y such hx hy) ∙ to-b-is (change s x y) (put (val x y) A live) u v (called s x y such hx hy).1 hu hv

    pub ran-is : (k : ℕ) → k < 7
        → by_modifier (modifier_of k) op instruction_op ra.a.0 ra.b.0 rb.a.0 rb.b.0 a_value (start s live)
        ≡ whole_if (eqb k I) instruction_op a_value (start (captures change s (row k ra rb)) (stored val (row k ra rb) live))
    ran-is =
        below _ 7
        (to-a-is s live _ _ such aa ba
        and to-b-is s live _ _ such ab bb
        and to-b-is s live _ _ such aa bb
        and to-a-is s live _ _ such ab ba
        and twice _ _ _ _ aa ba ab bb
        and twice _ _ _ _ ab ba aa bb
        and ap (whole instruction_op a_value) (twice _ _ _ _ aa ba ab bb)
        and tt)

-- what a test leaves captured
pub captures-any : {X : Type 0} (t : ℕ → ℕ → Bool) (to s : X) (xs : List Met)
    → captures (λ (s : X) a b. cond (t a b) to s) s xs ≡ cond (not (every (λ x. not (t x.a x.b)) xs)) to s
captures-any t to s [] = refl
captures-any t to s (x ∷ xs) = go (t x.a x.b) (captures-any t to to xs) (captures-any t to s xs)
  where
    either : (b : Bool) → cond b to to ≡ to
    either true = refl
    either false = refl

    go : (b : Bool) → captures (λ s a b. cond (t a b) to s) to xs ≡ cond (not (every (λ x. not (t x.a x.b)) xs)) to to
        → captures (λ s a b. cond (t a b) to s) s xs ≡ cond (not (every (λ x. not (t x.a x.b)) xs)) to s
        → captures (λ s a b. cond (t a b) to s) (cond b to s) xs ≡ cond (not (not b && every (λ x. not (t x.a x.b)) xs)) to s
    go true p q = p ∙ either (not (every (λ x. not (t x.a x.b)) xs))
    go false p q = q

-- and a closure that changes nothing
pub captures-same : {X : Type 0} (s : X) (xs : List Met) → captures (λ s a b. s) s xs ≡ s
captures-same s [] = refl
captures-same s (x ∷ xs) = captures-same s xs

-- nothing is stored where every value is none
pub stored-none : (v : ℕ → ℕ → Option ℕ) (xs : List Met) (c : Cell) → every (λ x. not (not (is_none (v x.a x.b)))) xs ≡ true → stored v xs c ≡ c
stored-none v [] c e = refl
stored-none v (x ∷ xs) c e = go (v x.a x.b) e (stored-none v xs c)
  where
    go : (o : Option ℕ) → (not (not (is_none o)) && every (λ x. not (not (is_none (v x.a x.b)))) xs) ≡ true
        → (every (λ x. not (not (is_none (v x.a x.b)))) xs ≡ true → stored v xs c ≡ c) → stored v xs (put o x.target c) ≡ c
    go none e r = r e
    go (some y) e r = absurd (false≢true e)

pub never-stored : (xs : List Met) (c : Cell) → stored (λ a b. none) xs c ≡ c
never-stored [] c = refl
never-stored (x ∷ xs) c = never-stored xs c

-- a cell with the opcode and the modifier of another, before and after numbers are stored
abbrev pub recode : Cell → Cell → Cell
recode r c = record { opcode = r.opcode; modifier = r.modifier; a_mode = c.a_mode; b_mode = c.b_mode; a = c.a; b = c.b }

pub recode-stored : (v : ℕ → ℕ → Option ℕ) (r : Cell) (xs : List Met) (c : Cell) → stored v xs (recode r c) ≡ recode r (stored v xs c)
recode-stored v r [] c = refl
recode-stored v r (x ∷ xs) c = ap (stored v xs) (go (v x.a x.b) x.target) ∙ recode-stored v r xs (put (v x.a x.b) x.target c)
  where
    go : (o : Option ℕ) (f : Field) → put o f (recode r c) ≡ recode r (put o f c)
    go none f = refl
    go (some y) A = refl
    go (some y) B = refl
