-- Laws of an instruction's effect: of sound registers it stores a sound cell and goes on inside the core.
-- Assumes nothing.
use Prim.Native.Nat.{ℕ, zero, suc, ◌%◌, ◌<◌}
use mathlib.Core.Path.{◌≡◌, refl}
use mathlib.Core.Bool.{Bool, true, false, cond, not}
use mathlib.Core.List.{List, [], ◌∷◌, map}
use mathlib.Core.Option.{Option, none, some}
use native.Mathlib.Nat.{mod-lt}
use native.Mathlib.Omega.{arith}
use lib.Dec.{eqb, ltb}
use lib.ListN.{get_or}
use Rattle.laws.specs.Lists.{every}
use Rattle.laws.proofs.Numbers.{below}
use Rattle.laws.proofs.Every.{◌and◌, Every, every-or}
use Rattle.cell.specs.declared.Cell.{Cell}
use Rattle.offset.specs.Offset.{ahead}
use Rattle.types.specs.declared.field.Field.{Field}
use Rattle.types.specs.Types.{Pair, pairs}
use Rattle.cell.specs.Cells.{number}
use Rattle.types.specs.Modifier.{I}
use Rattle.offset.proofs.Offsets.{ahead-lt}
use Rattle.cell.proofs.Soundness.{Sound}
use Rattle.machine.specs.Pointers.{less}
use Rattle.machine.specs.Execution.{Ending, divisor, Next, ends, goes, splits, Effect, Scene, Met, mets, some?, onward, going, branch, skip, moved, sum, difference, product, quotient, remainder, lowered, is_none, put, stored, computes, copied, equal, effects, effect_of}
use Rattle.machine.proofs.Pointers.{number_lt, with-sound}

-- a, b and the target of each pair
abbrev pub row : ℕ → Cell → Cell → List Met
row k ra rb = map (λ p. record { a = number p.from ra; b = number p.to rb; target = p.to }) (get_or pairs k [])

-- what holds of the places to go on at
abbrev pub Places : (ℕ → Type 0) → Next → Type 0
Places P (ends x) = Unit {0}
Places P (goes p) = P p
Places P (splits p c) = P p × P c

module _ (size : ℕ) where
  abbrev pub SoundStore : Option Cell → Type 0
  SoundStore none = Unit {0}
  SoundStore (some c) = Sound size c

  -- a sound cell if any, and places of the core
  pub record SoundEffect (e : Effect) : Type 0 where
    pub cell : SoundStore e.cell
    pub next : Places (λ p. p < size) e.next

  abbrev Below : Option ℕ → Type 0
  Below none = Unit {0}
  Below (some x) = x < size

  -- a rule whose results are below the size
  abbrev Bounded : (ℕ → ℕ → Option ℕ) → Type 0
  Bounded v = (a b : ℕ) → a < size → b < size → Below (v a b)

  abbrev Small : Met → Type 0
  Small x = (x.a < size) × (x.b < size)

  put-sound : (o : Option ℕ) (f : Field) (c : Cell) → Below o → Sound size c → Sound size (put o f c)
  put-sound none f c g s = s
  put-sound (some x) f c g s = with-sound size f x c s g

  stored-sound : (v : ℕ → ℕ → Option ℕ) (xs : List Met) (c : Cell) → Bounded v → Every Small xs → Sound size c → Sound size (stored v xs c)
  stored-sound v [] c b e s = s
  stored-sound v (x ∷ xs) c b e s =
      stored-sound v xs (put (v x.a x.b) x.target c) b e.1
      (put-sound (v x.a x.b) x.target c (b x.a x.b e.0.0 e.0.1) s)

  cond-store : (b : Bool) (c : Cell) → Sound size c → SoundStore (cond b (some c) none)
  cond-store true c s = s
  cond-store false c s = tt

  cond-next : (b : Bool) (x : Ending) (p : ℕ) → p < size → Places (λ p. p < size) (cond b (ends x) (goes p))
  cond-next true x p h = tt
  cond-next false x p h = h

  cond-lt : (b : Bool) (x y : ℕ) → x < size → y < size → cond b x y < size
  cond-lt true x y h k = h
  cond-lt false x y h k = k

quotient-bounded : (size : ℕ) → 0 < size → Bounded size (quotient size)
quotient-bounded size h a zero p q = tt
quotient-bounded size h a (suc b) p q = mod-lt _ h

remainder-bounded : (size : ℕ) → 0 < size → Bounded size (remainder size)
remainder-bounded size h a zero p q = tt
remainder-bounded size h a (suc b) p q = mod-lt _ h

module _ (s : Scene) (j : s.jump < s.size) (ra : Sound s.size s.ra) (rb : Sound s.size s.rb) (target : Sound s.size s.target) where
  positive : 0 < s.size
  positive = omega (arith, j)

  onward-lt : onward s < s.size
  onward-lt = ahead-lt s.size s.pc 1 positive

  pairs_small : (ps : List Pair)
      → Every (Small s.size) (map (λ p. record { a = number p.from s.ra; b = number p.to s.rb; target = p.to }) ps)
  pairs_small [] = tt
  pairs_small (p ∷ ps) = ((number_lt s.size p.from s.ra ra, number_lt s.size p.to s.rb rb), pairs_small ps)

  mets-small : Every (Small s.size) (mets s)
  mets-small = pairs_small (get_or pairs s.modifier [])

  computes-sound : (f : ℕ → ℕ → ℕ → Option ℕ) (c : Cell) → Bounded s.size (f s.size) → Sound s.size c → SoundEffect s.size (computes s f c)
  computes-sound f c b k =
      let z = s.size in
      record {
        cell = cond-store z (some? (λ x. not (is_none (f z x.a x.b))) s) _ (stored-sound z (f z) (mets s) c b mets-small k);
        next = cond-next z (some? (λ x. is_none (f z x.a x.b)) s) divisor (onward s) onward-lt;
      }

  branch-sound : (b : Bool) (p : ℕ) → p < s.size → SoundEffect s.size (branch s b p)
  branch-sound b p h = record { cell = tt; next = cond-lt s.size b p (onward s) h onward-lt }

  skip-sound : (b : Bool) → SoundEffect s.size (skip s b)
  skip-sound b = branch-sound b _ (ahead-lt s.size s.pc 2 positive)

  copied-sound : Sound s.size (copied s)
  copied-sound = go (eqb s.modifier I)
    where
      go : (b : Bool)
          → Sound s.size (cond b (record { opcode = s.ra.opcode; modifier = s.ra.modifier; a_mode = s.target.a_mode; b_mode = s.target.b_mode; a = s.target.a; b = s.target.b }) s.target)
      go true = record { opcode = ra.opcode; modifier = ra.modifier; a_mode = target.a_mode; b_mode = target.b_mode; a = target.a; b = target.b }
      go false = target

  -- row by row
  pub effect-sound : (opcode : ℕ) → SoundEffect s.size (effect_of opcode s)
  unfolding effect_of
  effect-sound opcode = every-or (SoundEffect s.size) (effects s) opcode (going (onward s)) rows (record { cell = tt; next = onward-lt })
    where
      below : (x : ℕ) → x % s.size < s.size
      below x = mod-lt x positive

      rows : Every (SoundEffect s.size) (effects s)
      rows =
          record { cell = tt; next = tt }
          and computes-sound moved (copied s) (λ a b p q. p) copied-sound
          and computes-sound sum s.target (λ a b p q. below _) target
          and computes-sound difference s.target (λ a b p q. below _) target
          and computes-sound product s.target (λ a b p q. below _) target
          and computes-sound quotient s.target (quotient-bounded s.size positive) target
          and computes-sound remainder s.target (remainder-bounded s.size positive) target
          and record { cell = tt; next = j }
          and branch-sound (some? (λ x. eqb x.b 0) s) s.jump j
          and branch-sound (some? (λ x. not (eqb x.b 0)) s) s.jump j
          and record {
            cell = stored-sound s.size (lowered s.size) (mets s) s.target (λ a b p q. below _) mets-small target;
            next = cond-lt s.size (some? (λ x. not (eqb (less s.size x.b) 0)) s) s.jump (onward s) j onward-lt;
          }
          and skip-sound (equal s)
          and skip-sound (equal s)
          and skip-sound (not (equal s))
          and skip-sound (every (λ x. ltb x.a x.b) (mets s))
          and record { cell = tt; next = (onward-lt, j) }
          and record { cell = tt; next = onward-lt }
          and tt

-- a result for each pair: all are stored, and the process goes on
pub row-computes : (v : ℕ → ℕ → ℕ → ℕ) (M pc jump : ℕ) (ra rb live target c : Cell) (k : ℕ) → k < 7
    → computes (record { size = M; modifier = k; pc = pc; jump = jump; ra = ra; rb = rb; live = live; target = target }) (λ size a b. some (v size a b)) c
    ≡ record { cell = some (stored (λ a b. some (v M a b)) (row k ra rb) c); next = goes (ahead M pc 1) }
row-computes v M pc jump ra rb live target c = below _ 7 (refl and refl and refl and refl and refl and refl and refl and tt)
