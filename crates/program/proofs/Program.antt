-- Laws of a body: it becomes no more words than it has instructions; where no instruction is faulty, they are sound, and it is whole.
-- Assumes nothing.
use Prim.Native.Nat.{ℕ, zero, suc, ◌+◌, ◌-◌, ◌*◌, ◌/◌, ◌≤◌, ◌<◌}
use native.Mathlib.Nat.{sub-zero, le_of_suc-le-suc, not-suc-le-zero}
use mathlib.Core.Path.{◌≡◌, refl, sym, ap, ap₂, ◌∙◌}
use mathlib.Core.Bool.{true, false, not}
use mathlib.Core.List.{List, [], ◌∷◌, map}
use native.Mathlib.Omega.{arith}
use lib.Dec.{eqb, leb, ltb}
use lib.ListN.{length, take, drop, length-append, length-drop, length-map, take-append-drop}
use lib.Seq.{drop-drop}
use borrow.Author.Tests.{eqb-true, leb-true, ltb-false, not-false}
use Rattle.laws.proofs.Tests.{holds}
use Rattle.laws.proofs.Every.{Every}
use Rattle.laws.proofs.Lowest.{lowest-none}
use Rattle.cell.specs.Cells.{packed, sound_word}
use Rattle.types.specs.Opcode.{STP}
use Rattle.types.specs.Modifier.{I}
use Rattle.types.specs.Mode.{PostIncIndirectB}
use Rattle.offset.proofs.Offsets.{euclid-lt}
use Rattle.cell.proofs.Soundness.{Sound, fields-sound}
use Rattle.program.specs.Program.{instructions, split, opcode_of, a_mode_of, b_mode_of, modifier_of, lawful, lowest_fault, cell_of, cells}

pub length-split : (n : ℕ) (body : List ℕ) → length (split n body) ≡ n
length-split zero body = refl
length-split (suc n) body = ap suc (length-split n (drop 12 body))

pub length-cells : (size : ℕ) (body : List ℕ) → length (cells size body) ≡ length body / 12
unfolding cells
length-cells size body =
    length-map (split (length body / 12) body) (λ x. packed (cell_of size x)) ∙ length-split (length body / 12) body

pub cells-le : (size : ℕ) (body : List ℕ) → length (cells size body) ≤ instructions body
cells-le size body = rw (length-cells size body) (omega arith)

-- the words of a body from an instruction on
drop-split : (i n : ℕ) (body : List ℕ) → i ≤ n → drop i (split n body) ≡ split (n - i) (drop (12 * i) body)
drop-split zero n body l = rw sub-zero
drop-split (suc i) zero body l = absurd (not-suc-le-zero l)
drop-split (suc i) (suc n) body l =
    drop-split i n (drop 12 body) (le_of_suc-le-suc l)
    ∙ ap₂ split (let e : n - i ≡ suc n - suc i = omega arith in e) (drop-drop (12 * i) 12 body ∙ ap (λ (k : ℕ). drop k body) (let e : 12 + 12 * i ≡ 12 * suc i = omega arith in e))

drop-map : (f : List ℕ → ℕ) (i : ℕ) (xs : List (List ℕ)) → drop i (map f xs) ≡ map f (drop i xs)
drop-map f zero xs = refl
drop-map f (suc i) [] = refl
drop-map f (suc i) (x ∷ xs) = drop-map f i xs

pub cells-from : (size : ℕ) (body : List ℕ) (i : ℕ) → i ≤ length body / 12 → cells size (drop (12 * i) body) ≡ drop i (cells size body)
unfolding cells
cells-from size body i l =
    ap (λ (n : ℕ). map (λ x. packed (cell_of size x)) (split n (drop (12 * i) body))) left
    ∙ sym (drop-map (λ x. packed (cell_of size x)) i (split (length body / 12) body) ∙ ap (map (λ x. packed (cell_of size x))) (drop-split i (length body / 12) body l))
  where
    left : length (drop (12 * i) body) / 12 ≡ length body / 12 - i
    left = rw (length-drop (12 * i) body) (omega arith)

-- what holds of the first n instructions holds of fewer
fewer : (P : List ℕ → Type 0) (k n : ℕ) (body : List ℕ) → k ≤ n → Every P (split n body) → Every P (split k body)
fewer P zero n body l e = tt
fewer P (suc k) zero body l e = absurd (not-suc-le-zero l)
fewer P (suc k) (suc n) body l e = (e.0, fewer P k n (drop 12 body) (le_of_suc-le-suc l) e.1)

-- what a lawful instruction has
pub record Lawful (x : List ℕ) : Type 0 where
  pub whole : length x ≡ 12
  pub opcode : opcode_of x ≤ STP
  pub modifier : modifier_of x ≤ I
  pub a_mode : a_mode_of x ≤ PostIncIndirectB
  pub b_mode : b_mode_of x ≤ PostIncIndirectB

pub lawful-fields : (x : List ℕ) → not (lawful x) ≡ false → Lawful x
unfolding lawful
lawful-fields x e =
    let h = holds
    (eqb (length x) 12 ∷ leb (opcode_of x) STP ∷ leb (modifier_of x) I ∷ leb (a_mode_of x) PostIncIndirectB ∷ leb (b_mode_of x) PostIncIndirectB ∷ [])
    (not-false _ e) in
    record {
      whole = eqb-true _ _ h.0;
      opcode = leb-true _ _ h.1.0;
      modifier = leb-true _ _ h.1.1.0;
      a_mode = leb-true _ _ h.1.1.1.0;
      b_mode = leb-true _ _ h.1.1.1.1.0;
    }

-- where no instruction is faulty, all are lawful
pub all-lawful : (body : List ℕ) → ltb (lowest_fault body) (instructions body) ≡ false → Every (λ x. not (lawful x) ≡ false) (split (instructions body) body)
unfolding lowest_fault
all-lawful body e =
    lowest-none (λ x. not (lawful x)) (split (instructions body) body) (rw (length-split (instructions body) body) (ltb-false _ _ e))

-- instructions that are lawful are whole, and so is their body
pub twelve-each : (n : ℕ) (body : List ℕ) → Every (λ x. not (lawful x) ≡ false) (split n body) → 12 * n ≤ length body
twelve-each zero body e = omega arith
twelve-each (suc n) body e =
    let x : List ℕ = take 12 body in
    let l : length x ≡ 12 = (lawful-fields x e.0).whole in
    let r : 12 * n ≤ length (drop 12 body) = twelve-each n (drop 12 body) e.1 in
    let a : length x + length (drop 12 body) ≡ length body = sym (length-append x (drop 12 body)) ∙ ap length (take-append-drop 12 body) in
    omega arith

pub lawful-whole : (body : List ℕ) → ltb (lowest_fault body) (instructions body) ≡ false → length body ≡ 12 * instructions body
lawful-whole body e = let l : 12 * instructions body ≤ length body = twelve-each (instructions body) body (all-lawful body e) in omega arith

module _ (size : ℕ) (positive : 0 < size) (small : size ≤ 65536) where
  pub lawful-cell : (x : List ℕ) → not (lawful x) ≡ false → Sound size (cell_of size x)
  lawful-cell x e =
      let h = lawful-fields x e in
      record {
        opcode = h.opcode;
        modifier = h.modifier;
        a_mode = omega (arith, h.a_mode);
        b_mode = omega (arith, h.b_mode);
        a = euclid-lt _ size positive;
        b = euclid-lt _ size positive;
      }

  words-sound : (xs : List (List ℕ)) → Every (λ x. not (lawful x) ≡ false) xs → Every (λ w. sound_word size w ≡ true) (map (λ x. packed (cell_of size x)) xs)
  words-sound [] e = tt
  words-sound (x ∷ xs) e = (fields-sound size (cell_of size x) small (lawful-cell x e.0), words-sound xs e.1)

  pub cells-sound : (body : List ℕ) → ltb (lowest_fault body) (instructions body) ≡ false → Every (λ w. sound_word size w ≡ true) (cells size body)
  unfolding cells
  cells-sound body e =
      words-sound (split (length body / 12) body)
      (fewer (λ x. not (lawful x) ≡ false) (length body / 12) (instructions body) body (omega arith) (all-lawful body e))
