-- A body, instruction by instruction: the lowest faulty one, and the words that they become.
-- Assumes nothing.
use mathlib.Core.Path.{◌≡◌, refl, sym, ap, ◌∙◌}
use mathlib.Core.Bool.{Bool, true, false, cond, not}
use lib.Dec.{eqb, ltb}
use mathlib.Core.Logic.{⊎_elim}
use mathlib.Core.List.{List, [], ◌∷◌, map}
use Prim.Native.Nat.{ℕ, zero, suc, ◌+◌, ◌-◌, ◌*◌, ◌/◌, ◌%◌, ◌<◌, ◌≤◌}
use native.Mathlib.Nat.{eq-or-lt_of_le, sub-zero, zero-add}
use native.Mathlib.Numerals.{add-one}
use native.Mathlib.Omega.{arith}
use lib.ListN.{length-drop, length, get_or, take, drop, set}
use Rattle.std.proofs.Common.{Option, Some, None, min, inl, inr}
use Rattle.std.specs.Bool.{then_some}
use Rattle.std.specs.Option.{option_or}
use Rattle.std.specs.List.{position}
use Rattle.std.proofs.lemmas.Bool.{cases_lt}
use borrow.Author.Tests.{eqb-true, eqb-false, lt-ltb, le-ltb}
use Rattle.std.specs.Simd.{first_chunks}
use lib.Seq.{drop-drop, sets}
use Rattle.laws.specs.Lists.{lowest}
use Rattle.laws.proofs.Lists.{fall, done, sets-past}
use Rattle.laws.proofs.Lowest.{position-lowest}
use Rattle.cell.specs.Cells.{packed}
use Rattle.program.proofs.Front.{cut_short}
use Rattle.program.proofs.Program.{length-split}
use Rattle.program.specs.Program.{instructions, split, lawful, lowest_fault, fault_in, cell_of, cells}

-- what is left of n instructions from the i-th on
abbrev pub rest : List ℕ → ℕ → ℕ → List (List ℕ)
rest body n i = split (n - i) (drop (12 * i) body)

pub rest-first : (body : List ℕ) (n i : ℕ) → i < n → rest body n i ≡ take 12 (drop (12 * i) body) ∷ rest body n (i + 1)
rest-first body n i h = rw (fall n i h, drop-drop 12 (12 * i) body, twelve i)
  where
    twelve : (i : ℕ) → 12 * i + 12 ≡ 12 * (i + 1)
    twelve i = omega arith

pub rest-none : (body : List ℕ) (n i : ℕ) → n ≤ i → rest body n i ≡ []
rest-none body n i h = rw (done n i h)

-- the lowest faulty index, where the first i instructions are lawful
abbrev pub From : List ℕ → ℕ → Type 0
From body i = lowest_fault body ≡ i + lowest (λ x. not (lawful x)) (rest body (instructions body) i)

module _ (body : List ℕ) (i : ℕ) (so_far : From body i) where
  step : i < instructions body
      → lowest_fault body ≡ i + cond (not (lawful (take 12 (drop (12 * i) body)))) 0 (suc (lowest (λ x. not (lawful x)) (rest body (instructions body) (i + 1))))
  step h = so_far ∙ rw (rest-first body (instructions body) i h)

  here : i < instructions body → lawful (take 12 (drop (12 * i) body)) ≡ false → i ≡ lowest_fault body
  here h e = sym (rw e at (step h) ∙ omega arith)

  nowhere : i ≤ instructions body → instructions body ≤ i → instructions body ≡ lowest_fault body
  nowhere l h = sym (so_far ∙ rw (rest-none body (instructions body) i h) (omega arith))

-- past the last whole instruction: one cut short is faulty
pub past_whole : (body : List ℕ) (i : ℕ) → From body i → i ≡ length body / 12 → i ≡ lowest_fault body
past_whole body i so_far e = ⊎_elim whole cut (let l : i ≤ instructions body = omega arith in eq-or-lt_of_le l)
  where
    whole : i ≡ instructions body → i ≡ lowest_fault body
    whole q = q ∙ nowhere body i so_far (omega arith) (omega arith)

    cut : i < instructions body → i ≡ lowest_fault body
    cut h = here body i so_far h (sym (cut_short (drop (12 * i) body) (rw length-drop (omega arith))))

-- the whole instructions of a body
pub chunks : (n : ℕ) (body : List ℕ) → first_chunks 12 n body ≡ split n body
chunks zero body = refl
chunks (suc n) body = ap (λ xs. take 12 body ∷ xs) (chunks n (drop 12 body))

-- the lowest that fails of n instructions and m more
module _ (fails : List ℕ → Bool) where
  pub lowest-past : (n m : ℕ) (body : List ℕ) → lowest fails (split (n + m) body)
      ≡ cond (ltb (lowest fails (split n body)) n) (lowest fails (split n body)) (n + lowest fails (split m (drop (12 * n) body)))
  lowest-past zero m body = simp zero-add refl
  lowest-past (suc n) m body =
      ap (λ k. lowest fails (split k body)) (let e : suc n + m ≡ suc (n + m) = omega arith in e)
      ∙ ap (λ k. cond (fails (take 12 body)) 0 (suc k)) (lowest-past n m (drop 12 body) ∙ rw (drop-drop, twelve n))
      ∙ go (fails (take 12 body)) (lowest fails (split n (drop 12 body)))
    where
      twelve : (i : ℕ) → 12 + 12 * i ≡ 12 * suc i
      twelve i = omega arith

      past : ℕ
      past = lowest fails (split m (drop (12 * suc n) body))

      go : (b : Bool) (k : ℕ) → cond b 0 (suc (cond (ltb k n) k (n + past))) ≡ cond (ltb (cond b 0 (suc k)) (suc n)) (cond b 0 (suc k)) (suc n + past)
      go true k = rw (lt-ltb 0 (suc n) (omega arith))
      go false k = elim (cases_lt k n) [
        | inl l ↦ rw (lt-ltb k n l, lt-ltb (suc k) (suc n) (omega arith))
        | inr g ↦ rw (le-ltb k n g, le-ltb (suc k) (suc n) (omega arith)) (omega arith)
      ]

-- the first fault: of the whole instructions, else the last one, where it is cut short
module _ (body : List ℕ) where
  abbrev whole : ℕ
  whole = length body / 12

  abbrev first : ℕ
  first = lowest (λ x. not (lawful x)) (split whole body)

  is : lowest_fault body ≡ cond (ltb first whole) first (whole + lowest (λ x. not (lawful x)) (split (instructions body - whole) (drop (12 * whole) body)))
  unfolding lowest_fault
  is =
      ap (λ n. lowest (λ x. not (lawful x)) (split n body)) (let e : instructions body ≡ whole + (instructions body - whole) = omega arith in e)
      ∙ lowest-past (λ x. not (lawful x)) whole (instructions body - whole) body

  pub first_of : {r : Option ℕ} {none : Bool} {xs : List (List ℕ)} → r ≡ position (λ x. not (lawful x)) xs → xs ≡ first_chunks 12 whole body
      → none ≡ eqb (length body % 12) 0 → option_or r (then_some (not none) whole) ≡ fault_in body
  first_of {r} {none} {xs} p c f = elim (cases_lt first whole) [
    | inl l ↦ found l
    | inr g ↦ not_found g (eqb (length body % 12) 0) refl
  ]
    where
      e : r ≡ cond (ltb first whole) (Some first) None
      e = p ∙ rw (c, chunks, position-lowest (λ x. not (lawful x)) (split whole body), length-split whole body)

      found : first < whole → option_or r (then_some (not none) whole) ≡ fault_in body
      found l =
          let t = lt-ltb first whole l in
          let at : lowest_fault body ≡ first = is ∙ rw t in
          rw (e, t) (sym (rw at (rw (lt-ltb first (instructions body) (omega arith)))))

      past : whole ≤ first → lowest_fault body ≡ whole
      past g = sym (past_whole body whole (is ∙ rw (le-ltb first whole g)) refl)

      not_found : whole ≤ first → (b : Bool) → eqb (length body % 12) 0 ≡ b → option_or r (then_some (not none) whole) ≡ fault_in body
      not_found g true z =
          let t = le-ltb first whole g in
          let m : length body % 12 ≡ 0 = eqb-true _ 0 z in
          rw (e, t, f, z) (sym (rw (past g) (rw (le-ltb whole (instructions body) (omega arith)))))
      not_found g false z =
          let t = le-ltb first whole g in
          let m : length body % 12 ≡ 0 → ⊥ = eqb-false _ 0 z in
          rw (e, t, f, z) (sym (rw (past g) (rw (lt-ltb whole (instructions body) (omega arith)))))

-- the whole instructions of a body
pub chunk : (n i : ℕ) (body x : List ℕ) → i < n → get_or (first_chunks 12 n body) i x ≡ take 12 (drop (12 * i) body)
chunk zero i body x h = elim h [ ]
chunk (suc n) zero body x h = refl
chunk (suc n) (suc i) body x h = chunk n i (drop 12 body) x (omega arith) ∙ rw (drop-drop, twelve i)
  where
    twelve : (i : ℕ) → 12 + 12 * i ≡ 12 * suc i
    twelve i = omega arith

pub chunk_of : (body : List ℕ) {ys : List (List ℕ)} (i : ℕ) (x : List ℕ) → ys ≡ first_chunks 12 (length body / 12) body → i < length body / 12
    → get_or ys i x ≡ take 12 (drop (12 * i) body)
chunk_of body i x e h = rw e (chunk (length body / 12) i body x h)

-- the words of instructions
abbrev pub words : ℕ → List (List ℕ) → List ℕ
words size xs = map (λ x. packed (cell_of size x)) xs

-- the core with the words still to be written from the i-th on
abbrev pub Left : ℕ → List ℕ → List ℕ → List ℕ → ℕ → Type 0
Left size body core₀ core i = sets core₀ 0 (cells size body) ≡ sets core i (words size (rest body (length body / 12) i))

module _ (size : ℕ) (body core₀ core : List ℕ) (i : ℕ) (so_far : Left size body core₀ core i) where
  full : length core ≤ i → core ≡ sets core₀ 0 (cells size body)
  full h = sym (so_far ∙ sets-past core i (words size (rest body (length body / 12) i)) h)

  pub complete : min (length body / 12) (length core) ≤ i → core ≡ sets core₀ 0 (cells size body)
  complete h = elim (cases_lt i (length core)) [
    | inl room ↦ sym (so_far ∙ rw (rest-none body (length body / 12) i (omega arith)))
    | inr none ↦ full none
  ]

  pub written : (w : ℕ) → i < length body / 12 → w ≡ packed (cell_of size (take 12 (drop (12 * i) body))) → Left size body core₀ (set core i w) (i + 1)
  written w h e = so_far ∙ rw (rest-first body (length body / 12) i h, e, add-one)

pub none_written : (size : ℕ) (body core : List ℕ) → Left size body core core 0
unfolding cells
none_written size body core = rw sub-zero
