-- A file that reads is the file of what it reads as, byte for byte.
-- Assumes nothing.
use mathlib.Core.Path.{◌≡◌, refl, sym, ap, ap₂, ◌∙◌}
use mathlib.Core.List.{List, ◌∷◌, ◌++◌}
use Prim.Native.Nat.{ℕ, zero, suc, ◌+◌, ◌-◌, ◌*◌, ◌≤◌}
use native.Mathlib.Nat.{add-zero}
use native.Mathlib.Omega.{arith}
use lib.ListN.{length, get_or, drop, replicate, take-append-drop}
use lib.Seq.{drop-drop, drop-cons}
use Rattle.std.specs.Prelude.{None}
use Rattle.encoding.specs.Bytes.{part, spelled}
use Rattle.match_format.specs.Format.{Bytes, number, line, lines, bodies, file}
use Rattle.match_format.specs.Faults.{within, lines_fault, fault}
use Rattle.match_file.specs.Reading.{size_in, warriors_at, warriors_of}
use Rattle.match_format.proofs.Parts.{length_part, part-add, part-first}
use Rattle.match_format.proofs.Numbers.{spelled-number}
use Rattle.match_format.proofs.Chains.{all_right, all-zero}
use Rattle.match_format.proofs.Lines.{LineOk}
use Rattle.match_format.proofs.Whole.{head_ok, first-line, later-lines, LineAt, line_at}
use Rattle.match_file.proofs.Warriors.{length-warriors, length-body, count-is, bodies-are}

module _ (f : List ℕ) (b : Bytes f) where
  -- a list from p on is a part and what follows it
  from : (p k : ℕ) → drop p f ≡ part f p k ++ drop (p + k) f
  from p k = sym (ap (λ (r : List ℕ). part f p k ++ r) (sym (drop-drop k p f)) ∙ take-append-drop k (drop p f))

  -- two parts, one after the other
  joined : (p j k q : ℕ) {xs ys : List ℕ} → xs ≡ part f p j → ys ≡ part f q k → q ≡ p + j → xs ++ ys ≡ part f p (j + k)
  joined p j k q xs ys e = ap₂ (λ (a c : List ℕ). a ++ c) xs (ys ∙ ap (λ (x : ℕ). part f x k) e) ∙ sym (part-add f p j k)

  -- a line
  line-again : (p s : ℕ) → LineOk f p s
      → line (part f (p + 1) (get_or f p 0)) s (number f (p + 37) 2) (number f (p + 39) 2) (number f (p + 41) 2) ≡ part f p 43
  unfolding line
  line-again p s k =
      let size : ℕ = get_or f p 0 in
      let short : size ≤ 32 = k.short in
      let fits : p + 43 ≤ length f = k.fits in
      let name : length (part f (p + 1) size) ≡ size = length_part f (p + 1) size (omega arith) in
      let zeros : List ℕ = part f (p + 1 + size) (32 - size) in
      let padding : replicate (32 - length (part f (p + 1) size)) 0 ≡ zeros
      = ap (λ (x : ℕ). replicate (32 - x) 0) name
      ∙ ap (λ (x : ℕ). replicate x 0) (sym (length_part f (p + 1 + size) (32 - size) (omega arith)))
      ∙ sym (all-zero zeros (all_right (within 0 0) (p + 1 + size) zeros k.padding))
      in
      let start : spelled 4 s ≡ part f (p + 33) 4 = ap (spelled 4) (sym k.start) ∙ spelled-number f (p + 33) 4 b (omega arith) in
      let from-origin = joined (p + 39) 2 2 (p + 41) (spelled-number f (p + 39) 2 b (omega arith)) (spelled-number f (p + 41) 2 b (omega arith)) (omega arith) in
      let from-count = joined (p + 37) 2 4 (p + 39) (spelled-number f (p + 37) 2 b (omega arith)) from-origin (omega arith) in
      let from_start = joined (p + 33) 4 6 (p + 37) start from-count (omega arith) in
      let from-padding = joined (p + 1 + size) (32 - size) 10 (p + 33) padding from_start (omega arith) in
      let from-name = joined (p + 1) size (32 - size + 10) (p + 1 + size) refl from-padding refl in
      let e : size + (32 - size + 10) ≡ 42 = omega arith in
      ap₂ (λ (x : ℕ) (y : List ℕ). x ∷ y) name (from-name ∙ ap (part f (p + 1)) e) ∙ sym (part-first f p 42 (omega arith))

  -- the lines
  lines-again : (p s n : ℕ) → lines_fault f p s n ≡ None → lines s (warriors_at f p n) ≡ part f p (43 * n)
  lines-again p s zero e = refl
  lines-again p s (suc n) e =
      let o = first-line f p s n e in
      let m : ℕ = s + 12 * number f (p + 37) 2 in
      let k : LineAt f p = rw add-zero at (line_at f p s (suc n) 0 e (omega arith)) in
      let bd : List ℕ = part f (number f (p + 33) 4) (12 * number f (p + 37) 2) in
      let nm : List ℕ = part f (p + 1) (get_or f p 0) in
      let z : 43 + 43 * n ≡ 43 * suc n = omega arith in
      ap₂ (λ (x y : ℕ). line nm s x (number f (p + 39) 2) (number f (p + 41) 2) ++ lines (s + y) (warriors_at f (p + 43) n)) (count-is f p k) (length-body f p k)
      ∙ ap₂ (λ (x y : List ℕ). x ++ y) (line-again p s o) (lines-again (p + 43) m n (later-lines f p s n e))
      ∙ sym (part-add f p 43 (43 * n))
      ∙ ap (λ (x : ℕ). part f p x) z

  pub again : fault f ≡ None → file (size_in f) (warriors_of f) ≡ f
  unfolding file
  again e =
      let h = head_ok f e in
      let n : ℕ = get_or f 0 0 in
      let l : 4 ≤ length f = h.fits in
      let q : length (warriors_at f 4 n) ≡ n = length-warriors f 4 n in
      ap (λ (x : ℕ). x ∷ (spelled 2 (size_in f) ++ (0 ∷ (lines (4 + 43 * x) (warriors_at f 4 n) ++ bodies (warriors_at f 4 n))))) q
      ∙ ap₂ (λ (x y : List ℕ). n ∷ (x ++ (0 ∷ y))) (spelled-number f 1 2 b (omega arith))
      (ap₂ (λ (x y : List ℕ). x ++ y) (lines-again 4 (4 + 43 * n) n h.lines) (bodies-are f 4 (4 + 43 * n) n h.lines) ∙ sym (from 4 (43 * n)))
      ∙ ap (λ (x : ℕ). n ∷ (part f 1 2 ++ (x ∷ drop 4 f))) (sym h.null)
      ∙ ap (λ (x : List ℕ). n ∷ (part f 1 2 ++ x)) (sym (drop-cons f 3 0 (omega arith)))
      ∙ ap (λ (x : List ℕ). n ∷ x) (sym (from 1 2))
      ∙ sym (drop-cons f 0 0 (omega arith))
