-- The bytes of a file: their lengths, and a file with one warrior more.
-- Assumes nothing.
use mathlib.Core.Path.{◌≡◌, refl, sym, ap, ap₂, ◌∙◌}
use mathlib.Core.List.{List, [], ◌∷◌, ◌++◌, append_assoc, append-nil}
use Prim.Native.Nat.{ℕ, suc, ◌+◌, ◌-◌, ◌*◌, ◌≤◌}
use native.Mathlib.Omega.{arith}
use lib.ListN.{length, replicate, length-append, length-replicate}
use Rattle.encoding.specs.Bytes.{spelled}
use Rattle.program.specs.Program.{instructions}
use Rattle.match_format.specs.Format.{Warrior, line, lines, bodies, file}

-- names of at most 32 bytes: a line has 43
abbrev pub Short : List Warrior → Type 0
Short [] = Unit {0}
Short (w ∷ ws) = (length w.name ≤ 32) × Short ws

-- the line of a warrior whose body starts there
abbrev pub line_of : Warrior → ℕ → List ℕ
line_of w start = line w.name start (instructions w.body) w.origin w.place

pub length-line : (w : Warrior) (start : ℕ) → length w.name ≤ 32 → length (line_of w start) ≡ 43
unfolding line
length-line w start h =
    let after : List ℕ = spelled 4 start ++ (spelled 2 (instructions w.body) ++ (spelled 2 w.origin ++ spelled 2 w.place)) in
    let e : length (w.name ++ (replicate (32 - length w.name) 0 ++ after)) ≡ 42 = simp (length-append, length-replicate) (omega arith) in
    ap suc e

pub length-lines : (start : ℕ) (ws : List Warrior) → Short ws → length (lines start ws) ≡ 43 * length ws
length-lines start [] h = refl
length-lines start (w ∷ ws) h =
    length-append (line_of w start) (lines (start + length w.body) ws)
    ∙ ap₂ (λ (x y : ℕ). x + y) (length-line w start h.0) (length-lines (start + length w.body) ws h.1)
    ∙ (let e : 43 + 43 * length ws ≡ 43 * suc (length ws) = omega arith in e)

pub length-file : (size : ℕ) (ws : List Warrior) → Short ws → length (file size ws) ≡ 4 + 43 * length ws + length (bodies ws)
unfolding file
length-file size ws h =
    let ls : List ℕ = lines (4 + 43 * length ws) ws in
    let l : length (ls ++ bodies ws) ≡ 43 * length ws + length (bodies ws)
    = length-append ls (bodies ws) ∙ ap (λ (x : ℕ). x + length (bodies ws)) (length-lines (4 + 43 * length ws) ws h)
    in
    let e : suc (suc (suc (suc (length (ls ++ bodies ws))))) ≡ 4 + 43 * length ws + length (bodies ws) = omega arith in
    e

-- one list of warriors after another
pub bodies-append : (vs ws : List Warrior) → bodies (vs ++ ws) ≡ bodies vs ++ bodies ws
bodies-append [] ws = refl
bodies-append (v ∷ vs) ws = ap (λ (r : List ℕ). v.body ++ r) (bodies-append vs ws) ∙ sym (append_assoc v.body (bodies vs) (bodies ws))

pub short-append : (vs ws : List Warrior) → Short vs → Short ws → Short (vs ++ ws)
short-append [] ws h k = k
short-append (v ∷ vs) ws h k = (h.0, short-append vs ws h.1 k)

lines-append : (start : ℕ) (vs ws : List Warrior) → lines start (vs ++ ws) ≡ lines start vs ++ lines (start + length (bodies vs)) ws
lines-append start [] ws = ap (λ (k : ℕ). lines k ws) (let e : start ≡ start + 0 = omega arith in e)
lines-append start (v ∷ vs) ws =
    let s : ℕ = start + length v.body in
    let e : s + length (bodies vs) ≡ start + length (v.body ++ bodies vs) = rw (length-append v.body (bodies vs)) (omega arith) in
    ap (λ (r : List ℕ). line_of v start ++ r) (lines-append s vs ws)
    ∙ sym (append_assoc (line_of v start) (lines s vs) (lines (s + length (bodies vs)) ws))
    ∙ ap (λ (k : ℕ). (line_of v start ++ lines s vs) ++ lines k ws) e

-- one warrior more than n
module _ (size n : ℕ) (ws : List Warrior) (w : Warrior) (h : length ws ≡ n) where
  abbrev first : ℕ
  first = 4 + 43 * (n + 1)

  more : length (ws ++ (w ∷ [])) ≡ n + 1
  more = length-append ws (w ∷ []) ∙ ap (λ (x : ℕ). x + 1) h

  bodies-more : bodies (ws ++ (w ∷ [])) ≡ bodies ws ++ w.body
  bodies-more = bodies-append ws (w ∷ []) ∙ ap (λ (r : List ℕ). bodies ws ++ r) (append-nil w.body)

  -- its bytes, in order
  pub file-more : file size (ws ++ (w ∷ []))
      ≡ (n + 1) ∷ (spelled 2 size ++ (0 ∷ (lines first ws ++ (line_of w (first + length (bodies ws)) ++ (bodies ws ++ w.body)))))
  unfolding file
  file-more =
      let l : List ℕ = line_of w (first + length (bodies ws)) in
      ap (λ (x : ℕ). x ∷ (spelled 2 size ++ (0 ∷ (lines (4 + 43 * x) (ws ++ (w ∷ [])) ++ bodies (ws ++ (w ∷ [])))))) more
      ∙ ap₂ (λ (x y : List ℕ). (n + 1) ∷ (spelled 2 size ++ (0 ∷ (x ++ y))))
      (lines-append first ws (w ∷ []) ∙ ap (λ (r : List ℕ). lines first ws ++ r) (append-nil l)) bodies-more
      ∙ ap (λ (x : List ℕ). (n + 1) ∷ (spelled 2 size ++ (0 ∷ x))) (append_assoc (lines first ws) l (bodies ws ++ w.body))

  pub length_more : Short ws → length w.name ≤ 32 → length (file size (ws ++ (w ∷ []))) ≡ first + length (bodies ws) + length w.body
  length_more k l =
      let a = length-file size (ws ++ (w ∷ [])) (short-append ws (w ∷ []) k (l, tt)) in
      let b : length (bodies (ws ++ (w ∷ []))) ≡ length (bodies ws) + length w.body = ap length bodies-more ∙ length-append (bodies ws) w.body in
      let c = more in
      omega arith
