-- The lines and the bodies of a file as they are stored, one after the other.
-- Assumes nothing.
use mathlib.Core.Path.{◌≡◌, refl, sym, ap, subst, ◌∙◌}
use mathlib.Core.List.{List, [], ◌∷◌, ◌++◌}
use Prim.Native.Nat.{ℕ, ◌+◌, ◌-◌, ◌*◌, ◌/◌, ◌%◌, ◌≤◌, ◌<◌}
use native.Mathlib.Omega.{arith}
use lib.ListN.{length, take, drop, replicate, length-append, length-replicate, length-drop}
use lib.Seq.{sets}
use Rattle.laws.proofs.Lists.{fall, to_end}
use Rattle.encoding.specs.Bytes.{spelled}
use Rattle.match_format.specs.Format.{Warrior, line, lines, bodies, file}
use Rattle.match_file.specs.Reading.{warrior_of, warriors_at}
use Rattle.match_format.proofs.Format.{Short, line_of, length-line, length-lines, file-more}
use Rattle.laws.proofs.Stores.{store_then}

-- a line, stored part by part
pub line-stored : (l l1 l2 l3 l4 l5 l6 l7 name zs ss cs os ps : List ℕ) (p start count origin place : ℕ) → length name ≤ 32
    → l1 ≡ sets l p (length name ∷ [])
    → l2 ≡ sets l1 (p + 1) name
    → l3 ≡ sets l2 (p + 1 + length name) zs → zs ≡ replicate (32 - length name) 0
    → l4 ≡ sets l3 (p + 33) ss → ss ≡ spelled 4 start
    → l5 ≡ sets l4 (p + 37) cs → cs ≡ spelled 2 count
    → l6 ≡ sets l5 (p + 39) os → os ≡ spelled 2 origin
    → l7 ≡ sets l6 (p + 41) ps → ps ≡ spelled 2 place
    → l7 ≡ sets l p (line name start count origin place)
unfolding line
line-stored l l1 l2 l3 l4 l5 l6 l7 name zs ss cs os ps p start count origin place h e1 e2 e3 z e4 s e5 c e6 o e7 q =
    let zeros : List ℕ = replicate (32 - length name) 0 in
    let from_place : List ℕ = spelled 2 place in
    let from-origin : List ℕ = spelled 2 origin ++ from_place in
    let from-count : List ℕ = spelled 2 count ++ from-origin in
    let from_start : List ℕ = spelled 4 start ++ from-count in
    let k : p + 1 + length name + length zeros ≡ p + 33 = rw length-replicate (omega arith) in
    sym
    (store_then l l1 (length name ∷ []) (name ++ (zeros ++ from_start)) p (p + 1) e1 refl
    ∙ store_then l1 l2 name (zeros ++ from_start) (p + 1) (p + 1 + length name) e2 refl
    ∙ store_then l2 l3 zeros from_start (p + 1 + length name) (p + 33) (e3 ∙ ap (sets l2 (p + 1 + length name)) z) k
    ∙ store_then l3 l4 (spelled 4 start) from-count (p + 33) (p + 37) (e4 ∙ ap (sets l3 (p + 33)) s) (omega arith)
    ∙ store_then l4 l5 (spelled 2 count) from-origin (p + 37) (p + 39) (e5 ∙ ap (sets l4 (p + 37)) c) (omega arith)
    ∙ store_then l5 l6 (spelled 2 origin) from_place (p + 39) (p + 41) (e6 ∙ ap (sets l5 (p + 39)) o) (omega arith)
    ∙ sym (e7 ∙ ap (sets l6 (p + 41)) q))

-- the warriors of n lines that are left from line i on
abbrev pub left : List ℕ → ℕ → ℕ → List Warrior
left f n i = warriors_at f (4 + 43 * i) (n - i)

-- one turn of the loop over the lines
module _ (f : List ℕ) (n i : ℕ) (h : i < n) where
  abbrev w : Warrior
  w = warrior_of f i

  next : left f n i ≡ w ∷ left f n (i + 1)
  next = rw (fall n i h) (let z : 4 + 43 * i + 43 ≡ 4 + 43 * (i + 1) = omega arith in rw z)

  pub shorts : Short (left f n i) → (length w.name ≤ 32) × Short (left f n (i + 1))
  shorts s = subst Short next s

  pub start-turn : (to : ℕ) → to + length (bodies (left f n i)) ≡ to + length w.body + length (bodies (left f n (i + 1)))
  start-turn to = ap (λ x. to + length (bodies x)) next ∙ (let a = length-append w.body (bodies (left f n (i + 1))) in omega (arith, a))

  pub lines-turn : (out out' : List ℕ) (to : ℕ) → length w.name ≤ 32 → out' ≡ sets out (4 + 43 * i) (line_of w to)
      → sets out (4 + 43 * i) (lines to (left f n i)) ≡ sets out' (4 + 43 * (i + 1)) (lines (to + length w.body) (left f n (i + 1)))
  lines-turn out out' to s e =
      let q : ℕ = 4 + 43 * i in
      let z : q + 43 ≡ 4 + 43 * (i + 1) = omega arith in
      let ls : List ℕ = lines (to + length w.body) (left f n (i + 1)) in
      ap (λ x. sets out q (lines to x)) next ∙ store_then out out' (line_of w to) ls q (q + 43) e (ap (λ x. q + x) (length-line w to s)) ∙ ap (λ x. sets out' x ls) z

-- how many bytes are left from a position on
pub rest-length : (f : List ℕ) (start : ℕ) → length (take (length f - start) (drop start f)) ≡ length f - start
rest-length f start = ap length (to_end f start) ∙ length-drop start f

-- a file with one warrior more, stored part by part
module _ (size n : ℕ) (ws : List Warrior) (w : Warrior) (h : length ws ≡ n) (short : Short ws) (name : length w.name ≤ 32) where
  pub file-stored : (out l1 l2 l3 l4 l5 head rest : List ℕ) (to : ℕ)
      → l1 ≡ sets out 0 head → head ≡ (n + 1) ∷ (size % 256) ∷ (size / 256 % 256) ∷ 0 ∷ []
      → l2 ≡ sets l1 4 (lines (4 + 43 * (n + 1)) ws)
      → to ≡ 4 + 43 * (n + 1) + length (bodies ws)
      → l3 ≡ sets l2 (4 + 43 * n) (line_of w to)
      → rest ≡ bodies ws
      → l4 ≡ sets l3 (4 + 43 * (n + 1)) rest
      → l5 ≡ sets l4 (4 + 43 * (n + 1) + length rest) w.body
      → l5 ≡ sets out 0 (file size (ws ++ (w ∷ [])))
  file-stored out l1 l2 l3 l4 l5 head rest to e1 eh e2 et e3 er e4 e5 =
      let p : ℕ = 4 + 43 * (n + 1) in
      let ls : List ℕ = lines p ws in
      let l : List ℕ = line_of w (p + length (bodies ws)) in
      let bs : List ℕ = bodies ws ++ w.body in
      let z : 4 + 43 * n + 43 ≡ p = omega arith in
      sym
      (ap (λ (x : List ℕ). sets out 0 x) (file-more size n ws w h)
      ∙ store_then out l1 ((n + 1) ∷ (size % 256) ∷ (size / 256 % 256) ∷ 0 ∷ []) (ls ++ (l ++ bs)) 0 4 (e1 ∙ ap (sets out 0) eh) refl
      ∙ store_then l1 l2 ls (l ++ bs) 4 (4 + 43 * n) e2 (ap (λ (x : ℕ). 4 + x) (length-lines p ws short ∙ ap (λ (x : ℕ). 43 * x) h))
      ∙ store_then l2 l3 l bs (4 + 43 * n) p (e3 ∙ ap (λ (x : ℕ). sets l2 (4 + 43 * n) (line_of w x)) et)
      (ap (λ (x : ℕ). 4 + 43 * n + x) (length-line w (p + length (bodies ws)) name) ∙ z)
      ∙ store_then l3 l4 (bodies ws) w.body p (p + length rest) (e4 ∙ ap (λ (x : List ℕ). sets l3 p x) er) (ap (λ (x : List ℕ). p + length x) (sym er))
      ∙ sym e5)
