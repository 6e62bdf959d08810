-- What is written reads back: the lines of a file, and its warriors.
-- Assumes nothing.
use mathlib.Core.Path.{◌≡◌, refl, sym, ap, ap₂, ◌∙◌}
use mathlib.Core.List.{List, [], ◌∷◌, ◌++◌, append_assoc}
use Prim.Native.Nat.{ℕ, suc, ◌+◌, ◌-◌, ◌*◌, ◌^◌, ◌≤◌, ◌<◌}
use native.Mathlib.Nat.{add-zero}
use native.Mathlib.Omega.{arith}
use lib.ListN.{length, get_or, take, drop, replicate, length-append, length-replicate, length-drop}
use lib.Seq.{drop-drop, get_or-drop, take_at, drop_at, drop-append-add}
use borrow.Author.Tests.{le-leb}
use Rattle.std.specs.Prelude.{Option, None}
use Rattle.encoding.specs.Bytes.{part, value, spelled}
use Rattle.program.specs.Program.{instructions}
use Rattle.metadata.specs.Metadata.{valid_byte}
use Rattle.metadata.proofs.Names.{valid-name}
use Rattle.match_format.specs.Format.{number, Warrior, line, lines, bodies, file, Fits, AllFit}
use Rattle.match_format.specs.Faults.{◌else◌, within, lines_fault, fault}
use Rattle.match_file.specs.Reading.{size_in, warrior_at, warriors_at, warriors_of}
use Rattle.match_format.proofs.Parts.{part-from, part-past}
use Rattle.match_format.proofs.Numbers.{value-spelled}
use Rattle.match_format.proofs.Chains.{right-all, zero-all}
use Rattle.match_format.proofs.Lines.{LineOk, ok-line, lines_none, lines_more, good-head}
use Rattle.match_format.proofs.Format.{Short, line_of, length-line, length-lines}

pub all_short : (ws : List Warrior) → AllFit ws → Short ws
all_short [] t = tt
all_short (w ∷ ws) t = ((valid-name w.name t.0.name).0, all_short ws t.1)

-- what a line is read as, where it stands at the head of a list
module _ (name : List ℕ) (s c o q : ℕ) (r : List ℕ) (h : length name ≤ 32) where
  abbrev pad : List ℕ
  pad = replicate (32 - length name) 0

  abbrev tail : List ℕ
  tail = spelled 4 s ++ (spelled 2 c ++ (spelled 2 o ++ (spelled 2 q ++ r)))

  -- the line, bracketed for reading
  spread : line name s c o q ++ r ≡ length name ∷ (name ++ (pad ++ tail))
  unfolding line
  spread = ap (λ (x : List ℕ). length name ∷ x) (simp append_assoc)

  at_name : part (line name s c o q ++ r) 1 (length name) ≡ name
  at_name = ap (λ (x : List ℕ). part x 1 (length name)) spread ∙ take_at name (pad ++ tail) (length name) refl

  at-pad : part (line name s c o q ++ r) (1 + length name) (32 - length name) ≡ pad
  at-pad =
      let e : 1 + length name ≡ suc (length name + 0) = omega arith in
      ap₂ (λ (x : List ℕ) (y : ℕ). part x y (32 - length name)) spread e
      ∙ ap (take (32 - length name)) (drop-append-add name (pad ++ tail) 0)
      ∙ take_at pad tail (32 - length name) (length-replicate (32 - length name) 0)

  at_tail : (i k : ℕ) → part (line name s c o q ++ r) (33 + i) k ≡ part tail i k
  at_tail i k =
      let n : List ℕ = name ++ pad in
      let z : length name + (32 - length name) ≡ 32 = omega arith in
      let l : length n ≡ 32 = length-append name pad ∙ ap (λ (x : ℕ). length name + x) (length-replicate (32 - length name) 0) ∙ z in
      let e : 33 + i ≡ suc (length n + i) = omega arith in
      ap₂ (λ (x : List ℕ) (y : ℕ). part x y k) (spread ∙ ap (λ (x : List ℕ). length name ∷ x) (sym (append_assoc name pad tail))) e
      ∙ part-past n tail i k

-- what reading a line at p finds
pub record Has (f : List ℕ) (p s : ℕ) (w : Warrior) : Type 0 where
  pub fits : p + 43 ≤ length f
  pub size : get_or f p 0 ≡ length w.name
  pub name : part f (p + 1) (length w.name) ≡ w.name
  pub pad : part f (p + 1 + length w.name) (32 - length w.name) ≡ replicate (32 - length w.name) 0
  pub start : number f (p + 33) 4 ≡ s
  pub count : number f (p + 37) 2 ≡ instructions w.body
  pub origin : number f (p + 39) 2 ≡ w.origin
  pub place : number f (p + 41) 2 ≡ w.place

module _ (f : List ℕ) (p s : ℕ) (w : Warrior) (r : List ℕ) (t : Fits w) (b : s < 2 ^ 32)
    (e : drop p f ≡ line_of w s ++ r) where
  abbrev l : List ℕ
  l = line_of w s

  short : length w.name ≤ 32
  short = (valid-name w.name t.name).0

  seen : (i k : ℕ) → part f (p + i) k ≡ part (l ++ r) i k
  seen i k = part-from f p i k ∙ ap (λ (x : List ℕ). part x i k) e

  field_at : (i k n : ℕ) (x : List ℕ) → part f (p + i) k ≡ x → x ≡ spelled k n → n < 2 ^ (8 * k) → number f (p + i) k ≡ n
  field_at i k n x d u h = ap value (d ∙ u) ∙ value-spelled k n h

  pub has : Has f p s w
  has =
      let n : List ℕ = w.name in
      let c : ℕ = instructions w.body in
      let z : length (drop p f) ≡ 43 + length r = ap length e ∙ length-append l r ∙ ap (λ (x : ℕ). x + length r) (length-line w s short) in
      let y : p + 1 + length n ≡ p + (1 + length n) = omega arith in
      record {
        fits = omega (arith, length-drop p f);
        size = ap (λ (x : ℕ). get_or f x 0) (sym (add-zero p)) ∙ sym (get_or-drop p f 0 0) ∙ ap (λ (x : List ℕ). get_or x 0 0) (e ∙ spread n s c w.origin w.place r short);
        name = seen 1 (length n) ∙ at_name n s c w.origin w.place r short;
        pad = ap (λ (x : ℕ). part f x (32 - length n)) y ∙ seen (1 + length n) (32 - length n) ∙ at-pad n s c w.origin w.place r short;
        start = field_at 33 4 s _ (seen 33 4 ∙ at_tail n s c w.origin w.place r short 0 4) refl b;
        count = field_at 37 2 c _ (seen 37 2 ∙ at_tail n s c w.origin w.place r short 4 2) refl t.count;
        origin = field_at 39 2 w.origin _ (seen 39 2 ∙ at_tail n s c w.origin w.place r short 6 2) refl t.origin;
        place = field_at 41 2 w.place _ (seen 41 2 ∙ at_tail n s c w.origin w.place r short 8 2) refl t.place;
      }

  pub line-back : LineOk f p s
  line-back =
      let g = has in
      record {
        fits = g.fits;
        short = rw g.size short;
        name = rw (g.size, g.name) (right-all valid_byte (p + 1) w.name (valid-name w.name t.name).1);
        padding = rw (g.size, g.pad) (right-all (within 0 0) (p + 1 + length w.name) (replicate (32 - length w.name) 0) (zero-all (32 - length w.name)));
        start = g.start;
      }

  -- the body is the part of the file that its line says
  pub warrior-back : (rest : List ℕ) → drop s f ≡ w.body ++ rest → warrior_at f p ≡ w
  warrior-back rest d =
      let g = has in
      let n : part f (p + 1) (get_or f p 0) ≡ w.name = ap (λ (x : ℕ). part f (p + 1) x) g.size ∙ g.name in
      let y : part f (number f (p + 33) 4) (12 * number f (p + 37) 2) ≡ w.body
      = ap₂ (λ (x z : ℕ). part f x (12 * z)) g.start g.count ∙ ap (take (12 * instructions w.body)) d ∙ take_at w.body rest (12 * instructions w.body) t.body
      in
      λ i. record { name = n i; body = y i; origin = g.origin i; place = g.place i }

-- the lines, one after the other
module _ (f : List ℕ) where
  lines-back : (p s : ℕ) (ws : List Warrior) (r : List ℕ) → AllFit ws → drop p f ≡ lines s ws ++ r → drop s f ≡ bodies ws → s ≤ length f → s + 786420 * length ws < 2 ^ 32
      → (lines_fault f p s (length ws) ≡ None) × (warriors_at f p (length ws) ≡ ws)
  lines-back p s [] r t e d h b =
      let z : length f - s ≡ 0 = sym (length-drop s f) ∙ ap length d in
      (lines_none f p s ∙ simp (le-leb s (length f) h, le-leb (length f) s (omega arith)), refl)
  lines-back p s (w ∷ ws) r t e d h b =
      let l : List ℕ = line_of w s in
      let m : ℕ = s + length w.body in
      let x : List ℕ = lines m ws ++ r in
      let e1 : drop p f ≡ l ++ x = e ∙ append_assoc l (lines m ws) r in
      let g = has f p s w x t.0 (omega arith) e1 in
      let k : s + 12 * number f (p + 37) 2 ≡ m = omega (arith, g.count, t.0.body) in
      let z : length f - s ≡ length w.body + length (bodies ws) = sym (length-drop s f) ∙ ap length d ∙ length-append w.body (bodies ws) in
      let e2 : drop (p + 43) f ≡ x = sym (drop-drop 43 p f) ∙ ap (drop 43) e1 ∙ drop_at l x 43 (length-line w s (valid-name w.name t.0.name).0) in
      let d2 : drop m f ≡ bodies ws = sym (drop-drop (length w.body) s f) ∙ ap (drop (length w.body)) d ∙ drop_at w.body (bodies ws) (length w.body) refl in
      let c : length w.body ≤ 786420 = omega (arith, t.0.body, t.0.count) in
      let u = lines-back (p + 43) m ws r t.1 e2 d2 (omega arith) (omega arith) in (
        lines_more f p s (length ws)
            ∙ ap₂ (λ (y : Option ℕ) (n : ℕ). y else lines_fault f (p + 43) n (length ws)) (ok-line f p s (line-back f p s w x t.0 (omega arith) e1)) k
            ∙ u.0,
        ap₂ (λ (y : Warrior) (ys : List Warrior). y ∷ ys) (warrior-back f p s w x t.0 (omega arith) e1 (bodies ws) d) u.1,
      )

-- f reads as M and these warriors
pub record As (f : List ℕ) (m : ℕ) (ws : List Warrior) : Type 0 where
  pub sound : fault f ≡ None
  pub size : size_in f ≡ m
  pub warriors : warriors_of f ≡ ws

module _ (size : ℕ) (ws : List Warrior) (a : size < 65536) (low : 1 ≤ length ws) (high : length ws ≤ 16) (t : AllFit ws) where
  pub file-back : As (file size ws) size ws
  unfolding file
  file-back =
      let f : List ℕ = file size ws in
      let n : ℕ = length ws in
      let s : ℕ = 4 + 43 * n in
      let ls : List ℕ = lines s ws in
      let l : length ls ≡ 43 * n = length-lines s ws (all_short ws t) in
      let z : length (ls ++ bodies ws) ≡ 43 * n + length (bodies ws) = length-append ls (bodies ws) ∙ ap (λ (x : ℕ). x + length (bodies ws)) l in
      let d : drop s f ≡ bodies ws = sym (drop-drop (43 * n) 4 f) ∙ drop_at ls (bodies ws) (43 * n) l in
      let g : suc (suc (suc (suc (length (ls ++ bodies ws))))) ≡ s + length (bodies ws) = omega arith in
      let u = lines-back f 4 s ws (bodies ws) t refl d (omega arith) (omega arith) in
      record {
        sound = good-head f low high (omega arith) refl ∙ u.0;
        size = value-spelled 2 size a;
        warriors = u.1;
      }
