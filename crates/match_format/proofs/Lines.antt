-- The contents, on plain values: what each of the reader's tests says of the first fault.
-- Assumes nothing.
use mathlib.Core.Path.{◌≡◌, refl, sym, ◌∙◌}
use mathlib.Core.Bool.{true}
use mathlib.Core.List.{List}
use Prim.Native.Nat.{ℕ, suc, ◌+◌, ◌-◌, ◌*◌, ◌≤◌, ◌<◌}
use native.Mathlib.Omega.{arith}
use lib.Dec.{leb, eqb}
use lib.ListN.{length, get_or}
use borrow.Author.Tests.{le-leb, eq-eqb, leb-true, eqb-true}
use Rattle.laws.proofs.Lists.{fall, done}
use Rattle.encoding.specs.Bytes.{part}
use Rattle.metadata.specs.Metadata.{valid_byte}
use Rattle.std.specs.Prelude.{Option, Some, None}
use Rattle.match_format.specs.Format.{number}
use Rattle.match_format.specs.Faults.{◌else◌, field, faulty, within, name_fault, padding_fault, line_fault, lines_fault, end_fault, fault}
use Rattle.match_format.proofs.Chains.{else-left, else-right, field_fits, field-right}

-- the fields after the padding
abbrev rest_fault : List ℕ → ℕ → ℕ → Option ℕ
rest_fault f p s =
    field f (p + 33) 4 (eqb (number f (p + 33) 4) s)
    else field f (p + 37) 2 true
    else field f (p + 39) 2 true
    else field f (p + 41) 2 true

-- what a line with no fault is
pub record LineOk (f : List ℕ) (p s : ℕ) : Type 0 where
  pub fits : p + 43 ≤ length f
  pub short : get_or f p 0 ≤ 32
  pub name : faulty valid_byte (p + 1) (part f (p + 1) (get_or f p 0)) ≡ None
  pub padding : faulty (within 0 0) (p + 1 + get_or f p 0) (part f (p + 1 + get_or f p 0) (32 - get_or f p 0)) ≡ None
  pub start : number f (p + 33) 4 ≡ s

module _ (f : List ℕ) (p s : ℕ) where
  pub line_ok : line_fault f p s ≡ None → LineOk f p s
  unfolding line_fault
  line_ok e =
      let f1 : Option ℕ = field f p 1 (leb (get_or f p 0) 32) in
      let f5 : Option ℕ = field f (p + 33) 4 (eqb (number f (p + 33) 4) s) in
      let r5 : Option ℕ = field f (p + 37) 2 true else field f (p + 39) 2 true else field f (p + 41) 2 true in
      let e1 = else-right f1 (field f (p + 1) 32 true else name_fault f p else padding_fault f p else rest_fault f p s) e in
      let e2 = else-right (field f (p + 1) 32 true) (name_fault f p else padding_fault f p else rest_fault f p s) e1 in
      let e3 = else-right (name_fault f p) (padding_fault f p else rest_fault f p s) e2 in
      let e4 = else-right (padding_fault f p) (rest_fault f p s) e3 in
      let e5 = else-right f5 r5 e4 in
      let e6 = else-right (field f (p + 37) 2 true) (field f (p + 39) 2 true else field f (p + 41) 2 true) e5 in
      let e7 = else-right (field f (p + 39) 2 true) (field f (p + 41) 2 true) e6 in
      let l : p + 41 + 2 ≤ length f = field_fits f (p + 41) 2 true e7 in
      record {
        fits = omega arith;
        short = leb-true (get_or f p 0) 32 (field-right f p 1 (leb (get_or f p 0) 32) (else-left f1 (field f (p + 1) 32 true else name_fault f p else padding_fault f p else rest_fault f p s) e));
        name = else-left (name_fault f p) (padding_fault f p else rest_fault f p s) e2;
        padding = else-left (padding_fault f p) (rest_fault f p s) e3;
        start = eqb-true (number f (p + 33) 4) s (field-right f (p + 33) 4 (eqb (number f (p + 33) 4) s) (else-left f5 r5 e4));
      }

  pub ok-line : LineOk f p s → line_fault f p s ≡ None
  unfolding line_fault
  ok-line k =
      simp (le-leb (p + 1) (length f) (omega (arith, k.fits)), le-leb (get_or f p 0) 32 k.short, le-leb (p + 1 + 32) (length f) (omega (arith, k.fits)), k.name, k.padding)
      (simp (le-leb (p + 33 + 4) (length f) (omega (arith, k.fits)), eq-eqb (number f (p + 33) 4) s k.start, le-leb (p + 37 + 2) (length f) (omega (arith, k.fits)))
      (simp (le-leb (p + 39 + 2) (length f) (omega (arith, k.fits)), le-leb (p + 41 + 2) (length f) (omega (arith, k.fits)))))

-- ---- the lines, one after the other

module _ (f : List ℕ) (p s : ℕ) where
  pub lines_none : lines_fault f p s 0 ≡ end_fault f s
  unfolding lines_fault
  lines_none = refl

  pub lines_more : (n : ℕ) → lines_fault f p s (suc n) ≡ (line_fault f p s else lines_fault f (p + 43) (s + 12 * number f (p + 37) 2) n)
  unfolding lines_fault
  lines_more n = refl

  -- the loop over the lines, at line i of n: it stops at a fault, goes on where there is none, and ends
  turn : (n i : ℕ) → i < n → lines_fault f p s (n - i) ≡ (line_fault f p s else lines_fault f (p + 43) (s + 12 * number f (p + 37) 2) (n - (i + 1)))
  turn n i h = rw (fall n i h) (lines_more (n - (i + 1)))

  pub stops : (n i q : ℕ) → i < n → Some q ≡ line_fault f p s → Some q ≡ lines_fault f p s (n - i)
  stops n i q h e = sym (turn n i h ∙ rw (← e))

  pub goes : (n i q t : ℕ) → i < n → None ≡ line_fault f p s → p + 43 ≡ q → t ≡ s + 12 * number f (p + 37) 2 → lines_fault f p s (n - i) ≡ lines_fault f q t (n - (i + 1))
  goes n i q t h e d g = turn n i h ∙ rw (← e, d, ← g)

  pub ends : (n i : ℕ) → n ≤ i → lines_fault f p s (n - i) ≡ end_fault f s
  ends n i h = rw (done n i h) lines_none

-- ---- the head

module _ (f : List ℕ) where
  pub good-head : 1 ≤ get_or f 0 0 → get_or f 0 0 ≤ 16 → 4 ≤ length f → get_or f 3 0 ≡ 0 → fault f ≡ lines_fault f 4 (4 + 43 * get_or f 0 0) (get_or f 0 0)
  unfolding fault
  good-head l m k z =
      simp (le-leb 1 (length f) (omega arith), le-leb 1 (get_or f 0 0) l, le-leb (get_or f 0 0) 16 m, le-leb 3 (length f) (omega arith), le-leb 4 (length f) k, eq-eqb (get_or f 3 0) 0 z)
