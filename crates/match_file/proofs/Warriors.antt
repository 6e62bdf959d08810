-- The warriors of a file that reads: their number, names, counts and bodies.
-- Assumes nothing.
use mathlib.Core.Path.{◌≡◌, refl, sym, ap, ap₂, ◌∙◌}
use mathlib.Core.List.{List, ◌++◌}
use Prim.Native.Nat.{ℕ, zero, suc, ◌+◌, ◌*◌, ◌<◌}
use native.Mathlib.Omega.{arith}
use lib.ListN.{length, get_or, drop, take-append-drop}
use lib.Seq.{drop-length, drop-drop}
use Rattle.encoding.specs.Bytes.{part}
use Rattle.program.specs.Program.{instructions}
use Rattle.std.specs.Prelude.{None}
use Rattle.match_format.specs.Format.{number, Warrior, bodies}
use Rattle.match_format.specs.Faults.{lines_fault}
use Rattle.match_file.specs.Reading.{warrior_at, warriors_at}
use Rattle.match_format.proofs.Parts.{length_part}
use Rattle.match_format.proofs.Format.{Short}
use Rattle.match_format.proofs.Lines.{lines_none}
use Rattle.match_format.proofs.Whole.{end-ok, first-line, later-lines, LineAt}

module _ (f : List ℕ) where
  pub length-warriors : (p n : ℕ) → length (warriors_at f p n) ≡ n
  length-warriors p zero = refl
  length-warriors p (suc n) = ap suc (length-warriors (p + 43) n)

  pub warrior-at : (p n k : ℕ) (d : Warrior) → k < n → get_or (warriors_at f p n) k d ≡ warrior_at f (p + 43 * k)
  warrior-at p zero k d h = absurd (let z : ⊥ = omega arith in z)
  warrior-at p (suc n) zero d h = ap (warrior_at f) (let e : p ≡ p + 43 * 0 = omega arith in e)
  warrior-at p (suc n) (suc k) d h = warrior-at (p + 43) n k d (omega arith) ∙ ap (warrior_at f) (let e : p + 43 + 43 * k ≡ p + 43 * suc k = omega arith in e)

  pub length-body : (q : ℕ) → LineAt f q → length (warrior_at f q).body ≡ 12 * number f (q + 37) 2
  length-body q k = length_part f (number f (q + 33) 4) (12 * number f (q + 37) 2) (omega (arith, k.ends, k.line.start))

  pub count-is : (q : ℕ) → LineAt f q → instructions (warrior_at f q).body ≡ number f (q + 37) 2
  count-is q k = rw (length-body q k) (omega arith)

  -- the bodies go on to the file's end
  pub bodies-are : (p s n : ℕ) → lines_fault f p s n ≡ None → bodies (warriors_at f p n) ≡ drop s f
  bodies-are p s zero e = sym (ap (λ (k : ℕ). drop k f) (end-ok f s (sym (lines_none f p s) ∙ e)) ∙ drop-length f)
  bodies-are p s (suc n) e =
      let c : ℕ = number f (p + 37) 2 in
      ap₂ (λ (x : ℕ) (y : List ℕ). part f x (12 * c) ++ y) (first-line f p s n e).start (bodies-are (p + 43) (s + 12 * c) n (later-lines f p s n e))
      ∙ ap (λ (r : List ℕ). part f s (12 * c) ++ r) (sym (drop-drop (12 * c) s f))
      ∙ take-append-drop (12 * c) (drop s f)

  pub short-names : (p s n : ℕ) → lines_fault f p s n ≡ None → Short (warriors_at f p n)
  short-names p s zero e = tt
  short-names p s (suc n) e =
      let k = first-line f p s n e in (
        rw (length_part f (p + 1) (get_or f p 0) (omega (arith, k.fits, k.short))) k.short,
        short-names (p + 43) (s + 12 * number f (p + 37) 2) n (later-lines f p s n e),
      )
