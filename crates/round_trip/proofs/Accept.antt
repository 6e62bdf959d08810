-- What a call that answers 0 tells of its warrior, and what it takes to be accepted.
-- Assumes nothing.
use mathlib.Core.Path.{◌≡◌, refl, sym, ap, ◌∙◌}
use mathlib.Core.Bool.{true, false, not}
use mathlib.Core.List.{List, [], ◌∷◌, ◌++◌}
use Prim.Native.Nat.{ℕ, zero, suc, ◌+◌, ◌*◌, ◌≤◌, ◌<◌}
use native.Mathlib.Nat.{add-zero}
use native.Mathlib.Omega.{arith}
use lib.Dec.{leb, ltb}
use lib.ListN.{length, get_or}
use borrow.Author.Tests.{leb-true, leb-false, ltb-false, le-leb, lt-leb, le-ltb, not-false}
use Rattle.std.specs.Prelude.{None}
use Rattle.answer.specs.Numbers.{Told, gives}
use Rattle.laws.proofs.Tests.{both, neither}
use Rattle.encoding.specs.Bytes.{part}
use Rattle.program.specs.Program.{instructions, lowest_fault}
use Rattle.metadata.specs.Metadata.{valid_byte, valid_name}
use Rattle.program.proofs.Program.{lawful-whole}
use Rattle.machine.specs.State.{Check, Verdict, accepted, refusal, first}
use Rattle.machine.specs.Soundness.{valid_size}
use Rattle.machine.proofs.Checks.{passed as rows-passed, Numbers, number_of}
use Rattle.match_format.specs.Format.{Bytes, number, Warrior, file, Fits, AllFit}
use Rattle.match_format.specs.Faults.{lines_fault}
use Rattle.match_file.specs.Reading.{warriors_at}
use Rattle.match_format.proofs.Parts.{length_part}
use Rattle.match_format.proofs.Numbers.{number_lt}
use Rattle.match_format.proofs.Chains.{all_right}
use Rattle.match_format.proofs.Whole.{first-line, later-lines, LineAt, line_at}
use Rattle.match_file.proofs.Warriors.{length-body, count-is}
use Rattle.write_checks.specs.Refusal.{settle}
use Rattle.match_write.specs.Writing.{checks}

-- no row has the number 0, so a call that answers 0 was accepted
abbrev Refuses : ℕ → Type 0
Refuses n = n ≡ 0 → ⊥

abbrev pub Refusals : List Check → Type 0
Refusals cs = Numbers Refuses cs

pub accepted-of : (cs : List Check) → Refusals cs → (made output : List ℕ) → (settle (first cs) made output).told ≡ gives 0 0 → first cs ≡ accepted
accepted-of cs ns made output e = go (first cs) refl (ap (λ (t : Told). t.number) e)
  where
    go : (v : Verdict) → first cs ≡ v → (settle v made output).told.number ≡ 0 → first cs ≡ accepted
    go accepted h z = h
    go (refusal n x) h z = absurd (number_of Refuses cs ns n x h z)

-- what passed the checks 1, 3, 4 and 5
pub record Passed (size : ℕ) (w : Warrior) : Type 0 where
  pub low : 1 ≤ size
  pub high : size ≤ 46341
  pub count : instructions w.body ≤ size
  pub codes : ltb (lowest_fault w.body) (instructions w.body) ≡ false
  pub name : valid_name w.name ≡ true
  pub place : w.place < size

module _ (size : ℕ) (ws : List Warrior) (w : Warrior) (room : ℕ) where
  pub refusals : Refusals (checks size ws w room)
  refusals = (λ e. omega arith, (λ e. omega arith, (λ e. omega arith, (λ e. omega arith, (λ e. omega arith, tt)))))

  module _ (e : first (checks size ws w room) ≡ accepted) where
    pub passed : Passed size w
    passed =
        let p = rows-passed (checks size ws w room) e in
        let m = both (leb 1 size) (leb size 46341) (not-false (valid_size size) p.0) in
        let n = neither (not (valid_name w.name)) (leb size w.place) p.1.1.1.0 in
        record {
          low = leb-true 1 size m.0;
          high = leb-true size 46341 m.1;
          count = ltb-false size (instructions w.body) p.1.0;
          codes = p.1.1.0;
          name = not-false (valid_name w.name) n.0;
          place = leb-false size w.place n.1;
        }

    pub room_for : (length ws < 16) × (length (file size (ws ++ (w ∷ []))) ≤ room)
    room_for =
        let n = neither (leb 16 (length ws)) (ltb room (length (file size (ws ++ (w ∷ []))))) (rows-passed (checks size ws w room) e).1.1.1.1.0 in
        (leb-false 16 (length ws) n.0, ltb-false room (length (file size (ws ++ (w ∷ [])))) n.1)

  pub accept : Passed size w → length ws < 16 → length (file size (ws ++ (w ∷ []))) ≤ room → first (checks size ws w room) ≡ accepted
  accept k h l =
      simp (
        le-leb 1 size k.low,
        le-leb size 46341 k.high,
        le-ltb size (instructions w.body) k.count,
        k.codes,
        k.name,
        lt-leb size w.place k.place,
        lt-leb 16 (length ws) h,
        le-ltb room (length (file size (ws ++ (w ∷ [])))) l,
      )

-- a warrior that passed fits a file
pub fits-passed : (size : ℕ) (w : Warrior) → Passed size w → w.origin < 65536 → Fits w
fits-passed size w k o =
    record {
      name = k.name;
      body = lawful-whole w.body k.codes;
      count = omega (arith, k.count, k.high);
      origin = o;
      place = omega (arith, k.place, k.high);
    }

-- the warriors of a file that reads fit a file
pub fits_read : (f : List ℕ) (p s n : ℕ) → Bytes f → lines_fault f p s n ≡ None → AllFit (warriors_at f p n)
fits_read f p s zero b e = tt
fits_read f p s (suc n) b e =
    let o = first-line f p s n e in
    let m : ℕ = s + 12 * number f (p + 37) 2 in
    let k : LineAt f p = rw add-zero at (line_at f p s (suc n) 0 e (omega arith)) in
    let z : ℕ = get_or f p 0 in
    let g : p + 43 ≤ length f = o.fits in
    let h : z ≤ 32 = o.short in
    let l : length (part f (p + 1) z) ≤ 32 = rw (length_part f (p + 1) z (omega arith)) h in (
      record {
        name = rw (le-leb (length (part f (p + 1) z)) 32 l) (all_right valid_byte (p + 1) (part f (p + 1) z) o.name);
        body = length-body f p k ∙ ap (λ (x : ℕ). 12 * x) (sym (count-is f p k));
        count = rw (count-is f p k) (number_lt f (p + 37) 2 b (omega arith));
        origin = number_lt f (p + 39) 2 b (omega arith);
        place = number_lt f (p + 41) 2 b (omega arith);
      },
      fits_read f (p + 43) m n b (later-lines f p s n e),
    )
