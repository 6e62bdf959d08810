-- The round trip of match files: the claims of specs/RoundTrip.antt hold.
-- Assumes nothing.
use mathlib.Core.Path.{◌≡◌, sym, ap, ap₂, ◌∙◌, subst}
use mathlib.Core.List.{List, [], ◌∷◌, ◌++◌, append_assoc, append-nil}
use Prim.Native.Nat.{ℕ, suc, ◌+◌, ◌*◌, ◌≤◌, ◌<◌}
use native.Mathlib.Nat.{le_trans}
use native.Mathlib.Omega.{arith}
use lib.ListN.{length, get_or, length-append}
use borrow.Author.Tests.{lt-ltb}
use Rattle.program.specs.Program.{instructions}
use Rattle.machine.specs.State.{first}
use Rattle.match_format.specs.Format.{Warrior, bodies, file, AllFit}
use Rattle.match_format.specs.Faults.{fault}
use Rattle.match_file.specs.Reading.{size_in, warriors_in, warriors_of, warrior_of}
use Rattle.match_format.proofs.Numbers.{number_lt}
use Rattle.match_format.proofs.Whole.{head_ok, line_at}
use Rattle.match_format.proofs.Format.{length-file, bodies-append}
use Rattle.match_file.proofs.Warriors.{length-warriors, warrior-at, count-is}
use Rattle.match_write.specs.Writing.{checks}
use Rattle.round_trip.specs.Calls.{nobody, Accepts, AllAccepted, add_all, write_all, Reads}
use Rattle.round_trip.specs.RoundTrip.{Exact, ReadsBack, WritesAgain, FirstReads, AddedReads, WritesBack}
use Rattle.round_trip.proofs.Back.{As, all_short, file-back}
use Rattle.round_trip.proofs.Again.{again}
use Rattle.round_trip.proofs.Accept.{Passed, passed, room_for, accept, fits-passed, fits_read}
use Rattle.round_trip.proofs.Calls.{first-accepted, first_made, added-accepted, added-made}

-- what every call of the reader gives
reads : {f : List ℕ} {size : ℕ} {ws : List Warrior} → As f size ws → Reads f size ws
reads {f} {size} {ws} a =
    record {
      sound = a.sound;
      warriors = how-many;
      core = a.size;
      line = λ k h. rw (a.sound, lt-ltb k (warriors_in f) (omega (arith, how-many)));
      warrior = each;
      count = λ k h.
          let k' = line_at f 4 (4 + 43 * warriors_in f) (warriors_in f) k (head_ok f a.sound).lines (omega (arith, how-many)) in
          sym (count-is f (4 + 43 * k) k') ∙ ap (λ (w : Warrior). instructions w.body) (each k h);
    }
  where
    how-many : warriors_in f ≡ length ws
    how-many = sym (length-warriors f 4 (warriors_in f)) ∙ ap length a.warriors

    each : (k : ℕ) → k < length ws → warrior_of f k ≡ get_or ws k nobody
    each k h = sym (warrior-at f 4 (warriors_in f) k nobody (omega (arith, how-many))) ∙ ap (λ (xs : List Warrior). get_or xs k nobody) a.warriors

pub reads-back : ReadsBack
reads-back size ws a low high t = reads (file-back size ws a low high t)

pub writes_again : WritesAgain
writes_again f b e = again f b e

pub exact : Exact
exact f b = (
  λ e.
      let h = head_ok f e in
      let n = length-warriors f 4 (warriors_in f) in
      record {
        size = size_in f;
        warriors = warriors_of f;
        small = number_lt f 1 2 b (omega (arith, h.fits));
        some = omega (arith, h.low);
        few = omega (arith, h.high);
        fit = fits_read f 4 (4 + 43 * warriors_in f) (warriors_in f) b h.lines;
        is = sym (again f b e);
      },
  λ k. ap fault k.is ∙ (file-back k.size k.warriors k.small k.some k.few k.fit).sound,
)

pub first_reads : FirstReads
first_reads size w output o d =
    let e = first-accepted size w output d in
    let k = passed size [] w (length output) e in
    let r = reads-back size (w ∷ []) (omega (arith, k.high)) (omega arith) (omega arith) (fits-passed size w k o, tt) in
    subst (λ (f : List ℕ). Reads f size (w ∷ [])) (sym (first_made size w output e)) r

fit_append : (vs ws : List Warrior) → AllFit vs → AllFit ws → AllFit (vs ++ ws)
fit_append [] ws t u = u
fit_append (v ∷ vs) ws t u = (t.0, fit_append vs ws t.1 u)

pub added_reads : AddedReads
added_reads f w output b o d =
    let a = added-accepted f w output d in
    let h = head_ok f a.0 in
    let k = passed (size_in f) (warriors_of f) w (length output) a.1 in
    let l = room_for (size_in f) (warriors_of f) w (length output) a.1 in
    let n = length-append (warriors_of f) (w ∷ []) in
    let t = fits_read f 4 (4 + 43 * warriors_in f) (warriors_in f) b h.lines in
    let r = reads-back (size_in f) (warriors_of f ++ (w ∷ [])) (omega (arith, k.high)) (omega arith) (omega (arith, l.0))
    (fit_append (warriors_of f) (w ∷ []) t (fits-passed (size_in f) w k o, tt)) in
    subst (λ (g : List ℕ). Reads g (size_in f) (warriors_of f ++ (w ∷ []))) (sym (added-made f w output a.0 a.1)) r

-- a file of fewer warriors is no longer
prefix-fits : (size : ℕ) (vs ws : List Warrior) → AllFit vs → AllFit ws → length (file size vs) ≤ length (file size (vs ++ ws))
prefix-fits size vs ws t u =
    let a = length-file size vs (all_short vs t) in
    let b = length-file size (vs ++ ws) (all_short (vs ++ ws) (fit_append vs ws t u)) in
    let c = ap length (bodies-append vs ws) ∙ length-append (bodies vs) (bodies ws) in
    let d = length-append vs ws in
    omega arith

-- what the writer accepts passed the checks
accepted-passed : (size : ℕ) (w : Warrior) → Accepts size w → Passed size w
accepted-passed size w a = passed size [] w (length a.0) (first-accepted size w a.0 a.1)

module _ (size : ℕ) (outputs : ℕ → List ℕ) (m : size < 65536) where
  add-all : (i : ℕ) (vs ws : List Warrior) → 1 ≤ length vs → length (vs ++ ws) ≤ 16 → AllFit vs → AllFit ws → AllAccepted size ws
      → ((j : ℕ) → length (file size (vs ++ ws)) ≤ length (outputs j)) → add_all outputs i (file size vs) ws ≡ file size (vs ++ ws)
  add-all i vs [] h l t u a r = ap (file size) (sym (append-nil vs))
  add-all i vs (w ∷ ws) h l t u a r =
      let f : List ℕ = file size vs in
      let more : List Warrior = vs ++ (w ∷ []) in
      let g = file-back size vs m h (omega (arith, length-append vs (w ∷ ws))) t in
      let t' : AllFit more = fit_append vs (w ∷ []) t (u.0, tt) in
      let s : more ++ ws ≡ vs ++ (w ∷ ws) = append_assoc vs (w ∷ []) ws in
      let long : (j : ℕ) → length (file size (more ++ ws)) ≤ length (outputs j) = λ j. subst (λ (x : List Warrior). length (file size x) ≤ length (outputs j)) (sym s) (r j) in
      let room : length (file size more) ≤ length (outputs i) = le_trans (prefix-fits size more ws t' u.1) (long i) in
      let d = accept size vs w (length (outputs i)) (accepted-passed size w a.0) (omega (arith, length-append vs (w ∷ ws))) room in
      let e = ap₂ (λ (x : ℕ) (ys : List Warrior). first (checks x ys w (length (outputs i)))) g.size g.warriors ∙ d in
      let q = added-made f w (outputs i) g.sound e ∙ ap₂ (λ (x : ℕ) (ys : List Warrior). file x (ys ++ (w ∷ []))) g.size g.warriors in
      ap (λ (x : List ℕ). add_all outputs (suc i) x ws) q
      ∙ add-all (suc i) more ws (omega (arith, length-append vs (w ∷ []))) (omega (arith, ap length s)) t' u.1 a.1 long
      ∙ ap (file size) s

  write-all : (ws : List Warrior) → 1 ≤ length ws → length ws ≤ 16 → AllFit ws → AllAccepted size ws
      → ((j : ℕ) → length (file size ws) ≤ length (outputs j)) → write_all outputs size ws ≡ file size ws
  write-all [] h l t a r = absurd (let z : ⊥ = omega arith in z)
  write-all (w ∷ ws) h l t a r =
      let room : length (file size (w ∷ [])) ≤ length (outputs 0) = le_trans (prefix-fits size (w ∷ []) ws (t.0, tt) t.1) (r 0) in
      let d = accept size [] w (length (outputs 0)) (accepted-passed size w a.0) (omega arith) room in
      ap (λ (x : List ℕ). add_all outputs 1 x ws) (first_made size w (outputs 0) d) ∙ add-all 1 (w ∷ []) ws (omega arith) l (t.0, tt) t.1 a.1 r

pub writes_back : WritesBack
writes_back f outputs b e a r =
    let h = head_ok f e in
    let w : file (size_in f) (warriors_of f) ≡ f = again f b e in
    let n = length-warriors f 4 (warriors_in f) in
    let t = fits_read f 4 (4 + 43 * warriors_in f) (warriors_in f) b h.lines in
    write-all (size_in f) outputs (number_lt f 1 2 b (omega (arith, h.fits))) (warriors_of f) (omega (arith, h.low)) (omega (arith, h.high)) t a
    (λ j. subst (λ (g : List ℕ). length g ≤ length (outputs j)) (sym w) (r j))
    ∙ w
