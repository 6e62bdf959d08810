-- Where the header is sound, placing and starting are as past the test of the header.
-- Assumes nothing.
use mathlib.Core.Path.{◌≡◌, refl, sym, ap, ◌∙◌}
use mathlib.Core.Bool.{Bool, true, false, cond, not, true≢false}
use mathlib.Core.List.{List, ◌∷◌}
use Prim.Native.Nat.{ℕ, ◌≤◌, ◌<◌}
use native.Mathlib.Omega.{arith}
use lib.Dec.{eqb, leb, ltb}
use lib.ListN.{length, get_or, take, set}
use borrow.Author.Tests.{leb-true, eqb-true, eqb-false, le-leb, lt-ltb, le-ltb, eq-eqb}
use Rattle.answer.specs.Numbers.{gives}
use Rattle.laws.specs.Lists.{total}
use Rattle.laws.proofs.Tests.{both}
use Rattle.laws.proofs.Lists.{zero-there}
use Rattle.laws.proofs.Tally.{count-le}
use Rattle.program.specs.Program.{instructions, cells}
use Rattle.program.proofs.Program.{cells-le}
use Rattle.metadata.specs.Metadata.{called}
use Rattle.machine.specs.State.{Machine, under, Outcome, done, Check, check, Verdict, accepted, refusal, first, settle}
use Rattle.machine.specs.Names.{slot, register, registered}
use Rattle.machine.specs.Queue.{started}
use Rattle.machine.specs.Soundness.{sound_header}
use Rattle.machine.specs.Place.{placing, place_rows, place}
use Rattle.machine.specs.Start.{starting, start_rows, start}
use Rattle.machine.proofs.Soundness.{tested}
use Rattle.machine.proofs.Registering.{renamed}
use Rattle.lent.specs.Parts.{start_if}
use Rattle.lent.specs.Given.{given, given_by}
use Rattle.queue.proofs.Rings.{inside, can}
use Rattle.warrior_checks.specs.Refusal.{tested_place_checks, tested_start_checks}
use Rattle.names.proofs.Naming.{slot-le}
use Rattle.warrior_checks.proofs.Index.{new_is}
use Rattle.warrior.specs.Tested.{placed_if, placing_if, place_tested, starting_if, start_tested}
use Rattle.warrior.proofs.Placing.{fitting}
use Rattle.warrior.proofs.Starting.{Ready, ready}

-- an order whose first row is one test of the header or another: both pass, and where the rest accepts the outcomes are the same
same-settled : (rows : List Check) (a b : Bool) (m : Machine) (o p : Outcome) → a ≡ false → b ≡ false → (first (check a 9 ∷ rows) ≡ accepted → o ≡ p)
    → settle (first (check a 9 ∷ rows)) m o ≡ settle (first (check b 9 ∷ rows)) m p
same-settled rows a b m o p x y h = rw (x, y) (go (first rows) (λ e. h (rw x e)))
  where
    go : (v : Verdict) → (v ≡ accepted → o ≡ p) → settle v m o ≡ settle v m p
    go accepted h = h refl
    go (refusal n w) h = refl

module _ (m : Machine) (sound : sound_header m ≡ true) where
  few : ltb 16 m.header.names.held ≡ false
  few = le-ltb 16 m.header.names.held (tested m sound).few

  -- a body that passed the checks is placed
  module _ (name body : List ℕ) (at : ℕ) where
    is-placing : first (tested_place_checks m.header.rules.size m.header.names name body at) ≡ accepted
        → placing_if m (called name) body at ≡ placing m (called name) body at
    unfolding placing_if placing placed_if
    is-placing e =
        let f = fitting m.header.rules.size m.header.names name body at e in
        let c = (tested m sound).core in
        let p : at < m.header.rules.size = f.below in
        let k : instructions body ≤ m.header.rules.size = f.fits in
        let l : length (cells m.header.rules.size body) ≤ instructions body = cells-le m.header.rules.size body in
        simp (lt-ltb at (length m.core) (omega arith), le-leb (length (cells m.header.rules.size body)) (length m.core) (omega arith))

    pub tested-place : place_tested m name body at ≡ place m name body at
    unfolding place_tested place
    tested-place =
        same-settled (place_rows m.header.rules.size m.header.names name body at) _ _ m (placing_if m (called name) body at) (placing m (called name) body at)
        few (ap not sound) is-placing

  -- the count and the next thread number of a name that passed the checks can rise
  module _ (name : List ℕ) (r : Ready m name) where
    abbrev i : ℕ
    i = slot m.header.names name

    risen : (get_or (registered m.header name).counts i 0 ≡ 4294967295 → ⊥) × (get_or (registered m.header name).threads i 0 ≡ 4294967295 → ⊥)
    unfolding register
    risen = rw (new_is m.header.names name refl) (go (eqb i m.header.names.held) refl)
      where
        go : (b : Bool) → eqb i m.header.names.held ≡ b
            → (get_or (cond b (register m.header name) m.header).counts i 0 ≡ 4294967295 → ⊥)
            × (get_or (cond b (register m.header name) m.header).threads i 0 ≡ 4294967295 → ⊥)
        go true e =
            let k : i ≡ m.header.names.held = eqb-true i m.header.names.held e in (
              λ f. let z : ◌≡◌ {A = ℕ} 0 4294967295 = sym (zero-there m.header.counts i) ∙ ap (λ (j : ℕ). get_or (set m.header.counts j 0) i 0) k ∙ f in omega arith,
              λ f. let z : ◌≡◌ {A = ℕ} 0 4294967295 = sym (zero-there m.header.threads i) ∙ ap (λ (j : ℕ). get_or (set m.header.threads j 0) i 0) k ∙ f in omega arith,
            )
        go false e =
            let n : i ≡ m.header.names.held → ⊥ = eqb-false i m.header.names.held e in
            let l : i ≤ m.header.names.held = slot-le m.header.names name in
            let below : i < m.header.names.held = omega arith in
            let t = tested m sound in
            let s : total (take m.header.names.held m.header.counts) ≡ m.header.ring.length = t.sum in
            let q : m.header.ring.length ≤ length m.queue = t.fits in
            let v : length m.queue ≤ 65535 = leb-true (length m.queue) 65535 (both (leb 1 (length m.queue)) (leb (length m.queue) 65535) t.queue).1 in
            let k : get_or m.header.counts i 0 ≤ total (take m.header.names.held m.header.counts) = count-le m.header.counts m.header.names.held i below in (
              λ f. omega arith,
              λ f. true≢false (sym (simp (lt-ltb i m.header.names.held below, eq-eqb (get_or m.header.threads i 0) 4294967295 f)) ∙ r.number),
            )

    -- so a process is started
    starts : (at : ℕ) → let n = under (registered m.header name) m in start_if at i n ≡ started at i n
    unfolding start_if
    starts at =
        let t = tested m sound in
        let n = under (registered m.header name) m in
        let ring = (renamed m.header name).ring in
        let v : length m.queue ≤ 65535 = leb-true (length m.queue) 65535 (both (leb 1 (length m.queue)) (leb (length m.queue) 65535) t.queue).1 in
        let h : m.header.ring.head < length m.queue = t.head in
        let l : m.header.ring.length ≤ length m.queue = t.fits in
        simp (can n i (inside n v (rw ring h)) r.held.free (rw ring (λ f. omega arith)) risen.0 risen.1)

  module _ (name : List ℕ) (at : ℕ) where
    is-starting : first (tested_start_checks m name at) ≡ accepted → starting_if m (called name) at ≡ starting m (called name) at
    unfolding starting_if starting
    is-starting e = ap (λ (n : Machine). done n 0 1) (starts (called name) (ready m name at e) at)

    pub tested-start : start_tested m name at ≡ start m name at
    unfolding start_tested start
    tested-start =
        same-settled (start_rows m name at) _ _ m (starting_if m (called name) at) (starting m (called name) at)
        few (ap not sound) is-starting

-- an unsound header is refused
module _ (m : Machine) (unsound : sound_header m ≡ false) (name : List ℕ) (at : ℕ) where
  pub unsound-place : (body : List ℕ) → given (gives 9 0) 0 0 m ≡ given_by (place m name body at)
  unfolding place
  unsound-place body = simp unsound

  pub unsound-start : given (gives 9 0) 0 0 m ≡ given_by (start m name at)
  unfolding start
  unsound-start = simp unsound
