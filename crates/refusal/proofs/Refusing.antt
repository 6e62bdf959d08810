-- Laws of the refusal: what is told at each test.
-- Assumes nothing.
use mathlib.Core.Path.{◌≡◌, refl, sym, ap, ◌∙◌}
use mathlib.Core.Bool.{Bool, true, false, not, ◌||◌}
use mathlib.Core.List.{List, [], ◌∷◌}
use Prim.Native.Nat.{ℕ, ◌≤◌, ◌<◌}
use lib.Dec.{eqb, leb, ltb}
use lib.ListN.{length, get_or, drop}
use borrow.Author.Tests.{leb-true}
use Rattle.laws.proofs.Tests.{both}
use Rattle.answer.specs.Numbers.{Told, gives}
use Rattle.cell.specs.Cells.{sound_word}
use Rattle.machine.specs.declared.Rules.{Rules}
use Rattle.machine.specs.State.{Machine, Check, check, accepted, refusal, passes, first, verdict_told}
use Rattle.machine.specs.Queue.{front}
use Rattle.machine.specs.Soundness.{valid_limits, fresh_checks, sound_front}
use Rattle.machine.specs.Pointers.{site_at}
use Rattle.machine.specs.Instruction.{fetched}
use Rattle.machine.specs.Step.{popped, pc, site, next_checks}
use Rattle.machine.proofs.Soundness.{is-taken, sound-entry}
use Rattle.address.proofs.Evaluation.{over-private}
use Rattle.refusal.specs.Inner.Looking.{cell_checks}
use Rattle.refusal.specs.Inner.Fronts.{front_checks}
use Rattle.refusal.specs.Checks.{in_bounds, refused}

-- three rows before others
front-refuses : (a b c : Bool) (rest : List Check) {n v : ℕ} → first (check a 7 ∷ check b 9 ∷ check c 8 ∷ []) ≡ refusal n v
    → first (check a 7 ∷ check b 9 ∷ check c 8 ∷ rest) ≡ refusal n v
front-refuses true b c rest e = e
front-refuses false true c rest e = e
front-refuses false false true rest e = e
front-refuses false false false rest e = cc

front-accepts : (a b c : Bool) (rest : List Check) → first (check a 7 ∷ check b 9 ∷ check c 8 ∷ []) ≡ accepted
    → first (check a 7 ∷ check b 9 ∷ check c 8 ∷ rest) ≡ first rest
front-accepts true b c rest e = cc
front-accepts false true c rest e = cc
front-accepts false false true rest e = cc
front-accepts false false false rest e = refl

-- the instruction at a place
module _ (rules : Rules) (core : List ℕ) (pc : ℕ) where
  abbrev size : ℕ
  size = rules.size

  abbrev there : Told
  there = verdict_told (first (cell_checks (site_at rules pc) core))

  module _ (s : sound_word size (get_or core pc 0) ≡ true) where
    pub private-cell : 16 < (fetched core pc).opcode → gives 10 0 ≡ there
    private-cell h = let p = over-private size core pc s h in simp (s, p)

-- the steps taken, or the name's next thread number, have come to their end
abbrev worn : Machine → Bool
worn m = eqb m.header.steps 4294967295 || eqb (get_or m.header.threads (popped m).name 0) 4294967295

module _ (m : Machine) where
  pub out-of-bounds : in_bounds m ≡ false → gives 9 0 ≡ refused m
  unfolding refused
  out-of-bounds e = simp e

  module _ (w : in_bounds m ≡ true) where
    taken : passes (fresh_checks m.header.rules m.core m.queue) ≡ true
    taken = (both (passes (fresh_checks m.header.rules m.core m.queue)) (ltb m.header.ring.head (length m.queue)) w).0

    pub size-most : m.header.rules.size ≤ 46341
    size-most = leb-true _ _ (both (leb 1 m.header.rules.size) (leb m.header.rules.size 46341) (is-taken m.header.rules m.core m.queue taken).size).1

    pub cells : length m.core ≡ m.header.rules.size
    cells = (is-taken m.header.rules m.core m.queue taken).cells

    pub limits : valid_limits m.header.rules ≡ true
    limits = (is-taken m.header.rules m.core m.queue taken).limits

    -- the rows of a step after the front entry's
    abbrev later : List Check
    later = drop 3 (next_checks m)

    abbrev none-queued : Bool
    none-queued = eqb m.header.ring.length 0

    -- a row of the front entry's applies
    pub by-front : {n v : ℕ} → first (front_checks m) ≡ refusal n v → gives n v ≡ refused m
    unfolding refused
    by-front {n} {v} e =
        let k : first (next_checks m) ≡ refusal n v = front-refuses none-queued (not (sound_front m)) (worn m) later e in
        sym (simp w (ap verdict_told k))

    -- none does
    pub by-cell : first (front_checks m) ≡ accepted → {t : Told} → t ≡ verdict_told (first (cell_checks (site m) m.core)) → t ≡ refused m
    unfolding refused
    by-cell e h =
        let k : first (next_checks m) ≡ first later = front-accepts none-queued (not (sound_front m)) (worn m) later e in
        h ∙ sym (simp w (ap verdict_told k))

  pub place-below : sound_front m ≡ true → pc m < m.header.rules.size
  place-below s = (sound-entry m.header (front m) s).place
