-- Laws of the scan: what each test that fails, and all that pass, say of the whole.
-- Assumes nothing.
use lib.Pointwise.{pointwise}
use mathlib.Core.Path.{◌≡◌, refl, sym, ap, ap₂, ◌∙◌}
use mathlib.Core.Bool.{Bool, true, false, ◌&&◌}
use mathlib.Core.List.{List, []}
use Prim.Native.Nat.{ℕ, zero, suc, ◌≤◌}
use lib.Dec.{eqb, leb}
use lib.ListN.{length, get_or, take}
use Rattle.laws.specs.Lists.{every, tally, table}
use Rattle.laws.proofs.Loops.{take-table}
use Rattle.laws.proofs.Tests.{and-false}
use Rattle.machine.specs.declared.Processes.{Processes}
use Rattle.machine.specs.declared.Rules.{Rules}
use Rattle.machine.specs.State.{Machine}
use Rattle.machine.specs.Queue.{slots, entries}
use Rattle.machine.specs.Soundness.{sound_entry}
use Rattle.lent.specs.Parts.{names_of, header_of, unnamed, headed}
use Rattle.scan.proofs.Rounds.{named}
use Rattle.scan.specs.Scanning.{in_range, sound_cells, sound_entries, entries_at, tallied, lasting, lasting_all, scanned}

-- the counts, where these numbers are the tallies
pub counts-tallied : (m : Machine) (t : List ℕ) → ((k : ℕ) → get_or t k 0 ≡ entries_at m k)
    → every (λ i. eqb (get_or m.header.counts i 0) (get_or t i 0)) (table (λ i. i) 0 m.header.names.held) ≡ tallied m
counts-tallied m t e =
    ap (λ (f : ℕ → ℕ). every (λ i. eqb (get_or m.header.counts i 0) (f i)) (table (λ i. i) 0 m.header.names.held)) (λ i k. e k i)

-- two lists compared from their fronts
tables-agree : (f g : ℕ → ℕ) (s n : ℕ) → pointwise eqb (table f s n) (table g s n) ≡ every (λ i. eqb (f i) (g i)) (table (λ i. i) s n)
tables-agree f g s zero = refl
tables-agree f g s (suc n) = ap (λ (b : Bool). eqb (f s) (g s) && b) (tables-agree f g (suc s) n)

pub fronts-agree : (c t : List ℕ) (n : ℕ) → n ≤ length c → n ≤ length t
    → pointwise eqb (take n c) (take n t) ≡ every (λ i. eqb (get_or c i 0) (get_or t i 0)) (table (λ i. i) 0 n)
fronts-agree c t n h l =
    ap₂ (pointwise eqb) (take-table 0 c n h) (take-table 0 t n l) ∙ tables-agree (λ (k : ℕ). get_or c k 0) (λ (k : ℕ). get_or t k 0) 0 n

-- the entries are those of the queue and the processes, whatever the core
pub by_parts : (core queue : List ℕ) (rules : Rules) (held : ℕ) (p : Processes)
    → (sound_entries (unnamed [] queue rules held p) && tallied (unnamed [] queue rules held p))
    ≡ (sound_entries (unnamed core queue rules held p) && tallied (unnamed core queue rules held p))
unfolding entries sound_entry
by_parts core queue rules held p = refl

-- a queue alone, looked through slot by slot
module _ (queue : List ℕ) (rules : Rules) (held : ℕ) (p : Processes) where
  abbrev lone : Machine
  lone = unnamed [] queue rules held p

  abbrev pub test : ℕ → Bool
  test = sound_entry (header_of rules (names_of held [] []) p)

  tests-are : every test (slots queue p.ring.head p.ring.length) ≡ sound_entries lone
  unfolding entries sound_entry
  tests-are = refl

  tallies-are : (k : ℕ) → tally (named k) (slots queue p.ring.head p.ring.length) ≡ entries_at lone k
  unfolding entries
  tallies-are k = refl

  pub unsound-entry : every test (slots queue p.ring.head p.ring.length) ≡ false → false ≡ (sound_entries lone && tallied lone)
  unsound-entry e = sym (ap (λ (b : Bool). b && tallied lone) (sym tests-are ∙ e))

  pub by-counts : every test (slots queue p.ring.head p.ring.length) ≡ true → (t : List ℕ)
      → ((k : ℕ) → get_or t k 0 ≡ tally (named k) (slots queue p.ring.head p.ring.length))
      → {r : Bool} → r ≡ every (λ i. eqb (get_or p.counts i 0) (get_or t i 0)) (table (λ i. i) 0 held) → r ≡ (sound_entries lone && tallied lone)
  by-counts e t f g =
      g ∙ counts-tallied lone t (λ k. f k ∙ tallies-are k) ∙ sym (ap (λ (b : Bool). b && tallied lone) (sym tests-are ∙ e))

-- the first test
pub ranged : (m : Machine) {h b : Bool} → h ≡ headed m → (h && leb m.header.names.held 16) ≡ b → in_range m ≡ b
ranged m e f = ap (λ (h : Bool). h && leb m.header.names.held 16) (sym e) ∙ f

module _ (k : ℕ) (m : Machine) where
  regrouped : (r c e t l : Bool) → (r && c && e && t && l) ≡ (r && l && (e && t) && c)
  regrouped false c e t l = refl
  regrouped true true e t true = refl
  regrouped true true true t false = and-false t
  regrouped true true false t false = refl
  regrouped true false e t l = sym (and-false (l && (e && t)))

  -- in the order of the code
  scanned-is : scanned k m ≡ (in_range m && lasting_all k m && (sound_entries m && tallied m) && sound_cells m)
  unfolding scanned
  scanned-is = regrouped (in_range m) (sound_cells m) (sound_entries m) (tallied m) (lasting_all k m)

  pub out_of_range : in_range m ≡ false → false ≡ scanned k m
  out_of_range e = sym (scanned-is ∙ simp e)

  module _ (r : in_range m ≡ true) where
    pub steps-end : lasting k m.header.steps ≡ false → false ≡ scanned k m
    steps-end e = sym (scanned-is ∙ simp (r, e))

    module _ (s : lasting k m.header.steps ≡ true) where
      pub threads_end : every (lasting k) m.header.threads ≡ false → false ≡ scanned k m
      threads_end e = sym (scanned-is ∙ simp (r, s, e))

      module _ (t : every (lasting k) m.header.threads ≡ true) where
        pub entries-unsound : (sound_entries m && tallied m) ≡ false → false ≡ scanned k m
        entries-unsound e = sym (scanned-is ∙ simp (r, s, t, e))

        pub by-cells : (sound_entries m && tallied m) ≡ true → sound_cells m ≡ scanned k m
        by-cells e = sym (scanned-is ∙ simp (r, s, t, e))
