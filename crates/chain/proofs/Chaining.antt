-- Laws of one operand's two chains: what the code finds on the way is what the machine's operand has.
-- Assumes nothing.
use mathlib.Core.Path.{◌≡◌, refl, sym, ap, ◌∙◌}
use mathlib.Core.Bool.{cond}
use mathlib.Core.List.{List}
use Prim.Native.Nat.{ℕ, ◌<◌}
use native.Mathlib.Omega.{arith}
use lib.Dec.{eqb}
use lib.ListN.{length, get_or, set, length-set}
use lib.Seq.{get_or-set_same, set-get_or}
use Rattle.offset.specs.Offset.{ahead}
use Rattle.offset.proofs.Offsets.{sum_is, ahead-lt}
use Rattle.types.specs.declared.field.Field.{Field}
use Rattle.cell.specs.Cells.{number, cell_at}
use Rattle.machine.specs.declared.Rules.{Rules}
use Rattle.machine.specs.Pointers.{Reach, here, there, through, reaches, Shift, keeps, lowers, raises, shifts, field_of, fold, located, pointed, before, after, Site, site_at, operand}
use Rattle.address.proofs.Pointing.{word_of}
use Rattle.chain.specs.Operands.{absolute}
use Rattle.chain.specs.Inner.Chains.{Placed, word_before, word_after, pointer_by, chains_of}

-- a sum and a fold, of a core of some cells and a limit that is not 0
pub ahead-is : {size : ℕ} (a b : ℕ) {r : ℕ} → 0 < size → r ≡ cond (eqb size 0) 0 (ahead size a b) → r ≡ ahead size a b
ahead-is {size} a b h e = sum_is size (λ z. omega arith) e

pub fold_is : {limit : ℕ} (size p : ℕ) {r : ℕ} → 0 < limit → r ≡ cond (eqb limit 0) 0 (fold limit size p) → r ≡ fold limit size p
fold_is {limit} size p h e = sum_is limit (λ z. omega arith) e

-- a core with a place has some cells
pub positive : {rules : Rules} {core : List ℕ} {pc : ℕ} → Placed rules core pc → 0 < rules.size
positive p = let h = p.place in omega arith

-- a core with another word has its places
pub placed-set : (rules : Rules) (core : List ℕ) (pc at word : ℕ) → Placed rules core pc → Placed rules (set core at word) pc
placed-set rules core pc at word p = record { cells = length-set core at word ∙ p.cells; place = p.place; read = p.read; write = p.write }

module _ (rules : Rules) (core : List ℕ) (pc mode n : ℕ) (p : Placed rules core pc) where
  abbrev size : ℕ
  size = rules.size

  abbrev s : Site
  s = site_at rules pc

  abbrev t : Shift
  t = get_or shifts mode keeps

  abbrev r : Reach
  r = get_or reaches mode here

  abbrev f : Field
  f = field_of r

  -- the write location and the read location
  abbrev l : ℕ
  l = located s rules.write n

  abbrev k : ℕ
  k = located s rules.read n

  pub l-below : l < length core
  l-below = rw p.cells (ahead-lt size pc _ (positive p))

  -- the word that the decrement leaves, and the core with it
  abbrev low : ℕ
  low = word_before t size (get_or core l 0) f

  abbrev lowered : List ℕ
  lowered = before t size core l f (number f (cell_at core l))

  lowered_is : lowered ≡ set core l low
  lowered_is = by t
    where
      by : (t : Shift) → before t size core l f (number f (cell_at core l)) ≡ set core l (word_before t size (get_or core l 0) f)
      by keeps = sym (set-get_or core l 0)
      by lowers = refl
      by raises = sym (set-get_or core l 0)

  pointed-is : (r : Reach) (limit : ℕ) (x : List ℕ) → pointer_by r size limit pc (fold limit size n) (get_or x (located s limit n) 0) ≡ pointed r s limit n x
  pointed-is here limit x = refl
  pointed-is there limit x = refl
  pointed-is (through f) limit x = refl

  pub reads : pointer_by r size rules.read pc (fold rules.read size n) (get_or (set core l low) k 0) ≡ (operand s core mode n).read
  unfolding operand
  reads = pointed-is r rules.read (set core l low) ∙ ap (pointed r s rules.read n) (sym lowered_is)

  pub writes : pointer_by r size rules.write pc (fold rules.write size n) low ≡ (operand s core mode n).write
  unfolding operand
  writes =
      ap (pointer_by r size rules.write pc (fold rules.write size n)) (sym (get_or-set_same core l low 0 l-below))
      ∙ pointed-is r rules.write (set core l low) ∙ ap (pointed r s rules.write n) (sym lowered_is)

  near-is : get_or core k 0 ≡ get_or (operand s core mode n).seen 0 0
  unfolding operand
  near-is = refl

  old-is : get_or core l 0 ≡ get_or (operand s core mode n).seen 1 0
  unfolding operand
  old-is = refl

  register-is : get_or (set core l low) (operand s core mode n).read 0 ≡ get_or (operand s core mode n).seen 2 0
  unfolding operand
  register-is = ap (λ (x : List ℕ). get_or x (operand s core mode n).read 0) (sym lowered_is)

  there-is : get_or (set core l low) (operand s core mode n).write 0 ≡ get_or (operand s core mode n).seen 3 0
  unfolding operand
  there-is = ap (λ (x : List ℕ). get_or x (operand s core mode n).write 0) (sym lowered_is)

  left_is : word_after t size low f ≡ get_or (operand s core mode n).core l 0
  unfolding operand
  left_is = by t
    where
      by : (t : Shift) → word_after t size (word_before t size (get_or core l 0) f) f
          ≡ get_or (after t size (before t size core l f (number f (cell_at core l))) l f (number f (cell_at core l))) l 0
      by keeps = refl
      by lowers = sym (get_or-set_same core l _ 0 l-below)
      by raises = sym (get_or-set_same core l _ 0 l-below)

  -- the core differs at the write location alone
  pub core_is : (operand s core mode n).core ≡ set core l (get_or (operand s core mode n).core l 0)
  unfolding operand
  core_is = by t
    where
      by : (t : Shift) → let x = after t size (before t size core l f (number f (cell_at core l))) l f (number f (cell_at core l)) in x ≡ set core l (get_or x l 0)
      by keeps = sym (set-get_or core l 0)
      by lowers = ap (set core l) (sym (get_or-set_same core l _ 0 l-below))
      by raises = ap (set core l) (sym (get_or-set_same core l _ 0 l-below))

  -- what the code finds on the way
  module _ {far close location other old lw near found : ℕ} (ef : far ≡ fold rules.write size n) (ec : close ≡ fold rules.read size n)
      (el : location ≡ ahead size pc far) (eo : other ≡ ahead size pc close) (ed : old ≡ get_or core location 0) (ew : lw ≡ word_before t size old f)
      (en : near ≡ get_or core other 0) (eu : found ≡ cond (eqb other location) lw near) where
    location-is : location ≡ l
    location-is = el ∙ rw ef

    other-is : other ≡ k
    other-is = eo ∙ rw ec

    low-is : lw ≡ low
    low-is = ew ∙ rw (ed, location-is)

    found-is : found ≡ get_or (set core l low) k 0
    found-is = eu ∙ rw (en, other-is, location-is, low-is) (word_of core k l low l-below)

    module _ {read write : ℕ} (er : read ≡ pointer_by r size rules.read pc close found) (ev : write ≡ pointer_by r size rules.write pc far lw) where
      read_is : read ≡ (operand s core mode n).read
      read_is = er ∙ rw (ec, found-is) reads

      write-is : write ≡ (operand s core mode n).write
      write-is = ev ∙ rw (ef, low-is) writes

      -- a word of the core after the decrement
      word-is : (q : ℕ) {v w : ℕ} → v ≡ get_or core q 0 → w ≡ cond (eqb q location) lw v → w ≡ get_or (set core l low) q 0
      word-is q e g = g ∙ rw (e, location-is, low-is) (word_of core q l low l-below)

      pub followed : {v w register there left : ℕ} → v ≡ get_or core read 0 → register ≡ cond (eqb read location) lw v
          → w ≡ get_or core write 0 → there ≡ cond (eqb write location) lw w → left ≡ word_after t size lw f
          → record { read = absolute read; write = absolute write; location = absolute location; near = near; old = old; register = register; there = there; left = left }
          ≡ chains_of s core mode n
      unfolding chains_of
      followed a b c d e = λ i.
          record {
            read = absolute (read_is i);
            write = absolute (write-is i);
            location = absolute (location-is i);
            near = (en ∙ ap (λ (q : ℕ). get_or core q 0) other-is ∙ near-is) i;
            old = (ed ∙ ap (λ (q : ℕ). get_or core q 0) location-is ∙ old-is) i;
            register = (word-is read a b ∙ ap (λ (q : ℕ). get_or (set core l low) q 0) read_is ∙ register-is) i;
            there = (word-is write c d ∙ ap (λ (q : ℕ). get_or (set core l low) q 0) write-is ∙ there-is) i;
            left = (e ∙ ap (λ (w : ℕ). word_after t size w f) low-is ∙ left_is) i;
          }
