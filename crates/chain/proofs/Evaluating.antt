-- Laws of both operands of an instruction: the A operand's chains are followed in the core, the B operand's in the one that A leaves.
-- Assumes nothing.
use mathlib.Core.Path.{◌≡◌, refl, sym, ap, ap₂, ◌∙◌}
use mathlib.Core.Bool.{Bool, true, false, cond, ◌&&◌}
use mathlib.Core.List.{List, [], ◌∷◌}
use Prim.Native.Nat.{ℕ, ◌<◌}
use lib.Dec.{eqb, leb, ltb}
use lib.ListN.{length, get_or, set}
use lib.Seq.{set-get_or}
use borrow.Author.Tests.{eqb-true, ltb-true, leb-true, eq-eqb, lt-ltb}
use Rattle.laws.specs.Lists.{every}
use Rattle.laws.proofs.Tests.{both}
use Rattle.laws.proofs.Every.{every-join}
use Rattle.offset.specs.declared.Absolute.{Absolute}
use Rattle.cell.specs.Cells.{unpacked, sound_word}
use Rattle.machine.specs.declared.Rules.{Rules}
use Rattle.machine.specs.Soundness.{divides, valid_limits}
use Rattle.machine.specs.Pointers.{Site, site_at, Operand, operand}
use Rattle.machine.specs.Instruction.{fetched, a_operand, b_operand, seen_at}
use Rattle.machine.proofs.Pointers.{length-operand}
use Rattle.address.proofs.Pointing.{word_of}
use Rattle.chain.specs.declared.Chains.{Chains}
use Rattle.chain.specs.Operands.{is_place, compares, absolute, operands_at}
use Rattle.chain.specs.Inner.Chains.{Placed, chains_of}
use Rattle.chain.proofs.Chaining.{l-below, core_is}

pub is-placed : (rules : Rules) (core : List ℕ) (pc : ℕ) → is_place rules core pc ≡ true → Placed rules core pc
is-placed rules core pc e =
    let a = both (eqb (length core) rules.size && ltb pc rules.size && leb 1 rules.read) (leb 1 rules.write) e in
    let b = both (eqb (length core) rules.size && ltb pc rules.size) (leb 1 rules.read) a.0 in
    let c = both (eqb (length core) rules.size) (ltb pc rules.size) b.0 in
    record { cells = eqb-true _ _ c.0; place = ltb-true _ _ c.1; read = leb-true _ _ b.1; write = leb-true _ _ a.1 }

pub place_is : (rules : Rules) (core : List ℕ) (pc : ℕ) → length core ≡ rules.size → pc < rules.size → valid_limits rules ≡ true
    → is_place rules core pc ≡ true
place_is rules core pc cells place limits =
    let b = both (divides rules.read rules.size) (divides rules.write rules.size) limits in
    let r = both (leb 1 rules.read) _ b.0 in
    let w = both (leb 1 rules.write) _ b.1 in
    simp (eq-eqb _ _ cells, lt-ltb _ _ place, r.0, w.0)

-- the core with the word that it has
pub same-core : (rules : Rules) (pc : ℕ) (core : List ℕ) (mode n : ℕ) {c : Chains} → c ≡ chains_of (site_at rules pc) (set core pc (get_or core pc 0)) mode n
    → c ≡ chains_of (site_at rules pc) core mode n
same-core rules pc core mode n e = e ∙ ap (λ (x : List ℕ). chains_of (site_at rules pc) x mode n) (set-get_or core pc 0)

-- the words that an operand reads
abbrev pub words : Chains → List ℕ
words c = c.near ∷ c.old ∷ c.register ∷ c.there ∷ []

-- one operand
module _ (rules : Rules) (core : List ℕ) (pc mode n : ℕ) (p : Placed rules core pc) where
  abbrev s : Site
  s = site_at rules pc

  words_are : words (chains_of s core mode n) ≡ (operand s core mode n).seen
  unfolding chains_of operand
  words_are = refl

  location-below : (chains_of s core mode n).location.0 < length core
  unfolding chains_of
  location-below = l-below rules core pc mode n p

  left-core : set core (chains_of s core mode n).location.0 (chains_of s core mode n).left ≡ (operand s core mode n).core
  unfolding chains_of
  left-core = sym (core_is rules core pc mode n p)

  pub placed-after : Placed rules (operand s core mode n).core pc
  placed-after = record { cells = length-operand s core mode n ∙ p.cells; place = p.place; read = p.read; write = p.write }

  read_of : (chains_of s core mode n).read ≡ absolute (operand s core mode n).read
  unfolding chains_of
  read_of = refl

  write-of : (chains_of s core mode n).write ≡ absolute (operand s core mode n).write
  unfolding chains_of
  write-of = refl

  register_of : (chains_of s core mode n).register ≡ get_or (operand s core mode n).seen 2 0
  unfolding chains_of
  register_of = refl

module _ (rules : Rules) (core : List ℕ) (pc : ℕ) (p : Placed rules core pc) where
  abbrev size : ℕ
  size = rules.size

  abbrev site : Site
  site = site_at rules pc

  abbrev first : Operand
  first = a_operand site core

  abbrev last : Operand
  last = b_operand site core

  seen-both : every (sound_word size) (seen_at site core) ≡ (every (sound_word size) first.seen && every (sound_word size) last.seen)
  seen-both = every-join (sound_word size) first.seen last.seen

  -- the A operand, of the word at PC
  module _ {w am n : ℕ} (ew : w ≡ get_or core pc 0) (em : am ≡ (unpacked w).a_mode) (en : n ≡ (unpacked w).a.0)
      {c : Chains} (ec : c ≡ chains_of site (set core pc w) am n) where
    a-is : c ≡ chains_of site core (fetched core pc).a_mode (fetched core pc).a.0
    a-is = ec ∙ rw (em, en, ew, set-get_or core pc 0)

    pub a-below : c.location.0 < length core
    a-below = rw a-is (location-below rules core pc _ _ p)

    pub a-core : set core c.location.0 c.left ≡ first.core
    a-core = rw a-is (left-core rules core pc _ _ p)

    a-words : words c ≡ first.seen
    a-words = ap words a-is ∙ words_are rules core pc _ _ p

    pub a_read : c.read ≡ absolute first.read
    a_read = ap (λ (x : Chains). x.read) a-is ∙ read_of rules core pc _ _ p

    pub a-register : c.register ≡ get_or first.seen 2 0
    a-register = ap (λ (x : Chains). x.register) a-is ∙ register_of rules core pc _ _ p

    -- the word at PC afterwards
    pub again-is : {again : ℕ} → again ≡ cond (eqb pc c.location.0) c.left w → again ≡ get_or (set core c.location.0 c.left) pc 0
    again-is e = e ∙ rw ew (word_of core pc c.location.0 c.left a-below)

    pub a-unsound : {r : Bool} → r ≡ every (sound_word size) (words c) → r ≡ false → is_place rules core pc ≡ true
        → false ≡ (is_place rules core pc && every (sound_word size) (seen_at site core))
    a-unsound er f place = rw (place, seen-both, ← a-words, ← er, f)

    -- the B operand, its number read again from the core that A leaves
    module _ (after : List ℕ) (ea : after ≡ first.core) {bm m : ℕ} (eb : bm ≡ (unpacked w).b_mode) (eg : m ≡ (unpacked (get_or after pc 0)).b.0)
        {d : Chains} (ed : d ≡ chains_of site after bm m) where
      b-is : d ≡ chains_of site first.core (fetched core pc).b_mode (fetched first.core pc).b.0
      b-is = ed ∙ rw (eb, eg, ea, ew)

      b-place : Placed rules first.core pc
      b-place = placed-after rules core pc _ _ p

      pub b-below : d.location.0 < length after
      b-below = rw (ea, b-is) (location-below rules first.core pc _ _ b-place)

      pub b-core : set after d.location.0 d.left ≡ last.core
      b-core = rw (ea, b-is) (left-core rules first.core pc _ _ b-place)

      b-words : words d ≡ last.seen
      b-words = ap words b-is ∙ words_are rules first.core pc _ _ b-place

      pub b-read : d.read ≡ absolute last.read
      b-read = ap (λ (x : Chains). x.read) b-is ∙ read_of rules first.core pc _ _ b-place

      pub b-write : d.write ≡ absolute last.write
      b-write = ap (λ (x : Chains). x.write) b-is ∙ write-of rules first.core pc _ _ b-place

      pub b-register : d.register ≡ get_or last.seen 2 0
      b-register = ap (λ (x : Chains). x.register) b-is ∙ register_of rules first.core pc _ _ b-place

      pub b-sound : {q r : Bool} → q ≡ every (sound_word size) (words c) → q ≡ true → r ≡ every (sound_word size) (words d) → is_place rules core pc ≡ true
          → r ≡ (is_place rules core pc && every (sound_word size) (seen_at site core))
      b-sound eq t er place =
          er ∙ ap (every (sound_word size)) b-words
          ∙ sym (ap₂ ◌&&◌ place seen-both ∙ ap (λ (x : Bool). x && every (sound_word size) last.seen) (ap (every (sound_word size)) (sym a-words) ∙ sym eq ∙ t))

      -- what both operands give
      pub given : {target : Absolute} → target ≡ cond (compares (unpacked w).opcode) d.read d.write
          → record { jump = c.read; ra = c.register; target = target; rb = d.register } ≡ operands_at site core
      given et = λ i.
          record {
            jump = a_read i;
            ra = a-register i;
            target = (et ∙ ap₂ (cond (compares (unpacked w).opcode)) b-read b-write ∙ ap (λ (v : ℕ). cond (compares (unpacked v).opcode) (absolute last.read) (absolute last.write)) ew) i;
            rb = b-register i;
          }
