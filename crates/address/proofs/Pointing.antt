-- Laws of one operand where both limits are M: what it is, by the mode's range, from what the code finds; the cells that it reads.
-- Assumes nothing.
use mathlib.Core.Path.{◌≡◌, refl, sym, ap, ◌∙◌}
use mathlib.Core.Bool.{Bool, true, false, ◌&&◌, cond}
use mathlib.Core.List.{List, [], ◌∷◌}
use Prim.Native.Nat.{ℕ, zero, suc, ◌+◌, ◌-◌, ◌≤◌, ◌<◌, zero-le}
use native.Mathlib.Omega.{arith}
use lib.Dec.{eqb, ltb}
use lib.ListN.{length, get_or, set}
use lib.Seq.{get_or-set_same, get_or-set_other}
use borrow.Author.Tests.{eqb-true, eqb-false, ltb-true, ltb-false}
use Rattle.laws.proofs.Cases.{span}
use Rattle.laws.proofs.Modulo.{mod-small, mod-wrap}
use Rattle.laws.proofs.Tests.{both, and-true}
use Rattle.offset.specs.Offset.{ahead}
use Rattle.types.specs.declared.field.Field.{Field}
use Rattle.cell.specs.Cells.{packed, unpacked, sound_word, number, with_number}
use Rattle.machine.specs.declared.Rules.{Rules}
use Rattle.machine.specs.Pointers as machine
use Rattle.machine.specs.Pointers.{here, through, Shift, keeps, lowers, raises, reaches, shifts, field_of, less, more, changed, before, site_at}
use Rattle.machine.specs.Whole.{used, former}
use Rattle.address.specs.Rounding.{decremented, incremented, field_through, aimed}
use Rattle.address.specs.Inner.Operands.{sound_seen, Ready}
use Rattle.word.proofs.Cells.{ahead-below, whole, number-below, with-sound}

-- the modes by range
pub goes_through : (mode : ℕ) → 2 ≤ mode → mode < 8 → get_or reaches mode here ≡ through (field_through mode)
goes_through mode l h = span mode 2 6 l h (λ e. rw e, (λ e. rw e, (λ e. rw e, (λ e. rw e, (λ e. rw e, (λ e. rw e, tt))))))

pub shift-keeps : (mode : ℕ) → mode < 4 → get_or shifts mode keeps ≡ keeps
shift-keeps mode h = span mode 0 4 zero-le h (λ e. rw e, (λ e. rw e, (λ e. rw e, (λ e. rw e, tt))))

pub shift-lowers : (mode : ℕ) → 4 ≤ mode → mode < 6 → get_or shifts mode keeps ≡ lowers
shift-lowers mode l h = span mode 4 2 l h (λ e. rw e, (λ e. rw e, tt))

pub shift-raises : (mode : ℕ) → 6 ≤ mode → mode < 8 → get_or shifts mode keeps ≡ raises
shift-raises mode l h = span mode 6 2 l h (λ e. rw e, (λ e. rw e, tt))

-- one less and one more, for a number below the size
pub is-less : (size n : ℕ) → n < size → decremented size n ≡ less size n
is-less size n h = by (eqb n 0) refl
  where
    by : (t : Bool) → eqb n 0 ≡ t → cond t (size - 1) (n - 1) ≡ less size n
    by true e =
        let z = eqb-true n 0 e in
        let l : n + (size - 1) ≡ size - 1 = omega arith in
        sym l ∙ mod-small (omega arith)
    by false e =
        let z = eqb-false n 0 e in
        let l : n + (size - 1) - size ≡ n - 1 = omega arith in
        sym l ∙ mod-wrap (omega arith) (omega arith)

pub is-more : (size n : ℕ) → n < size → incremented size n ≡ more size n
is-more size n h = by (ltb (n + 1) size) refl
  where
    by : (t : Bool) → ltb (n + 1) size ≡ t → cond t (n + 1) 0 ≡ more size n
    by true e = mod-small (ltb-true (n + 1) size e)
    by false e =
        let g = ltb-false (n + 1) size e in
        let z : n + 1 - size ≡ 0 = omega arith in
        sym z ∙ mod-wrap g (omega arith)

-- the number that the pointer is made of
pub is-used : (t : Shift) (size n : ℕ) → n < size → aimed t size n ≡ used t size n
is-used keeps size n h = refl
is-used lowers size n h = is-less size n h
is-used raises size n h = refl

-- what holds of the value stored and of what was there holds of what is there now, at any two places
pub on-set : {A : Type 0} (P : A → Type 0) (l : List A) (i j : ℕ) (v d : A) → P v → P (get_or l j d) → P (get_or (set l i v) j d)
on-set P [] i j v d p q = q
on-set P (x ∷ xs) zero zero v d p q = p
on-set P (x ∷ xs) zero (suc j) v d p q = q
on-set P (x ∷ xs) (suc i) zero v d p q = q
on-set P (x ∷ xs) (suc i) (suc j) v d p q = on-set P xs i j v d p q

-- a cell is sound after a sound one was stored over a sound one, just where it was
pub still-sound : (size : ℕ) (core : List ℕ) (i j v : ℕ) → i < length core → sound_word size (get_or core i 0) ≡ true → sound_word size v ≡ true
    → sound_word size (get_or (set core i v) j 0) ≡ sound_word size (get_or core j 0)
still-sound size core i j v l s h = at (eqb j i) refl
  where
    at : (t : Bool) → eqb j i ≡ t → sound_word size (get_or (set core i v) j 0) ≡ sound_word size (get_or core j 0)
    at true e = rw (eqb-true j i e, get_or-set_same core i v 0 l) (h ∙ sym s)
    at false e = ap (sound_word size) (get_or-set_other core i j v 0 (eqb-false j i e))

-- the word at a place of the core with that word at that location
pub word_of : (core : List ℕ) (place location word : ℕ) → location < length core → cond (eqb place location) word (get_or core place 0) ≡ get_or (set core location word) place 0
word_of core place location word l = by (eqb place location) refl
  where
    by : (t : Bool) → eqb place location ≡ t → cond t word (get_or core place 0) ≡ get_or (set core location word) place 0
    by true e = rw (eqb-true place location e) (sym (get_or-set_same core location word 0 l))
    by false e = sym (get_or-set_other core location place word 0 (eqb-false place location e))

stored-sound : (size : ℕ) (core : List ℕ) (i j v : ℕ) → i < length core → (sound_word size (get_or core i 0) ≡ true → sound_word size v ≡ true)
    → (sound_word size (get_or core i 0) && sound_word size (get_or (set core i v) j 0)) ≡ (sound_word size (get_or core i 0) && sound_word size (get_or core j 0))
stored-sound size core i j v l h = by (sound_word size (get_or core i 0)) refl
  where
    by : (t : Bool) → sound_word size (get_or core i 0) ≡ t → (t && sound_word size (get_or (set core i v) j 0)) ≡ (t && sound_word size (get_or core j 0))
    by true s = still-sound size core i j v l s (h s)
    by false s = refl

-- the decrement changes no verdict on the cells read
look : (size : ℕ) (core : List ℕ) (t : Shift) (i j : ℕ) (f : Field) → size ≤ 46341 → length core ≡ size → i < size
    → (sound_word size (get_or core i 0) && sound_word size (get_or (before t size core i f (number f (unpacked (get_or core i 0)))) j 0))
    ≡ (sound_word size (get_or core i 0) && sound_word size (get_or core j 0))
look size core keeps i j f l e h = refl
look size core lowers i j f l e h =
    stored-sound size core i j _ (rw e h) (λ s. with-sound f size (get_or core i 0) _ l s (ahead-below _ _ h))
look size core raises i j f l e h = refl

module _ (rules : Rules) (core : List ℕ) (pc mode n : ℕ) where
  abbrev size : ℕ
  size = rules.size

  abbrev its : machine.Operand
  its = former (site_at rules pc) core mode n

  -- an operand that reads sound cells: its pointer and register, and the core after it
  pub record Points (pointer register : ℕ) (l : List ℕ) : Type 0 where
    pub reads : its.read ≡ pointer
    pub copies : register ≡ packed its.register
    pub leaves : l ≡ its.core

  pub sound-is : Ready rules core pc n → (pointer : ℕ) → its.read ≡ pointer
      → sound_seen size its ≡ (sound_word size (get_or core (ahead size pc n) 0) && sound_word size (get_or core pointer 0))
  unfolding former
  sound-is k p e =
      ap (λ (t : Bool). sound_word size (get_or core (ahead size pc n) 0) && t) (and-true _)
      ∙ look size core (get_or shifts mode keeps) (ahead size pc n) _ (field_of (get_or reaches mode here)) k.valid k.cells (ahead-below pc n k.place)
      ∙ ap (λ (j : ℕ). sound_word size (get_or core (ahead size pc n) 0) && sound_word size (get_or core j 0)) e

  abbrev field : Field
  field = field_of (get_or reaches mode here)

  abbrev found : ℕ
  found = number field (unpacked (get_or core (ahead size pc n) 0))

  -- the register and the core by what the mode does to the number found
  register-keeps : get_or shifts mode keeps ≡ keeps → its.register ≡ unpacked (get_or core its.read 0)
  unfolding former
  register-keeps t = rw t

  register-lowers : get_or shifts mode keeps ≡ lowers
      → its.register ≡ unpacked (get_or (changed core (ahead size pc n) field (less size found)) its.read 0)
  unfolding former
  register-lowers t = rw t

  register-raises : get_or shifts mode keeps ≡ raises → its.register ≡ unpacked (get_or core its.read 0)
  unfolding former
  register-raises t = rw t

  core-keeps : get_or shifts mode keeps ≡ keeps → core ≡ its.core
  unfolding former
  core-keeps t = rw t

  core-lowers : get_or shifts mode keeps ≡ lowers → changed core (ahead size pc n) field (less size found) ≡ its.core
  unfolding former
  core-lowers t = rw t

  core-raises : get_or shifts mode keeps ≡ raises → changed core (ahead size pc n) field (more size found) ≡ its.core
  unfolding former
  core-raises t = rw t

  at-pc : mode ≡ 0 → its.read ≡ pc
  unfolding former
  at-pc e = rw e

  at-location : mode ≡ 1 → its.read ≡ ahead size pc n
  unfolding former
  at-location e = rw e

  -- a register that is the cell at the pointer
  plainly : {pointer : ℕ} → its.read ≡ pointer → sound_word size (get_or core pointer 0) ≡ true → its.register ≡ unpacked (get_or core its.read 0)
      → get_or core pointer 0 ≡ packed its.register
  plainly {pointer} e s er = sym (ap packed (er ∙ ap (λ (j : ℕ). unpacked (get_or core j 0)) e) ∙ whole size (get_or core pointer 0) s)

  pub hash : sound_word size (get_or core pc 0) ≡ true → mode ≡ 0 → Points pc (get_or core pc 0) core
  hash s e = record { reads = at-pc e; copies = plainly (at-pc e) s (register-keeps shift); leaves = core-keeps shift }
    where
      shift : get_or shifts mode keeps ≡ keeps
      shift = rw e

  module _ (location : ℕ) (is : location ≡ ahead size pc n) (h : sound_word size (get_or core location 0) ≡ true) where
    pub dollar : mode ≡ 1 → Points location (get_or core location 0) core
    dollar e = record { reads = there-is; copies = plainly there-is h (register-keeps shift); leaves = core-keeps shift }
      where
        shift : get_or shifts mode keeps ≡ keeps
        shift = rw e

        there-is : its.read ≡ location
        there-is = at-location e ∙ sym is

    module _ (two : 2 ≤ mode) (eight : mode < 8) (seen to pointer : ℕ) (es : seen ≡ number (field_through mode) (unpacked (get_or core location 0)))
        (et : to ≡ aimed (get_or shifts mode keeps) size seen) (ep : pointer ≡ ahead size location to) where
      seen-is : seen ≡ found
      seen-is = es ∙ rw (is, goes_through mode two eight)

      seen_below : seen < size
      seen_below = rw es (number-below (field_through mode) size (get_or core location 0) h)

      uses : to ≡ used (get_or shifts mode keeps) size seen
      uses = et ∙ is-used (get_or shifts mode keeps) size seen seen_below

      pub points : its.read ≡ pointer
      unfolding former
      points = rw (ep, uses, seen-is, is, goes_through mode two eight)

      module _ (s : sound_word size (get_or core pointer 0) ≡ true) where
        pub plain : mode < 4 → Points pointer (get_or core pointer 0) core
        plain l =
            let t = shift-keeps mode l in
            record { reads = points; copies = plainly points s (register-keeps t); leaves = core-keeps t }

        module _ (l : List ℕ) (word : ℕ) (el : l ≡ set core location word) where
          pub lower : size ≤ 46341 → 4 ≤ mode → mode < 6 → word ≡ packed (with_number (field_through mode) to (unpacked (get_or core location 0)))
              → (register : ℕ) → register ≡ get_or (set core location word) pointer 0
              → Points pointer register l
          lower v p q ew register er =
              record {
                reads = points;
                copies =
                    er ∙ ap (λ (x : List ℕ). get_or x pointer 0) (sym el)
                    ∙ sym (ap packed (register-lowers t ∙ ap (λ (j : ℕ). unpacked (get_or (changed core (ahead size pc n) field (less size found)) j 0)) points ∙ ap (λ (x : List ℕ). unpacked (get_or x pointer 0)) (sym lowered))
                    ∙ whole size (get_or l pointer 0) sound-there);
                leaves = lowered ∙ core-lowers t;
              }
            where
              t : get_or shifts mode keeps ≡ lowers
              t = shift-lowers mode p q

              to_is : to ≡ less size found
              to_is = uses ∙ rw (t, seen-is)

              lowered : l ≡ changed core (ahead size pc n) field (less size found)
              lowered = rw (el, ew, to_is, is, goes_through mode two eight)

              sound-there : sound_word size (get_or l pointer 0) ≡ true
              sound-there =
                  rw (el, ew)
                  (on-set (λ (w : ℕ). sound_word size w ≡ true) core location pointer _ 0
                  (with-sound (field_through mode) size (get_or core location 0) to v h (rw to_is (ahead-below _ _ seen_below))) s)

          pub raise : 6 ≤ mode → (up : ℕ) → up ≡ incremented size seen → word ≡ packed (with_number (field_through mode) up (unpacked (get_or core location 0)))
              → (register : ℕ) → register ≡ get_or core pointer 0
              → Points pointer register l
          raise p up eu ew register er =
              record { reads = points; copies = er ∙ plainly points s (register-raises t); leaves = raised ∙ core-raises t }
            where
              t : get_or shifts mode keeps ≡ raises
              t = shift-raises mode p eight

              raised : l ≡ changed core (ahead size pc n) field (more size found)
              raised = rw (el, ew, eu ∙ is-more size seen seen_below, seen-is, is, goes_through mode two eight)

  -- the cell at the location is sound
  pub read-sound : sound_seen size its ≡ true → sound_word size (get_or core (ahead size pc n) 0) ≡ true
  unfolding former
  read-sound e = (both _ _ e).0

  -- so is the one at the pointer
  pub pointer-sound : Ready rules core pc n → sound_seen size its ≡ true → sound_word size (get_or core its.read 0) ≡ true
  pointer-sound k e = (both (sound_word size (get_or core (ahead size pc n) 0)) (sound_word size (get_or core its.read 0)) (sym (sound-is k _ refl) ∙ e)).1
