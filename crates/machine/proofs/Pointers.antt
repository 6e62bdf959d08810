-- Laws of an operand: a fold stays below M, and the operand keeps the core's length, writes once at most, and of a sound core leaves a sound one and reads sound cells.
-- Assumes nothing.
use Prim.Native.Nat.{ℕ, ◌+◌, ◌-◌, ◌/◌, ◌%◌, ◌≤◌, ◌<◌}
use mathlib.Core.Path.{◌≡◌, refl, ap, ◌∙◌}
use mathlib.Core.Bool.{Bool, true, false, cond}
use mathlib.Core.List.{List}
use native.Mathlib.Nat.{mod-lt}
use native.Mathlib.Omega.{arith}
use lib.Dec.{ltb}
use lib.ListN.{length, get_or, set, length-set}
use lib.Seq.{get_or-set_same, get_or-set_other}
use Rattle.laws.specs.Lists.{every}
use Rattle.laws.proofs.Every.{Every, every-at, every_set}
use Rattle.cell.specs.declared.Cell.{Cell}
use Rattle.types.specs.declared.field.Field.{Field}
use Rattle.types.specs.declared.field.Field.TheVariants.{A, B}
use Rattle.cell.specs.Cells.{packed, unpacked, sound_word, number, with_number, cell_at}
use Rattle.offset.proofs.Offsets.{ahead-lt}
use Rattle.cell.proofs.Words.{word-range, with-range, unpack-pack}
use Rattle.cell.proofs.Soundness.{Sound, sound-fields, fields-sound}
use Rattle.machine.specs.Pointers.{Reach, here, there, through, reaches, Shift, keeps, lowers, raises, shifts, field_of, fold, located, pointed, changed, before, after, shifted, Site, Operand, operand}

-- a pointer folded by a limit of at most M
pub fold-below : (limit size p : ℕ) → 0 < limit → limit ≤ size → fold limit size p < size
fold-below limit size p pos most = go (ltb (limit / 2) (p % limit)) (p % limit) (mod-lt p pos)
  where
    go : (b : Bool) (r : ℕ) → r < limit → cond b (r + (size - limit)) r < size
    go true r h = omega arith
    go false r h = omega arith

-- reading after a change
pub changed-same : (f : Field) (core : List ℕ) (p x : ℕ) → p < length core → x < 65536
    → cell_at (changed core p f x) p ≡ with_number f x (cell_at core p)
changed-same f core p x l h =
    ap unpacked (get_or-set_same core p (packed (with_number f x (cell_at core p))) 0 l)
    ∙ unpack-pack (with_number f x (cell_at core p)) (with-range f x _ h (word-range (get_or core p 0)))

pub changed-other : (f : Field) (core : List ℕ) (p q x : ℕ) → (q ≡ p → ⊥) → cell_at (changed core p f x) q ≡ cell_at core q
changed-other f core p q x h = ap unpacked (get_or-set_other core p q (packed (with_number f x (cell_at core p))) 0 h)

-- the core's length
pub length_before : (t : Shift) (size : ℕ) (core : List ℕ) (l : ℕ) (f : Field) (x : ℕ) → length (before t size core l f x) ≡ length core
length_before keeps size core l f x = refl
length_before lowers size core l f x = length-set core l _
length_before raises size core l f x = refl

length-after : (t : Shift) (size : ℕ) (core : List ℕ) (l : ℕ) (f : Field) (x : ℕ) → length (after t size core l f x) ≡ length core
length-after keeps size core l f x = refl
length-after lowers size core l f x = refl
length-after raises size core l f x = length-set core l _

pub length-operand : (s : Site) (core : List ℕ) (mode n : ℕ) → length (operand s core mode n).core ≡ length core
unfolding operand
length-operand s core mode n =
    let size = s.rules.size in
    let t = get_or shifts mode keeps in
    let l = located s s.rules.write n in
    length-after t size (before t size core l _ _) l _ _ ∙ length_before t size core l _ _

-- one place written at most
shifted_one : (t : Shift) (l : ℕ) → length (shifted t l) ≤ 1
shifted_one keeps l = omega arith
shifted_one lowers l = omega arith
shifted_one raises l = omega arith

pub operand-writes : (s : Site) (core : List ℕ) (mode n : ℕ) → length (operand s core mode n).written ≤ 1
unfolding operand
operand-writes s core mode n = shifted_one (get_or shifts mode keeps) (located s s.rules.write n)

-- a core of that size whose cells are all sound
pub record SoundCore (size : ℕ) (core : List ℕ) : Type 0 where
  pub small : size ≤ 65536
  pub length : length core ≡ size
  pub cells : Every (λ w. sound_word size w ≡ true) core

module _ (size : ℕ) where
  pub cell-at : (core : List ℕ) → SoundCore size core → (i : ℕ) → i < size → sound_word size (get_or core i 0) ≡ true
  cell-at core c i h = every-at (λ w. sound_word size w ≡ true) core i 0 c.cells (rw c.length h)

  pub fields_at : (core : List ℕ) → SoundCore size core → (i : ℕ) → i < size → Sound size (cell_at core i)
  fields_at core c i h = (sound-fields size (get_or core i 0) (cell-at core c i h)).1

  -- a sound word put at any place
  pub word_set : (core : List ℕ) (i w : ℕ) → SoundCore size core → sound_word size w ≡ true → SoundCore size (set core i w)
  word_set core i w c s =
      record { small = c.small; length = length-set core i w ∙ c.length; cells = every_set (λ w. sound_word size w ≡ true) core i w c.cells s }

  pub cell_set : (core : List ℕ) (i : ℕ) (x : Cell) → SoundCore size core → Sound size x → SoundCore size (set core i (packed x))
  cell_set core i x c s = word_set core i (packed x) c (fields-sound size x c.small s)

  pub number_lt : (f : Field) (c : Cell) → Sound size c → number f c < size
  number_lt A c s = s.a
  number_lt B c s = s.b

  pub with-sound : (f : Field) (x : ℕ) (c : Cell) → Sound size c → x < size → Sound size (with_number f x c)
  with-sound A x c s h = record { opcode = s.opcode; modifier = s.modifier; a_mode = s.a_mode; b_mode = s.b_mode; a = h; b = s.b }
  with-sound B x c s h = record { opcode = s.opcode; modifier = s.modifier; a_mode = s.a_mode; b_mode = s.b_mode; a = s.a; b = h }

  changed-sound : (core : List ℕ) (l : ℕ) (f : Field) (x : ℕ) → SoundCore size core → l < size → x < size → SoundCore size (changed core l f x)
  changed-sound core l f x c hl hx = cell_set core l _ c (with-sound f x _ (fields_at core c l hl) hx)

  before-sound : (t : Shift) (core : List ℕ) (l : ℕ) (f : Field) (x : ℕ) → SoundCore size core → l < size → SoundCore size (before t size core l f x)
  before-sound keeps core l f x c h = c
  before-sound lowers core l f x c h = changed-sound core l f _ c h (mod-lt _ (omega arith))
  before-sound raises core l f x c h = c

  after-sound : (t : Shift) (core : List ℕ) (l : ℕ) (f : Field) (x : ℕ) → SoundCore size core → l < size → SoundCore size (after t size core l f x)
  after-sound keeps core l f x c h = c
  after-sound lowers core l f x c h = c
  after-sound raises core l f x c h = changed-sound core l f _ c h (mod-lt _ (omega arith))

  -- an operand of a sound core: the cells read are sound, and so are those left
  pub record SoundOperand (o : Operand) : Type 0 where
    pub core : SoundCore size o.core
    pub read : o.read < size
    pub write : o.write < size
    pub register : Sound size o.register
    pub seen : every (sound_word size) o.seen ≡ true

-- a place that is pointed to lies in the core
pub pointed-lt : (r : Reach) (s : Site) (limit n : ℕ) (core : List ℕ) → s.pc < s.rules.size → pointed r s limit n core < s.rules.size
pointed-lt here s limit n core h = h
pointed-lt there s limit n core h = ahead-lt s.rules.size s.pc _ (omega arith)
pointed-lt (through f) s limit n core h = ahead-lt s.rules.size s.pc _ (omega arith)

pub operand_sound : (s : Site) (core : List ℕ) (mode n : ℕ) → SoundCore s.rules.size core → s.pc < s.rules.size
    → SoundOperand s.rules.size (operand s core mode n)
unfolding operand
operand_sound s core mode n c h =
    let size = s.rules.size in
    let place = located s s.rules.write n in
    let l : place < size = ahead-lt size s.pc _ (omega arith) in
    let k : located s s.rules.read n < size = ahead-lt size s.pc _ (omega arith) in
    let t = get_or shifts mode keeps in
    let r = get_or reaches mode here in
    let x = number (field_of r) (cell_at core place) in
    let b = before-sound size t core place (field_of r) x c l in
    let lowered = before t size core place (field_of r) x in
    let read = pointed-lt r s s.rules.read n lowered h in
    let write = pointed-lt r s s.rules.write n lowered h in
    record {
      core = after-sound size t lowered place (field_of r) x b l;
      read = read;
      write = write;
      register = fields_at size _ b _ read;
      seen = rw (cell-at size core c _ k, cell-at size core c place l, cell-at size _ b _ read, cell-at size _ b _ write);
    }
