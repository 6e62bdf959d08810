-- One operand evaluated: the Rust's pointer, decrement, copy and increment are our operand, where both limits are M. It changes no cell's codes.
-- Assumes nothing.
use Prim.Native.Nat.{ℕ, ◌%◌, ◌≤◌, ◌<◌}
use mathlib.Core.Path.{◌≡◌, refl, sym, ap, ap₂, subst, ◌∙◌}
use mathlib.Core.Bool.{Bool, true, false}
use mathlib.Core.List.{List, map}
use native.Mathlib.Nat.{mod-lt}
use native.Mathlib.Omega.{arith}
use lib.Dec.{eqb}
use lib.ListN.{length, get_or, set}
use borrow.Author.Tests.{eqb-true, eqb-false, le-leb}
use Rattle.cell.specs.declared.Cell.{Cell}
use Rattle.offset.specs.Offset.{ahead}
use Rattle.types.specs.declared.field.Field.{Field}
use Rattle.types.specs.declared.field.Field.TheVariants.{A, B}
use Rattle.cell.specs.Cells.{unpacked, number, with_number}
use Rattle.offset.proofs.Offsets.{ahead-lt}
use Rattle.cell.proofs.Words.{word-range}
use Rattle.machine.specs.declared.Rules.{Rules}
use Rattle.machine.specs.Soundness.{valid_size}
use Rattle.machine.specs.Pointers.{Reach, here, there, through, reaches, Shift, keeps, lowers, raises, shifts, field_of, less, more, changed, before, after, site_at, Operand, operand}
use Rattle.machine.specs.Whole.{used, pointer_of, former, SameOperand, Unlimited}
use Rattle.machine.proofs.Pointers.{changed-same, changed-other, length_before, SoundCore, fields_at, number_lt}
use Rattle.machine.proofs.Whole.{whole-operand}
use Rattle.reference.specs.Types as Rust
use Rattle.reference.specs.Types.{AddressMode, Immediate, Direct, IndirectA, IndirectB, PreDecIndirectA, PreDecIndirectB, PostIncIndirectA, PostIncIndirectB, Instruction}
use Rattle.reference.specs.Offset.{offset, add_i32}
use Rattle.reference.specs.Address.{get_offset, resolve_pointer, Pre, Post, applied, apply_pointer}
use Rattle.reference.specs.Modifiers.{Evaluated}
use Rattle.reference.specs.Same.{mode_of, instruction_of, word_of}
use Rattle.reference.proofs.Cells.{get-word}
use Rattle.reference.proofs.Pointers.{field_at, reach_of, shift_of, reach-is, shift_is, same_set, pointer_is, applied-is}

-- the codes of a cell
pub record Codes (c d : Cell) : Type 0 where
  pub opcode : c.opcode ≡ d.opcode
  pub modifier : c.modifier ≡ d.modifier
  pub a_mode : c.a_mode ≡ d.a_mode
  pub b_mode : c.b_mode ≡ d.b_mode

same_codes : (c : Cell) → Codes c c
same_codes c = record { opcode = refl; modifier = refl; a_mode = refl; b_mode = refl }

with-codes : (f : Field) (x : ℕ) (c : Cell) → Codes (with_number f x c) c
with-codes A x c = record { opcode = refl; modifier = refl; a_mode = refl; b_mode = refl }
with-codes B x c = record { opcode = refl; modifier = refl; a_mode = refl; b_mode = refl }

changed-codes : (core : List ℕ) (i : ℕ) (f : Field) (x : ℕ) → x < 65536 → i < length core → (j : ℕ)
    → Codes (unpacked (get_or (changed core i f x) j 0)) (unpacked (get_or core j 0))
changed-codes core i f x hx hi j = go (eqb j i) refl
  where
    go : (t : Bool) → eqb j i ≡ t → Codes (unpacked (get_or (changed core i f x) j 0)) (unpacked (get_or core j 0))
    go true e = rw (eqb-true j i e, changed-same f core i x hi hx) (with-codes f x (unpacked (get_or core i 0)))
    go false e = rw (changed-other f core i j x (eqb-false j i e)) (same_codes _)

-- which operand: its field and its mode
abbrev field : Field → Instruction → Rust.Field
field A i = i.a_field
field B i = i.b_field

abbrev pub mode : Field → Cell → ℕ
mode A c = c.a_mode
mode B c = c.b_mode

field_is : (s : Field) (c : Cell) → field s (instruction_of c) ≡ field_at (mode_of (mode s c)) (number s c)
field_is A c = refl
field_is B c = refl

mode-codes : (s : Field) {c d : Cell} → Codes c d → mode s c ≡ mode s d
mode-codes A h = h.a_mode
mode-codes B h = h.b_mode

mode-in : (s : Field) (w : ℕ) → mode s (unpacked w) < 8
mode-in A w = (word-range w).a_mode
mode-in B w = (word-range w).b_mode

-- the Rust's evaluation; the field is read from the core each time
abbrev pub evaluate : Field → ℕ → List Instruction → ℕ → Evaluated
evaluate s m core pc =
    let ptr = resolve_pointer m core pc (field s (get_offset core pc)) in
    let lowered = apply_pointer m core pc (field s (get_offset core pc)) Pre in
    record { core = apply_pointer m lowered pc (field s (get_offset lowered pc)) Post; ptr = ptr; value = get_offset lowered ptr }

-- after a decrement there is no increment
post-kept : (m : ℕ) (core : List Instruction) (pc : ℕ) (f : Rust.Field) (mode : AddressMode) → f.address_mode ≡ mode → shift_of mode ≡ lowers
    → apply_pointer m core pc f Post ≡ core
post-kept m core pc f mode e t =
    ap (λ (x : AddressMode). set core l (applied m Post x (offset m i.a_field.value) (offset m i.b_field.value) i)) e ∙ go mode t
  where
    l : ℕ
    l = add_i32 m pc f.value

    i : Instruction
    i = get_offset core l

    Lowers : Shift → Type 0
    Lowers keeps = ⊥
    Lowers lowers = Unit {0}
    Lowers raises = ⊥

    go : (mode : AddressMode) → shift_of mode ≡ lowers → set core l (applied m Post mode (offset m i.a_field.value) (offset m i.b_field.value) i) ≡ core
    go Immediate t = same_set core l
    go Direct t = same_set core l
    go IndirectA t = same_set core l
    go IndirectB t = same_set core l
    go PreDecIndirectA t = same_set core l
    go PreDecIndirectB t = same_set core l
    go PostIncIndirectA t = absurd (subst Lowers (sym t) tt)
    go PostIncIndirectB t = absurd (subst Lowers (sym t) tt)

-- our operand as the Rust has it
abbrev pub seen : Operand → Evaluated
seen o = record { core = map word_of o.core; ptr = o.read; value = instruction_of o.register }

module _ (rules : Rules) (whole : Unlimited rules) (small : rules.size ≤ 46341) (core : List ℕ) (sound : SoundCore rules.size core) where
  abbrev size : ℕ
  size = rules.size

  -- 01's operand is ours
  same : 0 < size → (pc k n : ℕ) → SameOperand (operand (site_at rules pc) core k n) (former (site_at rules pc) core k n)
  same some pc k n =
      let valid : valid_size size ≡ true = rw (le-leb 1 size some, le-leb size 46341 small) in
      whole-operand (site_at rules pc) core k n whole valid sound.length

  fits : 0 < size → (x : ℕ) → x % size < 65536
  fits some x = let h : x % size < size = mod-lt x some in omega arith

  -- the parts of an operand, by its reach and shift
  module _ (pc n : ℕ) (reach : Reach) where
    abbrev location : ℕ
    location = ahead size pc n

    abbrev held : ℕ
    held = number (field_of reach) (unpacked (get_or core location 0))

    abbrev lowered : Shift → List ℕ
    lowered shift = before shift size core location (field_of reach) held

    abbrev raised : Shift → List ℕ
    raised shift = after shift size (lowered shift) location (field_of reach) held

    abbrev pointer : Shift → ℕ
    pointer shift = pointer_of reach size pc location (used shift size held)

    pointer-lt : (shift : Shift) → pc < size → pointer shift < size
    pointer-lt shift = go reach (used shift size held)
      where
        go : (r : Reach) (x : ℕ) → pc < size → pointer_of r size pc location x < size
        go here x h = h
        go there x h = ahead-lt size pc n (omega arith)
        go (through f) x h = ahead-lt size location x (omega arith)

    abbrev result : Shift → Evaluated
    result shift = record { core = map word_of (raised shift); ptr = pointer shift; value = word_of (get_or (lowered shift) (pointer shift) 0) }

    module _ (some : 0 < size) where
      changed-here : (x : ℕ) → x < 65536 → (j : ℕ) → Codes (unpacked (get_or (changed core location (field_of reach) x) j 0)) (unpacked (get_or core j 0))
      changed-here x h = changed-codes core location (field_of reach) x h (rw sound.length (ahead-lt size pc n some))

      lowered-codes : (shift : Shift) (j : ℕ) → Codes (unpacked (get_or (lowered shift) j 0)) (unpacked (get_or core j 0))
      lowered-codes keeps j = same_codes _
      lowered-codes lowers j = changed-here (less size held) (fits some _) j
      lowered-codes raises j = same_codes _

      raised-codes : (shift : Shift) (j : ℕ) → Codes (unpacked (get_or (raised shift) j 0)) (unpacked (get_or core j 0))
      raised-codes keeps j = same_codes _
      raised-codes lowers j = changed-here (less size held) (fits some _) j
      raised-codes raises j = changed-here (more size held) (fits some _) j

  former-codes : 0 < size → (pc k n j : ℕ) → Codes (unpacked (get_or (former (site_at rules pc) core k n).core j 0)) (unpacked (get_or core j 0))
  unfolding former
  former-codes some pc k n j = raised-codes pc n (get_or reaches k here) some (get_or shifts k keeps) j

  pub operand-codes : 0 < size → (pc k n j : ℕ) → Codes (unpacked (get_or (operand (site_at rules pc) core k n).core j 0)) (unpacked (get_or core j 0))
  operand-codes some pc k n j = rw (same some pc k n).core (former-codes some pc k n j)

  module _ (s : Field) (pc : ℕ) (pc-in : pc < size) where
    abbrev c : Cell
    c = unpacked (get_or core pc 0)

    abbrev n : ℕ
    n = number s c

    n-in : n < size
    n-in = number_lt size s c (fields_at size core sound pc pc-in)

    some : 0 < size
    some = omega arith

    -- after the decrement, or without one
    abbrev then : AddressMode → List ℕ
    then m = lowered pc n (reach_of m) (shift_of m)

    then-long : (m : AddressMode) → length (then m) ≡ size
    then-long m = length_before (shift_of m) size core (ahead size pc n) (field_of (reach_of m)) _ ∙ sound.length

    module _ (m : AddressMode) (e : mode_of (mode s c) ≡ m) where
      field-read : field s (get_offset (map word_of core) pc) ≡ field_at m n
      field-read =
          ap (field s) (get-word core pc (rw sound.length pc-in)) ∙ field_is s c ∙ ap (λ (x : AddressMode). field_at x n) e

      -- no decrement: the field is as it was
      plain : apply_pointer size (map word_of core) pc (field s (get_offset (map word_of core) pc)) Post
          ≡ map word_of (after (shift_of m) size core (ahead size pc n) (field_of (reach_of m)) (held pc n (reach_of m)))
      plain =
          ap (λ (f : Rust.Field). apply_pointer size (map word_of core) pc f Post) field-read
          ∙ applied-is size small core sound pc n pc-in n-in Post m

      -- a decrement: the mode is as it was
      lowered-once : shift_of m ≡ lowers → apply_pointer size (map word_of (then m)) pc (field s (get_offset (map word_of (then m)) pc)) Post ≡ map word_of (then m)
      lowered-once t =
          post-kept size (map word_of (then m)) pc _ m
          (ap (λ (i : Instruction). (field s i).address_mode) (get-word (then m) pc (rw (then-long m) pc-in))
          ∙ ap (λ (f : Rust.Field). f.address_mode) (field_is s (unpacked (get_or (then m) pc 0)))
          ∙ ap mode_of (mode-codes s (lowered-codes pc n (reach_of m) some (shift_of m) pc))
          ∙ e) t

      pre : apply_pointer size (map word_of core) pc (field s (get_offset (map word_of core) pc)) Pre ≡ map word_of (then m)
      pre =
          ap (λ (f : Rust.Field). apply_pointer size (map word_of core) pc f Pre) field-read
          ∙ applied-is size small core sound pc n pc-in n-in Pre m

      ptr : resolve_pointer size (map word_of core) pc (field s (get_offset (map word_of core) pc)) ≡ pointer pc n (reach_of m) (shift_of m)
      ptr = ap (resolve_pointer size (map word_of core) pc) field-read ∙ pointer_is size small core sound pc n pc-in n-in m

      copy : get_offset (map word_of (then m)) (pointer pc n (reach_of m) (shift_of m)) ≡ (result pc n (reach_of m) (shift_of m)).value
      copy = get-word (then m) _ (rw (then-long m) (pointer-lt pc n (reach_of m) (shift_of m) pc-in))

    post : (m : AddressMode) → mode_of (mode s c) ≡ m
        → apply_pointer size (map word_of (then m)) pc (field s (get_offset (map word_of (then m)) pc)) Post ≡ (result pc n (reach_of m) (shift_of m)).core
    post Immediate e = plain Immediate e
    post Direct e = plain Direct e
    post IndirectA e = plain IndirectA e
    post IndirectB e = plain IndirectB e
    post PreDecIndirectA e = lowered-once PreDecIndirectA e refl
    post PreDecIndirectB e = lowered-once PreDecIndirectB e refl
    post PostIncIndirectA e = plain PostIncIndirectA e
    post PostIncIndirectB e = plain PostIncIndirectB e

    evaluate-result : (m : AddressMode) → mode_of (mode s c) ≡ m → evaluate s size (map word_of core) pc ≡ result pc n (reach_of m) (shift_of m)
    evaluate-result m e = λ i. record {
      core = (ap (λ (x : List Instruction). apply_pointer size x pc (field s (get_offset x pc)) Post) (pre m e) ∙ post m e) i;
      ptr = ptr m e i;
      value = (ap₂ get_offset (pre m e) (ptr m e) ∙ copy m e) i;
    }

    evaluate-former : evaluate s size (map word_of core) pc ≡ seen (former (site_at rules pc) core (mode s c) n)
    unfolding former
    evaluate-former =
        evaluate-result (mode_of (mode s c)) refl
        ∙ sym (ap₂ (λ (r : Reach) (t : Shift). result pc n r t) (reach-is (mode s c) (mode-in s (get_or core pc 0))) (shift_is (mode s c) (mode-in s (get_or core pc 0))))

    pub evaluate-is : evaluate s size (map word_of core) pc ≡ seen (operand (site_at rules pc) core (mode s c) n)
    evaluate-is =
        let o = same some pc (mode s c) n in
        evaluate-former ∙ sym (λ i. record { core = map word_of (o.core i); ptr = o.read i; value = instruction_of (o.register i) })
