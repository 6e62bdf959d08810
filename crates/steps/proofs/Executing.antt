-- Laws of one instruction that is not refused: what its operands and its opcode are asked, and what is answered.
-- Assumes nothing.
use mathlib.Core.Path.{◌≡◌, refl, sym, ap, subst, ◌∙◌}
use mathlib.Core.Bool.{Bool, true, false, cond, ◌&&◌}
use mathlib.Core.List.{List}
use mathlib.Core.Option.{Option, none, some}
use Prim.Native.Nat.{ℕ, ◌+◌, ◌≤◌, ◌<◌}
use native.Mathlib.Omega.{arith}
use lib.ListN.{length, get_or, set}
use lib.Seq.{set-get_or}
use Rattle.laws.proofs.Tests.{both}
use Rattle.laws.proofs.Every.{every-join}
use Rattle.cell.specs.declared.Cell.{Cell}
use Rattle.cell.specs.Cells.{unpacked, sound_word, cell_at}
use Rattle.cell.proofs.Soundness.{Sound, sound-fields}
use Rattle.machine.specs.declared.Rules.{Rules}
use Rattle.machine.specs.Execution as machine
use Rattle.machine.specs.Pointers as pointers
use Rattle.machine.specs.Pointers.{Shift, shifts, keeps, lowers, raises, shifted, Site, site_at}
use Rattle.machine.specs.Instruction.{fetched, a_operand, b_operand, scene_at, effect_at, core_at, store_to, stored_at, written_at}
use Rattle.machine.specs.Execution.{dat, divisor, Next, ends, goes, splits, Effect, effect_of}
use Rattle.machine.proofs.Pointers.{length-operand}
use Rattle.machine.proofs.Execution.{Places, effect-sound}
use Rattle.machine.proofs.Step.{writes_at}
use Rattle.address.specs.Inner.Operands.{Fetched, sound_seen}
use Rattle.chain.specs.declared.Operands.{Operands}
use Rattle.chain.specs.Operands.{absolute, compares, operands_at}
use Rattle.steps.specs.declared.opcode.Executed.{Executed}
use Rattle.steps.specs.Inner.Instruction.{Executable, answered}
use Rattle.steps.specs.Inner.Queueing.{Near}
use Rattle.steps.specs.Inner.Scenes.{SoundScene}
use Rattle.steps.specs.Inner.Acts.{store_writes, over}
use Rattle.steps.proofs.Seen.{register-whole, writes_are, read_below, write-below, register-sound, sound-after, live-sound, target_sound}
use Rattle.steps.proofs.Meeting.{one_cell, one_store}

stored-writes : (c : Option Cell) (place : ℕ) → length (stored_at c place) ≡ store_writes c
stored-writes none place = refl
stored-writes (some c) place = refl

-- the target's word stored over itself, or over with the cell stored
over-store : (c : Option Cell) (core : List ℕ) (place : ℕ) → set core place (over c (get_or core place 0)) ≡ store_to c core place
over-store none core place = set-get_or core place 0
over-store (some c) core place = refl

-- an operand's mode makes one write or none
one-change : (t : Shift) → length (shifted t 0) ≤ 1
one-change keeps = omega arith
one-change lowers = omega arith
one-change raises = omega arith

pub few-changes : (am bm : ℕ) {wa wb : ℕ} → wa ≡ length (shifted (get_or shifts am keeps) 0) → wb ≡ length (shifted (get_or shifts bm keeps) 0) → wa + wb ≤ 2
few-changes am bm e f = let h = one-change (get_or shifts am keeps) in let k = one-change (get_or shifts bm keeps) in omega arith

-- places of a core fit an entry
near_next : {size : ℕ} → size ≤ 46341 → (x : Next) (w : ℕ) → Places (λ p. p < size) x → Near (answered x w)
near_next v (ends dat) w h = tt
near_next v (ends divisor) w h = tt
near_next v (goes p) w h = omega arith
near_next v (splits p c) w h = let k = h.0 in omega arith

module _ (rules : Rules) (core : List ℕ) (pc here : ℕ) (x : Executable rules core pc here) where
  abbrev size : ℕ
  size = rules.size

  abbrev s : Site
  s = site_at rules pc

  abbrev f : Fetched rules core pc here
  f = x.cell

  abbrev first : pointers.Operand
  first = a_operand s core

  abbrev last : pointers.Operand
  last = b_operand s core

  -- where B meets the instruction
  abbrev met : ℕ
  met = cond (compares (fetched core pc).opcode) last.read last.write

  here-sound : sound_word size (get_or core pc 0) ≡ true
  here-sound = rw f.is at f.sound

  read-two : (sound_seen size first && sound_seen size last) ≡ true
  read-two = sym (every-join (sound_word size) first.seen last.seen) ∙ x.read

  pub sound-a : sound_seen size first ≡ true
  sound-a = (both (sound_seen size first) (sound_seen size last) read-two).0

  pub sound-b : sound_seen size last ≡ true
  sound-b = (both (sound_seen size first) (sound_seen size last) read-two).1

  pub still-sound : sound_word size (get_or first.core pc 0) ≡ true
  still-sound = sound-after rules core pc _ _ f.place f.valid sound-a pc here-sound

  pub long-a : length first.core ≡ size
  long-a = length-operand s core _ _ ∙ f.cells

  -- both registers are sound, and so are the cells at the B pointers
  pub register-a : sound_word size (get_or first.seen 2 0) ≡ true
  register-a = register-sound rules core pc _ _ f.place f.valid sound-a

  pub register-b : sound_word size (get_or last.seen 2 0) ≡ true
  register-b = register-sound rules first.core pc _ _ f.place f.valid sound-b

  at_target : sound_word size (get_or last.core last.write 0) ≡ true
  at_target = target_sound rules first.core pc _ _ f.place f.valid sound-b

  met-sound : (t : Bool) → sound_word size (get_or last.core (cond t last.read last.write) 0) ≡ true
  met-sound true = live-sound rules first.core pc _ _ f.place f.valid sound-b
  met-sound false = at_target

  met-below : (t : Bool) → cond t last.read last.write < size
  met-below true = read_below rules first.core pc _ _ f.place
  met-below false = write-below rules first.core pc _ _ f.place

  -- the process goes on inside the core
  places : Places (λ p. p < size) (effect_at s core).next
  places =
      (effect-sound (scene_at s core) (read_below rules core pc _ _ f.place)
      (subst (Sound size) (register-whole rules core pc _ _) (sound-fields size _ register-a).1)
      (subst (Sound size) (register-whole rules first.core pc _ _) (sound-fields size _ register-b).1)
      (sound-fields size _ at_target).1
      (fetched core pc).opcode).next

  pub near : (w : ℕ) {r : Executed} → r ≡ answered (effect_at s core).next w → Near r
  near w e = subst Near (sym e) (near_next f.valid (effect_at s core).next w places)

  few-opcodes : (fetched core pc).opcode < 17
  few-opcodes = let h : (fetched core pc).opcode ≤ 16 = rw f.is at x.few in omega arith

  module _ (o : Operands) (c2 : List ℕ) (go : (o ≡ operands_at s core) × (c2 ≡ last.core)) where
    target_is : o.target.0 ≡ met
    target_is = ap (λ (p : Operands). p.target.0) go.0 ∙ by (compares (fetched core pc).opcode)
      where
        by : (t : Bool) → (cond t (absolute last.read) (absolute last.write)).0 ≡ cond t last.read last.write
        by true = refl
        by false = refl

    ra-is : o.ra ≡ get_or first.seen 2 0
    ra-is = ap (λ (p : Operands). p.ra) go.0

    rb-is : o.rb ≡ get_or last.seen 2 0
    rb-is = ap (λ (p : Operands). p.rb) go.0

    jump-is : o.jump.0 ≡ first.read
    jump-is = ap (λ (p : Operands). p.jump.0) go.0

    pub target-inside : o.target.0 < length c2
    target-inside = rw (go.1, target_is, length-operand s first.core _ _, long-a) (met-below (compares (fetched core pc).opcode))

    pub target-sound : sound_word size (get_or c2 o.target.0 0) ≡ true
    target-sound = rw (go.1, target_is) (met-sound (compares (fetched core pc).opcode))

    module _ {am bm wa wb : ℕ} (ea : am ≡ (unpacked here).a_mode) (eb : bm ≡ (unpacked here).b_mode) (ua : wa ≡ length (shifted (get_or shifts am keeps) 0))
        (ub : wb ≡ length (shifted (get_or shifts bm keeps) 0)) where
      wa-is : wa ≡ length first.written
      wa-is = ua ∙ rw (ea, f.is) (writes_are rules core pc (fetched core pc).a_mode (fetched core pc).a.0)

      wb-is : wb ≡ length last.written
      wb-is = ub ∙ rw (eb, f.is) (writes_are rules first.core pc (fetched core pc).b_mode (fetched first.core pc).b.0)

      -- what holds of the scene, and of the target
      pub scene-sound : SoundScene size (unpacked here).modifier pc o.ra o.rb (wa + wb)
      scene-sound =
          let few = few-changes am bm ua ub in
          rw (ra-is, rb-is) (record {
            valid = f.valid;
            row = (sound-fields size here f.sound).1.modifier;
            place = f.place;
            sound_a = register-a;
            sound_b = register-b;
            few = few;
          })

      writes-sum : length (written_at s core) ≡ wa + wb + store_writes (effect_at s core).cell
      writes-sum =
          let t = stored-writes (effect_at s core).cell last.write in
          let p = wa-is in
          let q = wb-is in
          omega (arith, writes_at s core)

      -- the code's scene has one cell for the live one and the target
      abbrev coded : machine.Scene
      coded =
          record {
            size = size;
            modifier = (unpacked here).modifier;
            pc = pc;
            jump = o.jump.0;
            ra = unpacked o.ra;
            rb = unpacked o.rb;
            live = unpacked (get_or c2 o.target.0 0);
            target = unpacked (get_or c2 o.target.0 0);
          }

      cell-is : (t : Bool) → cell_at last.core (cond t last.read last.write) ≡ cond t (cell_at last.core last.read) (cell_at last.core last.write)
      cell-is true = refl
      cell-is false = refl

      live-is : unpacked (get_or c2 o.target.0 0)
          ≡ cond (compares (fetched core pc).opcode) (cell_at last.core last.read) (cell_at last.core last.write)
      live-is = rw (go.1, target_is) (cell-is (compares (fetched core pc).opcode))

      effect_is : effect_of (fetched core pc).opcode coded ≡ effect_at s core
      effect_is =
          (λ i. effect_of (fetched core pc).opcode
          (record {
            size = size;
            modifier = (unpacked (f.is i)).modifier;
            pc = pc;
            jump = jump-is i;
            ra = (ap unpacked ra-is ∙ register-whole rules core pc (fetched core pc).a_mode (fetched core pc).a.0) i;
            rb = (ap unpacked rb-is ∙ register-whole rules first.core pc (fetched core pc).b_mode (fetched first.core pc).b.0) i;
            live = live-is i;
            target = live-is i;
          }))
          ∙ one_cell size (fetched core pc).modifier pc first.read first.register last.register
          (cell_at last.core last.read) (cell_at last.core last.write) (fetched core pc).opcode few-opcodes

      store_is : store_to (effect_at s core).cell last.core met ≡ core_at s core
      store_is =
          one_store size (fetched core pc).modifier pc first.read first.register last.register
          (cell_at last.core last.read) (cell_at last.core last.write) last.core last.read last.write (fetched core pc).opcode few-opcodes

      pub done : {m : machine.Scene} → (m.size ≡ size) × (m.modifier ≡ (unpacked here).modifier) × (m.pc ≡ pc) × (m.jump ≡ o.jump.0) × (m.ra ≡ unpacked o.ra)
          × (m.rb ≡ unpacked o.rb) × (m.live ≡ unpacked (get_or c2 o.target.0 0)) × (m.target ≡ unpacked (get_or c2 o.target.0 0))
          → {op : ℕ} → op ≡ (unpacked here).opcode → (r : Executed) (v : ℕ)
          → (r ≡ answered (effect_of op m).next (wa + wb + store_writes (effect_of op m).cell)) × (v ≡ over (effect_of op m).cell (get_or c2 o.target.0 0))
          → (r ≡ answered (effect_at s core).next (length (written_at s core))) × (set c2 o.target.0 v ≡ core_at s core)
      done {m = m} g eo r v d =
          let is : m ≡ coded
          = λ i. record { size = g.0 i; modifier = g.1 i; pc = g.2 i; jump = g.3 i; ra = g.4 i; rb = g.5 i; live = g.6 i; target = g.7 i } in
          let e : effect_of _ m ≡ effect_at s core
          = (λ i. effect_of ((eo ∙ ap (λ (w : ℕ). (unpacked w).opcode) f.is) i) (is i)) ∙ effect_is in (
            d.0 ∙ (λ i. answered (e i).next (wa + wb + store_writes (e i).cell)) ∙ ap (answered (effect_at s core).next) (sym writes-sum),
            ap (set c2 o.target.0) (d.1 ∙ ap (λ (x : Effect). over x.cell (get_or c2 o.target.0 0)) e)
                ∙ over-store (effect_at s core).cell c2 o.target.0 ∙ rw (go.1, target_is) store_is,
          )
