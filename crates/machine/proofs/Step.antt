-- Laws of a step. For every machine: refusals, steps counted, lengths, writes, pushes. A sound header and a sound core stay sound.
-- Assumes nothing.
use Prim.Native.Nat.{ℕ, ◌+◌, ◌-◌, ◌≤◌, ◌<◌}
use mathlib.Core.Path.{◌≡◌, refl, sym, ap, ◌∙◌}
use mathlib.Core.Bool.{Bool, true, false, cond, ◌||◌, true≢false}
use mathlib.Core.List.{List, [], ◌∷◌}
use mathlib.Core.Option.{Option, none, some}
use native.Mathlib.Nat.{add-zero}
use native.Mathlib.Omega.{arith}
use lib.Dec.{eqb}
use lib.ListN.{length, get_or, length-append, length-set}
use lib.Seq.{get_or-set_same}
use borrow.Author.Tests.{lt-leb, eqb-false, not-false}
use Rattle.laws.specs.Lists.{one_if, among, every}
use Rattle.laws.proofs.Tests.{neither}
use Rattle.laws.proofs.Every.{◌and◌, every-join}
use Rattle.answer.specs.Numbers.{Told, gives}
use Rattle.cell.specs.declared.Cell.{Cell}
use Rattle.cell.specs.Cells.{sound_word}
use Rattle.types.specs.Opcode.{LDP, STP}
use Rattle.machine.specs.State.{Machine, Outcome, accepted, refusal, first, settle}
use Rattle.machine.specs.Queue.{front, name_of, full, pop}
use Rattle.machine.specs.Pointers.{Site}
use Rattle.machine.specs.Execution.{Ending, dat, divisor, Next, ends, goes, splits}
use Rattle.machine.specs.Instruction.{a_operand, b_operand, scene_at, effect_at, store_to, stored_at, seen_at, written_at}
use Rattle.machine.specs.Step.{popped, pc, site, instruction, operand_a, operand_b, effect, core_after, step_written, step_writes, counted, end_told, next_told, executed, step_checks, step, executes}
use Rattle.machine.proofs.Checks.{passed, settle-by-cases, Refused, refused}
use Rattle.machine.proofs.Names.{Shape, Held, held_at}
use Rattle.machine.proofs.Soundness.{SoundHeader, counts-long, room, count-most, sound-header, pop-sound, counted-sound, SoundEntry, sound-entry}
use Rattle.machine.proofs.Pointers.{length-operand, operand-writes, SoundCore, cell_set, fields_at, SoundOperand, operand_sound}
use Rattle.machine.proofs.Queueing.{queue-only, queued-sound}
use Rattle.machine.proofs.Execution.{Places, SoundStore, SoundEffect, effect-sound}

-- the core
length-store : (c : Option Cell) (core : List ℕ) (p : ℕ) → length (store_to c core p) ≡ length core
length-store none core p = refl
length-store (some c) core p = length-set core p _

length-core-after : (m : Machine) → length (core_after m) ≡ length m.core
unfolding core_after effect
length-core-after m =
    length-store (effect m).cell (operand_b m).core (operand_b m).write
    ∙ length-operand (site m) (operand_a m).core (instruction m).b_mode _
    ∙ length-operand (site m) m.core (instruction m).a_mode (instruction m).a.0

-- writes are those of both operands and the store, at most three
stored_one : (c : Option Cell) (p : ℕ) → length (stored_at c p) ≤ 1
stored_one none p = omega arith
stored_one (some c) p = omega arith

pub writes_at : (s : Site) (core : List ℕ)
    → length (written_at s core)
    ≡ length (a_operand s core).written + (length (b_operand s core).written + length (stored_at (effect_at s core).cell (b_operand s core).write))
writes_at s core =
    length-append (a_operand s core).written _ ∙ ap (λ (k : ℕ). length (a_operand s core).written + k) (length-append (b_operand s core).written _)

pub step-writes : (m : Machine)
    → step_writes m ≡ length (operand_a m).written + (length (operand_b m).written + length (stored_at (effect m).cell (operand_b m).write))
unfolding step_written effect
step-writes m = writes_at (site m) m.core

pub step-writes-three : (m : Machine) → step_writes m ≤ 3
step-writes-three m =
    let a : length (operand_a m).written ≤ 1 = operand-writes _ _ _ _ in
    let b : length (operand_b m).written ≤ 1 = operand-writes _ _ _ _ in
    let c : length (stored_at (effect m).cell (operand_b m).write) ≤ 1 = stored_one (effect m).cell (operand_b m).write in
    omega (arith, step-writes m)

-- of a sound core, at a place of it: both operands read sound cells, the next places are places of it, and it stays sound
module _ (m : Machine) (c : SoundCore m.header.rules.size m.core) (h : pc m < m.header.rules.size) where
  pub operand-a-sound : SoundOperand m.header.rules.size (operand_a m)
  operand-a-sound = operand_sound (site m) m.core (instruction m).a_mode (instruction m).a.0 c h

  pub operand-b-sound : SoundOperand m.header.rules.size (operand_b m)
  operand-b-sound = operand_sound (site m) (operand_a m).core (instruction m).b_mode _ operand-a-sound.core h

  pub seen-sound : every (sound_word m.header.rules.size) (seen_at (site m) m.core) ≡ true
  seen-sound =
      every-join (sound_word m.header.rules.size) (operand_a m).seen (operand_b m).seen ∙ rw (operand-a-sound.seen, operand-b-sound.seen)

  effect-is-sound : SoundEffect m.header.rules.size (effect m)
  unfolding effect
  effect-is-sound =
      effect-sound (scene_at (site m) m.core) operand-a-sound.read operand-a-sound.register operand-b-sound.register
      (fields_at m.header.rules.size (operand_b m).core operand-b-sound.core (operand_b m).write operand-b-sound.write)
      (instruction m).opcode

  pub next-places : Places (λ p. p < m.header.rules.size) (effect m).next
  next-places = effect-is-sound.next

  core-after-sound : SoundCore m.header.rules.size (core_after m)
  unfolding core_after effect
  core-after-sound = store (effect m).cell effect-is-sound.cell
    where
      store : (x : Option Cell) → SoundStore m.header.rules.size x → SoundCore m.header.rules.size (store_to x (operand_b m).core (operand_b m).write)
      store none s = operand-b-sound.core
      store (some x) s = cell_set m.header.rules.size (operand_b m).core (operand_b m).write x operand-b-sound.core s

-- an instruction executed
pub record Executed (m : Machine) (o : Outcome) : Type 0 where
  pub core : o.machine.core ≡ core_after m
  pub rules : o.machine.header.rules ≡ m.header.rules
  pub steps : o.machine.header.steps ≡ m.header.steps + 1
  pub names : o.machine.header.names ≡ m.header.names
  pub counted : o.steps ≡ 1
  pub writes : o.writes ≡ step_writes m
  pub pushes : o.pushes ≤ 2
  pub executes : executes o.number ≡ true

executes-next : (x : Next) (left place : ℕ) → executes (next_told x left place).number ≡ true
executes-next (goes p) left place = refl
executes-next (splits p c) left place = refl
executes-next (ends x) left place = go x (eqb left 0)
  where
    go : (x : Ending) (b : Bool) → executes (cond {A = Told} b (end_told x place) (gives 0 0)).number ≡ true
    go dat true = refl
    go dat false = refl
    go divisor true = refl
    go divisor false = refl

pub is-executed : (m : Machine) → Executed m (executed m)
unfolding executed counted pop
is-executed m =
    let q = queue-only (effect m).next (popped m) (counted (core_after m) (pop m)) in
    record {
      core = q.core;
      rules = q.rules;
      steps = q.steps;
      names = q.names;
      counted = refl;
      writes = refl;
      pushes = q.pushes;
      executes = executes-next (effect m).next _ _;
    }

-- a step is refused, and leaves the machine as it was, or it executes an instruction
pub step-by-cases : (P : Outcome → Type 0) (m : Machine)
    → ((n v : ℕ) → first (step_checks m) ≡ refusal n v → executes n ≡ false → P (settle (refusal n v) m (executed m)))
    → (first (step_checks m) ≡ accepted → P (executed m))
    → P (step m)
unfolding step
step-by-cases P m =
    settle-by-cases (λ n. executes n ≡ false) (step_checks m) m (executed m) (refl and refl and refl and refl and refl and refl and refl and tt) P

pub step-refused : (m : Machine) → executes (step m).number ≡ false → Refused m (step m)
step-refused m =
    step-by-cases (λ o. executes o.number ≡ false → Refused m o) m (λ n v e x f. refused n v m (executed m))
    (λ e f. absurd (true≢false (sym (is-executed m).executes ∙ f)))

pub step-executed : (m : Machine) → executes (step m).number ≡ true → (first (step_checks m) ≡ accepted) × Executed m (step m)
step-executed m =
    step-by-cases (λ o. executes o.number ≡ true → (first (step_checks m) ≡ accepted) × Executed m o) m
    (λ n v e x t. absurd (true≢false (sym t ∙ x))) (λ e t. (e, is-executed m))

-- steps rise by one exactly when an instruction is executed, and the step reports it
pub step_counts : (m : Machine)
    → ((step m).machine.header.steps ≡ m.header.steps + one_if (executes (step m).number)) × ((step m).steps ≡ one_if (executes (step m).number))
step_counts m =
    step-by-cases (λ o. (o.machine.header.steps ≡ m.header.steps + one_if (executes o.number)) × (o.steps ≡ one_if (executes o.number))) m
    (λ n v e x. (rw (x, add-zero m.header.steps), rw x))
    (λ e. let i = is-executed m in (rw i.executes i.steps, rw i.executes i.counted))

-- the answer 0 has no value
value-next : (x : Next) (left place : ℕ) → (next_told x left place).number ≡ 0 → (next_told x left place).value ≡ 0
value-next (goes p) left place e = refl
value-next (splits p c) left place e = refl
value-next (ends x) left place e = go x (eqb left 0) e
  where
    go : (x : Ending) (b : Bool) → (cond {A = Told} b (end_told x place) (gives 0 0)).number ≡ 0 → (cond {A = Told} b (end_told x place) (gives 0 0)).value ≡ 0
    go dat true e = absurd (omega arith)
    go dat false e = refl
    go divisor true e = refl
    go divisor false e = refl

pub step_value : (m : Machine) → (step m).number ≡ 0 → (step m).value ≡ 0
unfolding executed
step_value m =
    step-by-cases (λ o. o.number ≡ 0 → o.value ≡ 0) m (λ n v e x z. absurd (true≢false (sym (ap executes z) ∙ x)))
    (λ e. value-next (effect m).next _ _)

-- the rules and the names stay
pub step-fixed : (m : Machine) → ((step m).machine.header.rules ≡ m.header.rules) × ((step m).machine.header.names ≡ m.header.names)
step-fixed m =
    step-by-cases (λ o. (o.machine.header.rules ≡ m.header.rules) × (o.machine.header.names ≡ m.header.names)) m (λ n v e x. (refl, refl))
    (λ e. let i = is-executed m in (i.rules, i.names))

-- a step that passed its checks: the queue is not empty, and header and front entry are sound
pub record Ready (m : Machine) : Type 0 where
  pub some : 0 < m.header.ring.length
  pub header : SoundHeader m
  pub entry : SoundEntry m.header (front m)

pub nonzero : {k : ℕ} → eqb k 0 ≡ false → 0 < k
nonzero {k} h = let f : k ≡ 0 → ⊥ = eqb-false k 0 h in omega arith

pub step-some : (m : Machine) → first (step_checks m) ≡ accepted → 0 < m.header.ring.length
step-some m e = nonzero (passed (step_checks m) e).1.0

pub ready : (m : Machine) → Shape m.header → first (step_checks m) ≡ accepted → Ready m
ready m s e =
    let p = passed (step_checks m) e in
    record {
      some = nonzero p.1.0;
      header = sound-header m s (not-false _ p.0);
      entry = sound-entry m.header (front m) (not-false _ p.1.1.0);
    }

-- LDP and STP are the last two
pub not_last : (op : ℕ) → op ≤ 18 → among (LDP ∷ STP ∷ []) op ≡ false → op < 17
not_last op h e =
    let l = neither (eqb op 17) (eqb op 18 || false) e in
    let s = neither (eqb op 18) false l.1 in
    omega (arith, h, eqb-false op 17 l.0, eqb-false op 18 s.0)

-- popped, the step counted, and nothing pushed yet
abbrev pub counting : Machine → Machine
counting m = counted (core_after m) (pop m)

module _ (m : Machine) (r : Ready m) where
  -- the front entry's name is held
  pub front-held : Held m.header (popped m).name (name_of m (front m))
  front-held = held_at m.header (popped m).name r.header.unlike r.entry.held

  pop-size : length (core_after m) ≡ (pop m).header.rules.size
  unfolding pop
  pop-size = length-core-after m ∙ r.header.core

  pub counting-sound : SoundHeader (counting m)
  counting-sound = counted-sound (pop m) (pop-sound m r.header r.some r.entry.held r.entry.count) (core_after m) pop-size

  -- and holds fewer than P
  pub counting-free : full (counting m) (popped m).name ≡ false
  unfolding counted pop
  counting-free =
      let c = get_or m.header.counts (popped m).name 0 in
      let l = count-most m r.header (popped m).name r.entry.held in
      rw (get_or-set_same m.header.counts (popped m).name (c - 1) 0 (omega (arith, r.entry.held, counts-long m r.header)))
      (lt-leb m.header.rules.processes (c - 1) (omega (arith, r.entry.count)))

  pub counting-held : (popped m).name < (counting m).header.names.held
  unfolding counted pop
  counting-held = r.entry.held

  pub counting-room : (counting m).header.ring.length < length (counting m).queue
  counting-room = room (counting m) counting-sound (popped m).name counting-held counting-free

-- a sound header stays sound
pub executed-sound : (m : Machine) → Ready m → SoundHeader (executed m).machine
unfolding executed
executed-sound m r =
    queued-sound (effect m).next (popped m) (counting m) (counting-sound m r) (counting-held m r) (counting-free m r)

pub step-sound : (m : Machine) → SoundHeader m → SoundHeader (step m).machine
step-sound m s = step-by-cases (λ o. SoundHeader o.machine) m (λ n v e x. s) (λ e. executed-sound m (ready m s.shape e))

-- a sound core stays sound
pub executed-core-sound : (m : Machine) → SoundCore m.header.rules.size m.core → pc m < m.header.rules.size
    → SoundCore m.header.rules.size (executed m).machine.core
executed-core-sound m c h = rw (is-executed m).core (core-after-sound m c h)

pub step-core-sound : (m : Machine) → SoundCore m.header.rules.size m.core → SoundCore m.header.rules.size (step m).machine.core
step-core-sound m c =
    step-by-cases (λ o. SoundCore m.header.rules.size o.machine.core) m (λ n v e x. c)
    (λ e. executed-core-sound m c (sound-entry m.header (front m) (not-false _ (passed (step_checks m) e).1.1.0)).place)
