-- Execution: what the machine does with its registers is what the draft does, where no departure applies.
-- Assumes nothing.
use Prim.Native.Nat.{ℕ, ◌+◌, ◌-◌, ◌*◌, ◌%◌, ◌≤◌, ◌<◌}
use mathlib.Core.Path.{◌≡◌, refl, sym, ap, ap₂, ◌∙◌, fun_ext}
use mathlib.Core.Bool.{Bool, true, false, cond, not, ◌&&◌, ◌||◌, true≢false}
use mathlib.Core.List.{List, [], ◌∷◌, map}
use mathlib.Core.Option.{none, some}
use native.Mathlib.Nat.{mod-lt, add_comm, mul_comm}
use native.Mathlib.Omega.{arith}
use lib.Dec.{eqb, ltb, lit<}
use borrow.Author.Tests.{eqb-true, eqb-false, not-false}
use lib.ListN.{length, get_or, set, length-map}
use Rattle.laws.specs.Lists.{among}
use Rattle.laws.proofs.Tests.{both, neither}
use Rattle.laws.proofs.Numbers.{below}
use Rattle.laws.proofs.Every.{◌and◌}
use Rattle.cell.specs.declared.Cell.{Cell}
use Rattle.offset.specs.Offset.{ahead}
use Rattle.types.specs.Opcode.{MOV, DIV, MOD, JMZ, DJN, CMP, SEQ, SNE}
use Rattle.types.specs.Modifier as modifier
use Rattle.cell.specs.Cells.{packed, unpacked}
use Rattle.cell.proofs.Words.{InRange, word-range, cell-ext}
use Rattle.machine.specs.Pointers.{less}
use Rattle.machine.specs.Execution.{Next, ends, goes, splits, Scene, Effect, copied, computes, stored, equal, effect_of}
use Rattle.machine.specs.Instruction.{store_to}
use Rattle.machine.proofs.Execution.{row, row-computes}
use Rattle.draft.specs.Draft.{modifiers, I, opcodes, NOP, State, Done, compute, test, execute, move, arithmetic, decrement_jump, jumps, skip}
use Rattle.draft.specs.Draft
use Rattle.draft.specs.Departures.{twins}
use Rattle.draft.proofs.Cores.{stores, reads}
use Rattle.draft.proofs.Rows.{row-stored, row-range, row-test, row-some, row-lone}
use Rattle.draft.proofs.Whole.{row-equal}

-- the places to go on at, in order
abbrev pub nexts : Next → List ℕ
nexts (ends x) = []
nexts (goes p) = p ∷ []
nexts (splits p c) = p ∷ c ∷ []

-- an effect on the core of words, with its target at t, and what the draft does
pub record Agree (e : Effect) (words : List ℕ) (t : ℕ) (d : Done) : Type 0 where
  pub core : map unpacked (store_to e.cell words t) ≡ d.core
  pub next : nexts e.next ≡ d.next

-- departures 2 to 6 do not apply, told of the opcode, the modifier, the registers, the live cell and the target
pub record Clear (op k : ℕ) (ra rb live target : Cell) : Type 0 where
  pub modes : (eqb op MOV && eqb k modifier.I && not (eqb ra.a_mode target.a_mode && eqb ra.b_mode target.b_mode)) ≡ false
  pub compares : (among (CMP ∷ SEQ ∷ SNE ∷ []) op && eqb k modifier.I) ≡ true → rb ≡ live
  pub counts : eqb op DJN ≡ true → rb ≡ target
  pub divides : among (DIV ∷ MOD ∷ []) op ≡ false
  pub tests : (eqb op JMZ && among (modifier.F ∷ modifier.X ∷ modifier.I ∷ []) k) ≡ false
  pub twins : (among (CMP ∷ SEQ ∷ SNE ∷ []) op && eqb k modifier.I && twins ra live) ≡ false

one_of : (b : Bool) (x y : ℕ) → cond b x y ∷ [] ≡ cond b (x ∷ []) (y ∷ [])
one_of true x y = refl
one_of false x y = refl

other-of : (b : Bool) (x y : ℕ) → cond (not b) x y ∷ [] ≡ cond b (y ∷ []) (x ∷ [])
other-of true x y = refl
other-of false x y = refl

-- A, B, AB and BA are the modifiers of one pair
one-pair : (k : ℕ) → k < 7 → among (modifier.F ∷ modifier.X ∷ modifier.I ∷ []) k ≡ false → k < 4
one-pair k h e =
    let f = neither (eqb k 4) (eqb k 5 || (eqb k 6 || false)) e in
    let x = neither (eqb k 5) (eqb k 6 || false) f.1 in
    let i = neither (eqb k 6) false x.1 in
    omega (arith, h, eqb-false k 4 f.0, eqb-false k 5 x.0, eqb-false k 6 i.0)

module _ (M : ℕ) (pos : 0 < M) (fits : M ≤ 65536) (pc jump : ℕ) (ra rb live : Cell) (ranged : InRange ra) (lives : InRange live)
    (words : List ℕ) (t : ℕ) (inside : t < length words) where
  small : (x : ℕ) → x % M < 65536
  small x = let h : x % M < M = mod-lt x pos in omega arith

  abbrev target : Cell
  target = unpacked (get_or words t 0)

  abbrev scene : ℕ → Scene
  scene k = record { size = M; modifier = k; pc = pc; jump = jump; ra = ra; rb = rb; live = live; target = target }

  abbrev state : ℕ → State
  state k = record { M = M; modifier = get_or modifiers k I; PC = pc; jump = jump; target = t; IRA = ra; IRB = rb; core = map unpacked words }

  -- results stored to the target
  puts : (k : ℕ) → k < 7 → (v : ℕ → ℕ → ℕ) → ((a b : ℕ) → a < 65536 → v a b < 65536)
      → map unpacked (set words t (packed (stored (λ a b. some (v a b)) (row k ra rb) target)))
      ≡ compute (λ b a. some (v a b)) (get_or modifiers k I) t ra rb (map unpacked words)
  puts k kl v s =
      stores words t (row-range ra rb v target s ranged (word-range (get_or words t 0)) k kl)
      ∙ ap (λ (c : Cell). set (map unpacked words) t (stored (λ a b. some (v a b)) (row k ra rb) c)) (sym (reads words t))
      ∙ row-stored ra rb v (map unpacked words) t (rw (length-map words unpacked) inside) k kl

  -- MOV: under I the whole register, where the modes are alike
  is_move : (k : ℕ) → k < 7 → (eqb k modifier.I && not (eqb ra.a_mode target.a_mode && eqb ra.b_mode target.b_mode)) ≡ false
      → map unpacked (set words t (packed (stored (λ a b. some a) (row k ra rb) (copied (scene k))))) ≡ (move (state k)).core
  is_move =
      below _ 7
      (numbers 0 (lit< tt)
      and numbers 1 (lit< tt)
      and numbers 2 (lit< tt)
      and numbers 3 (lit< tt)
      and numbers 4 (lit< tt)
      and numbers 5 (lit< tt)
      and (λ d. whole (both (eqb ra.a_mode target.a_mode) (eqb ra.b_mode target.b_mode) (not-false _ d)))
      and tt)
    where
      numbers : (k : ℕ) → k < 7 → {N : Type 0} → N
          → map unpacked (set words t (packed (stored (λ a b. some a) (row k ra rb) target))) ≡ compute (λ b a. some a) (get_or modifiers k I) t ra rb (map unpacked words)
      numbers k kl d = puts k kl (λ a b. a) (λ a b h. h)

      whole : (eqb ra.a_mode target.a_mode ≡ true) × (eqb ra.b_mode target.b_mode ≡ true)
          → map unpacked (set words t (packed (record { opcode = ra.opcode; modifier = ra.modifier; a_mode = target.a_mode; b_mode = target.b_mode; a = ra.a; b = ra.b })))
          ≡ set (map unpacked words) t ra
      whole q =
          ap (λ (c : Cell). map unpacked (set words t (packed c))) (cell-ext {d = ra} refl refl (sym (eqb-true _ _ q.0)) (sym (eqb-true _ _ q.1)) refl refl)
          ∙ stores words t ranged

  module _ (k : ℕ) (kl : k < 7) where
    -- ADD, SUB, MUL
    is-arithmetic : (v : ℕ → ℕ → ℕ → ℕ) (op : ℕ → ℕ → ℕ) → ((a b : ℕ) → v M a b ≡ op b a % M)
        → Agree (computes (scene k) (λ size a b. some (v size a b)) target) words t (arithmetic (state k) op)
    is-arithmetic v op q =
        rw (row-computes v M pc jump ra rb live target target k kl)
        (record {
          core =
              puts k kl (v M) (λ a b h. rw (q a b) (small _))
              ∙ ap (λ (g : ℕ → ℕ → ℕ). compute (λ b a. some (g b a)) (get_or modifiers k I) t ra rb (map unpacked words)) (fun_ext (λ b. fun_ext (λ a. q a b)));
          next = refl;
        })

    -- DJN, where the target cell is still the register
    is-decrement-jump : rb ≡ target → Agree (effect_of DJN (scene k)) words t (decrement_jump (state k))
    unfolding effect_of
    is-decrement-jump q =
        record {
          core =
              puts k kl (λ a b. less M b) (λ a b h. small _)
              ∙ ap₂ (λ (g : ℕ → ℕ) (c : Cell). compute (λ b a. some (g b)) (get_or modifiers k I) t ra c (map unpacked words)) less-is (q ∙ sym (reads words t));
          next =
              ap (λ (b : Bool). cond b jump (ahead M pc 1) ∷ []) (row-some ra rb (λ a b. eqb (less M b) 0) k kl)
              ∙ other-of (test (λ a b. eqb (less M b) 0) (get_or modifiers k I) ra rb) jump (ahead M pc 1)
              ∙ ap (λ (g : ℕ → ℕ). cond (test (λ a b. eqb (g b) 0) (get_or modifiers k I) ra rb) (ahead M pc 1 ∷ []) (jump ∷ [])) less-is;
        }
      where
        less-is : ◌≡◌ {A = ℕ → ℕ} (λ b. less M b) (λ b. (b + M - 1) % M)
        less-is = fun_ext (λ b. ap (λ (x : ℕ). x % M) (let e : b + (M - 1) ≡ b + M - 1 = omega arith in e))

    -- JMZ, JMN; CMP, SEQ, SNE, SLT
    to-jump : (x y : Bool) → x ≡ y → Agree (record { cell = none; next = goes (cond x jump (ahead M pc 1)) }) words t (jumps (state k) y)
    to-jump x y e = record { core = refl; next = one_of x jump (ahead M pc 1) ∙ ap (λ (b : Bool). cond b (jump ∷ []) (ahead M pc 1 ∷ [])) e }

    to-skip : (x y : Bool) → x ≡ y → Agree (record { cell = none; next = goes (cond x (ahead M pc 2) (ahead M pc 1)) }) words t (skip (state k) y)
    to-skip x y e =
        record { core = refl; next = one_of x (ahead M pc 2) (ahead M pc 1) ∙ ap (λ (b : Bool). cond b (ahead M pc 2 ∷ []) (ahead M pc 1 ∷ [])) e }

    equals : (eqb k modifier.I ≡ true → rb ≡ live) → (eqb k modifier.I && twins ra live) ≡ false → equal (scene k) ≡ Draft.equal (state k)
    equals u n = row-equal M pc jump ra rb live target ranged lives k kl u n

    -- the seventeen opcodes: DAT MOV ADD SUB MUL DIV MOD JMP JMZ JMN DJN CMP SEQ SNE SLT SPL NOP
    pub same_effect : (op : ℕ) → op < 17 → Clear op k ra rb live target → Agree (effect_of op (scene k)) words t (execute (get_or opcodes op NOP) (state k))
    unfolding effect_of
    same_effect =
        below _ 17
        ((λ c. record { core = refl; next = refl })
        and (λ c. rw (row-computes (λ size a b. a) M pc jump ra rb live target (copied (scene k)) k kl) (record { core = is_move k kl c.modes; next = refl }))
        and (λ c. is-arithmetic (λ size a b. ahead size a b) (λ b a. b + a) (λ a b. ap (λ (x : ℕ). x % M) (add_comm a b)))
        and (λ c. is-arithmetic (λ size a b. ahead size b (size - a)) (λ b a. b + (M - a)) (λ a b. refl))
        and (λ c. is-arithmetic (λ size a b. a * b % size) (λ b a. b * a) (λ a b. ap (λ (x : ℕ). x % M) (mul_comm a b)))
        and (λ c. absurd (true≢false c.divides))
        and (λ c. absurd (true≢false c.divides))
        and (λ c. record { core = refl; next = refl })
        and (λ c. to-jump _ _ (row-lone ra rb (λ a b. eqb b 0) k (one-pair k kl c.tests)))
        and (λ c. to-jump _ _ (row-some ra rb (λ a b. eqb b 0) k kl))
        and (λ c. is-decrement-jump (c.counts refl))
        and (λ c. to-skip _ _ (equals c.compares c.twins))
        and (λ c. to-skip _ _ (equals c.compares c.twins))
        and (λ c. to-skip _ _ (ap not (equals c.compares c.twins)))
        and (λ c. to-skip _ _ (row-test ra rb ltb k kl))
        and (λ c. record { core = refl; next = refl })
        and (λ c. record { core = refl; next = refl })
        and tt)
