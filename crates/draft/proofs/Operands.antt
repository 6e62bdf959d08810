-- The machine's operand is the draft's, by the same limits.
-- Assumes nothing.
use Prim.Native.Nat.{ℕ, ◌+◌, ◌-◌, ◌%◌, ◌≤◌, ◌<◌}
use mathlib.Core.Path.{◌≡◌, refl, sym, ap, ◌∙◌, subst}
use mathlib.Core.Bool.{Bool, true, false, ◌&&◌}
use mathlib.Core.List.{List, [], ◌∷◌, map}
use native.Mathlib.Nat.{mod-lt, mod-eq_of_lt, mod-eq-sub-mod, add-zero}
use native.Mathlib.Omega.{arith}
use lib.Dec.{eqb, ltb}
use borrow.Author.Tests.{eqb-false, ltb-true, ltb-false}
use lib.ListN.{length, get_or}
use Rattle.laws.specs.Lists.{among}
use Rattle.laws.proofs.Numbers.{below}
use Rattle.laws.proofs.Every.{◌and◌}
use Rattle.cell.specs.declared.Cell.{Cell}
use Rattle.offset.specs.Offset.{ahead}
use Rattle.types.specs.declared.field.Field.{Field}
use Rattle.types.specs.declared.field.Field.TheVariants.{A, B}
use Rattle.types.specs.Mode.{PreDecIndirectB, PostIncIndirectA, PostIncIndirectB}
use Rattle.cell.specs.Cells.{unpacked, number, cell_at}
use Rattle.offset.proofs.Offsets.{ahead-lt}
use Rattle.cell.proofs.Words.{InRange, word-range}
use Rattle.machine.specs.declared.Rules.{Rules}
use Rattle.machine.specs.Pointers.{fold, located, pointed, changed, less, more, Site, site_at, operand}
use Rattle.machine.specs.Pointers as machine
use Rattle.machine.proofs.Pointers.{length-operand, changed-other}
use Rattle.draft.specs.Evaluation.{Operand, Fold, at, assign, modes, immediate, direct, predecrement, postincrement, decrement, evaluate, through}
use Rattle.draft.specs.Comparison.{draft_rules}
use Rattle.draft.proofs.Cores.{reads, changes, changed-b}

-- less than once round, a place is not met again
apart : (i n l : ℕ) → i < l → n < l → (n ≡ 0 → ⊥) → i ≡ ahead l i n → ⊥
apart i n l hi hn nz e = go (ltb (i + n) l) refl
  where
    go : (b : Bool) → ltb (i + n) l ≡ b → ⊥
    go true t = let h : i + n < l = ltb-true _ _ t in let f : i ≡ i + n = e ∙ mod-eq_of_lt h in omega arith
    go false t = let h : l ≤ i + n = ltb-false _ _ t in let f : i ≡ i + n - l = e ∙ mod-eq-sub-mod h ∙ mod-eq_of_lt (omega arith) in omega arith

-- a core, the pointers for reading and writing and a register of the machine, and the draft's operand
pub record Same (M PC : ℕ) (words : List ℕ) (r w : ℕ) (c : Cell) (d : Operand) : Type 0 where
  pub core : map unpacked words ≡ d.core
  pub read : (PC + d.RP) % M ≡ r
  pub write : (PC + d.WP) % M ≡ w
  pub register : d.register ≡ c

module _ (rules : Rules) (pos : 0 < rules.size) (fits : rules.size ≤ 65536) where
  abbrev M : ℕ
  M = rules.size

  small : (x : ℕ) → x % M < 65536
  small x = let h : x % M < M = mod-lt x pos in omega arith

  module _ (PC n : ℕ) (there : PC < M) where
    abbrev site : Site
    site = site_at rules PC

    -- the write location, and the pointers through the number of a field
    abbrev loc : ℕ
    loc = located site rules.write n

    abbrev reading : Field → List ℕ → ℕ
    reading f core = pointed (machine.through f) site rules.read n core

    abbrev writing : Field → List ℕ → ℕ
    writing f core = pointed (machine.through f) site rules.write n core

    -- through the number of the cell that each chain finds
    goes_through : (f : Field) (core : List ℕ)
        → Same M PC core (reading f core) (writing f core) (cell_at core (reading f core))
        (through (draft_rules rules) (map unpacked core) PC f (Fold n rules.read M) (Fold n rules.write M))
    goes_through f core = record { core = refl; read = p rules.read; write = p rules.write; register = ap (at (map unpacked core)) (p rules.read) ∙ reads core _ }
      where
        p : (limit : ℕ) → (PC + Fold (Fold n limit M + number f (at (map unpacked core) ((PC + Fold n limit M) % M))) limit M) % M ≡ pointed (machine.through f) site limit n core
        p limit = ap (λ (c : Cell). located site limit (Fold n limit M + number f c)) (reads core (located site limit n))

    module _ (core : List ℕ) (long : length core ≡ M) where
      inside : loc < length core
      inside = rw long (ahead-lt M PC _ pos)

      is-immediate : Same M PC core PC PC (cell_at core PC) (evaluate (draft_rules rules) (map unpacked core) PC immediate n)
      is-immediate = record { core = refl; read = here; write = here; register = ap (at (map unpacked core)) here ∙ reads core PC }
        where
          here : (PC + 0) % M ≡ PC
          here = ap (λ (k : ℕ). k % M) (add-zero PC) ∙ mod-eq_of_lt there

      is-direct : Same M PC core (located site rules.read n) loc (cell_at core (located site rules.read n)) (evaluate (draft_rules rules) (map unpacked core) PC direct n)
      is-direct = record { core = refl; read = refl; write = refl; register = reads core _ }

      module _ (f : Field) where
        abbrev held : ℕ
        held = number f (cell_at core loc)

        abbrev lowered : List ℕ
        lowered = changed core loc f (less M held)

        -- the draft's decrement
        lowers-core : map unpacked lowered ≡ decrement (draft_rules rules) (map unpacked core) f loc
        lowers-core =
            changes f core loc (less M held) (small _)
            ∙ ap (λ (x : ℕ). assign f (map unpacked core) loc (x % M))
            (let e : held + (M - 1) ≡ held + M - 1 = omega arith in e ∙ ap (λ (c : Cell). number f c + M - 1) (sym (reads core loc)))

        is-predecrement : Same M PC lowered (reading f lowered) (writing f lowered) (cell_at lowered (reading f lowered))
            (evaluate (draft_rules rules) (map unpacked core) PC (predecrement f) n)
        is-predecrement =
            subst (λ (cs : List Cell). Same M PC lowered (reading f lowered) (writing f lowered) (cell_at lowered (reading f lowered))
            (through (draft_rules rules) cs PC f (Fold n rules.read M) (Fold n rules.write M))) lowers-core (goes_through f lowered)

        is-postincrement : Same M PC (changed core loc f (more M held)) (reading f core) (writing f core) (cell_at core (reading f core))
            (evaluate (draft_rules rules) (map unpacked core) PC (postincrement f) n)
        is-postincrement =
            let t = goes_through f core in
            record {
              core =
                  changes f core loc (more M held) (small _)
                  ∙ ap (λ (c : Cell). assign f (map unpacked core) loc ((number f c + 1) % M)) (sym (reads core loc));
              read = t.read;
              write = t.write;
              register = t.register;
            }

      -- the operand of each mode: # $ * @ { < } >
      pub same_operand : (mode : ℕ) → mode < 8
          → let o = operand site core mode n in
          Same M PC o.core o.read o.write o.register (evaluate (draft_rules rules) (map unpacked core) PC (get_or modes mode immediate) n)
      unfolding operand
      same_operand =
          below _ 8
          (is-immediate
          and is-direct
          and goes_through A core
          and goes_through B core
          and is-predecrement A
          and is-predecrement B
          and is-postincrement A
          and is-postincrement B
          and tt)

      pub operand-long : (mode : ℕ) → length (operand site core mode n).core ≡ M
      operand-long mode = length-operand site core mode n ∙ long

      pub read-lt : (mode : ℕ) → mode < 8 → (operand site core mode n).read < M
      read-lt mode h = subst (λ (p : ℕ). p < M) (same_operand mode h).read (mod-lt _ pos)

      pub write-lt : (mode : ℕ) → mode < 8 → (operand site core mode n).write < M
      write-lt mode h = subst (λ (p : ℕ). p < M) (same_operand mode h).write (mod-lt _ pos)

      pub register-range : (mode : ℕ) → InRange (operand site core mode n).register
      unfolding operand
      register-range mode = word-range _

      -- the cell at the read pointer is still the register, unless an increment hits it
      pub live-register : (mode : ℕ) → mode < 8
          → (among (PostIncIndirectA ∷ PostIncIndirectB ∷ []) mode && eqb loc (operand site core mode n).read) ≡ false
          → unpacked (get_or (operand site core mode n).core (operand site core mode n).read 0) ≡ (operand site core mode n).register
      unfolding operand
      live-register =
          below _ 8
          ((λ d. refl)
          and (λ d. refl)
          and (λ d. refl)
          and (λ d. refl)
          and (λ d. refl)
          and (λ d. refl)
          and (λ d. changed-other A core loc _ _ (λ q. eqb-false _ _ d (sym q)))
          and (λ d. changed-other B core loc _ _ (λ q. eqb-false _ _ d (sym q)))
          and tt)

      -- the B number at PC stays, unless it is the one that is changed
      a-keeps : (x : ℕ) → x < 65536 → (unpacked (get_or (changed core loc A x) PC 0)).b.0 ≡ (unpacked (get_or core PC 0)).b.0
      a-keeps x h = changed-b core loc PC x inside h

      elsewhere : (x : ℕ) → fold rules.write M n < M → eqb (fold rules.write M n) 0 ≡ false → (unpacked (get_or (changed core loc B x) PC 0)).b.0 ≡ (unpacked (get_or core PC 0)).b.0
      elsewhere x l d = ap (λ (c : Cell). c.b.0) (changed-other B core loc PC x (apart PC _ M there l (eqb-false _ 0 d)))

      pub keeps-b : fold rules.write M n < M → (mode : ℕ) → mode < 8
          → (among (PreDecIndirectB ∷ PostIncIndirectB ∷ []) mode && eqb (fold rules.write M n) 0) ≡ false
          → (unpacked (get_or (operand site core mode n).core PC 0)).b.0 ≡ (unpacked (get_or core PC 0)).b.0
      unfolding operand
      keeps-b l =
          below _ 8
          ((λ d. refl)
          and (λ d. refl)
          and (λ d. refl)
          and (λ d. refl)
          and (λ d. a-keeps _ (small _))
          and elsewhere _ l
          and (λ d. a-keeps _ (small _))
          and elsewhere _ l
          and tt)
