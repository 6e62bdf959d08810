-- Laws of both operands where both limits are M, and with any limits: what the code gives of them is the machine's.
-- Assumes nothing.
use mathlib.Core.Path.{◌≡◌, refl, sym, ap, subst, ◌∙◌}
use mathlib.Core.Bool.{Bool, true, false, cond}
use mathlib.Core.List.{List}
use Prim.Native.Nat.{ℕ, ◌<◌}
use native.Mathlib.Omega.{arith}
use lib.ListN.{length, get_or}
use Rattle.cell.specs.Cells.{packed, unpacked, sound_word}
use Rattle.word.proofs.Cells.{whole}
use Rattle.machine.specs.declared.Rules.{Rules}
use Rattle.machine.specs.Pointers as pointers
use Rattle.machine.specs.Pointers.{Site, site_at}
use Rattle.machine.specs.Instruction.{fetched, a_operand, b_operand}
use Rattle.machine.specs.Whole.{former, former_a, former_b, SameOperand, Unlimited}
use Rattle.machine.proofs.Whole.{whole-a, whole-b}
use Rattle.address.specs.Inner.Operands.{Ready, Fetched, sound_seen}
use Rattle.address.proofs.Evaluation.{valid-size, ready-a, ready-b}
use Rattle.chain.specs.Operands.{absolute, compares, operands_at}
use Rattle.steps.specs.declared.operand.Operand.{Operand}
use Rattle.steps.specs.Inner.Instruction.{operand_of, Executable}
use Rattle.steps.proofs.Operating.{same_operand, still_seen}
use Rattle.steps.proofs.Seen.{register-whole}
use Rattle.steps.proofs.Executing.{sound-a, sound-b, still-sound, long-a, register-a, register-b}

-- what an operand asks of the core, its mode and its number
abbrev Asks : Rules → List ℕ → ℕ → ℕ → ℕ → Type 0
Asks rules core pc mode n =
    Ready rules core pc n × (mode < 8) × (sound_word rules.size (get_or core pc 0) ≡ true) × (sound_seen rules.size (former (site_at rules pc) core mode n) ≡ true)

module _ (rules : Rules) (core : List ℕ) (pc here : ℕ) (x : Executable rules core pc here) where
  abbrev size : ℕ
  size = rules.size

  abbrev s : Site
  s = site_at rules pc

  abbrev f : Fetched rules core pc here
  f = x.cell

  abbrev first : pointers.Operand
  first = a_operand s core

  abbrev last : pointers.Operand
  last = b_operand s core

  module _ (u : Unlimited rules) where
    same-a : SameOperand first (former_a s core)
    same-a = whole-a s core u (valid-size f) f.cells

    same-b : SameOperand last (former_b s core)
    same-b = whole-b s core u (valid-size f) f.cells

    one_place : (former_b s core).write ≡ (former_b s core).read
    unfolding former
    one_place = refl

    module _ (mode n : ℕ) (em : mode ≡ (unpacked here).a_mode) (en : n ≡ (unpacked here).a.0) where
      is-a : former s core mode n ≡ former_a s core
      is-a = same_operand rules core pc (em ∙ ap (λ w. (unpacked w).a_mode) f.is) (en ∙ ap (λ w. (unpacked w).a.0) f.is)

      pub asks-a : Asks rules core pc mode n
      asks-a = (
        ready-a f en,
        rw em (omega arith),
        rw (← f.is) f.sound,
        still_seen size is-a (sym (same-a.seen (sound_word size)) ∙ sound-a rules core pc here x),
      )

      module _ (a : Operand) (c1 : List ℕ) (ga : (a ≡ operand_of (former s core mode n)) × (c1 ≡ (former s core mode n).core))
          (again mode' n' : ℕ) (ew : again ≡ get_or c1 pc 0) (em' : mode' ≡ (unpacked here).b_mode) (en' : n' ≡ (unpacked again).b.0) where
        core-a : c1 ≡ (former_a s core).core
        core-a = rw is-a at ga.1

        still : Fetched rules c1 pc again
        still = record {
          valid = f.valid;
          cells = ap length core-a ∙ ap length (sym same-a.core) ∙ long-a rules core pc here x;
          place = f.place;
          is = ew;
          sound =
              rw (ew, core-a) (subst (λ (l : List ℕ). sound_word size (get_or l pc 0) ≡ true) same-a.core (still-sound rules core pc here x));
        }

        is-b : former s c1 mode' n' ≡ former_b s core
        is-b =
            same_operand rules c1 pc (em' ∙ ap (λ w. (unpacked w).b_mode) f.is) (en' ∙ ap (λ w. (unpacked w).b.0) ew)
            ∙ ap (λ (l : List ℕ). former s l (fetched core pc).b_mode (fetched l pc).b.0) core-a

        pub asks-b : Asks rules c1 pc mode' n'
        asks-b = (
          ready-b still en',
          rw em' (omega arith),
          rw (← ew) still.sound,
          still_seen size is-b (sym (same-b.seen (sound_word size)) ∙ sound-b rules core pc here x),
        )

        module _ (b : Operand) (c2 : List ℕ) (gb : (b ≡ operand_of (former s c1 mode' n')) × (c2 ≡ (former s c1 mode' n').core)) where
          ra-is : a.register ≡ get_or first.seen 2 0
          ra-is =
              ap (λ (o : Operand). o.register) ga.0 ∙ ap (λ (o : pointers.Operand). packed o.register) is-a ∙ ap packed (sym same-a.register)
              ∙ ap packed (sym (register-whole rules core pc _ _)) ∙ whole size _ (register-a rules core pc here x)

          rb-is : b.register ≡ get_or last.seen 2 0
          rb-is =
              ap (λ (o : Operand). o.register) gb.0 ∙ ap (λ (o : pointers.Operand). packed o.register) is-b ∙ ap packed (sym same-b.register)
              ∙ ap packed (sym (register-whole rules first.core pc _ _)) ∙ whole size _ (register-b rules core pc here x)

          -- one pointer, for reading and for writing
          met-is : (t : Bool) → absolute (former_b s core).read ≡ cond t (absolute last.read) (absolute last.write)
          met-is true = ap absolute (sym same-b.read)
          met-is false = ap absolute (sym (same-b.write ∙ one_place))

          pub given : (record { jump = a.pointer; ra = a.register; target = b.pointer; rb = b.register } ≡ operands_at s core) × (c2 ≡ last.core)
          given = (
            λ i. record {
              jump = (ap (λ (o : Operand). o.pointer) ga.0 ∙ ap (λ (o : pointers.Operand). absolute o.read) is-a ∙ ap absolute (sym same-a.read)) i;
              ra = ra-is i;
              target =
                  (ap (λ (o : Operand). o.pointer) gb.0 ∙ ap (λ (o : pointers.Operand). absolute o.read) is-b ∙ met-is (compares (fetched core pc).opcode)) i;
              rb = rb-is i;
            },
            gb.1 ∙ ap (λ (o : pointers.Operand). o.core) is-b ∙ sym same-b.core,
          )
