-- What fresh gives, refusal by refusal.
-- Assumes nothing.
use mathlib.Core.Path.{◌≡◌, sym, ap, ◌∙◌}
use mathlib.Core.Bool.{Bool, true, false, not, ◌||◌}
use mathlib.Core.List.{List}
use Prim.Native.Nat.{ℕ}
use lib.Dec.{eqb}
use lib.ListN.{length, replicate}
use Rattle.std.proofs.Common.{Err}
use Rattle.answer.specs.declared.Error.TheVariants.{InvalidCoreSize, InvalidMemory, InvalidLimit}
use Rattle.answer.specs.Numbers.{told, gives}
use Rattle.cell.specs.Cells.{fresh_cell}
use Rattle.machine.specs.declared.Header.{Header}
use Rattle.machine.specs.declared.Rules.{Rules}
use Rattle.machine.specs.State.{of_size}
use Rattle.machine.specs.Soundness.{valid_size, valid_queue, valid_processes, valid_limits}
use Rattle.machine.specs.Fresh.{blank, fresh}
use Rattle.lent.specs.Parts.{machine_of}
use Rattle.lent.specs.Given.{given, given_by}

module _ (rules : Rules) (core queue : List ℕ) where
  pub bad-size : not (valid_size rules.size) ≡ true → given (told {A = Unit} (Err InvalidCoreSize)) 0 0 (machine_of core queue (blank (of_size 0 0))) ≡ given_by (fresh rules core queue)
  unfolding fresh
  bad-size t = rw t

  module _ (v : not (valid_size rules.size) ≡ false) where
    -- the memories and P, told whether P is valid
    abbrev bad : Bool → Bool
    bad processes = not (eqb (length core) rules.size) || not (valid_queue (length queue)) || not processes

    pub bad-memory : {p : Bool} → p ≡ valid_processes rules.processes (length queue) → bad p ≡ true
        → given (told {A = Unit} (Err InvalidMemory)) 0 0 (machine_of core queue (blank (of_size 0 0))) ≡ given_by (fresh rules core queue)
    unfolding fresh
    bad-memory e t = rw (v, ap bad (sym e) ∙ t)

    module _ {p : Bool} (e : p ≡ valid_processes rules.processes (length queue)) (z : bad p ≡ false) where
      pub bad-limit : valid_limits rules ≡ false → given (told {A = Unit} (Err InvalidLimit)) 0 0 (machine_of core queue (blank (of_size 0 0))) ≡ given_by (fresh rules core queue)
      unfolding fresh
      bad-limit t = rw (v, ap bad (sym e) ∙ z, t)

      pub made : valid_limits rules ≡ true → {core' queue' : List ℕ} {w : ℕ} {h : Header}
          → w ≡ fresh_cell → core' ≡ replicate (length core) w → queue' ≡ replicate (length queue) 0 → h ≡ blank rules
          → given (gives 0 0) 0 0 (machine_of core' queue' h) ≡ given_by (fresh rules core queue)
      unfolding fresh
      made t ew ec eq eh = rw (v, ap bad (sym e) ∙ z, t) (cc)
