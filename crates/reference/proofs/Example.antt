-- The domain has battles in it: one of twelve calls, refused ones among them, by computation, and what the theorem says of it.
-- Assumes nothing.
use Rattle.std.specs.Prelude.{Some}
use Prim.Native.Nat.{ℕ, ◌^◌, ◌-◌}
use mathlib.Core.Path.{◌≡◌, refl}
use mathlib.Core.List.{List, [], ◌∷◌, ◌++◌}
use native.Mathlib.Omega.{arith}
use lib.ListN.{replicate}
use Rattle.cell.specs.Cells.{sound_word}
use Rattle.types.specs.Defaults.{unnamed}
use Rattle.types.specs.Opcode.{DJN, SPL, NOP, LDP}
use Rattle.types.specs.Modifier as modifier
use Rattle.types.specs.Mode as mode
use Rattle.program.specs.Program.{lawful, lowest_fault, cells}
use Rattle.machine.specs.State.{of_size, Machine}
use Rattle.machine.specs.Names.{register, numbered}
use Rattle.machine.specs.Queue.{entries, pop, push, started}
use Rattle.machine.specs.Soundness.{sound_header, sound_entry}
use Rattle.machine.specs.Fresh.{fresh}
use Rattle.machine.specs.Place.{placing, place}
use Rattle.machine.specs.Start.{starting, start}
use Rattle.machine.specs.Pointers.{operand}
use Rattle.machine.specs.Execution.{effect_of}
use Rattle.machine.specs.Step.{effect, core_after, step_written, counted, executed, step}
use Rattle.machine.specs.Run.{run}
use Rattle.machine.specs.Battles.{bytes, datum}
use Rattle.account.specs.Calls.{Start, Step, Run}
use Rattle.match_load.specs.Loading.{load_match}
use Rattle.account.specs.Lists.{LoadMatch}
use Rattle.match_format.specs.Format.{warrior, line, file}
use Rattle.match_format.specs.Faults.{line_fault, lines_fault, fault}
use Rattle.reference.specs.Compared.{Compared, Load, Single, comes_to, compared_list}
use Rattle.reference.specs.Refinement.{Domain, Agrees}
use Rattle.reference.proofs.Refinement.{refinement}

-- M 8, P 4
abbrev eight : Machine
eight = (fresh (of_size 8 4) (replicate 8 7) (replicate 64 9)).machine

-- SPL $2,$0, DAT $0,$0, DJN.B $-1,$4 unnamed; a warrior too long; a name of 33 bytes, answered 5; a start of that name, answered 5; three steps, a run to the end, and a step on the empty queue;
-- NOP $0,$0, LDP.B $0,$0, a run that is answered 10 after a step, and a step that is answered 10
abbrev calls : List Compared
calls =
    Load [] (bytes SPL unnamed mode.Direct 2 mode.Direct 0 ++ datum 0 0 ++ bytes DJN modifier.B mode.Direct (2 ^ 32 - 1) mode.Direct 4) 65535 0 0
    ∷ Load (65 ∷ []) (replicate 108 0) 3 0 3
    ∷ Load (replicate 33 65) (datum 0 0) 0 7 7
    ∷ Single (Start (replicate 33 65) 0)
    ∷ Single Step
    ∷ Single Step
    ∷ Single Step
    ∷ Single (Run (Some 20))
    ∷ Single Step
    ∷ Load (66 ∷ []) (bytes NOP unnamed mode.Direct 0 mode.Direct 0 ++ bytes LDP modifier.B mode.Direct 0 mode.Direct 0) 16 0 0
    ∷ Single (Run (Some 30))
    ∷ Single Step
    ∷ []

-- what our machine answers, and the steps of each call
abbrev told : List Compared → Machine → List ℕ
told [] m = []
told (x ∷ xs) m = (comes_to x m).number ∷ (comes_to x m).steps ∷ told xs (comes_to x m).machine

answers : told calls eight ≡ 0 ∷ 0 ∷ 3 ∷ 0 ∷ 5 ∷ 0 ∷ 5 ∷ 0 ∷ 0 ∷ 1 ∷ 0 ∷ 1 ∷ 0 ∷ 1 ∷ 11 ∷ 1 ∷ 7 ∷ 0 ∷ 0 ∷ 0 ∷ 10 ∷ 1 ∷ 10 ∷ 0 ∷ []
unfolding sound_word lawful lowest_fault cells register numbered entries pop push started sound_header sound_entry fresh placing place starting start operand effect_of effect core_after step_written counted executed step run
answers = refl

in-domain : Domain calls eight
unfolding sound_word lawful lowest_fault cells register numbered entries pop push started sound_header sound_entry fresh placing place starting start operand effect_of effect core_after step_written counted executed step run
in-domain = (
  ((refl, omega arith, refl), refl),
  (
    ((refl, omega arith, refl), refl),
    (
      (refl, refl),
      (
        (refl, refl),
        (
          (tt, refl),
          (
            (tt, refl),
            (
              (tt, refl),
              (
                (tt, refl),
                (
                  (tt, refl),
                  (((refl, omega arith, refl), refl), ((refl, refl), ((refl, refl), tt))),
                ),
              ),
            ),
          ),
        ),
      ),
    ),
  ),
)

made : (fresh (of_size 8 4) (replicate 8 7) (replicate 64 9)).number ≡ 0
unfolding fresh
made = refl

agrees : Agrees calls eight (refinement (of_size 8 4) (replicate 8 7) (replicate 64 9) (record { read = refl; write = refl }) made).0
agrees = (refinement (of_size 8 4) (replicate 8 7) (replicate 64 9) (record { read = refl; write = refl }) made).2 calls in-domain

-- a match of two warriors, both placed at 0, the second started at its origin, 3; and one of which the second is too long
abbrev matches : List Compared
matches =
    compared_list
    (LoadMatch (file 8 (warrior (65 ∷ []) (datum 0 0) 65535 0 ∷ warrior (66 ∷ []) (bytes NOP unnamed mode.Direct 0 mode.Direct 0) 3 0 ∷ []))
    ∷ LoadMatch (file 8 (warrior (67 ∷ []) (datum 0 0) 0 0 ∷ warrior (68 ∷ []) (replicate 108 0) 0 0 ∷ []))
    ∷ [])
    eight

matches-in-domain : (told matches eight ≡ 0 ∷ 0 ∷ 0 ∷ 0 ∷ 0 ∷ 0 ∷ 3 ∷ 0 ∷ []) × Domain matches eight
unfolding lawful lowest_fault cells register numbered push started sound_header fresh placing place starting start line file line_fault lines_fault fault load_match
matches-in-domain = (refl, (((refl, omega arith, refl), refl), (((refl, omega arith, refl), refl), (((refl, omega arith, refl), refl), (((refl, omega arith, refl), refl), tt)))))
