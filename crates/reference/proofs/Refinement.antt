-- The theorem: over every list in the domain, from a fresh machine with both limits M on, our machine and the Rust's agree after each call.
-- Assumes nothing.
use Prim.Native.Nat.{ℕ, zero, suc, ◌-◌, ◌^◌}
use mathlib.Core.Path.{◌≡◌, refl, sym, ap, subst, ◌∙◌}
use mathlib.Core.Bool.{Bool, true, false}
use mathlib.Core.List.{List, [], ◌∷◌, map}
use mathlib.Core.Option.{some}
use native.Mathlib.Omega.{arith}
use lib.ListN.{length, replicate, length-replicate}
use borrow.Author.Tests.{ne_eqb}
use Rattle.offset.specs.Offset.{ahead}
use Rattle.cell.specs.Cells.{fresh_cell}
use Rattle.machine.specs.declared.Rules.{Rules}
use Rattle.machine.specs.State.{Machine}
use Rattle.machine.specs.Queue.{entries}
use Rattle.machine.specs.Fresh.{fresh_machine, fresh}
use Rattle.machine.specs.Place.{place}
use Rattle.machine.specs.Start.{start}
use Rattle.machine.specs.Whole.{Unlimited}
use Rattle.machine.proofs.Soundness.{SoundHeader, size-most}
use Rattle.machine.proofs.Fresh.{fresh-accepted}
use Rattle.machine.proofs.Place.{place-fixed}
use Rattle.machine.proofs.Start.{start-fixed}
use Rattle.machine.proofs.Step.{step-fixed}
use Rattle.machine.proofs.Run.{run-fixed}
use Rattle.machine.proofs.SoundMachine.{SoundMachine, fresh-sound}
use Rattle.match_load.specs.Loading.{origin_of}
use Rattle.match_load.proofs.Warrior.{place-start-by-cases}
use Rattle.account.specs.Calls.{Place, Start, Step, Run}
use Rattle.account.proofs.NeverNine.{call-sound}
use Rattle.reference.specs.Compared.{Compared, Load, Single, comes_to}
use Rattle.reference.specs.Types.{Instruction, default}
use Rattle.reference.specs.Core.{Core, new}
use Rattle.reference.specs.Same.{word_of, Same}
use Rattle.reference.specs.Refinement.{Given, meets, answered, InDomain, Domain, returned, rust, matching, Agrees, Refinement}
use Rattle.reference.proofs.Stepping.{Agreed, step-agrees}
use Rattle.reference.proofs.Loading.{load-agrees}
use Rattle.reference.proofs.Running.{run-agrees}
use Rattle.reference.proofs.Without.{without-agrees}

-- one of the list
call-agrees : (x : Compared) (m : Machine) (c : Core) → SoundMachine m → Unlimited m.header.rules → Same m c → Given x m → answered (comes_to x m).number ≡ true → meets x m ≡ false
    → Agreed (comes_to x m) (returned x c)
call-agrees (Load name body origin at start_at) m c s u same given a f = load-at at given a
  where
    load-at : (at : ℕ) → Given (Load name body origin at start_at) m → answered (comes_to (Load name body origin at start_at) m).number ≡ true
        → Agreed (comes_to (Load name body origin at start_at) m) (returned (Load name body origin at start_at) c)
    load-at at given =
        subst (λ (p : ℕ). start_at ≡ ahead m.header.rules.size p (origin_of origin) → answered (comes_to (Load name body origin p start_at) m).number ≡ true
        → Agreed (comes_to (Load name body origin p start_at) m) (returned (Load name body origin p start_at) c)) (sym given.0)
        (λ is. load-agrees m c s same name body origin given.1 start_at is) given.2
call-agrees (Single (Place name body at)) m c s u same given a f = absurd given
call-agrees (Single (Start name at)) m c s u same given a f = absurd given
call-agrees (Single Step) m c s u same given a f = step-agrees m c s u same a f
call-agrees (Single (Run ceiling)) m c s u same given a f = run-agrees ceiling m c s u same a f

-- where it is answered so, and where it is not
either-agrees : (b : Bool) (x : Compared) (m : Machine) (c : Core) → SoundMachine m → Unlimited m.header.rules → Same m c → answered (comes_to x m).number ≡ b → InDomain b x m
    → ((rust b x m c).answer ≡ matching b (comes_to x m).number (comes_to x m).value) × Same (comes_to x m).machine (rust b x m c).core
either-agrees true x m c s u same a d = let r = call-agrees x m c s u same d.0 a d.1 in (r.answer, r.same)
either-agrees false x m c s u same a d = without-agrees x m c s u same a d.0 d.1

-- it keeps the rules, and the machine sound
keeps-rules : (x : Compared) (m : Machine) → (comes_to x m).machine.header.rules ≡ m.header.rules
keeps-rules (Load name body origin at start_at) m =
    let p = place m name body at in
    let k = (place-fixed m name body at).2 in
    place-start-by-cases (λ o. o.machine.header.rules ≡ m.header.rules) p (start p.machine name start_at) k ((start-fixed p.machine name start_at).2 ∙ k)
keeps-rules (Single (Place name body at)) m = (place-fixed m name body at).2
keeps-rules (Single (Start name at)) m = (start-fixed m name at).2
keeps-rules (Single Step) m = (step-fixed m).0
keeps-rules (Single (Run ceiling)) m = (run-fixed ceiling m).0

keeps-sound : (x : Compared) (m : Machine) → SoundMachine m → SoundMachine (comes_to x m).machine
keeps-sound (Load name body origin at start_at) m s =
    let p = place m name body at in
    let k = call-sound (Place name body at) m s in
    place-start-by-cases (λ o. SoundMachine o.machine) p (start p.machine name start_at) k (call-sound (Start name start_at) p.machine k)
keeps-sound (Single c) m s = call-sound c m s

-- every list
lists_agree : (xs : List Compared) (m : Machine) (c : Core) → SoundMachine m → Unlimited m.header.rules → Same m c → Domain xs m → Agrees xs m c
lists_agree [] m c s u same d = same
lists_agree (x ∷ xs) m c s u same d =
    let b = answered (comes_to x m).number in
    let a = either-agrees b x m c s u same refl d.0 in
    (same, a.0, lists_agree xs (comes_to x m).machine (rust b x m c).core (keeps-sound x m s) (subst Unlimited (sym (keeps-rules x m)) u) a.1 d.1)

-- fresh cells are the Rust's default instructions
fresh_cells : (n : ℕ) → replicate n default ≡ map word_of (replicate n fresh_cell)
fresh_cells zero = refl
fresh_cells (suc n) = ap (λ (l : List Instruction). default ∷ l) (fresh_cells n)

-- the Rust's core of a size that fresh accepts
abbrev created : ℕ → Core
created size =
    record { instructions = replicate size default; process_queue = record { queue = []; processes = []; next_thread_id = [] }; steps_taken = 0 }

fresh-same : (rules : Rules) (core queue : List ℕ) → length core ≡ rules.size → Same (fresh_machine rules core queue) (created rules.size)
unfolding entries
fresh-same rules core queue e =
    record {
      instructions = fresh_cells rules.size ∙ ap (λ (n : ℕ). map word_of (replicate n fresh_cell)) (sym e);
      queue = refl;
      processes = refl;
      next_thread_id = refl;
      steps_taken = refl;
    }

-- THE THEOREM
pub refinement : Refinement
refinement rules core queue u ok = (created rules.size, made, λ xs. lists_agree xs m (created rules.size) sound whole same)
  where
    m : Machine
    m = (fresh rules core queue).machine

    is : m ≡ fresh_machine rules core queue
    is = (fresh-accepted rules core queue ok).1

    sound : SoundMachine m
    sound = fresh-sound rules core queue ok

    header : SoundHeader (fresh_machine rules core queue)
    header = subst SoundHeader is sound.header

    made : new rules.size ≡ some (created rules.size)
    made = simp (ne_eqb rules.size (2 ^ 32 - 1) (λ e. omega (arith, size-most (fresh_machine rules core queue) header)))

    whole : Unlimited m.header.rules
    whole = rw is u

    same : Same m (created rules.size)
    same = rw is (fresh-same rules core queue (sym (length-replicate (length core) fresh_cell) ∙ header.core))
