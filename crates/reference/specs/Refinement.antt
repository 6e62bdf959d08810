-- The Rust's domain (01, its last sentence before 'Departures from the draft'; 02, A.2: both limits M, A.4: no name meets P, and A.5: a load is a place followed by a start), and the statement that our machine agrees with the Rust there.
-- Believed. Assumes nothing.
use Rattle.std.specs.Prelude.{ℕ, zero, suc, ◌-◌, ◌≤◌, ◌≡◌, Bool, true, false, cond, not, ◌&&◌, ◌||◌, List, [], ◌∷◌, eqb, None, Some}
use Rattle.std.proofs.Math.Option.{Option, none, some}
use Rattle.laws.specs.Lists.{among}
use Rattle.offset.specs.Offset.{ahead}
use Rattle.machine.specs.declared.Rules.{Rules}
use Rattle.machine.specs.State.{Machine}
use Rattle.machine.specs.Queue.{full}
use Rattle.machine.specs.Fresh.{fresh}
use Rattle.machine.specs.Place.{place}
use Rattle.machine.specs.Execution.{is_split}
use Rattle.machine.specs.Step.{popped, effect, step}
use Rattle.machine.specs.Run.{Ceiling, ceiling_of, run}
use Rattle.machine.specs.Whole.{Unlimited}
use Rattle.match_load.specs.Loading.{origin_of}
use Rattle.account.specs.Calls.{Place, Start, Step, Run}
use Rattle.reference.specs.Process.{NoRemainingProcesses, ExecuteDat, DivideByZero}
use Rattle.reference.specs.Core as Rust
use Rattle.reference.specs.Core.{Core, Answer, Ok, WarriorTooLong, Err, Panic, Returned, new, load_warrior}
use Rattle.reference.specs.Same.{Same, warrior_of}
use Rattle.reference.specs.Compared.{Compared, Load, Single, comes_to}

-- of a load place 0, an origin of 16 bits, and the start at the origin, modulo M. A place or a start alone is no call of the Rust's, nor are the two with
-- another call between them
abbrev pub Given : Compared → Machine → Type 0
Given (Load name body origin at start_at) m = (at ≡ 0) × (origin ≤ 65535) × (start_at ≡ ahead m.header.rules.size at (origin_of origin))
Given (Single (Place name body at)) m = ⊥
Given (Single (Start name at)) m = ⊥
Given (Single Step) m = Unit {0}
Given (Single (Run ceiling)) m = Unit {0}

-- the process limit is met: SPL is executed while its name holds P entries, so that its child is dropped. (A start of such a name is answered 6.)
abbrev pub meets_step : Machine → Bool
meets_step m = is_split (effect m).next && full m (popped m).name

abbrev pub meets_plays : ℕ → Machine → Bool
meets_plays zero m = false
meets_plays (suc k) m = meets_step m || cond (eqb (step m).number 0) (meets_plays k (step m).machine) false

abbrev pub meets : Compared → Machine → Bool
meets (Load name body origin at start_at) m = false
meets (Single (Place name body at)) m = false
meets (Single (Start name at)) m = false
meets (Single Step) m = meets_step m
meets (Single (Run ceiling)) m = meets_plays (ceiling_of ceiling - m.header.steps) m

-- answers other than 1, 2, 4, 5, 6, 8, 9, 10, 13
abbrev pub answered : ℕ → Bool
answered n = not (among (1 ∷ 2 ∷ 4 ∷ 5 ∷ 6 ∷ 8 ∷ 9 ∷ 10 ∷ 13 ∷ []) n)

-- a call that is answered otherwise, 4, 5, 6, 8, 9 or 10, leaves the machine as it was, in a run since its last step: the list goes on without it,
-- and of a run the steps that it took are compared
abbrev pub meets_before : Compared → Machine → Bool
meets_before (Load name body origin at start_at) m = false
meets_before (Single (Place name body at)) m = false
meets_before (Single (Start name at)) m = false
meets_before (Single Step) m = false
meets_before (Single (Run ceiling)) m = meets_plays (run ceiling m).steps m

-- the body of a load whose place is accepted stays where its start is refused, which the Rust has no call for. A list is compared up to there: its part
-- before that load is a list, too
abbrev pub body_stays : Compared → Machine → Bool
body_stays (Load name body origin at start_at) m = eqb (place m name body at).number 0
body_stays (Single c) m = false

-- what is compared is in the domain: true, its number is not among those above; false, it is
abbrev pub InDomain : Bool → Compared → Machine → Type 0
InDomain true x m = Given x m × (meets x m ≡ false)
InDomain false x m = (meets_before x m ≡ false) × (body_stays x m ≡ false)

-- all of the list is in the domain
abbrev pub Domain : List Compared → Machine → Type 0
Domain [] m = Unit {0}
Domain (x ∷ xs) m = InDomain (answered (comes_to x m).number) x m × Domain xs (comes_to x m).machine

-- the Rust's call, and none
abbrev pub nothing : Core → Returned
nothing c = record { core = c; answer = Ok }

abbrev pub cycles_of : Ceiling → Option ℕ
cycles_of None = none
cycles_of (Some n) = some n

abbrev pub returned : Compared → Core → Returned
returned (Load name body origin at start_at) c = load_warrior (warrior_of name body origin) c
returned (Single (Place name body at)) c = nothing c
returned (Single (Start name at)) c = nothing c
returned (Single Step) c = Rust.step c
returned (Single (Run ceiling)) c = Rust.run (cycles_of ceiling) c

-- without a call the Rust does nothing; of a run it does the steps that were taken
abbrev pub without : Compared → Machine → Core → Returned
without (Load name body origin at start_at) m c = nothing c
without (Single (Place name body at)) m c = nothing c
without (Single (Start name at)) m c = nothing c
without (Single Step) m c = nothing c
without (Single (Run ceiling)) m c = Rust.run (some (run ceiling m).machine.header.steps) c

-- what the Rust returns for 0, 3, 7, 11 with its place, 12; no other number is answered in the domain
abbrev pub answer_of : ℕ → ℕ → Answer
answer_of n v =
    cond (eqb n 0) Ok
    (cond (eqb n 3) WarriorTooLong
    (cond (eqb n 7) (Err NoRemainingProcesses)
    (cond (eqb n 11) (Err (ExecuteDat v))
    (cond (eqb n 12) (Err DivideByZero)
    Panic))))

-- what the Rust does, with the call or without it, and the answer that it returns then
abbrev pub rust : Bool → Compared → Machine → Core → Returned
rust true x m c = returned x c
rust false x m c = without x m c

abbrev pub matching : Bool → ℕ → ℕ → Answer
matching true n v = answer_of n v
matching false n v = Ok

-- the states are the same before the calls and after each, and each answer is the Rust's
abbrev pub Agrees : List Compared → Machine → Core → Type 0
Agrees [] m c = Same m c
Agrees (x ∷ xs) m c =
    let o = comes_to x m in
    let r = rust (answered o.number) x m c in
    Same m c × (r.answer ≡ matching (answered o.number) o.number o.value) × Agrees xs o.machine r.core

-- THE STATEMENT. Where fresh makes a machine with both limits M, the Rust makes a core of that size, and they agree over every list in the domain. What our
-- calls for the list are, a match loaded in one call among them, and that they come to what is compared, is `SameCompared` (Compared.antt)
abbrev pub Refinement : Type 0
Refinement =
    (rules : Rules) (core queue : List ℕ) → Unlimited rules → (fresh rules core queue).number ≡ 0
    → (c : Core) × (new rules.size ≡ some c) × ((xs : List Compared) → let m = (fresh rules core queue).machine in Domain xs m → Agrees xs m c)
