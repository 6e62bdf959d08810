-- A list of calls that the program made leaves 01's record and reports its writes; any list of calls can be made.
-- Assumes nothing.
use Prim.Native.Nat.{ℕ, ◌+◌}
use mathlib.Core.Path.{◌≡◌, refl, sym, ap, ap₂, ◌∙◌}
use mathlib.Core.List.{List, [], ◌∷◌}
use mathlib.Core.Logic.{inl, inr}
use Rattle.machine.specs.declared.Rules.{Rules}
use Rattle.machine.specs.State.{Machine}
use Rattle.machine.specs.Fresh.{fresh}
use Rattle.lent.specs.Given.{Given, given_by}
use Rattle.match_load.specs.Loading.{load_match}
use Rattle.account.specs.Calls.{Place, Start, Step, Run, left, reported}
use Rattle.account.specs.Lists.{Listed, One, LoadMatch, outcome_of}
use Rattle.demands.specs.Promise.{ListedPromise}
use Rattle.demands.specs.Made.{JustMade, Reply, Made, calls, last, written}

pub gave-is : (x : Listed) (m : Machine) (g : Given) → ListedPromise x m g → g ≡ given_by (outcome_of x m)
gave-is (One (Place name body at)) m g e = e
gave-is (One (Start name at)) m g e = e
gave-is (One Step) m g e = e
gave-is (One (Run ceiling)) m g e = e
gave-is (LoadMatch f) m g e = e.1.0

pub made-follows : (made : List Reply) (m : Machine) → Made made m
    → (last made m ≡ left outcome_of (calls made) m) × (written made ≡ reported outcome_of (calls made) m)
made-follows [] m h = (refl, refl)
made-follows (x ∷ xs) m h =
    let e = gave-is x.call m x.gave h.0 in
    let r = made-follows xs x.gave.machine h.1 in
    let n = ap (λ (g : Given). g.machine) e in (
      r.0 ∙ ap (left outcome_of (calls xs)) n,
      ap₂ (λ (a b : ℕ). a + b) (ap (λ (g : Given). g.writes) e) (r.1 ∙ ap (reported outcome_of (calls xs)) n),
    )

-- and fresh makes 01's machine
pub just-made : (rules : Rules) (core queue : List ℕ) (m : Machine) → JustMade rules core queue m
    → ((fresh rules core queue).number ≡ 0) × (m ≡ (fresh rules core queue).machine)
just-made rules core queue m (inl e) = (sym e.0, e.1)
just-made rules core queue m (inr e) =
    (sym (ap (λ (g : Given). g.told.number) e.1) ∙ e.2, sym e.3 ∙ ap (λ (g : Given). g.machine) e.1)

-- every list of calls can be made, from every record
abbrev pub replies : List Listed → Machine → List Reply
replies [] m = []
replies (x ∷ xs) m = record { call = x; gave = given_by (outcome_of x m) } ∷ replies xs (outcome_of x m).machine

pub can-be-made : (xs : List Listed) (m : Machine) → Made (replies xs m) m × (calls (replies xs m) ≡ xs)
can-be-made [] m = (tt, refl)
can-be-made (x ∷ xs) m =
    let r = can-be-made xs (outcome_of x m).machine in
    ((kept x m, r.0), ap (λ (l : List Listed). x ∷ l) r.1)
  where
    kept : (x : Listed) (m : Machine) → ListedPromise x m (given_by (outcome_of x m))
    kept (One (Place name body at)) m = refl
    kept (One (Start name at)) m = refl
    kept (One Step) m = refl
    kept (One (Run ceiling)) m = refl
    kept (LoadMatch f) m = ((load_match m f).warrior, (refl, refl))
