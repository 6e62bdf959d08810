-- The Rust agrees with the program where it agrees with 01's machine: a place followed by a start is a load.
-- Assumes nothing.
use Prim.Native.Nat.{ℕ}
use mathlib.Core.Path.{◌≡◌, refl, sym, ap, subst, ◌∙◌}
use mathlib.Core.Bool.{Bool, true, false, cond}
use mathlib.Core.List.{List, [], ◌∷◌, map}
use lib.Dec.{eqb}
use lib.ListN.{get_or, drop}
use Rattle.answer.specs.Numbers.{Told, gives}
use Rattle.machine.specs.State.{Machine, Outcome, joined, told_by}
use Rattle.machine.specs.Place.{place}
use Rattle.machine.specs.Start.{start}
use Rattle.lent.specs.Given.{Given}
use Rattle.account.specs.Calls.{Call, Place, Start, outcome, left}
use Rattle.account.specs.Lists.{Listed, One, outcome_of}
use Rattle.reference.specs.Core.{Core, Answer}
use Rattle.reference.specs.Compared.{Compared, Load, calls_of, comes_to, last_answer}
use Rattle.reference.specs.Refinement.{answered, matching, Agrees}
use Rattle.reference.proofs.Compared.{same-compared, counts, call-left}
use Rattle.demands.specs.Made.{Reply, Made, calls, last}
use Rattle.demands.specs.Groups.{Group, call, load, replies, compares, GroupsMade, compared, last_told, returned_last, GroupsAgree}
use Rattle.demands.proofs.Lists.{gave-is, made-follows}
use Rattle.demands.proofs.Answers.{last_matched, agrees-same, agrees-split, call-matched}

-- single calls that were made: what they left, and what was answered last
single-list : (cs : List Call) (m : Machine) → left outcome_of (map One cs) m ≡ left outcome cs m
single-list [] m = refl
single-list (c ∷ cs) m = single-list cs (outcome c m).machine

gave-one : (c : Call) (x : Reply) (xs : List Reply) (cs : List Call) (m : Machine) → Made (x ∷ xs) m → calls (x ∷ xs) ≡ map One (c ∷ cs)
    → (x.gave.told ≡ told_by (outcome c m)) × (x.gave.machine ≡ (outcome c m).machine)
gave-one c x xs cs m h e =
    let g = gave-is x.call m x.gave h.0 in
    let is : x.call ≡ One c = ap (λ (l : List Listed). get_or l 0 (One c)) e in
    let o : outcome_of x.call m ≡ outcome c m = ap (λ (y : Listed). outcome_of y m) is in (
      ap (λ (g : Given). g.told) g ∙ ap told_by o,
      ap (λ (g : Given). g.machine) g ∙ ap (λ (o : Outcome). o.machine) o,
    )

told-as : (cs : List Call) (made : List Reply) (m : Machine) → Made made m → calls made ≡ map One cs → last_told made ≡ last_answer cs m
told-as [] [] m h e = refl
told-as [] (x ∷ xs) m h e = absurd (let f : ⊥ = cc in f)
told-as (c ∷ cs) [] m h e = absurd (let f : ⊥ = cc in f)
told-as (c ∷ []) (x ∷ []) m h e = (gave-one c x [] [] m h e).0
told-as (c ∷ []) (x ∷ y ∷ xs) m h e = let d = ap (drop 1) e in absurd (let f : ⊥ = cc in f)
told-as (c ∷ d ∷ cs) (x ∷ []) m h e = let d = ap (drop 1) e in absurd (let f : ⊥ = cc in f)
told-as (c ∷ d ∷ cs) (x ∷ y ∷ xs) m h e =
    told-as (d ∷ cs) (y ∷ xs) x.gave.machine h.1 (ap (drop 1) e) ∙ ap (last_answer (d ∷ cs)) (gave-one c x (y ∷ xs) (d ∷ cs) m h e).1

abbrev answer_to : Told → Answer
answer_to t = matching (answered t.number) t.number t.value

-- what was made for one: the record that it left, and the Rust's answer to what was answered last
one-left : (x : Group) (xs : List Group) (m : Machine) → GroupsMade (x ∷ xs) m → last (replies x) m ≡ left comes_to (compares x m) m
one-left (call x) xs m h = ap (λ (g : Given). g.machine) (gave-is x.call m x.gave h.0.0) ∙ sym (call-left x.call m)
one-left (load name body origin at start_at made) xs m h =
    let x = Load name body origin at start_at in
    (made-follows made m h.0).0 ∙ ap (λ (l : List Listed). left outcome_of l m) h.1 ∙ single-list (calls_of x m) m ∙ (counts x m).0

one-answered : (x : Group) (xs : List Group) (m : Machine) → GroupsMade (x ∷ xs) m → last_matched (compares x m) m ≡ answer_to (last_told (replies x))
one-answered (call x) xs m h = call-matched x.call m ∙ sym (ap (λ (g : Given). answer_to g.told) (gave-is x.call m x.gave h.0.0))
one-answered (load name body origin at start_at made) xs m h =
    let x = Load name body origin at start_at in
    sym (ap answer_to (told-as (calls_of x m) made m h.0 h.1 ∙ same-compared.answer x m))

pub groups-agree : (made : List Group) (m : Machine) (c : Core) → GroupsMade made m → Agrees (compared made m) m c → GroupsAgree made m c
groups-agree [] m c h a = a
groups-agree (x ∷ xs) m c h a =
    let s = agrees-split (compares x m) (compared xs (last (replies x) m)) m c a in (
      agrees-same (compared (x ∷ xs) m) m c a,
      s.0 ∙ one-answered x xs m h,
      groups-agree xs (last (replies x) m) (returned_last (compares x m) m c).core h.2
          (subst (λ (n : Machine). Agrees (compared xs (last (replies x) m)) n (returned_last (compares x m) m c).core) (sym (one-left x xs m h)) s.1),
    )
