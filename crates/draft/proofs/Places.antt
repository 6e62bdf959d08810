-- The places queued after a step: the next ones stand at the end, as far as the process limit has room.
-- Assumes nothing.
use Prim.Native.Nat.{ℕ, ◌+◌, ◌-◌, ◌%◌, ◌≤◌, ◌<◌}
use mathlib.Core.Path.{◌≡◌, refl, sym, ap, ◌∙◌}
use mathlib.Core.Bool.{Bool, true, false, cond, not}
use mathlib.Core.List.{List, [], ◌∷◌, ◌++◌, map, append-nil, append_assoc, map-append}
use native.Mathlib.Nat.{mod-lt}
use native.Mathlib.Omega.{arith}
use lib.Dec.{eqb, leb, ltb}
use borrow.Author.Tests.{leb-true, leb-false}
use lib.ListN.{length, get_or, take, length-set}
use lib.Seq.{take_all, take-nil, get_or-set_same}
use Rattle.laws.proofs.Every.{Every}
use Rattle.machine.specs.declared.Entry.{Entry}
use Rattle.machine.specs.State.{Machine}
use Rattle.machine.specs.Names.{numbered}
use Rattle.machine.specs.Queue.{entry, packed_entry, unpacked_entry, entries, full, push, started}
use Rattle.machine.specs.Execution.{Next, ends, goes, splits}
use Rattle.machine.specs.Step.{Queued, queued}
use Rattle.machine.proofs.Entries.{packed-place}
use Rattle.machine.proofs.Queue.{entries-push}
use Rattle.machine.proofs.Soundness.{holding}
use Rattle.draft.specs.Draft.{Opcode, DAT, MOV, ADD, SUB, MUL, DIV, MOD, JMP, JMZ, JMN, DJN, SEQ, SNE, SLT, SPL, NOP, State, test, zeros, equal, execute}
use Rattle.draft.specs.Comparison.{places}
use Rattle.draft.proofs.Effects.{nexts}

abbrev pub Below : ℕ → List ℕ → Type 0
Below n = Every (λ p. p < n)

-- the draft's next places are below M
pub next-below : (o : Opcode) (s : State) → 0 < s.M → s.jump < s.M → Below s.M (execute o s).next
next-below o s pos j = go o
  where
    on : Below s.M ((s.PC + 1) % s.M ∷ [])
    on = (mod-lt _ pos, tt)

    past : Below s.M ((s.PC + 2) % s.M ∷ [])
    past = (mod-lt _ pos, tt)

    to : Below s.M (s.jump ∷ [])
    to = (j, tt)

    either : (b : Bool) (xs ys : List ℕ) → Below s.M xs → Below s.M ys → Below s.M (cond b xs ys)
    either true xs ys h k = h
    either false xs ys h k = k

    go : (o : Opcode) → Below s.M (execute o s).next
    go DAT = tt
    go MOV = on
    go ADD = on
    go SUB = on
    go MUL = on
    go DIV = either (test (λ a b. not (eqb a 0)) s.modifier s.IRA s.IRB) _ _ on tt
    go MOD = either (test (λ a b. not (eqb a 0)) s.modifier s.IRA s.IRB) _ _ on tt
    go JMP = to
    go JMZ = either (zeros s) _ _ to on
    go JMN = either (not (zeros s)) _ _ to on
    go DJN = either (test (λ a b. eqb ((b + s.M - 1) % s.M) 0) s.modifier s.IRA s.IRB) _ _ on to
    go SEQ = either (equal s) _ _ past on
    go SNE = either (not (equal s)) _ _ past on
    go SLT = either (test ltb s.modifier s.IRA s.IRB) _ _ past on
    go SPL = (mod-lt _ pos, (j, tt))
    go NOP = on

places-push : (e : Entry) (m : Machine) → m.header.ring.head < length m.queue → m.header.ring.length < length m.queue → e.place.0 < 65536
    → places (push e m) ≡ places m ++ (e.place.0 ∷ [])
places-push e m h l p =
    ap (map (λ w. (unpacked_entry w).place.0)) (entries-push e m h l) ∙ map-append (λ w. (unpacked_entry w).place.0) (entries m) (packed_entry e ∷ [])
    ∙ ap (λ (q : ℕ). places m ++ (q ∷ [])) (packed-place e p)

places-started : (c i : ℕ) (m : Machine) → m.header.ring.head < length m.queue → m.header.ring.length < length m.queue → c < 65536
    → places (started c i m) ≡ places m ++ (c ∷ [])
unfolding started numbered entries
places-started c i m h l p = places-push (entry c (get_or m.header.threads i 0) i) (holding m.core (numbered i m.header) m) h l p

-- pushing leaves the head and the memory's length, and makes the length one more
record Pushed (m n : Machine) : Type 0 where
  head : n.header.ring.head ≡ m.header.ring.head
  slots : length n.queue ≡ length m.queue
  length : n.header.ring.length ≡ m.header.ring.length + 1

pushed : (e : Entry) (m : Machine) → Pushed m (push e m)
unfolding push
pushed e m = record { head = refl; slots = length-set m.queue _ _; length = refl }

-- and the name's count
full-pushed : (e : Entry) (m : Machine) → e.name < length m.header.counts
    → full (push e m) e.name ≡ leb m.header.rules.processes (get_or m.header.counts e.name 0 + 1)
unfolding push
full-pushed e m i = ap (leb m.header.rules.processes) (get_or-set_same m.header.counts e.name (get_or m.header.counts e.name 0 + 1) 0 i)

-- what is queued of a next, of a name that is counted and holds fewer than P; where one entry more leaves it below P, two more have their slots
pub places-queued : (x : Next) (e : Entry) (m : Machine) → m.header.ring.head < length m.queue → m.header.ring.length < length m.queue
    → e.name < length m.header.counts → get_or m.header.counts e.name 0 < m.header.rules.processes
    → (get_or m.header.counts e.name 0 + 1 < m.header.rules.processes → m.header.ring.length + 1 < length m.queue)
    → Below 65536 (nexts x) → places (queued x e m).machine ≡ places m ++ take (m.header.rules.processes - get_or m.header.counts e.name 0) (nexts x)
places-queued (ends y) e m h l i c d b =
    sym (ap (λ (ps : List ℕ). places m ++ ps) (take-nil (m.header.rules.processes - get_or m.header.counts e.name 0)) ∙ append-nil (places m))
places-queued (goes p) e m h l i c d b =
    places-push (entry p e.thread e.name) m h l b.0
    ∙ ap (λ (ps : List ℕ). places m ++ ps) (sym (take_all (m.header.rules.processes - get_or m.header.counts e.name 0) (p ∷ []) (omega arith)))
places-queued (splits p c) e m h l i low d b = go (full n e.name) refl
  where
    n : Machine
    n = push (entry p e.thread e.name) m

    P : ℕ
    P = m.header.rules.processes

    count : ℕ
    count = get_or m.header.counts e.name 0

    at : Pushed m n
    at = pushed (entry p e.thread e.name) m

    raised : full n e.name ≡ leb P (count + 1)
    raised = full-pushed (entry p e.thread e.name) m i

    one : places n ≡ places m ++ (p ∷ [])
    one = places-push (entry p e.thread e.name) m h l b.0

    go : (t : Bool) → full n e.name ≡ t
        → places (cond {A = Queued} t (record { machine = n; pushes = 1 }) (record { machine = started c e.name n; pushes = 2 })).machine
        ≡ places m ++ take (P - count) (p ∷ c ∷ [])
    go true f =
        let g : P ≤ count + 1 = leb-true _ _ (sym raised ∙ f) in
        let r : P - count ≡ 1 = omega (arith, low) in
        one ∙ sym (ap (λ (k : ℕ). places m ++ take k (p ∷ c ∷ [])) r)
    go false f =
        let g : count + 1 < P = leb-false _ _ (sym raised ∙ f) in
        let left : n.header.ring.length < length n.queue = rw (at.length, at.slots) (d g) in
        places-started c e.name n (omega (arith, at.head, at.slots)) left b.1.0
        ∙ ap (λ (ps : List ℕ). ps ++ (c ∷ [])) one
        ∙ append_assoc (places m) (p ∷ []) (c ∷ [])
        ∙ ap (λ (ps : List ℕ). places m ++ ps) (sym (take_all (P - count) (p ∷ c ∷ []) (omega arith)))
