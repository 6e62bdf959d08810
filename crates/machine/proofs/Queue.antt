-- Laws of the queue: the entries after pop and push, a tally of them, and what holds of each. Nothing above these looks into the ring.
-- Assumes nothing.
use Prim.Native.Nat.{ℕ, zero, suc, ◌+◌, ◌-◌, ◌%◌, ◌≤◌, ◌<◌}
use mathlib.Core.Path.{◌≡◌, sym, ap, ap₂, subst, refl, ◌∙◌}
use mathlib.Core.List.{List, [], ◌∷◌, ◌++◌}
use mathlib.Core.Bool.{Bool, true, false}
use lib.Dec.{ltb}
use borrow.Author.Tests.{ltb-true, ltb-false}
use native.Mathlib.Nat.{mod-eq_of_lt, mod-eq-sub-mod, mod-add-mod, mod-lt, add-zero}
use native.Mathlib.Omega.{arith}
use lib.ListN.{length, get_or, set, length-set}
use lib.Seq.{get_or-set_same, get_or-set_other}
use Rattle.laws.specs.Lists.{one_if, tally}
use Rattle.laws.proofs.Every.{Every, every_append}
use Rattle.laws.proofs.Tally.{tally-append}
use Rattle.offset.specs.Offset.{ahead}
use Rattle.machine.specs.declared.Entry.{Entry}
use Rattle.machine.specs.State.{Machine}
use Rattle.machine.specs.Queue.{packed_entry, slots, entries, front, pop, push}

-- less than once round, no slot is met again
apart : (i n l : ℕ) → i < l → suc n < l → i ≡ ahead l i (suc n) → ⊥
apart i n l hi hn e = go (ltb (i + suc n) l) refl
  where
    go : (b : Bool) → ltb (i + suc n) l ≡ b → ⊥
    go true t = let h : i + suc n < l = ltb-true _ _ t in let f : i ≡ i + suc n = e ∙ mod-eq_of_lt h in omega arith
    go false t = let h : l ≤ i + suc n = ltb-false _ _ t in let f : i ≡ i + suc n - l = e ∙ mod-eq-sub-mod h ∙ mod-eq_of_lt (omega arith) in omega arith

slots-push : (q : List ℕ) (i n w : ℕ) → i < length q → n < length q
    → slots (set q (ahead (length q) i n) w) i (suc n) ≡ slots q i n ++ (w ∷ [])
slots-push q i zero w hi hn =
    ap (λ (k : ℕ). get_or (set q k w) i 0 ∷ []) (ap (λ (k : ℕ). k % length q) (add-zero i) ∙ mod-eq_of_lt hi)
    ∙ ap (λ (x : ℕ). x ∷ []) (get_or-set_same q i w 0 hi)
slots-push q i (suc n) w hi hn =
    ap₂ ◌∷◌ (get_or-set_other q p i w 0 (apart i n (length q) hi hn))
    (ap (λ (k : ℕ). slots (set q p w) (ahead k i 1) (suc n)) (length-set q p w)
    ∙ ap (λ (k : ℕ). slots (set q k w) (ahead (length q) i 1) (suc n)) (sym (mod-add-mod (i + 1) (length q) n ∙ ap (λ (k : ℕ). k % length q) (omega arith)))
    ∙ slots-push q (ahead (length q) i 1) n w (mod-lt (i + 1) (omega arith)) (omega arith))
  where
    p : ℕ
    p = ahead (length q) i (suc n)

-- the front entry is the first, and popping leaves the others
pub entries-pop : (m : Machine) → 0 < m.header.ring.length → entries m ≡ front m ∷ entries (pop m)
unfolding entries pop
entries-pop m h = ap (slots m.queue m.header.ring.head) e
  where
    e : m.header.ring.length ≡ suc (m.header.ring.length - 1)
    e = omega arith

-- pushing adds one at the end
pub entries-push : (e : Entry) (m : Machine) → m.header.ring.head < length m.queue → m.header.ring.length < length m.queue
    → entries (push e m) ≡ entries m ++ (packed_entry e ∷ [])
unfolding entries push
entries-push e m h l =
    ap (slots (set m.queue (ahead (length m.queue) m.header.ring.head m.header.ring.length) (packed_entry e)) m.header.ring.head) one
    ∙ slots-push m.queue m.header.ring.head m.header.ring.length (packed_entry e) h l
  where
    one : m.header.ring.length + 1 ≡ suc m.header.ring.length
    one = omega arith

module _ (m : Machine) (some : 0 < m.header.ring.length) where
  pub tally-pop : (p : ℕ → Bool) → tally p (entries m) ≡ one_if (p (front m)) + tally p (entries (pop m))
  tally-pop p = ap (tally p) (entries-pop m some)

  pub every-pop : (P : ℕ → Type 0) → Every P (entries m) → P (front m) × Every P (entries (pop m))
  every-pop P = subst (Every P) (entries-pop m some)

module _ (e : Entry) (m : Machine) (head : m.header.ring.head < length m.queue) (room : m.header.ring.length < length m.queue) where
  pub tally-push : (p : ℕ → Bool) → tally p (entries (push e m)) ≡ tally p (entries m) + one_if (p (packed_entry e))
  tally-push p =
      ap (tally p) (entries-push e m head room) ∙ tally-append p (entries m) (packed_entry e ∷ []) ∙ ap (λ (k : ℕ). tally p (entries m) + k) (add-zero _)

  pub every-push : (P : ℕ → Type 0) → Every P (entries m) → P (packed_entry e) → Every P (entries (push e m))
  every-push P h x = subst (Every P) (sym (entries-push e m head room)) (every_append P (entries m) (packed_entry e ∷ []) h (x, tt))
