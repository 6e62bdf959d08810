-- The queue and the names agree: each entry's name is held, each name's count is the number of its entries. Pop, push and registering keep that.
-- Assumes nothing.
use Prim.Native.Nat.{ℕ, ◌+◌, ◌≤◌, ◌<◌}
use mathlib.Core.Path.{◌≡◌, refl, sym, ap, ap₂, subst, ◌∙◌}
use mathlib.Core.Bool.{Bool, true, false, cond, ◌&&◌}
use mathlib.Core.List.{List, [], ◌∷◌, ◌++◌}
use native.Mathlib.Omega.{arith}
use lib.Dec.{eqb}
use lib.ListN.{length, get_or, get_or-append}
use borrow.Author.Tests.{eqb-false}
use Rattle.laws.specs.Lists.{one_if, tally, same}
use Rattle.laws.proofs.Every.{Every, every-weaker}
use Rattle.machine.specs.declared.Entry.{Entry}
use Rattle.machine.specs.State.{Machine}
use Rattle.machine.specs.Names.{names, is_new, seventeenth, count_of, register, registered, numbered}
use Rattle.machine.specs.Queue.{entry, unpacked_entry, entries, name_of, entries_of, front, pop, push, started}
use Rattle.machine.specs.Step.{counted}
use Rattle.machine.proofs.Entries.{packed-name}
use Rattle.machine.proofs.Queue.{tally-pop, every-pop, tally-push, every-push}
use Rattle.machine.proofs.Names.{length-names, names-register, count-register, Held, count-lower, count-raise}
use Rattle.machine.proofs.Soundness.{SoundHeader, counts-long, name-short, holding, numbered-sound}

-- each entry's name is held
abbrev pub Known : ℕ → List ℕ → Type 0
Known held ws = Every (λ w. (unpacked_entry w).name < held) ws

pub record Agree (m : Machine) : Type 0 where
  pub known : Known m.header.names.held (entries m)
  pub counts : (n : List ℕ) → count_of m.header n ≡ entries_of m n

-- pop: one entry of the front entry's name less
module _ (m : Machine) (t : List ℕ) (s : SoundHeader m) (r : Held m.header (unpacked_entry (front m)).name t) (a : Agree m)
    (some : 0 < m.header.ring.length) (one : 1 ≤ get_or m.header.counts (unpacked_entry (front m)).name 0) where
  pub pop-entries : (n : List ℕ) → one_if (same t n) + entries_of (pop m) n ≡ entries_of m n
  unfolding pop
  pop-entries n =
      ap (λ (x : List ℕ). one_if (same x n) + entries_of (pop m) n) (sym r.at) ∙ sym (tally-pop m some (λ w. same (name_of m w) n))

  pop-count : (n : List ℕ) → count_of (pop m).header n + one_if (same t n) ≡ count_of m.header n
  unfolding pop
  pop-count n = count-lower m.header t (unpacked_entry (front m)).name r (counts-long m s) n one

  pop-known : Known m.header.names.held (entries (pop m))
  pop-known = (every-pop m some (λ w. (unpacked_entry w).name < m.header.names.held) a.known).1

  pub pop-agree : Agree (pop m)
  unfolding pop
  pop-agree = record { known = pop-known; counts = λ n. omega (arith, pop-entries n, pop-count n, a.counts n) }

  pub pop-held : Held (pop m).header (unpacked_entry (front m)).name t
  unfolding pop
  pop-held = record { below = r.below; own = r.own; at = r.at }

-- push: one entry of its name more
module _ (m : Machine) (e : Entry) (t : List ℕ) (s : SoundHeader m) (r : Held m.header e.name t) (a : Agree m)
    (room : m.header.ring.length < length m.queue) where
  pub push-entries : (n : List ℕ) → entries_of (push e m) n ≡ entries_of m n + one_if (same t n)
  unfolding push
  push-entries n =
      tally-push e m s.head room (λ w. same (name_of m w) n)
      ∙ ap (λ (x : List ℕ). entries_of m n + one_if (same x n))
      (ap (λ (i : ℕ). get_or (names m.header.names) i []) (packed-name e (omega (arith, r.below, s.few))) ∙ r.at)

  push-count : (n : List ℕ) → count_of (push e m).header n ≡ count_of m.header n + one_if (same t n)
  unfolding push
  push-count n = count-raise m.header t e.name r (counts-long m s) n

  push-known : Known m.header.names.held (entries (push e m))
  push-known =
      every-push e m s.head room (λ w. (unpacked_entry w).name < m.header.names.held) a.known
      (subst (λ (k : ℕ). k < m.header.names.held) (sym (packed-name e (omega (arith, r.below, s.few)))) r.below)

  pub push-agree : Agree (push e m)
  unfolding push
  push-agree = record { known = push-known; counts = λ n. omega (arith, push-entries n, push-count n, a.counts n) }

  pub push-held : Held (push e m).header e.name t
  unfolding push
  push-held = record { below = r.below; own = r.own; at = r.at }

-- counting a step, or another core, changes no name and no entry
pub counted-agree : (core : List ℕ) (m : Machine) → Agree m → Agree (counted core m)
unfolding counted entries
counted-agree core m a = record { known = a.known; counts = a.counts }

pub counted-entries : (core : List ℕ) (m : Machine) (n : List ℕ) → entries_of (counted core m) n ≡ entries_of m n
unfolding counted entries
counted-entries core m n = refl

pub counted-held : (core : List ℕ) (m : Machine) {i : ℕ} {t : List ℕ} → Held m.header i t → Held (counted core m).header i t
unfolding counted
counted-held core m r = record { below = r.below; own = r.own; at = r.at }

-- a process started: one entry of its name more
module _ (place i : ℕ) (m : Machine) (t : List ℕ) (s : SoundHeader m) (r : Held m.header i t) (a : Agree m)
    (room : m.header.ring.length < length m.queue) where
  abbrev numbered_machine : Machine
  numbered_machine = holding m.core (numbered i m.header) m

  abbrev new_entry : Entry
  new_entry = entry place (get_or m.header.threads i 0) i

  numbered-held : Held (numbered i m.header) i t
  unfolding numbered
  numbered-held = record { below = r.below; own = r.own; at = r.at }

  numbered-agree : Agree numbered_machine
  unfolding numbered entries
  numbered-agree = record { known = a.known; counts = a.counts }

  numbered-entries : (n : List ℕ) → entries_of numbered_machine n ≡ entries_of m n
  unfolding numbered entries
  numbered-entries n = refl

  numbered-room : numbered_machine.header.ring.length < length m.queue
  unfolding numbered
  numbered-room = room

  pub started-agree : Agree (started place i m)
  unfolding started
  started-agree = push-agree numbered_machine new_entry t (numbered-sound m s m.core s.core i) numbered-held numbered-agree numbered-room

  pub started-entries : (n : List ℕ) → entries_of (started place i m) n ≡ entries_of m n + one_if (same t n)
  unfolding started
  started-entries n =
      push-entries numbered_machine new_entry t (numbered-sound m s m.core s.core i) numbered-held numbered-agree numbered-room n
      ∙ ap (λ (k : ℕ). k + one_if (same t n)) (numbered-entries n)

-- registering changes no name's entries and count
pub record Registered (m m' : Machine) : Type 0 where
  pub agree : Agree m'
  pub entries : (n : List ℕ) → entries_of m' n ≡ entries_of m n

module _ (m : Machine) (n : List ℕ) (s : SoundHeader m) (a : Agree m) where
  -- a held name
  held-registered : (core : List ℕ) → Registered m (holding core m.header m)
  unfolding entries
  held-registered core = record { agree = record { known = a.known; counts = a.counts }; entries = λ x. refl }

  -- a new name
  module _ (small : m.header.names.held < 16) (fits : length n ≤ 32) where
    news : names (register m.header n).names ≡ names m.header.names ++ (n ∷ [])
    news = names-register m.header n s.shape small fits (name-short m s)

    tally-known : (x : List ℕ) (ws : List ℕ) → Known m.header.names.held ws
        → tally (λ w. same (get_or (names m.header.names ++ (n ∷ [])) (unpacked_entry w).name []) x) ws
        ≡ tally (λ w. same (get_or (names m.header.names) (unpacked_entry w).name []) x) ws
    tally-known x [] k = refl
    tally-known x (w ∷ ws) k =
        ap₂ (λ (y : List ℕ) (z : ℕ). one_if (same y x) + z)
        (get_or-append (names m.header.names) (n ∷ []) [] (unpacked_entry w).name (rw (length-names m.header) k.0))
        (tally-known x ws k.1)

    new-entries : (core : List ℕ) (x : List ℕ) → entries_of (holding core (register m.header n) m) x ≡ entries_of m x
    unfolding register entries
    new-entries core x =
        ap (λ (l : List (List ℕ)). tally (λ w. same (get_or l (unpacked_entry w).name []) x) (entries m)) news ∙ tally-known x (entries m) a.known

    new-agree : (core : List ℕ) → Agree (holding core (register m.header n) m)
    unfolding register entries
    new-agree core =
        record {
          known = every-weaker _ _ (λ w h. omega arith) (entries m) a.known;
          counts = λ x. count-register m.header n s.shape small fits (name-short m s) x ∙ a.counts x ∙ sym (new-entries core x);
        }

    new-registered : (core : List ℕ) → Registered m (holding core (register m.header n) m)
    new-registered core = record { agree = new-agree core; entries = new-entries core }

  pub is-registered : (core : List ℕ) → seventeenth m.header.names n ≡ false → length n ≤ 32
      → Registered m (holding core (registered m.header n) m)
  is-registered core free fits = go (is_new m.header.names n) refl free
    where
      go : (b : Bool) → is_new m.header.names n ≡ b → (b && eqb m.header.names.held 16) ≡ false
          → Registered m (holding core (cond b (register m.header n) m.header) m)
      go false e free = held-registered core
      go true e free =
          let k : m.header.names.held ≡ 16 → ⊥ = eqb-false _ _ free in
          new-registered (omega (arith, s.few)) fits core
