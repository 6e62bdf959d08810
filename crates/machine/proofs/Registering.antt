-- The name that a body is placed under or a process is started under: registered where it is not held, and what that keeps of a sound header.
-- Assumes nothing.
use Prim.Native.Nat.{ℕ, ◌<◌}
use mathlib.Core.Path.{◌≡◌, refl, ap}
use mathlib.Core.Bool.{Bool, true, false, cond, not, ◌&&◌}
use mathlib.Core.List.{List}
use native.Mathlib.Omega.{arith}
use lib.Dec.{eqb}
use lib.ListN.{length}
use lib.Seq.{get_or-set_same}
use borrow.Author.Tests.{lt-leb, eqb-true, eqb-false}
use Rattle.metadata.specs.Metadata.{valid_name, called}
use Rattle.metadata.proofs.Names.{called-valid}
use Rattle.machine.specs.declared.Header.{Header}
use Rattle.machine.specs.declared.Ring.{Ring}
use Rattle.machine.specs.State.{Machine}
use Rattle.machine.specs.Names.{slot, is_new, seventeenth, register, registered}
use Rattle.machine.specs.Queue.{slots, entries, full}
use Rattle.machine.proofs.Names.{Held}
use Rattle.machine.proofs.Soundness.{SoundHeader, p-is, room, holding, registered-sound, registered-held}

-- registering leaves the numbers of the header alone
pub record Renamed (h h' : Header) : Type 0 where
  pub rules : h'.rules ≡ h.rules
  pub ring : h'.ring ≡ h.ring
  pub steps : h'.steps ≡ h.steps

pub renamed : (h : Header) (n : List ℕ) → Renamed h (registered h n)
unfolding register
renamed h n = go (is_new h.names n)
  where
    go : (b : Bool) → Renamed h (cond b (register h n) h)
    go true = record { rules = refl; ring = refl; steps = refl }
    go false = record { rules = refl; ring = refl; steps = refl }

-- the name held, beside a core
module _ (m : Machine) (given core : List ℕ) where
  abbrev index : ℕ
  index = slot m.header.names (called given)

  abbrev pub naming : Machine
  naming = holding core (registered m.header (called given)) m

  pub naming-entries : entries naming ≡ entries m
  unfolding entries
  naming-entries = ap (λ (r : Ring). slots m.queue r.head r.length) (renamed m.header (called given)).ring

  pub naming-rules : naming.header.rules ≡ m.header.rules
  naming-rules = (renamed m.header (called given)).rules

  -- a valid name that is no seventeenth
  module _ (s : SoundHeader m) (valid : valid_name given ≡ true) (free : seventeenth m.header.names (called given) ≡ false) where
    pub naming-sound : length core ≡ m.header.rules.size → SoundHeader naming
    naming-sound c = let v = called-valid given valid in registered-sound m s core c (called given) v.0 v.1 v.2 free

    pub naming-held : Held naming.header index (called given)
    naming-held = registered-held m (called given) s free (called-valid given valid).0

    -- one that is held does not hold P, a new one holds none: there is room for an entry
    module _ (less : (not (is_new m.header.names (called given)) && full m index) ≡ false) where
      pub naming-less : full naming index ≡ false
      unfolding register
      naming-less = go (is_new m.header.names (called given)) refl less free
        where
          go : (b : Bool) → is_new m.header.names (called given) ≡ b → (not b && full m index) ≡ false → (b && eqb m.header.names.held 16) ≡ false
              → full (holding core (cond b (register m.header (called given)) m.header) m) index ≡ false
          go false e f free = f
          go true e f free =
              let at : index ≡ m.header.names.held = eqb-true _ _ e in
              let k : m.header.names.held ≡ 16 → ⊥ = eqb-false _ _ free in
              rw (at, get_or-set_same m.header.counts m.header.names.held 0 0 (omega (arith, s.few, s.shape.counts)))
              (lt-leb m.header.rules.processes 0 (p-is m s).some)

      pub naming-room : length core ≡ m.header.rules.size → naming.header.ring.length < length m.queue
      naming-room c = room naming (naming-sound c) index naming-held.below naming-less
