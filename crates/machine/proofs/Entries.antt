-- Laws of the packed entry.
-- Assumes nothing.
use mathlib.Core.Path.{◌≡◌}
use Prim.Native.Nat.{ℕ, ◌/◌, ◌^◌, ◌<◌}
use native.Mathlib.Nat.{mod-mod, mod-eq_of_lt}
use native.Mathlib.Omega.{arith}
use Rattle.laws.proofs.Fields.{beside, beside-low}
use Rattle.machine.specs.declared.Entry.{Entry}
use Rattle.machine.specs.Queue.{packed_entry, unpacked_entry}

-- equal field by field
pub entry-ext : {e f : Entry} → e.place.0 ≡ f.place.0 → e.thread ≡ f.thread → e.name ≡ f.name → e ≡ f
entry-ext p q r = λ i. record { place = record { 0 = p i }; thread = q i; name = r i }

pub unpack-pack-entry : (e : Entry) → e.place.0 < 2 ^ 16 → e.thread < 2 ^ 32 → e.name < 2 ^ 4 → unpacked_entry (packed_entry e) ≡ e
unpack-pack-entry e hp ht hn = entry-ext (omega arith) (omega arith) (omega arith)

pub pack-unpack-entry : (w : ℕ) → w < 2 ^ 52 → packed_entry (unpacked_entry w) ≡ w
pack-unpack-entry w h = simp mod-mod (rw (beside w 4 32 16, beside-low w 36 16) (mod-eq_of_lt h))

-- the fields that a packed entry gives back, each by its own bound, and its other bits
pub packed-name : (e : Entry) → e.name < 2 ^ 4 → (unpacked_entry (packed_entry e)).name ≡ e.name
packed-name e h = omega arith

pub packed-place : (e : Entry) → e.place.0 < 2 ^ 16 → (unpacked_entry (packed_entry e)).place.0 ≡ e.place.0
packed-place e h = omega arith

pub packed-top : (e : Entry) → packed_entry e / 2 ^ 52 ≡ 0
packed-top e = omega arith
