-- Laws of a name's index: below 16 where it is no seventeenth name's, and the number of names held where the name is new.
-- Assumes nothing.
use mathlib.Core.Path.{◌≡◌, refl, sym, ap, ap₂, ◌∙◌}
use mathlib.Core.Bool.{Bool, true, false, not, ◌&&◌, true≢false}
use mathlib.Core.List.{List}
use Prim.Native.Nat.{ℕ, ◌≤◌, ◌<◌}
use native.Mathlib.Omega.{arith}
use lib.Dec.{eqb, leb, ltb}
use lib.ListN.{get_or}
use borrow.Author.Tests.{leb-true, leb-false, eqb-true, eqb-false, lt-ltb, le-ltb, eq-eqb}
use Rattle.machine.specs.declared.Header.{Header}
use Rattle.machine.specs.declared.Roster.{Roster}
use Rattle.machine.specs.Names.{slot, is_new, seventeenth}
use Rattle.names.proofs.Naming.{slot-le}

pub new_is : (names : Roster) (name : List ℕ) {i : ℕ} → i ≡ slot names name → is_new names name ≡ eqb i names.held
new_is names name e = ap (λ (k : ℕ). eqb k names.held) (sym e)

module _ (names : Roster) (name : List ℕ) {i : ℕ} (index_is : i ≡ slot names name) where
  pub not-six : names.held ≤ 16 → seventeenth names name ≡ false → i < 16
  not-six few e = go (leb 16 i) refl
    where
      go : (b : Bool) → leb 16 i ≡ b → i < 16
      go true g =
          let k : 16 ≤ i = leb-true 16 i g in
          let q : i ≡ slot names name = index_is in
          let l : slot names name ≤ names.held = slot-le names name in
          absurd
          (true≢false
          (sym (simp (new_is names name index_is, eq-eqb i names.held (omega arith), eq-eqb names.held 16 (omega arith))) ∙ e))
      go false g = leb-false 16 i g

module _ (h : Header) (name : List ℕ) {i : ℕ} (index_is : i ≡ slot h.names name) where
  pub eight : (not (is_new h.names name) && eqb (get_or h.threads (slot h.names name) 0) 4294967295)
      ≡ (ltb i h.names.held && eqb (get_or h.threads i 0) 4294967295)
  eight =
      ap₂ (λ (b : Bool) (k : ℕ). not b && eqb (get_or h.threads k 0) 4294967295) (new_is h.names name index_is) (sym index_is)
      ∙ ap (λ (b : Bool). b && eqb (get_or h.threads i 0) 4294967295) (go (eqb i h.names.held) refl)
    where
      go : (b : Bool) → eqb i h.names.held ≡ b → not b ≡ ltb i h.names.held
      go true e = let k : i ≡ h.names.held = eqb-true i h.names.held e in sym (le-ltb i h.names.held (omega arith))
      go false e =
          let k : i ≡ h.names.held → ⊥ = eqb-false i h.names.held e in
          let q : i ≡ slot h.names name = index_is in
          let l : slot h.names name ≤ h.names.held = slot-le h.names name in
          sym (lt-ltb i h.names.held (omega arith))
