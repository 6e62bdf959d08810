-- What is read of a file: of one that reads, and of one that does not.
-- Assumes nothing.
use Prim.Native.Nat.{ℕ, ◌<◌}
use mathlib.Core.Path.{◌≡◌, refl, ap}
use mathlib.Core.List.{List}
use borrow.Author.Tests.{lt-ltb}
use Rattle.std.specs.Prelude.{Option, Some, None, Ok, Err}
use Rattle.answer.specs.declared.Error.{Error}
use Rattle.answer.specs.declared.Error.TheVariants.{Malformed}
use Rattle.answer.specs.Numbers.{told, told_error}
use Rattle.match_format.specs.Faults.{fault, fault_at}
use Rattle.match_file.specs.Reading.{told_by, unless_malformed, warriors_in}

-- what is read is of a file without fault
pub no-fault : {A : Type 0} (x : Option ℕ) (v : A) {w : A} → Ok w ≡ unless_malformed x v → x ≡ None
no-fault None v d = refl
no-fault (Some p) v d = cc

pub is_read : {A : Type 0} (x : Option ℕ) (v : A) {w : A} → Ok w ≡ unless_malformed x v → w ≡ v
is_read None v d = cc
is_read (Some p) v d = cc

-- the answer, and that of a refusal
pub read-told : {A : Type 0} (x : Option ℕ) (v : A) → told (unless_malformed x v) ≡ told_by x
read-told None v = refl
read-told (Some p) v = refl

pub refusal-told : {A : Type 0} (x : Option ℕ) (v : A) {e : Error} → Err e ≡ unless_malformed x v → told_error e ≡ told_by x
refusal-told None v d = cc
refusal-told (Some p) v {e} d = ap told_error (let m : e ≡ Malformed p = cc in m)

-- each warrior of a file without fault reads
pub warrior-reads : (f : List ℕ) (i : ℕ) → fault f ≡ None → i < warriors_in f → fault_at f i ≡ None
warrior-reads f i e h = rw (e, lt-ltb i (warriors_in f) h)
