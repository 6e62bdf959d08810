-- What calls on a text add to it, one after the other.
-- Assumes nothing.
use Prim.Native.Nat.{ℕ, ◌+◌, ◌<◌, ◌^◌}
use mathlib.Core.Path.{◌≡◌, refl, sym, ap, subst, ◌∙◌}
use mathlib.Core.List.{List, [], ◌++◌}
use native.Mathlib.Nat.{add_assoc, add-zero}
use native.Mathlib.Omega.{arith}
use lib.ListN.{length, length-append}
use Rattle.io.specs.Digits as io
use Rattle.laws.proofs.Stores.{store_then}
use Rattle.printing.specs.declared.text.Text.{Text}
use Rattle.printing.specs.Text.{decimal, Puts}
use Rattle.printing.specs.Inner.Adding.{Adds}
use Rattle.printing.proofs.Digits.{decimal-is}

-- one call after another
pub then : {a b c : Text} {xs ys : List ℕ} → Adds a b xs → Adds b c ys → Adds a c (xs ++ ys)
then {a = a} {b = b} {c = c} {xs = xs} {ys = ys} p q =
    let first = p.puts in
    let second = q.puts in
    record {
      same = q.same ∙ p.same;
      kept = q.kept ∙ p.kept;
      puts = record {
        out = second.out ∙ sym (store_then a.memory.now b.memory.now xs ys a.length b.length first.out (sym first.to));
        to = second.to ∙ ap (λ (k : ℕ). k + length ys) first.to ∙ add_assoc a.length (length xs) (length ys) ∙ ap (λ (k : ℕ). a.length + k) (sym (length-append xs ys));
        inside = let same = p.kept in let i = second.inside in omega arith;
      };
    }

-- the fewest digits of a number
pub spelt : (n k : ℕ) {a b : Text} {xs : List ℕ} → io.IsDigitCount 10 1 n k → xs ≡ io.last_digits 10 k n → n < 2 ^ 64 → Adds a b xs → Adds a b (decimal n)
spelt n k {a = a} {b = b} f e h p = subst (Adds a b) (e ∙ decimal-is n k f h) p

-- what is put into memory, from its start
pub from-start : {a b : Text} {out xs : List ℕ} → a.memory.now ≡ out → a.length ≡ 0 → Adds a b xs → Puts out b.memory.now 0 b.length xs
from-start {a = a} {b = b} {out = out} {xs = xs} m z p =
    subst (λ (k : ℕ). Puts out b.memory.now k b.length xs) z (subst (λ (l : List ℕ). Puts l b.memory.now a.length b.length xs) m p.puts)

-- no call
pub nothing : {a b : Text} {xs : List ℕ} → Adds a b xs → Adds b b []
nothing {b = b} p =
    record {
      same = refl;
      kept = refl;
      puts = record {
        out = refl;
        to = sym (add-zero b.length);
        inside = let i = p.puts.inside in let k = p.kept in omega arith;
      };
    }
