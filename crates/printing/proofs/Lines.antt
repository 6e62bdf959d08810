-- The lines that are printed, put one after the other.
-- Assumes nothing.
use Prim.Native.Nat.{ℕ, zero, suc, ◌+◌, ◌*◌, ◌≤◌, ◌<◌}
use mathlib.Core.Path.{◌≡◌, refl, sym, ap, ap₂, subst, ◌∙◌}
use mathlib.Core.Bool.{Bool, cond}
use mathlib.Core.List.{List, [], ◌∷◌, ◌++◌}
use native.Mathlib.Nat.{add-zero, zero-add}
use native.Mathlib.Omega.{arith}
use lib.ListN.{length, get_or, drop, length-drop, length-take}
use Rattle.std.proofs.Common.{append_assoc, append-nil}
use borrow.Author.Tests.{eq-eqb, ne_eqb, le-leb, lt-leb}
use Rattle.answer.specs.Numbers.{Told}
use Rattle.machine.specs.declared.Header.{Header}
use Rattle.machine.specs.Names.{name_at}
use Rattle.printing.specs.declared.text.Text.{Text}
use Rattle.printing.specs.Text.{decimal, line_of, name_lines, position, run_text, run_text_if, Puts}
use Rattle.printing.specs.Inner.Adding.{Adds}
use Rattle.printing.proofs.Adding.{then, nothing}

-- 13: its position
pub placed : (t : Told) {v : ℕ} {a b c : Text} → t.number ≡ 13 → v ≡ t.value → Adds a b (32 ∷ []) → Adds b c (decimal v) → Adds a c (position t)
placed t {a = a} {c = c} is f p q =
    subst (Adds a c)
    (ap (λ (k : ℕ). 32 ∷ decimal k) f ∙ ap (λ (x : Bool). cond x (32 ∷ decimal t.value) []) (sym (eq-eqb t.number 13 is)))
    (then p q)

-- a refusal but 13: no position
pub unplaced : (t : Told) {a b : Text} {xs : List ℕ} → (t.number ≡ 13 → ⊥) → Adds a b xs → Adds b b (position t)
unplaced t {b = b} other p = subst (Adds b b) (ap (λ (x : Bool). cond x (32 ∷ decimal t.value) []) (sym (ne_eqb t.number 13 other))) (nothing p)

-- the lines of a run by the answer's number
pub run-text : (number steps writes : ℕ) (h : Header) {l m : List ℕ} {q : ℕ} → h.names.held ≤ 16 → Puts l m 0 q (run_text number steps writes h)
    → Puts l m 0 q (run_text_if number steps writes h)
run-text number steps writes h {l = l} {m = m} {q = q} few a =
    subst (λ (b : Bool). Puts l m 0 q (cond b (run_text number steps writes h) [])) (sym (le-leb h.names.held 16 few)) a

-- a header that holds more than 16 names
pub no_text : (number steps writes : ℕ) (h : Header) (l : List ℕ) → 16 < h.names.held → Puts l l 0 0 (run_text_if number steps writes h)
no_text number steps writes h l many =
    subst (λ (b : Bool). Puts l l 0 0 (cond b (run_text number steps writes h) [])) (sym (lt-leb h.names.held 16 many))
    (record { out = refl; to = refl; inside = omega arith })

-- a name is a part of the names' bytes
pub name-short : (h : Header) (i : ℕ) → length h.names.bytes ≡ 512 → length (name_at h.names i) ≤ 512
name-short h i e =
    let all = length-drop (32 * i) h.names.bytes in
    let some = length-take (get_or h.names.lengths i 0) (drop (32 * i) h.names.bytes) in
    omega arith

-- the line of the name at i
abbrev line_at : Header → ℕ → List ℕ
line_at h i = line_of (name_at h.names i) (get_or h.counts i 0)

-- the lines of one name more
names-more : (h : Header) (i n : ℕ) → name_lines h i (suc n) ≡ name_lines h i n ++ line_at h (i + n)
names-more h i zero = append-nil (line_at h i) ∙ ap (line_at h) (sym (add-zero i))
names-more h i (suc n) =
    let next : (i + 1) + n ≡ i + suc n = omega arith in
    let rest = names-more h (i + 1) n ∙ ap (λ (k : ℕ). name_lines h (i + 1) n ++ line_at h k) next in
    ap (λ (l : List ℕ). line_at h i ++ l) rest ∙ sym (append_assoc (line_at h i) (name_lines h (i + 1) n) (line_at h (i + suc n)))

-- the loop over the names: the line of the name at i comes after those before it
pub name-added : (h : Header) (i : ℕ) {a b c : Text} {name : List ℕ} {count : ℕ} → Adds a b (name_lines h 0 i) → name ≡ name_at h.names i → count ≡ get_or h.counts i 0
    → Adds b c (line_of name count) → Adds a c (name_lines h 0 (i + 1))
name-added h i {a = a} {b = b} {c = c} {name = name} {count = count} p is counted q =
    let one : suc i ≡ i + 1 = omega arith in
    let same = ap₂ line_of is counted ∙ ap (line_at h) (sym (zero-add i)) in
    subst (λ (k : ℕ). Adds a c (name_lines h 0 k)) one (subst (Adds a c) (sym (names-more h 0 i)) (then p (subst (Adds b c) same q)))
