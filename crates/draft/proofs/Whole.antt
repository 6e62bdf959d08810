-- Comparisons under I: whole cells compared as words, and instructions compared field by field.
-- Assumes nothing.
use Prim.Native.Nat.{ℕ, ◌<◌}
use mathlib.Core.Path.{◌≡◌, refl, sym, ap, ◌∙◌, subst}
use mathlib.Core.Bool.{Bool, true, false, ◌&&◌, ◌||◌, and-true, true≢false}
use lib.Dec.{eqb, lit<}
use lib.ListN.{get_or}
use borrow.Author.Tests.{eqb-true, eq-eqb}
use Rattle.laws.specs.Lists.{every}
use Rattle.laws.proofs.Tests.{both, iff}
use Rattle.laws.proofs.Numbers.{below}
use Rattle.laws.proofs.Every.{◌and◌}
use Rattle.cell.specs.declared.Cell.{Cell}
use Rattle.types.specs.Opcode.{CMP, SEQ}
use Rattle.types.specs.Modifier as modifier
use Rattle.cell.specs.Cells.{packed, unpacked}
use Rattle.cell.proofs.Words.{InRange, cell-ext, unpack-pack}
use Rattle.machine.specs.Execution.{equal}
use Rattle.machine.proofs.Execution.{row}
use Rattle.draft.specs.Draft.{modifiers, I, test, under, one_code, same_instruction}
use Rattle.draft.specs.Departures.{twins}
use Rattle.draft.proofs.Rows.{row-test}

-- codes that the draft takes for one are one, but for CMP and SEQ
one_code_lem : (x y : ℕ) → (eqb x CMP && eqb y SEQ || eqb x SEQ && eqb y CMP) ≡ false → one_code x ≡ one_code y → x ≡ y
one_code_lem x y n e = go (eqb x CMP) (eqb y CMP) refl refl
  where
    go : (s t : Bool) → eqb x CMP ≡ s → eqb y CMP ≡ t → x ≡ y
    go true true p q = eqb-true x CMP p ∙ sym (eqb-true y CMP q)
    go true false p q = absurd (true≢false (sym (rw (p, eq-eqb y SEQ (sym (rw (p, q) at e)))) ∙ n))
    go false true p q = absurd (true≢false (sym (rw (p, q, eq-eqb x SEQ (rw (p, q) at e))) ∙ n))
    go false false p q = rw (p, q) at e

same-cell : (c d : Cell) → twins c d ≡ false → same_instruction c d ≡ true → c ≡ d
same-cell c d n e =
    let b5 = both _ (eqb c.b.0 d.b.0) e in
    let b4 = both _ (eqb c.a.0 d.a.0) b5.0 in
    let b3 = both _ (eqb c.b_mode d.b_mode) b4.0 in
    let b2 = both _ (eqb c.a_mode d.a_mode) b3.0 in
    let b1 = both (eqb (one_code c.opcode) (one_code d.opcode)) (eqb c.modifier d.modifier) b2.0 in
    cell-ext (one_code_lem _ _ n (eqb-true _ _ b1.0)) (eqb-true _ _ b1.1) (eqb-true _ _ b2.1) (eqb-true _ _ b3.1) (eqb-true _ _ b4.1) (eqb-true _ _ b5.1)

same_self : (c : Cell) → same_instruction c c ≡ true
same_self c =
    rw (
      eq-eqb (one_code c.opcode) (one_code c.opcode) refl,
      eq-eqb c.modifier c.modifier refl,
      eq-eqb c.a_mode c.a_mode refl,
      eq-eqb c.b_mode c.b_mode refl,
      eq-eqb c.a.0 c.a.0 refl,
      eq-eqb c.b.0 c.b.0 refl,
    )

abbrev numbers : Cell → Cell → Bool
numbers c d = eqb c.a.0 d.a.0 && (eqb c.b.0 d.b.0 && true)

whole : (c d : Cell) → InRange c → InRange d → twins c d ≡ false → (numbers c d && eqb (packed c) (packed d)) ≡ same_instruction c d
whole c d r s n = iff (numbers c d && eqb (packed c) (packed d)) (same_instruction c d) to from
  where
    to : (numbers c d && eqb (packed c) (packed d)) ≡ true → same_instruction c d ≡ true
    to e =
        let q : c ≡ d = sym (unpack-pack c r) ∙ ap unpacked (eqb-true (packed c) (packed d) (both (numbers c d) (eqb (packed c) (packed d)) e).1) ∙ unpack-pack d s in
        subst (λ (x : Cell). same_instruction c x ≡ true) q (same_self c)

    from : same_instruction c d ≡ true → (numbers c d && eqb (packed c) (packed d)) ≡ true
    from e =
        subst (λ (x : Cell). (numbers c x && eqb (packed c) (packed x)) ≡ true) (same-cell c d n e)
        (rw (eq-eqb c.a.0 c.a.0 refl, eq-eqb c.b.0 c.b.0 refl, eq-eqb (packed c) (packed c) refl))

-- CMP, SEQ, SNE: the machine's comparison is the draft's where under I the live cell is still the register and no CMP meets a SEQ
pub row-equal : (M pc jump : ℕ) (ra rb live target : Cell) → InRange ra → InRange live → (k : ℕ) → k < 7
    → (eqb k modifier.I ≡ true → rb ≡ live)
    → (eqb k modifier.I && twins ra live) ≡ false
    → equal (record { size = M; modifier = k; pc = pc; jump = jump; ra = ra; rb = rb; live = live; target = target })
    ≡ under (get_or modifiers k I) (same_instruction ra rb) (test eqb (get_or modifiers k I) ra rb)
row-equal M pc jump ra rb live target r s =
    below _ 7
    (plainly 0 (lit< tt)
    and plainly 1 (lit< tt)
    and plainly 2 (lit< tt)
    and plainly 3 (lit< tt)
    and plainly 4 (lit< tt)
    and plainly 5 (lit< tt)
    and (λ u n. rw (u refl) (whole ra live r s n))
    and tt)
  where
    plainly : (k : ℕ) → k < 7 → {U N : Type 0} → U → N → (every (λ x. eqb x.a x.b) (row k ra rb) && true) ≡ test eqb (get_or modifiers k I) ra rb
    plainly k h u n = and-true (every (λ x. eqb x.a x.b) (row k ra rb)) ∙ row-test ra rb eqb k h
