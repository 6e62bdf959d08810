-- One round of each loop: a step that is played, and a call that plays one step or all.
-- Assumes nothing.
use mathlib.Core.Path.{◌≡◌, refl, sym, ap, subst, ◌∙◌}
use mathlib.Core.Bool.{Bool, true, false}
use Rattle.std.specs.Prelude.{max}
use Prim.Native.Nat.{ℕ, ◌+◌, ◌-◌, ◌*◌, ◌≤◌, ◌<◌}
use native.Mathlib.Nat.{add-zero}
use native.Mathlib.Omega.{arith}
use lib.Dec.{eqb, ltb}
use borrow.Author.Tests.{eqb-true, ltb-true, ltb-false}
use lib.ListN.{length, get_or}
use Rattle.answer.specs.Numbers.{Told, told}
use Rattle.std.specs.Prelude.{Err}
use Rattle.answer.specs.declared.Error.TheVariants.{PrivateMemory}
use Rattle.cell.specs.Cells.{unpacked}
use Rattle.machine.specs.State.{Machine}
use Rattle.machine.specs.Step.{pc, executed}
use Rattle.lent.specs.Parts.{processes_of}
use Rattle.lent.specs.Given.{Given, given, given_by}
use Rattle.steps.specs.Inner.Instruction.{Executable}
use Rattle.steps.specs.Inner.Queueing.{limited_queue, tail_of, Front}
use Rattle.steps.specs.Inner.Ready.{Ready, step_of, plays_of, Playable, Scanned}
use Rattle.steps.proofs.Answers.{step_left, fetches, front-is, private-step, executable, executed-step}
use Rattle.steps.proofs.Trust.{Playing, playable, plays-on}
use Rattle.steps.proofs.Loop.{Going, step-counted, as-run, onward, few-writes, stopped, reaches, again}

-- the inner loop at a machine, with the writes so far and the tail
pub record Round (until : ℕ) (start m : Machine) (w tail : ℕ) : Type 0 where
  pub going : Going until start m w
  pub playing : Playing until m
  pub behind : tail ≡ tail_of m
  pub counted : m.header.steps ≤ 4294967295

module _ {until : ℕ} {start m : Machine} {w tail : ℕ} (g : Round until start m w tail) (below : m.header.steps < until) where
  can-play : Playable m
  can-play = playable until m g.going.ready below g.playing

  one-within : m.header.steps + 1 ≤ until
  one-within = omega arith

  pub can-count : m.header.steps < 4294967295
  can-count = step_left m g.going.ready can-play g.counted

  pub can-fetch : (m.header.ring.head < length m.queue) × (pc m < length m.core)
  can-fetch = fetches m g.going.ready can-play

  -- the cell that was fetched
  module _ {cell op : ℕ} (fetched : cell ≡ get_or m.core (pc m) 0) (is : op ≡ (unpacked cell).opcode) where
    opcode-is : op ≡ (unpacked (get_or m.core (pc m) 0)).opcode
    opcode-is = is ∙ ap (λ (c : ℕ). (unpacked c).opcode) fetched

    pub private-stops : 16 < op → given (told {A = Unit {0}} (Err PrivateMemory)) w (m.header.steps - start.header.steps) m ≡ given_by (plays_of (until - start.header.steps) start)
    private-stops h =
        ap (λ (i : ℕ). given (told {A = Unit {0}} (Err PrivateMemory)) i (m.header.steps - start.header.steps) m) (sym (add-zero w))
        ∙ stopped g.going 1 one-within (private-step m g.going.ready can-play (subst (λ (n : ℕ). 16 < n) opcode-is h) ∙ as-run m g.going.ready) refl

    module _ (few : op ≤ 16) where
      few-is : (unpacked (get_or m.core (pc m) 0)).opcode ≤ 16
      few-is = subst (λ (n : ℕ). n ≤ 16) opcode-is few

      pub can-step : Front (limited_queue m.header.rules.processes m.queue (processes_of m.header)) tail × Executable m.header.rules m.core (pc m) cell
      can-step = (
        front-is m g.going.ready can-play g.behind,
        subst (Executable m.header.rules m.core (pc m)) (sym fetched) (executable m g.going.ready can-play few-is),
      )

      module _ {t : Told} {sw : ℕ} {n : Machine} (done : given t sw 1 n ≡ given_by (executed m)) where
        one-step : given t sw 1 n ≡ given_by (step_of m)
        one-step = done ∙ executed-step m g.going.ready can-play few-is

        pub one-more : n.header.steps ≡ m.header.steps + 1
        one-more =
            ap (λ (x : Given). x.machine.header.steps) one-step ∙ (step-counted m g.going.ready).steps
            ∙ ap (λ (x : Given). m.header.steps + x.steps) (sym one-step)

        played : given t sw 1 n ≡ given_by (plays_of 1 m)
        played = one-step ∙ as-run m g.going.ready

        pub writes-few : w + sw ≤ (n.header.steps - start.header.steps) * 3
        writes-few = few-writes g.going 1 one-within played

        pub step-stops : eqb t.number 0 ≡ false → given t (w + sw) (n.header.steps - start.header.steps) n ≡ given_by (plays_of (until - start.header.steps) start)
        step-stops e = stopped g.going 1 one-within played e

        pub goes-round : eqb t.number 0 ≡ true → {tail' : ℕ} → tail' ≡ tail_of n → Round until start n (w + sw) tail'
        goes-round e b =
            let s = reaches g.going 1 one-within played e in
            let h = can-count in
            record {
              going = again g.going 1 one-within played e;
              playing = plays-on until m g.going.ready below n (ap (λ (x : Given). x.machine) one-step) s (ap (λ (x : Given). x.told.number) (sym one-step) ∙ eqb-true t.number 0 e) g.playing;
              behind = b;
              counted = omega arith;
            }

-- where the next step is trusted, all are up to the ceiling
abbrev pub Trusting : ℕ → ℕ → Machine → Type 0
Trusting ceiling trusted m = m.header.steps < trusted → (trusted ≡ ceiling) × Scanned ceiling m

-- a call of the outer loop plays all steps that the record is trusted for, else one
module _ {ceiling : ℕ} {start m : Machine} {w : ℕ} (g : Going ceiling start m w) (below : m.header.steps < ceiling) {trusted : ℕ} (trusting : Trusting ceiling trusted m)
    {t : Told} {sw ss : ℕ} {n : Machine} (played : given t sw ss n ≡ given_by (plays_of (max trusted (m.header.steps + 1) - m.header.steps) m)) where
  abbrev called : ℕ
  called = max trusted (m.header.steps + 1) - m.header.steps

  inside : (m.header.steps + called ≤ ceiling) × (0 < called)
  inside = (go (ltb m.header.steps trusted) refl, omega arith)
    where
      go : (b : Bool) → ltb m.header.steps trusted ≡ b → m.header.steps + called ≤ ceiling
      go true e = let h = ltb-true m.header.steps trusted e in let q = (trusting h).0 in omega arith
      go false e = let h = ltb-false m.header.steps trusted e in omega arith

  pub call-writes : w + sw ≤ (n.header.steps - start.header.steps) * 3
  call-writes = few-writes g called inside.0 played

  pub call-since : start.header.steps ≤ n.header.steps
  call-since = onward g called inside.0 played

  pub call-stops : eqb t.number 0 ≡ false → given t (w + sw) (n.header.steps - start.header.steps) n ≡ given_by (plays_of (ceiling - start.header.steps) start)
  call-stops e = stopped g called inside.0 played e

  module _ (e : eqb t.number 0 ≡ true) where
    pub call-again : Going ceiling start n (w + sw)
    call-again = again g called inside.0 played e

    pub call-rises : m.header.steps < n.header.steps
    call-rises = let r = reaches g called inside.0 played e in let s = inside.1 in omega arith

    pub call-trusting : Trusting ceiling trusted n
    call-trusting h = absurd (let r = reaches g called inside.0 played e in omega arith)

-- a refusal that was asked
pub refused-call : (trusted : ℕ) (m : Machine) → Ready m → {t : Told} → (ltb m.header.steps trusted ≡ false) × (given t 0 0 m ≡ given_by (step_of m))
    → given t 0 (m.header.steps - m.header.steps) m ≡ given_by (plays_of (max trusted (m.header.steps + 1) - m.header.steps) m)
refused-call trusted m r {t} p =
    ap (λ (k : ℕ). given t 0 k m) (none m.header.steps) ∙ p.1 ∙ as-run m r
    ∙ ap (λ (k : ℕ). given_by (plays_of k m)) (let h = ltb-false m.header.steps trusted p.0 in omega arith)
  where
    none : (k : ℕ) → k - k ≡ 0
    none k = omega arith
