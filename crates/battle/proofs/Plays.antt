-- Playing a file: the machine that runs is sound, and what came of the file is told.
-- Assumes nothing.
use Rattle.std.specs.Prelude.{Option, None, Some, Ok, Err}
use Prim.Native.Nat.{ℕ, ◌≤◌, ◌<◌}
use mathlib.Core.Path.{◌≡◌, refl, sym, ap, subst, ◌∙◌}
use mathlib.Core.Bool.{Bool, true, false, cond}
use mathlib.Core.List.{List}
use lib.Dec.{eqb, ltb}
use lib.ListN.{length, replicate, length-replicate}
use borrow.Author.Tests.{lt-ltb, le-ltb, eqb-true}
use Rattle.answer.specs.declared.Error.{Error}
use Rattle.answer.specs.declared.Error.TheVariants.{InvalidCoreSize, Malformed}
use Rattle.answer.specs.Numbers.{Told, told_error}
use Rattle.machine.specs.declared.Rules.{Rules}
use Rattle.machine.specs.State.{of_size, Machine, told_by}
use Rattle.machine.specs.Fresh.{fresh}
use Rattle.machine.specs.Run.{run}
use Rattle.machine.proofs.Fresh.{fresh-lengths, fresh-tells}
use Rattle.machine.proofs.SoundMachine.{SoundMachine, fresh-sound, run-keeps-sound}
use Rattle.match_format.specs.Faults.{fault}
use Rattle.match_file.specs.declared.Contents.{Contents}
use Rattle.match_file.specs.Reading.{unless_malformed, contents_in, size_in}
use Rattle.match_file.proofs.Values.{no-fault, is_read, refusal-told}
use Rattle.lent.specs.Given.{Given, given, given_by}
use Rattle.match_load.specs.Loading.{load_match}
use Rattle.match_load.proofs.Sound.{match-keeps}
use Rattle.battle.specs.Match.{Result, refused, after_loads, after_fresh, after_reading, result}

-- a machine that is run is sound: fresh made it, and every warrior was loaded
module _ (f : List ℕ) (rules : Rules) (core queue : List ℕ) (made : Told) {w s : ℕ} (m : Machine)
    (fresh-gave : given made w s m ≡ given_by (fresh rules core queue)) (zero_is : made.number ≡ 0)
    (loaded : Told) {v r : ℕ} (n : Machine) (loads-gave : given loaded v r n ≡ given_by (load_match m f).outcome)
    (ran : Told) {x y : ℕ} (o : Machine) (run-gave : given ran x y o ≡ given_by (run None n)) where
  sound : SoundMachine n
  sound =
      let number_is : (fresh rules core queue).number ≡ 0 = sym (ap (λ (g : Given). g.told.number) fresh-gave) ∙ zero_is in
      let begins = subst SoundMachine (sym (ap (λ (g : Given). g.machine) fresh-gave)) (fresh-sound rules core queue number_is) in
      subst SoundMachine (sym (ap (λ (g : Given). g.machine) loads-gave)) (match-keeps m f begins)

  pub runs-few : o.header.names.held ≤ 16
  runs-few = subst (λ (k : Machine). k.header.names.held ≤ 16) (sym (ap (λ (g : Given). g.machine) run-gave)) (run-keeps-sound None n sound).header.few

-- fresh looks at the lengths of what it is lent
module _ (f : List ℕ) (rules : Rules) (core queue core' queue' : List ℕ) (a : length core' ≡ length core) (b : length queue' ≡ length queue) where
  abbrev after : Machine → Result
  after m = after_loads (load_match m f).outcome

  fresh-same : after_fresh f (fresh rules core' queue') ≡ after_fresh f (fresh rules core queue)
  fresh-same =
      ap (λ (t : Told). cond (eqb t.number 0) (after (fresh rules core' queue').machine) (refused t)) (fresh-tells rules core queue core' queue' a b)
      ∙ go (eqb (fresh rules core queue).number 0) refl (told_by (fresh rules core queue))
    where
      go : (c : Bool) → eqb (fresh rules core queue).number 0 ≡ c → (t : Told)
          → cond c (after (fresh rules core' queue').machine) (refused t) ≡ cond c (after (fresh rules core queue).machine) (refused t)
      go true e t = ap after (fresh-lengths rules core queue core' queue' a b (eqb-true (fresh rules core queue).number 0 e))
      go false e t = refl

-- a file, by what reading it gives
module _ (f : List ℕ) where
  pub too_long : 32768 < length f → refused (told_error (Malformed 32768)) ≡ result f
  unfolding result
  too_long h = rw (lt-ltb 32768 (length f) h)

  module _ (short : length f ≤ 32768) where
    by-fault : after_reading f (fault f) ≡ result f
    unfolding result
    by-fault = rw (le-ltb 32768 (length f) short)

    pub malformed : (e : Error) → Err e ≡ unless_malformed (fault f) (contents_in f) → refused (told_error e) ≡ result f
    malformed e is = go (fault f) is ∙ by-fault
      where
        go : (x : Option ℕ) → Err e ≡ unless_malformed x (contents_in f) → refused (told_error e) ≡ after_reading f x
        go None d = cc
        go (Some p) d = ap refused (refusal-told (Some p) (contents_in f) d)

    module _ (c : Contents) (read : Ok c ≡ unless_malformed (fault f) (contents_in f)) where
      size_is : c.size ≡ size_in f
      size_is = ap (λ (x : Contents). x.size) (is_read (fault f) (contents_in f) read)

      abbrev by_size : Bool → Result
      by_size b = cond b (refused (told_error InvalidCoreSize)) (after_fresh f (fresh (of_size (size_in f) 125) (replicate (size_in f) 0) (replicate 2000 0)))

      reading-is : by_size (ltb 8000 c.size) ≡ result f
      reading-is = ap (λ (k : ℕ). by_size (ltb 8000 k)) size_is ∙ sym (ap (after_reading f) (no-fault (fault f) (contents_in f) read)) ∙ by-fault

      pub too-big : 8000 < c.size → refused (told_error InvalidCoreSize) ≡ result f
      too-big h = sym (ap by_size (lt-ltb 8000 c.size h)) ∙ reading-is

      pub fits : c.size ≤ 8000 → (core queue : List ℕ) → length core ≡ c.size → length queue ≡ 2000 → after_fresh f (fresh (of_size c.size 125) core queue) ≡ result f
      fits h core queue a b =
          ap (λ (k : ℕ). after_fresh f (fresh (of_size k 125) core queue)) size_is
          ∙ fresh-same f (of_size (size_in f) 125) (replicate (size_in f) 0) (replicate 2000 0) core queue (a ∙ size_is ∙ sym (length-replicate {A = ℕ} (size_in f) 0))
          (b ∙ sym (length-replicate {A = ℕ} 2000 0))
          ∙ sym (ap by_size (le-ltb 8000 c.size h))
          ∙ reading-is
