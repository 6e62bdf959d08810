-- Laws of the other cells read: where both limits are M, A's operand is looked at in the core, B's by the word that A leaves.
-- Assumes nothing.
use mathlib.Core.Path.{◌≡◌, sym, ap, ◌∙◌}
use mathlib.Core.Bool.{Bool, true, false, cond, ◌&&◌}
use mathlib.Core.List.{List}
use Prim.Native.Nat.{ℕ, ◌<◌}
use lib.Dec.{eqb}
use lib.ListN.{length, get_or, length-set}
use Rattle.laws.proofs.Every.{every-join}
use Rattle.laws.proofs.Tests.{both}
use Rattle.offset.specs.Offset.{ahead}
use Rattle.cell.specs.Cells.{unpacked, sound_word, store}
use Rattle.machine.specs.declared.Rules.{Rules}
use Rattle.machine.specs.Pointers.{Site, site_at}
use Rattle.machine.specs.Whole.{former_a, former_b, Unlimited}
use Rattle.machine.proofs.Whole.{whole-effect}
use Rattle.word.proofs.Cells.{ahead-below}
use Rattle.address.specs.Inner.Operands.{sound_seen, Fetched}
use Rattle.address.proofs.Pointing.{on-set, word_of}
use Rattle.address.proofs.Evaluation.{ready-a, ready-b, valid-size}
use Rattle.refusal.specs.Inner.Looking.{sound_both, left, former_sound, sound_seen_at}
use Rattle.refusal.proofs.Looking.{left-sound, both_stored, seen-both, core-left}

module _ (rules : Rules) (core : List ℕ) (pc here : ℕ) (f : Fetched rules core pc here) where
  abbrev s : Site
  s = site_at rules pc

  abbrev size : ℕ
  size = rules.size

  here-sound : sound_word size (get_or core pc 0) ≡ true
  here-sound = rw f.is at f.sound

  -- B's cells follow A's
  by_two : former_sound s core ≡ (sound_seen size (former_a s core) && sound_seen size (former_b s core))
  by_two = every-join (sound_word size) (former_a s core).seen (former_b s core).seen

  module _ {mode n location : ℕ} (em : mode ≡ (unpacked here).a_mode) (en : n ≡ (unpacked here).a.0) (is : location ≡ ahead size pc n)
      {r : Bool} (er : r ≡ sound_both size core location (get_or core location 0) mode) where
    seen-a : sound_seen size (former_a s core) ≡ r
    seen-a =
        seen-both rules core pc _ _ (ready-a f (ap (λ (w : ℕ). (unpacked w).a.0) (sym f.is))) here-sound
        ∙ sym (er ∙ rw (is, em, en, f.is))

    pub no-a : r ≡ false → false ≡ former_sound s core
    no-a h = sym (by_two ∙ ap (λ (t : Bool). t && sound_seen size (former_b s core)) (seen-a ∙ h))

    module _ (h : r ≡ true) where
      pub old-sound : sound_word size (get_or core location 0) ≡ true
      unfolding sound_both
      old-sound = (both (sound_word size (get_or core location 0)) _ (sym er ∙ h)).0

      module _ {word again : ℕ} (ew : word ≡ left size (get_or core location 0) mode) (ea : again ≡ cond (eqb pc location) word here) where
        abbrev changed : List ℕ
        changed = store core location word

        after-a : (former_a s core).core ≡ changed
        after-a = core-left rules core pc _ _ ∙ rw (ew, is, em, en, f.is)

        location-below : location < length core
        location-below = rw (is, f.cells) (ahead-below _ _ f.place)

        word_sound : sound_word size word ≡ true
        word_sound = rw ew (left-sound size _ _ f.valid old-sound)

        again-is : again ≡ get_or changed pc 0
        again-is = ea ∙ rw f.is (word_of core pc location word location-below)

        fetched-again : Fetched rules changed pc again
        fetched-again =
            record {
              valid = f.valid;
              cells = length-set core location word ∙ f.cells;
              place = f.place;
              is = again-is;
              sound = rw again-is (on-set (λ (w : ℕ). sound_word size w ≡ true) core location pc word 0 word_sound here-sound);
            }

        module _ {mode' n' second found : ℕ} (em' : mode' ≡ (unpacked here).b_mode) (en' : n' ≡ (unpacked again).b.0) (is' : second ≡ ahead size pc n')
            (ef : found ≡ cond (eqb second location) word (get_or core second 0)) where
          pub by-b : {r' : Bool} → r' ≡ sound_both size core second found mode' → r' ≡ former_sound s core
          by-b {r'} er' =
              sym (by_two ∙ ap (λ (t : Bool). t && sound_seen size (former_b s core)) (seen-a ∙ h) ∙ seen_b)
            where
              found-is : found ≡ get_or changed second 0
              found-is = ef ∙ word_of core second location word location-below

              seen_b : sound_seen size (former_b s core) ≡ r'
              seen_b =
                  rw after-a
                  (seen-both rules changed pc _ _ (ready-b fetched-again (ap (λ (w : ℕ). (unpacked w).b.0) (sym again-is))) (rw again-is at fetched-again.sound)
                  ∙ both_stored size core location word _ _ _ location-below old-sound word_sound
                  ∙ sym (er' ∙ rw (found-is, is', en', again-is, em', f.is)))

-- with both limits M these are the cells read
pub whole-read : (rules : Rules) (core : List ℕ) (pc here : ℕ) → Fetched rules core pc here → Unlimited rules → {r : Bool} → r ≡ former_sound (site_at rules pc) core
    → r ≡ sound_seen_at (site_at rules pc) core
whole-read rules core pc here f u e = e ∙ sym ((whole-effect (site_at rules pc) core u (valid-size f) f.cells).seen (sound_word rules.size))
