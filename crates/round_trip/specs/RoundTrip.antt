-- The round trip of match files (01, 'Match file'): what is claimed. The proofs are in proofs/RoundTrip.antt.
-- Believed. Assumes nothing.
use Rattle.std.specs.Prelude.{ℕ, ◌≤◌, ◌<◌, ◌≡◌, None, List, [], ◌∷◌, ◌++◌, length}
use Rattle.match_format.specs.Format.{Bytes, Warrior, file, AllFit, IsFile}
use Rattle.match_format.specs.Faults.{fault}
use Rattle.match_file.specs.Reading.{size_in, warriors_of}
use Rattle.match_write.specs.Writing.{write_first, write_added}
use Rattle.round_trip.specs.Calls.{made, Done, AllAccepted, write_all, Reads}

-- the reader accepts exactly the files of the format
abbrev pub Exact : Type 0
Exact = (f : List ℕ) → Bytes f → (fault f ≡ None → IsFile f) × (IsFile f → fault f ≡ None)

-- the file of M and of 1 to 16 warriors that fit it reads back as they are
abbrev pub ReadsBack : Type 0
ReadsBack = (size : ℕ) (ws : List Warrior) → size < 65536 → 1 ≤ length ws → length ws ≤ 16 → AllFit ws → Reads (file size ws) size ws

-- a file that reads is the file of what it reads as, byte for byte
abbrev pub WritesAgain : Type 0
WritesAgain = (f : List ℕ) → Bytes f → fault f ≡ None → file (size_in f) (warriors_of f) ≡ f

-- what a call made from M and one warrior reads back; an origin has 16 bits
abbrev pub FirstReads : Type 0
FirstReads = (size : ℕ) (w : Warrior) (output : List ℕ) → w.origin < 65536 → Done (write_first size w output)
    → Reads (made (write_first size w output)) size (w ∷ [])

-- what a call made by adding a warrior reads back: the earlier warriors as they were, and the new one
abbrev pub AddedReads : Type 0
AddedReads = (f : List ℕ) (w : Warrior) (output : List ℕ) → Bytes f → w.origin < 65536 → Done (write_added f w output)
    → Reads (made (write_added f w output)) (size_in f) (warriors_of f ++ (w ∷ []))

-- a file whose M and warriors the writer accepts, written again warrior by warrior into outputs that are long enough, is the same bytes
abbrev pub WritesBack : Type 0
WritesBack = (f : List ℕ) (outputs : ℕ → List ℕ) → Bytes f → fault f ≡ None → AllAccepted (size_in f) (warriors_of f)
    → ((i : ℕ) → length f ≤ length (outputs i)) → write_all outputs (size_in f) (warriors_of f) ≡ f
