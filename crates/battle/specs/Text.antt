-- What `play` prints (01, 'Match file').
-- Believed. Assumes nothing.
use Rattle.std.specs.Prelude.{ℕ, List}
use Rattle.printing.specs.Text.{refusal_text, run_text}
use Rattle.battle.specs.Match.{Result, refused, played, result}

abbrev pub text : Result → List ℕ
text (refused t) = refusal_text t
text (played number steps writes h) = run_text number steps writes h

-- every byte that is printed for a file
unfoldable pub printed : List ℕ → List ℕ
printed f = text (result f)
