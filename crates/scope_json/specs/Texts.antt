-- The text of an answer as JSON.
use Rattle.std.specs.Prelude.{◌≡◌, ◌==◌, ◌++◌, Bool, not, List, ◌∷◌, Some, codes, length}
use Rattle.serde_json.specs.Data.{Data, string}
use Rattle.serde_json.specs.Read.{read}
use Rattle.json_build.specs.Parts.{record_of}
use Rattle.mem_base.specs.script.RefusalLines.{line_feed}
use Rattle.mem_base.specs.script.Spelling.{Text}

-- a line that reads as this value
pub record IsJson (d : Data) (text : Text) : Type 0 where
  pub json : Text
  pub line : text ≡ json ++ line_feed
  pub reads_back : read json ≡ Some d

-- what a command answers: its name, and more
abbrev pub answer_of : Text → List (Text × Data) → Data
answer_of command fs = record_of ((codes "command", string command) ∷ fs)

-- there is something in a list
abbrev pub has_any : {A : Type 0} → List A → Bool
has_any xs = not (length xs == 0)
