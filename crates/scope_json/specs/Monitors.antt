-- `import` and `check` as JSON: what they write as plain text, as one member.
use Rattle.std.specs.Prelude.{[], ◌∷◌, List, codes}
use Rattle.serde_json.specs.Data.{Data}
use Rattle.json_build.specs.Parts.{name_of}
use Rattle.mem_base.specs.script.Spelling.{Text}
use Rattle.scope_json.specs.Texts.{answer_of}

abbrev pub text_fields : Text → Text → List (Text × Data)
text_fields key text = (key, name_of text) ∷ []

-- a text under a name, as the answer of a command
abbrev pub text_data : Text → Text → Text → Data
text_data command key text = answer_of command (text_fields key text)

-- the script that was made
abbrev pub import_data : Text → Data
import_data text = text_data (codes "import") (codes "script") text

-- what is told of the spaces, line by line
abbrev pub check_data : Text → Data
check_data text = text_data (codes "check") (codes "spaces") text
