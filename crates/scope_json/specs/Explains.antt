-- `explain` as JSON: the first line at fault of a text, or the commands of a script that are refused; or what a refusal or a cause means.
use Rattle.std.specs.Prelude.{◌≡◌, [], ◌∷◌, Bool, true, List, Ok, Err, Some, codes, map}
use Rattle.serde_json.specs.Data.{Data, null, number, string, unsigned}
use Rattle.json_build.specs.Parts.{list_of, record_of}
use Rattle.mem_base.specs.declared.script.faults.BadScript.{BadScript}
use Rattle.mem_base.specs.script.RefusalLines.{cause_text}
use Rattle.mem_base.specs.script.Scripts.{Meaning}
use Rattle.mem_base.specs.script.Spelling.{Text}
use Rattle.script_explain.specs.Topics.{code_now}
use Rattle.script_explain.specs.declared.topics.Topic.{Topic}
use Rattle.script_map.specs.Left.{first_of, refused_in}
use Rattle.script_map.specs.Refusals.{Refused}
use Rattle.scope_values.specs.Topics.{topic_data}
use Rattle.scope_run.specs.Explains.{topic_code}
use Rattle.scope_json.specs.Lints.{refused_fields}
use Rattle.scope_json.specs.Texts.{answer_of, has_any}

-- a line at fault, and the cause
abbrev pub fault_fields : BadScript → List (Text × Data)
fault_fields bad = (codes "line", number (unsigned bad.line)) ∷ (codes "cause", string (cause_text bad.cause)) ∷ []

abbrev pub fault_data : BadScript → Data
fault_data bad = record_of (fault_fields bad)

-- a refused command
abbrev pub refused_data : Refused → Data
refused_data r = record_of (refused_fields r)

abbrev pub explain_fields : Data → List Refused → List (Text × Data)
explain_fields fault refused = (codes "fault", fault) ∷ (codes "refused", list_of (map refused_data refused)) ∷ []

abbrev pub explain_data : Data → List Refused → Data
explain_data fault refused = answer_of (codes "explain") (explain_fields fault refused)

-- of a script each command that is refused, and of another text its first line at fault
abbrev pub explained_data : Meaning → Data
explained_data (Ok lines) = explain_data null (refused_in (first_of lines) lines)
explained_data (Err bad) = explain_data (fault_data bad) []

-- there is something to mend
abbrev pub explain_mends : Meaning → Bool
explain_mends (Ok lines) = has_any (refused_in (first_of lines) lines)
explain_mends (Err bad) = true

-- what a number or a word means
abbrev pub topic_answer : Topic → List (Text × Data)
topic_answer t = (codes "topic", topic_data t) ∷ []

abbrev pub TellsTopic : Text → Data → Type 0
TellsTopic word d = (t : Topic) × (topic_code word ≡ Some (code_now t)) × (d ≡ answer_of (codes "explain") (topic_answer t))
