-- What a refusal or a cause means, as JSON.
use Rattle.std.specs.Prelude.{List, [], ◌∷◌, codes}
use Rattle.serde_json.specs.Data.{Data, string}
use Rattle.json_build.specs.Parts.{record_of}
use Rattle.mem_base.specs.script.Spelling.{Text}
use Rattle.script_explain.specs.declared.topics.Topic.{Topic}

-- its number or word, its words, what is wrong, what to do, an example, and the line that is written then
abbrev pub topic_fields : Topic → List (Text × Data)
topic_fields t =
    (codes "code", string t.code.now) ∷ (codes "name", string t.name.now) ∷ (codes "what", string t.what.now)
    ∷ (codes "advice", string t.advice.now) ∷ (codes "example", string t.example.now) ∷ (codes "answer", string t.answer.now) ∷ []

abbrev pub topic_data : Topic → Data
topic_data t = record_of (topic_fields t)
