-- What is told of a fault and of a refusal.
use Rattle.std.specs.Prelude.{◌≡◌, ◌++◌, codes}
use Rattle.mem_base.specs.script.Spelling.{Text}
use Rattle.mem_base.specs.script.RefusalLines.{line_feed}
use Rattle.script_explain.specs.declared.topics.Topic.{Topic}

-- a line was added, and then more
abbrev pub GoesOn : Text → Text → Text → Type 0
GoesOn old line new = (more : Text) × (new ≡ (old ++ line) ++ more)

-- a text as a line
abbrev pub text_line : Text → Text
text_line text = text ++ line_feed

-- CODE NAME: what is wrong
abbrev pub meaning_text : Topic → Text
meaning_text t = t.code.now ++ ((codes " " ++ t.name.now) ++ ((codes ": " ++ t.what.now) ++ line_feed))

-- what to do
abbrev pub advice_text : Topic → Text
advice_text t = codes "what to do: " ++ (t.advice.now ++ line_feed)

-- an example, and what it writes
abbrev pub example_text : Topic → Text
example_text t = text_line (codes "for example") ++ (text_line t.example.now ++ (text_line (codes "writes") ++ text_line t.answer.now))

-- all of these
abbrev pub topic_text : Topic → Text
topic_text t = meaning_text t ++ (advice_text t ++ example_text t)
