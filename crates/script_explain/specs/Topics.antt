-- The numbers and words of refusals and causes.
use Rattle.std.specs.Prelude.{List, [], ◌∷◌, codes}
use Rattle.mem_base.specs.script.Spelling.{Text}
use Rattle.script_explain.specs.declared.topics.Topic.{Topic}

-- the number of a refusal, or the word of a cause
abbrev pub code_now : Topic → Text
code_now topic = topic.code.now

-- the refusals by their numbers and by their words
abbrev pub refusals : List (Text × Text)
refusals =
    (codes "F1", codes "F1") ∷ (codes "unknown", codes "F1")
    ∷ (codes "F2", codes "F2") ∷ (codes "name-taken", codes "F2")
    ∷ (codes "F3", codes "F3") ∷ (codes "has-container", codes "F3")
    ∷ (codes "F4", codes "F4") ∷ (codes "not-child", codes "F4")
    ∷ (codes "F5", codes "F5") ∷ (codes "alias-parent", codes "F5")
    ∷ (codes "F6", codes "F6") ∷ (codes "loop", codes "F6")
    ∷ (codes "F7", codes "F7") ∷ (codes "too-deep", codes "F7")
    ∷ (codes "F8", codes "F8") ∷ (codes "too-wide", codes "F8")
    ∷ (codes "F9", codes "F9") ∷ (codes "bad-size", codes "F9")
    ∷ (codes "F10", codes "F10") ∷ (codes "bad-ops", codes "F10")
    ∷ (codes "F11", codes "F11") ∷ (codes "wrong-kind", codes "F11")
    ∷ (codes "F12", codes "F12") ∷ (codes "no-transaction", codes "F12")
    ∷ (codes "F13", codes "F13") ∷ (codes "too-nested", codes "F13")
    ∷ (codes "F14", codes "F14") ∷ (codes "in-use", codes "F14")
    ∷ (codes "F15", codes "F15") ∷ (codes "page-overlap", codes "F15")
    ∷ (codes "F16", codes "F16") ∷ (codes "bad-page", codes "F16")
    ∷ (codes "F17", codes "F17") ∷ (codes "limit", codes "F17")
    ∷ (codes "F18", codes "F18") ∷ (codes "no-backing", codes "F18")
    ∷ (codes "F19", codes "F19") ∷ (codes "held", codes "F19")
    ∷ (codes "F20", codes "F20") ∷ (codes "event-taken", codes "F20") ∷ []

-- the causes by their words
abbrev pub causes : List (Text × Text)
causes =
    (codes "byte", codes "byte")
    ∷ (codes "word", codes "word")
    ∷ (codes "name", codes "name")
    ∷ (codes "number", codes "number")
    ∷ (codes "count", codes "count")
    ∷ (codes "place", codes "place")
    ∷ (codes "long", codes "long") ∷ []
