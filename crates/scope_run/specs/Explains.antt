-- `explain`: what is wrong with a script.
use Rattle.std.specs.Prelude.{◌≡◌, ◌++◌, Ok, Err, Option, Some}
use Rattle.mem_base.specs.script.RefusalLines.{refused_line}
use Rattle.mem_base.specs.script.Scripts.{Meaning}
use Rattle.mem_base.specs.script.Spelling.{Text}
use Rattle.script_map.specs.Left.{first_of, refused_in}
use Rattle.script_map.specs.Refusals.{Refused}
use Rattle.mem_base.specs.script.Operands.{value_in}
use Rattle.script_explain.specs.Faults.{TellsFault}
use Rattle.script_explain.specs.Told.{topic_text}
use Rattle.script_explain.specs.Topics.{causes, code_now, refusals}
use Rattle.script_explain.specs.declared.topics.Topic.{Topic}
use Rattle.scope_run.specs.Scripts.{TellsAll}

-- a line, and what is told of it
abbrev pub BeginsSo : Text → Text → Type 0
BeginsSo line text = (more : Text) × (text ≡ line ++ more)

-- the line of a refusal, as a run writes it, and what is told of it
abbrev pub TellsRefusal : Refused → Text → Type 0
TellsRefusal r text = BeginsSo (refused_line r.line r.words) text

-- of a script each command that is refused, and of another text its first line at fault, with what is at fault in it marked
abbrev pub Explains : Text → Meaning → Text → Type 0
Explains script (Ok lines) text = TellsAll TellsRefusal (refused_in (first_of lines) lines) text
Explains script (Err bad) text = TellsFault script bad text

-- the number of the refusal, or the word of the cause, that a word stands for
abbrev pub topic_code : Text → Option Text
topic_code word = value_in (refusals ++ causes) word

-- what it means, what to do, and an example
abbrev pub TellsTopic : Text → Text → Type 0
TellsTopic word text = (t : Topic) × (topic_code word ≡ Some (code_now t)) × (text ≡ topic_text t)
