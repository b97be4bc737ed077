-- The run of a script's text.
use Rattle.std.specs.Prelude.{ℕ, List, length, Ok, Err}
use Rattle.mem_base.specs.script.Spelling.{Text}
use Rattle.mem_base.specs.script.Scripts.{Meaning}
use Rattle.mem_base.specs.script.RefusalLines.{bad_line}
use Rattle.mem_base.specs.script.Run.{text_of}
use Rattle.libvobrekan.specs.declared.answers.Answer.{Answer}
use Rattle.libvobrekan.specs.declared.kept.Kept.{Kept}
use Rattle.libvobrekan.specs.Answers.{done, no_script}

-- what is written: the text of the commands, or the line of a text that is no script
abbrev pub text_of_run : Meaning → Text
text_of_run (Ok lines) = text_of lines
text_of_run (Err bad) = bad_line bad

-- how it ends, with how many bytes are written, and the number of the first line at fault
abbrev pub run_told : Meaning → Answer
run_told (Ok lines) = done (length (text_of lines)) 0
run_told (Err bad) = no_script (length (bad_line bad)) bad.line

-- all that a sink took
abbrev pub kept_text : Kept → List ℕ
kept_text k = k.text.items
