-- What is said of a request that has no answer.
use Rattle.std.specs.Prelude.{ℕ, ◌==◌, if◌then◌else◌, [], ◌++◌, codes, decimal, slice_get, unwrap_or, Some}
use Rattle.mem_base.specs.declared.script.faults.BadScript.{BadScript}
use Rattle.mem_base.specs.declared.script.faults.Cause.{Cause}
use Rattle.mem_base.specs.declared.script.faults.Cause.TheVariants as causes
use Rattle.mem_base.specs.script.RefusalLines.{line_feed}
use Rattle.mem_base.specs.script.Spelling.{Text}
use Rattle.scope_run.specs.Imports.{words_of}
use Rattle.scope_run.specs.declared.answers.Fault.{Fault}
use Rattle.scope_run.specs.declared.answers.Fault.TheVariants as faults
use Rattle.scope_run.specs.declared.answers.Which.{Which}
use Rattle.scope_run.specs.declared.answers.Which.TheVariants.{First, Second}
use Rattle.scope_run.specs.declared.importing.MonitorStop.{MonitorStop}
use Rattle.scope_run.specs.declared.importing.MonitorStop.TheVariants.{BadLine, Long, NoSpaces, Unknown, Made}
use Rattle.scope_words.specs.Requests.{address_word, first_file, region_word, second_file, space_word}
use Rattle.scope_words.specs.declared.requests.Request.{Request}
use Rattle.scope_words.specs.declared.requests.Request.TheVariants.{Import}

-- the cause of a fault in words
abbrev pub cause_words : Cause → Text
cause_words causes.Byte = codes "a byte that may not stand there"
cause_words causes.Word = codes "no such word"
cause_words causes.Name = codes "no name"
cause_words causes.Number = codes "no number that may stand there"
cause_words causes.Count = codes "a word too few or too many"
cause_words causes.Place = codes "a line that may not stand there"
cause_words causes.Long = codes "longer than a script may be, which is 1048576 bytes"

-- the file of a request
abbrev pub file_of : Request → Which → Text
file_of request First = first_file request
file_of request Second = second_file request

-- ` line N:`, where a line is at fault
abbrev pub line_text : ℕ → Text
line_text number = if number == 0 then [] else (codes " line " ++ decimal number) ++ codes ":"

-- FILE: line N: CAUSE
abbrev pub bad_text : Text → BadScript → Text
bad_text file bad = file ++ (codes ":" ++ (line_text bad.line ++ (codes " " ++ cause_words bad.cause)))

-- the command of the monitor that does not print such a line
abbrev pub unlike : Which → Text
unlike First = codes ": no line of info mtree -D"
unlike Second = codes ": no line of info mtree -f"

-- the words that a request gives for the spaces that are wanted; empty where it has none
abbrev pub spaces_word : Request → Text
spaces_word (Import tree flat (Some spaces)) = spaces.now
spaces_word _ = []

-- one of the words between commas, counted from 0
abbrev pub word_at : Text → ℕ → Text
word_at text at = unwrap_or (slice_get (words_of text) at) []

-- what is said of a text of the monitor's
abbrev pub monitor_said : Request → MonitorStop → Text
monitor_said request (BadLine which line) = file_of request which ++ ((codes ": line " ++ decimal line) ++ unlike which)
monitor_said request (Long which) = file_of request which ++ codes ": longer than what is read of it, which is 16777216 bytes"
monitor_said request NoSpaces = first_file request ++ codes ": no address space is named in it"
monitor_said request (Unknown at) =
    word_at (spaces_word request) at ++ (codes ": no address space of this name in " ++ first_file request)
monitor_said request (Made bad) = bad_text (codes "the script that was made") bad

-- what is said, without the name of the program
abbrev pub said : Request → Fault → Text
said request (faults.File which) = file_of request which ++ codes ": cannot be read"
said request (faults.Script which bad) = bad_text (file_of request which) bad
said request faults.NoSpace = space_word request ++ codes ": the script has no space of this name"
said request faults.NoRegion = region_word request ++ codes ": the script has no region of this name"
said request faults.NoAddress = address_word request ++ codes ": no address; write c8000, 0xc8000 or 800K"
said request (faults.Monitor stop) = monitor_said request stop
said request faults.Memory = codes "out of memory"

-- mscope: and what is said
abbrev pub fault_text : Request → Fault → Text
fault_text request fault = codes "mscope: " ++ (said request fault ++ line_feed)
