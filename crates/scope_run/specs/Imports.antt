-- `import` and `check`: scripts, and what QEMU's monitor prints.
use Rattle.std.specs.Prelude.{◌≡◌, ◌<◌, ◌==◌, ◌||◌, ℕ, Bool, false, nat_lt, List, [], length, Option, Some, None, Err, ⊤}
use Rattle.std.specs.List.{list_any, slice_split}
use Rattle.mem_base.specs.script.Scripts.{script_of}
use Rattle.mem_base.specs.script.Spelling.{Text}
use Rattle.monitor_import.specs.Drafts.{OfTree, has_space, unknown_in}
use Rattle.monitor_text.specs.Rows.{flat_line, tree_line}
use Rattle.monitor_text.specs.Texts.{lines_of}
use Rattle.script_settle.specs.Refused.{HasRefused}
use Rattle.scope_run.specs.declared.answers.Fault.{Fault}
use Rattle.scope_run.specs.declared.answers.Fault.TheVariants as faults
use Rattle.scope_run.specs.declared.answers.Which.TheVariants.{First, Second}
use Rattle.scope_run.specs.declared.importing.MonitorStop.TheVariants.{BadLine, Long, NoSpaces, Unknown, Made}

-- how many bytes of a text of the monitor's are read at most
abbrev pub most_monitor : ℕ
most_monitor = 16777216

-- a text has a comment
abbrev pub has_comment : Text → Bool
has_comment text = list_any (λ b. b == 35) text

-- a script for what the monitor printed: the reading is a guess, but it is a script, and there is nothing to mend just where it has no comment,
-- which would tell what was changed, and none of its commands is refused
abbrev pub TellsImport : Text → Bool → Type 0
TellsImport text something = (count : ℕ) × HasRefused text count × (something ≡ (has_comment text || nat_lt 0 count))

-- the words between commas
abbrev pub words_of : Text → List Text
words_of text = slice_split (λ b. b == 44) text

-- the names of the spaces that are wanted; none where no word is given
abbrev pub wanted_in : Option Text → List Text
wanted_in None = []
wanted_in (Some words) = words_of words

-- of texts, and of the names of the spaces that are wanted, why there is no script
abbrev pub FailsImport : Text → Text → List Text → Fault → Type 0
FailsImport tree flat wanted (faults.Monitor (BadLine First line)) = lines_of tree_line tree ≡ Err line
FailsImport tree flat wanted (faults.Monitor (BadLine Second line)) = lines_of flat_line flat ≡ Err line
FailsImport tree flat wanted (faults.Monitor (Long First)) = most_monitor < length tree
FailsImport tree flat wanted (faults.Monitor (Long Second)) = most_monitor < length flat
FailsImport tree flat wanted (faults.Monitor NoSpaces) = OfTree tree (λ lines. has_space lines ≡ false)
FailsImport tree flat wanted (faults.Monitor (Unknown at)) = OfTree tree (λ lines. unknown_in lines wanted ≡ Some at)
FailsImport tree flat wanted (faults.Monitor (Made bad)) = (text : Text) × (script_of text ≡ Err bad)
FailsImport tree flat wanted faults.Memory = ⊤
FailsImport tree flat wanted _ = ⊥

-- and why a script is not compared with them
abbrev pub FailsCheck : Text → Text → Fault → Type 0
FailsCheck script flat (faults.Script First bad) = script_of script ≡ Err bad
FailsCheck script flat (faults.Monitor (BadLine Second line)) = lines_of flat_line flat ≡ Err line
FailsCheck script flat (faults.Monitor (Long Second)) = most_monitor < length flat
FailsCheck script flat faults.Memory = ⊤
FailsCheck script flat _ = ⊥
