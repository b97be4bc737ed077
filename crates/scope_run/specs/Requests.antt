-- What is asked, and what is answered by what files hold.
use Rattle.std.specs.Prelude.{◌≡◌, ◌<◌, ℕ, Bool, true, false, is_some, length, [], Option, Some, None, option_map, Ok, Err, ⊤}
use Rattle.mem_base.specs.script.Scripts.{script_of}
use Rattle.mem_base.specs.script.Spelling.{Text}
use Rattle.mem_base.specs.script.States.{space_named}
use Rattle.scope_run.specs.declared.answers.Fault.{Fault}
use Rattle.scope_run.specs.declared.answers.Fault.TheVariants as faults
use Rattle.scope_run.specs.declared.answers.Which.{Which}
use Rattle.scope_run.specs.declared.answers.Which.TheVariants.{First, Second}
use Rattle.scope_run.specs.declared.endings.Ending.{Ending}
use Rattle.scope_run.specs.declared.endings.Ending.TheVariants as endings
use Rattle.scope_words.specs.declared.requests.Request.{Request}
use Rattle.scope_words.specs.declared.requests.Request.TheVariants.{Why, Lint, Diff, Slots, Draw, Explain, Import, Check}
use Rattle.scope_run.specs.Diffs.{TellsDiff}
use Rattle.scope_run.specs.Explains.{Explains, TellsTopic, topic_code}
use Rattle.scope_run.specs.Files.{Tells}
use Rattle.scope_run.specs.Imports.{TellsImport, most_monitor, wanted_in}
use Rattle.scope_run.specs.Lints.{lint_text, tells_something}
use Rattle.scope_run.specs.Scripts.{FailsOn, OfScript, told_by}
use Rattle.scope_run.specs.Tables.{TellsSlots}
use Rattle.scope_run.specs.declared.importing.MonitorStop.TheVariants.{BadLine, Long, NoSpaces, Unknown, Made}
use Rattle.monitor_import.specs.Drafts.{OfTree, has_space, unknown_in}
use Rattle.monitor_text.specs.Addresses.{address_in}
use Rattle.monitor_text.specs.Names.{cleaned}
use Rattle.monitor_text.specs.Rows.{flat_line, tree_line}
use Rattle.monitor_text.specs.Texts.{lines_of}
use Rattle.script_check.specs.Checks.{IsChecked}
use Rattle.scope_run.specs.Whys.{TellsWhy}

-- what files hold under their names, where they tell it
abbrev pub Holding : Type 0
Holding = Text → Option Text

-- the bytes of a file, of which this holds
abbrev pub OfFile : Holding → Text → (Text → Type 0) → Type 0
OfFile held name fact = (bytes : Text) × Tells (held name) bytes × fact bytes

-- the name that a script has for what a word names: the word itself, or where it is a name that QEMU prints the one that `import` gives
abbrev pub called : Text → Text
called word = cleaned word

-- the word is the address, as QEMU and `mscope` print one, or with a scale after it
abbrev pub IsAddress : Text → ℕ → Type 0
IsAddress word a = address_in word ≡ Some a

-- what `explain` answers: to the number or the word of a refusal or a cause what it means, to another word what is wrong with the file
abbrev pub AnswersWord : Holding → Text → Option Text → Text → Bool → Type 0
AnswersWord held what (Some code) text something = TellsTopic what text × (something ≡ false)
AnswersWord held what None text something =
    OfFile held what (λ bytes. Explains bytes (script_of bytes) text) × (something ≡ tells_something text)

-- the answer to a request: its text, and whether there is something to mend
abbrev pub AnswersTo : Request → Holding → Text → Bool → Type 0
AnswersTo (Why script space addr region) held text something =
    OfFile held script.now (λ bytes. (a : ℕ) × IsAddress addr.now a
    × OfScript bytes (λ lines. TellsWhy (told_by bytes lines) (called space.now) a (option_map (λ r. called r.now) region) text)) × (something ≡ false)
AnswersTo (Lint script) held text something =
    OfFile held script.now (λ bytes. OfScript bytes (λ lines. text ≡ lint_text lines)) × (something ≡ tells_something text)
AnswersTo (Diff first second) held text something =
    OfFile held first.now (λ old. OfFile held second.now (λ new.
    OfScript old (λ a. OfScript new (λ b. TellsDiff (told_by old a) (told_by new b) text)))) × (something ≡ tells_something text)
AnswersTo (Slots script) held text something =
    OfFile held script.now (λ bytes. OfScript bytes (λ lines. TellsSlots bytes lines text)) × (something ≡ false)
AnswersTo (Draw script space style) held text something =
    OfFile held script.now (λ bytes. OfScript bytes (λ lines. is_some (space_named (told_by bytes lines) (called space.now)) ≡ true)) × (something ≡ false)
AnswersTo (Explain what) held text something = AnswersWord held what.now (topic_code what.now) text something
AnswersTo (Import tree flat spaces) held text something = TellsImport text something
AnswersTo (Check script flat) held text something =
    OfFile held script.now (λ bytes. OfFile held flat.now (λ printed. IsChecked bytes printed text something))

-- a file of a request was not read: a read failed, or it is too long to be a script
abbrev pub IsUnread : Holding → Type 0 → Text → Which → Fault → Type 0
IsUnread held failed name which (faults.File file) = failed
IsUnread held failed name which (faults.Script file bad) = (file ≡ which) × OfFile held name (λ bytes. script_of bytes ≡ Err bad)
IsUnread held failed name which faults.Memory = ⊤
IsUnread held failed name which _ = ⊥

-- why a request on one file, and on a space and a region where it asks for them, has no answer: a read failed, or the file holds a text
-- on which the command fails
abbrev pub FailsFile : Holding → Type 0 → Text → Option Text → Option Text → Fault → Type 0
FailsFile held failed name space region (faults.File which) = failed
FailsFile held failed name space region faults.Memory = ⊤
FailsFile held failed name space region fault = OfFile held name (λ bytes. FailsOn bytes space region fault)

-- of `why` also: the word is no address
abbrev pub FailsWhy : Holding → Type 0 → Text → Text → Text → Option Text → Fault → Type 0
FailsWhy held failed script space addr region faults.NoAddress = (a : ℕ) → IsAddress addr a → ⊥
FailsWhy held failed script space addr region fault = FailsFile held failed script (Some space) region fault

-- of `diff`: a read failed, or one of the texts is no script
abbrev pub FailsDiff : Holding → Type 0 → Text → Text → Fault → Type 0
FailsDiff held failed first second (faults.File which) = failed
FailsDiff held failed first second (faults.Script First bad) = OfFile held first (λ bytes. script_of bytes ≡ Err bad)
FailsDiff held failed first second (faults.Script Second bad) = OfFile held second (λ bytes. script_of bytes ≡ Err bad)
FailsDiff held failed first second faults.Memory = ⊤
FailsDiff held failed first second fault = ⊥

-- a text of the monitor's was not read: a read failed, or it is too long
abbrev pub IsTextUnread : Holding → Type 0 → Text → Which → Fault → Type 0
IsTextUnread held failed name which (faults.File file) = failed
IsTextUnread held failed name which (faults.Monitor (Long file)) = (file ≡ which) × OfFile held name (λ bytes. most_monitor < length bytes)
IsTextUnread held failed name which faults.Memory = ⊤
IsTextUnread held failed name which _ = ⊥

-- of a second text, which may be left out, and is empty then: its bytes; these, of which this holds; and why it was not read
abbrev pub TellsIfNamed : Holding → Option Text → Text → Type 0
TellsIfNamed held None bytes = bytes ≡ []
TellsIfNamed held (Some name) bytes = Tells (held name) bytes

abbrev pub OfSecond : Holding → Option Text → (Text → Type 0) → Type 0
OfSecond held name fact = (bytes : Text) × TellsIfNamed held name bytes × fact bytes

abbrev pub IsSecondUnread : Holding → Type 0 → Option Text → Fault → Type 0
IsSecondUnread held failed None fault = fault ≡ faults.Memory
IsSecondUnread held failed (Some name) fault = IsTextUnread held failed name Second fault

-- of `import`: a read failed, or a text is too long or has a line that is none of the monitor's, or that of the tree names no space, or none of
-- a name that is wanted, or what was made is no script
abbrev pub FailsImporting : Holding → Type 0 → Text → Option Text → Option Text → Fault → Type 0
FailsImporting held failed tree flat spaces (faults.File which) = failed
FailsImporting held failed tree flat spaces (faults.Monitor (BadLine First line)) = OfFile held tree (λ bytes. lines_of tree_line bytes ≡ Err line)
FailsImporting held failed tree flat spaces (faults.Monitor (BadLine Second line)) = OfSecond held flat (λ bytes. lines_of flat_line bytes ≡ Err line)
FailsImporting held failed tree flat spaces (faults.Monitor (Long First)) = OfFile held tree (λ bytes. most_monitor < length bytes)
FailsImporting held failed tree flat spaces (faults.Monitor (Long Second)) = OfSecond held flat (λ bytes. most_monitor < length bytes)
FailsImporting held failed tree flat spaces (faults.Monitor NoSpaces) = OfFile held tree (λ bytes. OfTree bytes (λ lines. has_space lines ≡ false))
FailsImporting held failed tree flat spaces (faults.Monitor (Unknown at)) =
    OfFile held tree (λ bytes. OfTree bytes (λ lines. unknown_in lines (wanted_in spaces) ≡ Some at))
FailsImporting held failed tree flat spaces (faults.Monitor (Made bad)) = (text : Text) × (script_of text ≡ Err bad)
FailsImporting held failed tree flat spaces faults.Memory = ⊤
FailsImporting held failed tree flat spaces fault = ⊥

-- of `check`: a read failed, or the text is no script, or that of the monitor is too long or has a line that is none of the monitor's
abbrev pub FailsChecking : Holding → Type 0 → Text → Text → Fault → Type 0
FailsChecking held failed script flat (faults.File which) = failed
FailsChecking held failed script flat (faults.Script First bad) = OfFile held script (λ bytes. script_of bytes ≡ Err bad)
FailsChecking held failed script flat (faults.Monitor (BadLine Second line)) = OfFile held flat (λ bytes. lines_of flat_line bytes ≡ Err line)
FailsChecking held failed script flat (faults.Monitor (Long Second)) = OfFile held flat (λ bytes. most_monitor < length bytes)
FailsChecking held failed script flat faults.Memory = ⊤
FailsChecking held failed script flat fault = ⊥

-- why a request has no answer, by what files hold, and by whether a read failed
abbrev pub FailsFor : Request → Holding → Type 0 → Fault → Type 0
FailsFor (Why script space addr region) held failed fault =
    FailsWhy held failed script.now (called space.now) addr.now (option_map (λ r. called r.now) region) fault
FailsFor (Lint script) held failed fault = FailsFile held failed script.now None None fault
FailsFor (Diff first second) held failed fault = FailsDiff held failed first.now second.now fault
FailsFor (Slots script) held failed fault = FailsFile held failed script.now None None fault
FailsFor (Draw script space style) held failed fault = FailsFile held failed script.now (Some (called space.now)) None fault
FailsFor (Explain what) held failed fault = FailsFile held failed what.now None None fault
FailsFor (Import tree flat spaces) held failed fault =
    FailsImporting held failed tree.now (option_map (λ f. f.now) flat) (option_map (λ s. s.now) spaces) fault
FailsFor (Check script flat) held failed fault = FailsChecking held failed script.now flat.now fault

-- how a run ends after an answer
abbrev pub ending_of : Bool → Ending
ending_of false = endings.Nothing
ending_of true = endings.Something
