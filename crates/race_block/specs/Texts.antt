-- What the lines of a pass write, by what they got.
use Rattle.std.specs.Prelude.{◌≡◌, ℕ, Bool, true, false, List, [], ◌∷◌, ◌++◌, drop, flat_map, Option, Some, None}
use Rattle.mem_base.specs.map.PassIds.{PassId}
use Rattle.mem_base.specs.declared.machine.records.DeskEntry.{DeskEntry}
use Rattle.mem_base.specs.views.Listening.{Delivery}
use Rattle.mem_base.specs.script.Spelling.{Text}
use Rattle.mem_base.specs.script.Named.{Names}
use Rattle.mem_base.specs.script.RefusalLines.{refused_line}
use Rattle.mem_base.specs.script.RaceLines.{Said, do_text, entry_at, said_text, says, says_with}
use Rattle.pass_lines.specs.declared.answers.LineAnswer.TheVariants as answers
use Rattle.pass_lines.specs.Texts.{answer_text}
use Rattle.race_lines.specs.LineTasks.{refused_text}
use Rattle.race_block.specs.declared.tasks.BlockLine.{BlockLine}
use Rattle.race_block.specs.declared.tasks.LineGot.{LineGot}
use Rattle.race_block.specs.declared.tasks.LineGot.TheVariants as gots
use Rattle.race_block.specs.declared.tasks.PassTask.{PassTask}
use Rattle.race_block.specs.declared.tasks.PassTask.TheVariants.{Refused}
use Rattle.race_block.specs.declared.tasks.PassLines.{PassLines}
use Rattle.race_block.specs.Resolving.{tasks_in}

-- how many entries of the clerk's list are a line's
abbrev pub taken_by : LineGot → ℕ
taken_by gots.Ordered = 1
taken_by _ = 0

-- the refusal of a line by one of its names
abbrev pub refusal : ℕ → PassTask → Text
refusal number (Refused why) = refused_line number (refused_text why)
refusal number task = []

-- a line of a pass that was ordered, by the entry of its order
abbrev pub ordered_said : Names → ℕ → PassId → DeskEntry → Said
ordered_said names number pass e = says_with (do_text names number pass e.answer) e

-- a line of a pass, by what it got, where its order, if it gave one, got this entry
abbrev pub line_said : Names → PassId → BlockLine → LineGot → DeskEntry → Said
line_said names pass x gots.Refused e = says (refusal x.number x.task)
line_said names pass x gots.Ordered e = ordered_said names x.number pass e
line_said names pass x (gots.ReadFew access bytes) e = says (answer_text pass (answers.Read access bytes))
line_said names pass x (gots.Answered answer) e = says (answer_text pass answer)

-- lines one after another, by the entries of the clerk
abbrev pub lines_said : Names → PassId → List BlockLine → List LineGot → List DeskEntry → List Said
lines_said names pass (x ∷ xs) (got ∷ all) entries =
    line_said names pass x got (entry_at entries 0) ∷ lines_said names pass xs all (drop (taken_by got) entries)
lines_said names pass _ _ entries = []

-- Lines that gave no order: what they write takes neither names nor what listeners were told

-- the line gave an order
abbrev pub gave_order : LineGot → Bool
gave_order gots.Ordered = true
gave_order _ = false

-- what a line writes that gave none
abbrev pub plain_text : PassId → BlockLine → LineGot → Text
plain_text pass x gots.Refused = refusal x.number x.task
plain_text pass x gots.Ordered = []
plain_text pass x (gots.ReadFew access bytes) = answer_text pass (answers.Read access bytes)
plain_text pass x (gots.Answered answer) = answer_text pass answer

-- such lines one after another
abbrev pub plain_texts : PassId → List BlockLine → List LineGot → Text
plain_texts pass (x ∷ xs) (got ∷ all) = plain_text pass x got ++ plain_texts pass xs all
plain_texts pass _ _ = []

-- what is kept as the text of lines, if anything, is all that they write, whatever names there are at the end of the block, whatever listeners were
-- told, and whatever the clerk has
abbrev pub IsTextOf : PassId → List BlockLine → List LineGot → Option Text → Type 0
IsTextOf pass xs all None = Unit {0}
IsTextOf pass xs all (Some text) = (names : Names) (journal : List Delivery) (entries : List DeskEntry)
    → flat_map (said_text names journal) (lines_said names pass xs all entries) ≡ text

-- A pass keeps what these lines wrote: their text, or else their tasks, and what they got
abbrev pub KeepsTold : PassId → List BlockLine → List LineGot → PassLines → List LineGot → Option Text → Type 0
KeepsTold pass xs all lines got None = (tasks_in lines ≡ xs) × (got ≡ all)
KeepsTold pass xs all lines got (Some text) = IsTextOf pass xs all (Some text)
