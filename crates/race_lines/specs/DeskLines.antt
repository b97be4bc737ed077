-- A line of the desk, by what the desk answered to its order and by the current generation.
use Rattle.std.specs.Prelude.{◌≡◌, ℕ, Option, Some, None}
use Rattle.mem_base.specs.declared.map.forests.Forest.{Forest}
use Rattle.mem_base.specs.declared.machine.records.DeskAnswer.{DeskAnswer}
use Rattle.mem_base.specs.declared.machine.records.DeskEntry.{DeskEntry}
use Rattle.mem_base.specs.script.Tasks.{Known, Resolved, Task}
use Rattle.mem_base.specs.script.RaceLines.{DeskLine, catching_up, no_entry, own_line}
use Rattle.race_lines.specs.declared.answered.Answered.{Answered}

-- an entry with this answer and these deliveries; who gave which order tells nothing of what the line writes
abbrev pub entry_with : DeskAnswer → ℕ → ℕ → DeskEntry
entry_with answer from to = record no_entry { answer = answer; from = from; to = to }

-- what a line got from its order, if it gave one
abbrev pub entry_got : Option Answered → DeskEntry
entry_got None = no_entry
entry_got (Some got) = entry_with got.answer.now got.from got.to

-- the line, when the watchers have caught up with the current generation
abbrev pub desk_line_by : Known → ℕ → Resolved Task → DeskEntry → ℕ → Forest → DeskLine
desk_line_by k line task e number f = catching_up f (own_line k line task e number f)

-- what a line of the desk writes and what is known after it are told by the answer to its order
abbrev pub LinesGoByAnswers : Type 0
LinesGoByAnswers = (k : Known) (line : ℕ) (task : Resolved Task) (e : DeskEntry) (number : ℕ) (f : Forest)
    → desk_line_by k line task e number f ≡ desk_line_by k line task (entry_with e.answer e.from e.to) number f
