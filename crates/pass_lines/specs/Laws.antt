-- Laws of lines that a pass has done.
use Rattle.std.specs.Prelude.{◌≡◌, ℕ, List, [], ◌++◌, None, Ok}
use Rattle.mem_base.specs.declared.machine.events.HistoryEntry.{HistoryEntry}
use Rattle.mem_base.specs.declared.machine.records.DeskEntry.{DeskEntry}
use Rattle.mem_base.specs.machine.Passes.{pass_id}
use Rattle.mem_base.specs.machine.Generations.{Generation}
use Rattle.mem_base.specs.machine.Actors.{generations_published}
use Rattle.mem_base.specs.machine.PassTurns.{pass_begins}
use Rattle.mem_base.specs.machine.Turns.{replies_of}
use Rattle.mem_base.specs.script.Named.{Names}
use Rattle.mem_base.specs.script.Scripts.{Line}
use Rattle.mem_base.specs.script.Tasks.{Known, Task, task_of}
use Rattle.mem_base.specs.script.RaceLines.{PassLine, line_of_pass, says}
use Rattle.generation.specs.Published.{Published}
use Rattle.epoch_rule.specs.Values.{PassValue}
use Rattle.race_laws.specs.Acting.{PassAt, PassDeed, PassLineDoes, deed_on}
use Rattle.pass_lines.specs.declared.answers.LineAnswer.{LineAnswer}
use Rattle.pass_lines.specs.Texts.{answer_text}
use Rattle.pass_lines.specs.Doing.{DoesLine, state_seen}

-- the line of a race, by the replies of its entries, whatever follows them, whatever is published later, and by whatever names it is printed
pub record IsLineDone (v : PassValue Published) (task : Task) (answer : LineAnswer) (w : PassValue Published) (entries : List HistoryEntry)
    (x : PassLine) (replies : List ℕ) : Type 0 where
  pub does : PassLineDoes x entries [] (state_seen w) None replies
  pub says : x.said ≡ says (answer_text (pass_id v.number) answer)

abbrev pub LinesAreDone : Type 0
LinesAreDone = (v w : PassValue Published) (task : Task) (answer : LineAnswer) (d : DoesLine v task answer w) (names : Names) (n : ℕ)
    (later : List Generation) (replies : List ℕ) (e : DeskEntry) → IsLineDone v task answer w d.entries
    (line_of_pass (generations_published w.seen ++ later) names (pass_id v.number) n (Ok task)
    (pass_begins (state_seen v) (replies_of d.entries ++ replies)) e) replies

-- what a pass keeps from line to line, by what it has seen: `count` of its entries stand before these lines
abbrev pub KeepsLines : Known → ℕ → PassDeed → PassValue Published → Type 0
KeepsLines k count d v = PassAt (generations_published v.seen) k (pass_id v.number) v.seen count d × (d.now ≡ state_seen v)

abbrev pub PassesGoOn : Type 0
PassesGoOn = (k : Known) (count : ℕ) (d : PassDeed) (line : Line) (v w : PassValue Published) (task : Task) (answer : LineAnswer)
    (x : DoesLine v task answer w) → KeepsLines k count d v → task_of k line.1 ≡ Ok task
    → KeepsLines k count (deed_on d line x.entries [] (state_seen w)) w
