-- What the lines of a pass in a block are, in the words of the script's definition.
use Rattle.std.specs.Prelude.{◌≡◌, ℕ, ◌+◌, List, [], ◌∷◌, ◌++◌, drop, length, map, Err}
use Rattle.mem_base.specs.map.PassIds.{PassId}
use Rattle.mem_base.specs.declared.machine.events.HistoryEntry.{HistoryEntry}
use Rattle.mem_base.specs.declared.machine.records.DeskEntry.{DeskEntry}
use Rattle.mem_base.specs.machine.Actors.{generations_published, own_entries}
use Rattle.mem_base.specs.machine.Generations.{Generation}
use Rattle.mem_base.specs.machine.Passes.{PassState, pass_id}
use Rattle.mem_base.specs.machine.Records.{Clerk}
use Rattle.mem_base.specs.machine.Turns.{replies_of}
use Rattle.mem_base.specs.script.Spelling.{Text}
use Rattle.mem_base.specs.script.Named.{Names}
use Rattle.mem_base.specs.script.RefusalLines.{refused_line}
use Rattle.mem_base.specs.script.RaceLines.{Said, do_text, entry_at, lines_of_pass, says, says_with}
use Rattle.mem_base.specs.script.Scripts.{Line}
use Rattle.mem_base.specs.script.Tasks.{Known, Resolved, Task, task_of}
use Rattle.generation.specs.Published.{Published}
use Rattle.epoch_rule.specs.Values.{PassValue}
use Rattle.race_laws.specs.Acting.{PassDeed}
use Rattle.pass_lines.specs.Doing.{Grew, IsInItsGeneration, state_seen}
use Rattle.pass_lines.specs.Laws.{KeepsLines}
use Rattle.pass_lines.specs.declared.answers.LineAnswer.TheVariants as answers
use Rattle.pass_lines.specs.Texts.{answer_text}
use Rattle.race_block.specs.declared.tasks.BlockLine.{BlockLine}
use Rattle.race_block.specs.declared.tasks.LineGot.{LineGot}
use Rattle.race_block.specs.declared.tasks.LineGot.TheVariants as gots
use Rattle.race_block.specs.Lines.{HaveRun}
use Rattle.race_block.specs.Resolving.{AreTasksOf}
use Rattle.race_block.specs.Texts.{taken_by}

-- what a pass did, from where it stood
abbrev pub deed_from : PassState → List Line → List HistoryEntry → List DeskEntry → PassState → PassDeed
deed_from before lines own got now = record { before = before; lines = lines; own = own; got = got; now = now }

-- how many entries of its own a pass has seen
abbrev pub count_own : PassValue Published → ℕ
count_own v = length (own_entries (v.number + 1) v.seen)

-- What lines write, by what they got

abbrev pub why_of : Resolved Task → Text
why_of (Err why) = why
why_of _ = []

-- a line of a pass, where its order, if it gave one, got this entry
abbrev pub said_of : Names → Known → PassId → Line → LineGot → DeskEntry → Said
said_of names k pass line gots.Refused e = says (refused_line line.0 (why_of (task_of k line.1)))
said_of names k pass line gots.Ordered e = says_with (do_text names line.0 pass e.answer) e
said_of names k pass line (gots.ReadFew access bytes) e = says (answer_text pass (answers.Read access bytes))
said_of names k pass line (gots.Answered answer) e = says (answer_text pass answer)

-- lines one after another, by the clerk's list
abbrev pub saids : Names → Known → PassId → List Line → List LineGot → List DeskEntry → List Said
saids names k pass (line ∷ lines) (x ∷ all) got =
    said_of names k pass line x (entry_at got 0) ∷ saids names k pass lines all (drop (taken_by x) got)
saids names k pass _ _ got = []

-- What a pass did of these lines: its own entries grew by theirs, the clerk wrote down what they got, and it keeps them; and what they
-- write, by whatever names they are printed, is told by what they got
pub record HasKept (k : Known) (lines : List Line) (c : Clerk) (v : PassValue Published) (all : List LineGot) (d : Clerk) (w : PassValue Published)
    : Type 0 where
  pub own : List HistoryEntry
  pub got : List DeskEntry
  pub grew : Grew v own w
  pub clerk : d ≡ record { who = c.who; got = c.got ++ got }
  pub inside : IsInItsGeneration w
  pub keeps : KeepsLines k (count_own v) (deed_from (state_seen v) lines own got (state_seen w)) w
  pub writes : (names : Names) (later : List Generation) (replies : List ℕ) (more : List DeskEntry) → map (λ x. x.said)
      (lines_of_pass (generations_published w.seen ++ later) k names (pass_id v.number) (state_seen v) lines (replies_of own ++ replies) (got ++ more))
      ≡ saids names k (pass_id v.number) lines all got

abbrev pub PassesKeepLines : Type 0
PassesKeepLines = (k : Known) (lines : List Line) (xs : List BlockLine) (c : Clerk) (v : PassValue Published) (all : List LineGot) (d : Clerk)
    (w : PassValue Published) → HaveRun xs c v all d w → AreTasksOf k lines xs → IsInItsGeneration v → HasKept k lines c v all d w
