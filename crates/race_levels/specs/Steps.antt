-- A line outside the block as one step of a race: what a runner has at hand when it is done, and what stands after it.
use Rattle.std.specs.Prelude.{◌≡◌, ℕ, ◌+◌, ◌<◌, List, [], ◌∷◌, ◌++◌, map, Ok}
use Rattle.mem_base.specs.map.PassIds.{PassId}
use Rattle.mem_base.specs.declared.map.forests.Forest.{Forest}
use Rattle.mem_base.specs.declared.machine.events.HistoryEntry.{HistoryEntry}
use Rattle.mem_base.specs.declared.machine.records.DeskOrder.{DeskOrder}
use Rattle.mem_base.specs.declared.machine.records.DeskOrder.TheVariants.{Look}
use Rattle.mem_base.specs.lists.Every.{Every}
use Rattle.mem_base.specs.map.Limits.{most_passes, notifier_count}
use Rattle.mem_base.specs.machine.Actors.{generations_published, own_entries}
use Rattle.mem_base.specs.machine.Reaps.{Writer}
use Rattle.mem_base.specs.machine.Records.{FitsDeskOrder, Given, call_of, entry_of, recorded}
use Rattle.mem_base.specs.machine.SharedHistory.{IsSharedLegal}
use Rattle.mem_base.specs.machine.Turns.{turn}
use Rattle.mem_base.specs.script.Spelling.{Text}
use Rattle.mem_base.specs.script.Scripts.{Line}
use Rattle.mem_base.specs.script.Tasks.{Known, Resolved, Task, ordered, task_of}
use Rattle.mem_base.specs.script.RaceLines.{DeskLine, Said, asked_first, entry_at, generation_numbered, number_looked, said_text}
use Rattle.mem_base.specs.script.Race.{Course, Phase, Stand, actor_number, alone, desk_number, stand_after}
use Rattle.race_laws.specs.SoFar.{IsRaceSoFar}
use Rattle.race_laws.specs.Outside.{desk_course, pass_course, pass_line_of}
use Rattle.race_lines.specs.DeskLines.{desk_line_by}

-- what stands after a line, held against the history with it
abbrev pub stand_with : Stand → Line → Course → Stand
stand_with s line c = stand_after (generations_published (s.seen ++ c.entries)) s (alone line) c

-- the race so far with one line more: what is known after it, and what it said, as a text
pub record IsStepped (pool : ℕ) (done : List Phase) (s : Stand) (text : Text) (line : Line) (c : Course) (known : Known) (said : Said) : Type 0 where
  pub race : IsRaceSoFar pool (done ++ alone line ∷ []) (stand_with s line c)
      (text ++ said_text known.names (stand_with s line c).writer.desk.listening.journal said)
  pub known_is : (stand_with s line c).known ≡ known

-- Orders

-- the entries of one order, and of two, from a state of the writer's part on
pub record AreWritten (w : Writer) (g h : Given) : Type 0 where
  pub one : recorded w (g ∷ []) ≡ entry_of w g (turn w (call_of g.order) g.replies) ∷ []
  pub two : let t = turn w (call_of g.order) g.replies in
      recorded w (g ∷ h ∷ []) ≡ entry_of w g t ∷ entry_of t.writer h (turn t.writer (call_of h.order) h.replies) ∷ []

abbrev pub OrdersAreWritten : Type 0
OrdersAreWritten = (w : Writer) (g h : Given) → AreWritten w g h

-- A line of the desk

-- the orders of a line by its task: its own, if it has one, and a Look
abbrev pub orders_of : Resolved Task → List DeskOrder
orders_of (Ok (ordered order name)) = order ∷ Look ∷ []
orders_of _ = Look ∷ []

-- what the desk was given for a line, and what it told: the orders of the line and no others, and the generation that is
-- current after them, by its number
pub record HasGiven (pool : ℕ) (s : Stand) (line : Line) (given : List Given) (number : ℕ) (f : Forest) : Type 0 where
  pub actor : actor_number line.1 ≡ desk_number
  pub own : Every (λ g. g.who ≡ desk_number) given
  pub fits : Every (λ g. FitsDeskOrder g.order) given
  pub orders : map (λ g. g.order) given ≡ orders_of (task_of s.known line.1)
  pub legal : IsSharedLegal (pool + notifier_count) most_passes (s.seen ++ (desk_course s given).entries)
  pub number_is : number ≡ number_looked (entry_at (recorded s.writer given) (asked_first (task_of s.known line.1))).answer
  pub forest_is : f ≡ (generation_numbered (generations_published (s.seen ++ (desk_course s given).entries)) number).forest

-- the line, by the first entry of its orders
abbrev pub line_given : Stand → Line → List Given → ℕ → Forest → DeskLine
line_given s line given number f = desk_line_by s.known line.0 (task_of s.known line.1) (entry_at (recorded s.writer given) 0) number f

abbrev pub DeskLinesStep : Type 0
DeskLinesStep = (pool : ℕ) (done : List Phase) (s : Stand) (text : Text) (line : Line) (given : List Given) (number : ℕ) (f : Forest)
    → IsRaceSoFar pool done s text → HasGiven pool s line given number f
    → let x = line_given s line given number f in IsStepped pool done s text line (desk_course s given) x.known x.said

-- A line of a pass

-- what a pass did for a line: it made these entries and no others, and gave these orders
pub record HasDone (pool : ℕ) (s : Stand) (pass : PassId) (line : Line) (ys : List HistoryEntry) (given : List Given) (said : Said) : Type 0 where
  pub near : pass.0 < most_passes
  pub actor : actor_number line.1 ≡ pass.0
  pub own : own_entries (pass.0 + 1) ys ≡ ys
  pub gave : Every (λ g. g.who ≡ pass.0) given
  pub fits : Every (λ g. FitsDeskOrder g.order) given
  pub legal : IsSharedLegal (pool + notifier_count) most_passes (s.seen ++ (pass_course s pass ys given).entries)
  pub entries : ys ≡ (pass_line_of (generations_published (s.seen ++ (pass_course s pass ys given).entries)) s pass line ys given).turn.entries
  pub orders : map (λ g. g.order) given ≡ (pass_line_of (generations_published (s.seen ++ (pass_course s pass ys given).entries)) s pass line ys given).asks
  pub said_is : said ≡ (pass_line_of (generations_published (s.seen ++ (pass_course s pass ys given).entries)) s pass line ys given).said

abbrev pub PassLinesStep : Type 0
PassLinesStep = (pool : ℕ) (done : List Phase) (s : Stand) (text : Text) (pass : PassId) (line : Line) (ys : List HistoryEntry) (given : List Given) (said : Said)
    → IsRaceSoFar pool done s text → HasDone pool s pass line ys given said → IsStepped pool done s text line (pass_course s pass ys given) s.known said
