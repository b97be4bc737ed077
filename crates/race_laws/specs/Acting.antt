-- What an actor keeps from line to line, in a block or outside: the first lines of the desk or of a pass, whatever follows. What one more line
-- does to it, and what a pass's entries have to be for that.
use Rattle.std.specs.Prelude.{◌≡◌, ℕ, ◌+◌, ◌<◌, Bool, if◌then◌else◌, List, [], ◌∷◌, ◌++◌, length, map, drop, flat_map, is_some, unwrap_or, Option, None, Ok}
use Rattle.mem_base.specs.map.PassIds.{PassId}
use Rattle.mem_base.specs.declared.map.ids.SpaceId.{SpaceId}
use Rattle.mem_base.specs.declared.access.cells.Place.{Place}
use Rattle.mem_base.specs.declared.machine.events.Event.{Event}
use Rattle.mem_base.specs.declared.machine.events.HistoryEntry.{HistoryEntry}
use Rattle.mem_base.specs.declared.machine.records.DeskEntry.{DeskEntry}
use Rattle.mem_base.specs.access.AccessSteps.{Transfer, reading, writing, events_of_steps, bytes_read}
use Rattle.mem_base.specs.access.Access.{access}
use Rattle.mem_base.specs.machine.Passes.{PassState}
use Rattle.mem_base.specs.machine.Generations.{Generation}
use Rattle.mem_base.specs.machine.Actors.{own_entries, pass_after_all}
use Rattle.mem_base.specs.machine.Composites.{enters_anew, enters_unless, leaves, leaves_unless}
use Rattle.mem_base.specs.machine.PassTurns.{entries_of, pass_begins}
use Rattle.mem_base.specs.machine.Turns.{replies_of}
use Rattle.mem_base.specs.machine.Records.{got_by}
use Rattle.mem_base.specs.script.Scripts.{Line}
use Rattle.mem_base.specs.script.Named.{Names}
use Rattle.mem_base.specs.script.Tasks.{Known, task_of}
use Rattle.mem_base.specs.script.Tasks as tasks
use Rattle.mem_base.specs.script.RaceLines.{PassLine, asked_first, entry_at, generation_numbered, line_of_desk, lines_of_desk}
use Rattle.mem_base.specs.script.RaceLines.{line_of_pass, lines_of_pass, number_looked}
use Rattle.mem_base.specs.script.Race.{Course, Phase, Stand, ActsAfterPublishes, AsksAsGiven, IsAfterPublish, IsPassPart, desk_number, desk_part}
use Rattle.mem_base.specs.script.Race.{lines_by, pass_state}

-- The desk, after some of its lines: whatever is published later, and whatever more it gets

-- what it knows, and what it got that these lines did not take
pub record DeskLeft : Type 0 where
  pub known : Known
  pub got : List DeskEntry

abbrev pub left_of_desk : List Generation → Known → List Line → List DeskEntry → DeskLeft
left_of_desk published k [] got = record { known = k; got = got }
left_of_desk published k (line ∷ lines) got =
    let x = line_of_desk published k line got in left_of_desk published x.known lines (drop (length x.asks) got)

pub record DeskRuns (published : List Generation) (k : Known) (lines : List Line) (got more : List DeskEntry) (now : Known) : Type 0 where
  pub asks : map (λ e. e.order) got ≡ flat_map (λ x. x.asks) (lines_of_desk published k lines (got ++ more))
  pub left : left_of_desk published k lines (got ++ more) ≡ record { known = now; got = more }

-- these lines took just what it got, and then it knows this
abbrev pub DeskAt : List Generation → Known → List Line → List DeskEntry → Known → Type 0
DeskAt published k lines got now = (later : List Generation) (more : List DeskEntry) → DeskRuns (published ++ later) k lines got more now

-- The same of a pass after some of its lines: whatever its next events are told, whatever is published or made later, and by
-- whatever names the lines are printed

pub record PassLeft : Type 0 where
  pub state : PassState
  pub replies : List ℕ
  pub got : List DeskEntry

abbrev pub pass_left : PassState → List ℕ → List DeskEntry → PassLeft
pass_left p replies got = record { state = p; replies = replies; got = got }

abbrev pub left_of_pass : List Generation → Known → Names → PassId → PassState → List Line → List ℕ → List DeskEntry → PassLeft
left_of_pass published k names pass p [] replies got = pass_left p replies got
left_of_pass published k names pass p (line ∷ lines) replies got =
    let x = line_of_pass published names pass line.0 (task_of k line.1) (pass_begins p replies) (entry_at got 0) in
    left_of_pass published k names pass x.turn.state lines x.turn.replies (drop (length x.asks) got)

-- what a pass did in a phase: its state before, the lines, its entries, what it got, and its state after them
pub record PassDeed : Type 0 where
  pub before : PassState
  pub lines : List Line
  pub own : List HistoryEntry
  pub got : List DeskEntry
  pub now : PassState

pub record PassRuns (published : List Generation) (k : Known) (pass : PassId) (xs : List HistoryEntry) (count : ℕ) (d : PassDeed) (names : Names)
    (replies : List ℕ) (more : List DeskEntry) : Type 0 where
  pub entries : d.own ≡ flat_map (λ x. x.turn.entries)
      (lines_of_pass published k names pass d.before d.lines (replies_of d.own ++ replies) (d.got ++ more))
  pub asks : map (λ e. e.order) d.got ≡ flat_map (λ x. x.asks)
      (lines_of_pass published k names pass d.before d.lines (replies_of d.own ++ replies) (d.got ++ more))
  pub after : ActsAfterPublishes xs (pass.0 + 1) count (lines_of_pass published k names pass d.before d.lines (replies_of d.own ++ replies) (d.got ++ more))
  pub left : left_of_pass published k names pass d.before d.lines (replies_of d.own ++ replies) (d.got ++ more) ≡ pass_left d.now replies more

abbrev pub PassAt : List Generation → Known → PassId → List HistoryEntry → ℕ → PassDeed → Type 0
PassAt published k pass xs count d = (names : Names) (later : List Generation) (zs : List HistoryEntry) (replies : List ℕ) (more : List DeskEntry)
    → PassRuns (published ++ later) k pass (xs ++ zs) count d names replies more

-- what a line does by what it gets
pub record DeskLineDoes (gs : List Generation) (now : Known) (line : Line) (new more : List DeskEntry) (next : Known) : Type 0 where
  pub asks : (line_of_desk gs now line (new ++ more)).asks ≡ map (λ (e : DeskEntry). e.order) new
  pub known : (line_of_desk gs now line (new ++ more)).known ≡ next

-- what a line does by what it gets: its entries, the pass's state after it, and the generation that its answer told
pub record PassLineDoes (x : PassLine) (ys : List HistoryEntry) (new : List DeskEntry) (next : PassState) (published : Option ℕ) (replies : List ℕ)
    : Type 0 where
  pub entries : x.turn.entries ≡ ys
  pub state : x.turn.state ≡ next
  pub replies_left : x.turn.replies ≡ replies
  pub asks : x.asks ≡ map (λ (e : DeskEntry). e.order) new
  pub told : x.published ≡ published

abbrev pub deed_on : PassDeed → Line → List HistoryEntry → List DeskEntry → PassState → PassDeed
deed_on d line ys new next = record { before = d.before; lines = d.lines ++ line ∷ []; own = d.own ++ ys; got = d.got ++ new; now = next }

-- What entries a pass makes

-- these entries are of just these events, with what those carry
abbrev pub AreEntries : List Place → List Event → List HistoryEntry → Type 0
AreEntries places es ys = ys ≡ entries_of places es (replies_of ys)

-- the events of an access in the generation in which the pass is
abbrev pub generation_in : List Generation → PassState → Generation
generation_in gs p = generation_numbered gs (unwrap_or p.entered 0)

abbrev pub AreSteps : Generation → PassId → SpaceId → ℕ → Transfer → List HistoryEntry → Type 0
AreSteps x pass s a transfer ys = AreEntries x.places (events_of_steps pass (access x.forest s a transfer)) ys

-- what is read with these replies
abbrev pub bytes_of_read : Generation → SpaceId → ℕ → ℕ → List HistoryEntry → List ℕ
bytes_of_read x s a n ys = bytes_read (access x.forest s a (reading n)) (replies_of ys)

-- the entries of an access, by whether the pass was inside, and those before, in and after it
pub record AreAccess (b : Bool) (gs : List Generation) (pass : PassId) (s : SpaceId) (a : ℕ) (transfer : Transfer) (p : PassState)
    (one two three : List HistoryEntry) : Type 0 where
  pub inside : is_some p.entered ≡ b
  pub enters : AreEntries [] (enters_unless b pass) one
  pub steps : AreSteps (generation_in gs (pass_after_all p one)) pass s a transfer two
  pub leaves : AreEntries [] (leaves_unless b pass) three

-- the same of a copy, which reads and then writes
pub record AreCopy (b : Bool) (gs : List Generation) (pass : PassId) (from : SpaceId) (a n : ℕ) (to : SpaceId) (c : ℕ) (p : PassState)
    (one two three four : List HistoryEntry) : Type 0 where
  pub inside : is_some p.entered ≡ b
  pub enters : AreEntries [] (enters_unless b pass) one
  pub reads : AreSteps (generation_in gs (pass_after_all p one)) pass from a (reading n) two
  pub writes : AreSteps (generation_in gs (pass_after_all (pass_after_all p one) two)) pass to c
      (writing (bytes_of_read (generation_in gs (pass_after_all p one)) from a n two)) three
  pub leaves : AreEntries [] (leaves_unless b pass) four

-- Laws

-- of the desk: at first, after one more line, where more is published, and at the end of a phase
pub record DeskActs : Type 0 where
  pub begins : (published : List Generation) (k : Known) → DeskAt published k [] [] k
  pub goes : (published : List Generation) (k : Known) (front : List Line) (got : List DeskEntry) (now : Known) (line : Line) (new : List DeskEntry)
      → DeskAt published k front got now → 0 < length published → AsksAsGiven new (line_of_desk published now line new).asks
      → number_looked (entry_at new (asked_first (task_of now line.1))).answer < length published
      → DeskAt published k (front ++ line ∷ []) (got ++ new) (line_of_desk published now line new).known
  pub grows : (published more : List Generation) (k : Known) (front : List Line) (got : List DeskEntry) (now : Known) → DeskAt published k front got now
      → DeskAt (published ++ more) k front got now
  pub ends : (published : List Generation) (s : Stand) (phase : Phase) (c : Course) (now : Known)
      → DeskAt published s.known (lines_by desk_number phase) (got_by desk_number c.clerks) now
      → AsksAsGiven (got_by desk_number c.clerks) (flat_map (λ x. x.asks) (desk_part published s phase c))

-- the same of a pass; `count` of its entries stand before these lines
pub record PassActs : Type 0 where
  pub begins : (published : List Generation) (k : Known) (pass : PassId) (xs : List HistoryEntry) (count : ℕ) (p : PassState)
      → PassAt published k pass xs count (record { before = p; lines = []; own = []; got = []; now = p })
  pub goes : (published : List Generation) (k : Known) (pass : PassId) (xs : List HistoryEntry) (count : ℕ) (d : PassDeed) (line : Line)
      (ys : List HistoryEntry) (new : List DeskEntry) (next : PassState) (told : Option ℕ) → PassAt published k pass xs count d
      → ((names : Names) (later : List Generation) (replies : List ℕ) (more : List DeskEntry) → PassLineDoes
      (line_of_pass (published ++ later) names pass line.0 (task_of k line.1) (pass_begins d.now (replies_of ys ++ replies)) (entry_at (new ++ more) 0))
      ys new next told replies)
      → ((zs : List HistoryEntry) → IsAfterPublish (xs ++ zs) (pass.0 + 1) ((count + length d.own) + length ys) told)
      → PassAt published k pass xs count (deed_on d line ys new next)
  pub grows : (published more : List Generation) (k : Known) (pass : PassId) (xs zs : List HistoryEntry) (count : ℕ) (d : PassDeed)
      → PassAt published k pass xs count d → PassAt (published ++ more) k pass (xs ++ zs) count d
  pub ends : (published : List Generation) (s : Stand) (phase : Phase) (c : Course) (pass : PassId) (now : PassState)
      → PassAt published s.known pass (s.seen ++ c.entries) (length (own_entries (pass.0 + 1) s.seen)) (record {
        before = pass_state pass s.seen;
        lines = lines_by pass.0 phase;
        own = own_entries (pass.0 + 1) c.entries;
        got = got_by pass.0 c.clerks;
        now = now;
      }) → IsPassPart published s phase c pass

-- what its lines do: it enters, leaves, makes an access or a copy
pub record PassLinesDo (published : List Generation) (names : Names) (pass : PassId) (n : ℕ) (p : PassState) (replies : List ℕ) (e : DeskEntry)
    : Type 0 where
  pub enters : (ys : List HistoryEntry) → AreEntries [] (enters_anew (is_some p.entered) pass) ys → PassLineDoes
      (line_of_pass published names pass n (Ok tasks.entered) (pass_begins p (replies_of ys ++ replies)) e) ys [] (pass_after_all p ys) None replies
  pub leaves_it : (ys : List HistoryEntry) → AreEntries [] (if is_some p.entered then leaves pass else []) ys → PassLineDoes
      (line_of_pass published names pass n (Ok tasks.left) (pass_begins p (replies_of ys ++ replies)) e) ys [] (pass_after_all p ys) None replies
  pub accesses : (b : Bool) (s : SpaceId) (a : ℕ) (transfer : Transfer) (one two three : List HistoryEntry)
      → AreAccess b published pass s a transfer p one two three → let ys = (one ++ two) ++ three in PassLineDoes
      (line_of_pass published names pass n (Ok (tasks.accessed s a transfer)) (pass_begins p (replies_of ys ++ replies)) e) ys []
      (pass_after_all p ys) None replies
  pub copies : (b : Bool) (from : SpaceId) (a count : ℕ) (to : SpaceId) (c : ℕ) (one two three four : List HistoryEntry)
      → AreCopy b published pass from a count to c p one two three four → let ys = ((one ++ two) ++ three) ++ four in PassLineDoes
      (line_of_pass published names pass n (Ok (tasks.copied from a count to c)) (pass_begins p (replies_of ys ++ replies)) e) ys []
      (pass_after_all p ys) None replies

abbrev pub LinesDo : Type 0
LinesDo = (published : List Generation) (names : Names) (pass : PassId) (n : ℕ) (p : PassState) (replies : List ℕ) (e : DeskEntry)
    → PassLinesDo published names pass n p replies e
