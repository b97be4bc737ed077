-- What lines do and write stays where more generations are published, as long as the numbers that they were told are those of
-- generations that were published before.
use Rattle.std.proofs.Common.{◌≡◌, ℕ, ◌<◌, List, [], ◌∷◌, ◌++◌, length, drop, flat_map, refl, ap, ◌∙◌}
use Rattle.std.proofs.Common.{zero, suc, Option, Some, None, Result, Ok, Err, if◌then◌else◌, unwrap_or}
use lib.ListN.{get_or-append}
use Rattle.mem_base.specs.map.PassIds.{PassId}
use Rattle.mem_base.specs.declared.map.ids.SpaceId.{SpaceId}
use Rattle.mem_base.specs.declared.access.cells.Place.{Place}
use Rattle.mem_base.specs.declared.machine.events.Event.{Event}
use Rattle.mem_base.specs.declared.machine.events.Event.TheVariants as events
use Rattle.mem_base.specs.declared.machine.events.HistoryEntry.{HistoryEntry}
use Rattle.mem_base.specs.declared.machine.records.DeskEntry.{DeskEntry}
use Rattle.mem_base.specs.lists.Every.{Every}
use Rattle.mem_base.specs.access.AccessSteps.{Transfer, reading, writing, either, events_of_steps, result_of, bytes_read}
use Rattle.mem_base.specs.access.Access.{access}
use Rattle.mem_base.specs.machine.Passes.{PassState, pass_after}
use Rattle.mem_base.specs.machine.Generations.{Generation}
use Rattle.mem_base.specs.machine.Actors.{first_generation, pass_after_all}
use Rattle.mem_base.specs.machine.Composites.{enters_anew, enters_unless, leaves, leaves_unless}
use Rattle.mem_base.specs.machine.Turns.{replies_of}
use Rattle.mem_base.specs.machine.PassTurns.{PassTurn, Transferred, pass_begins, makes, is_inside, number_entered, generation_entered, transferred}
use Rattle.mem_base.specs.machine.PassTurns.{entries_of, leaves_after, copied_on}
use Rattle.mem_base.specs.machine.PassTurns as pass_turns
use Rattle.mem_base.specs.script.Spelling.{Text}
use Rattle.mem_base.specs.script.Scripts.{Line}
use Rattle.mem_base.specs.script.Named.{Names}
use Rattle.mem_base.specs.script.Tasks.{Known, Task, task_of}
use Rattle.mem_base.specs.script.Tasks as tasks
use Rattle.mem_base.specs.script.RaceLines.{DeskLine, PassLine, entry_at, asked_first, number_looked, generation_numbered, line_of_desk, lines_of_desk}
use Rattle.mem_base.specs.script.RaceLines.{line_of_pass, lines_of_pass, task_of_pass, own_line, catching_up, access_line, copy_line}
use Rattle.race_laws.specs.SoFar.{IsTold}
use Rattle.mem_base.proofs.EveryLaws.{every_drop, every_first, every_rest}

-- lists of facts

-- lines of the desk

module _ (gs more : List Generation) (some : 0 < length gs) where
  pub told_at : (got : List DeskEntry) (n : ℕ) → Every (IsTold (length gs)) got → number_looked (entry_at got n).answer < length gs
  told_at [] zero h = some
  told_at [] (suc n) h = some
  told_at (e ∷ got) zero h = h.0
  told_at (e ∷ got) (suc n) h = told_at got n h.1

  pub numbered_same : (number : ℕ) → number < length gs → generation_numbered (gs ++ more) number ≡ generation_numbered gs number
  numbered_same number l = get_or-append gs more first_generation number l

  line_same : (k : Known) (line : Line) (got : List DeskEntry) → Every (IsTold (length gs)) got
      → line_of_desk (gs ++ more) k line got ≡ line_of_desk gs k line got
  line_same k line got h =
      let task = task_of k line.1 in let number = number_looked (entry_at got (asked_first task)).answer in
      ap (λ (g : Generation). catching_up g.forest (own_line k line.0 task (entry_at got 0) number g.forest))
      (numbered_same number (told_at got (asked_first task) h))

  pub desk_lines_same : (lines : List Line) (k : Known) (got : List DeskEntry) → Every (IsTold (length gs)) got
      → lines_of_desk (gs ++ more) k lines got ≡ lines_of_desk gs k lines got
  desk_lines_same [] k got h = refl
  desk_lines_same (line ∷ lines) k got h =
      let x : DeskLine = line_of_desk gs k line got in
      ap (λ (z : DeskLine). z ∷ lines_of_desk (gs ++ more) z.known lines (drop (length z.asks) got)) (line_same k line got h)
      ∙ ap (λ (zs : List DeskLine). x ∷ zs) (desk_lines_same lines x.known (drop (length x.asks) got) (every_drop (IsTold (length gs)) got (length x.asks) h))

-- passes

-- the number that an Enter told, and 0 of any other event
abbrev pub number_of_enter : Event → ℕ → ℕ
number_of_enter (events.Enter pass) number = number
number_of_enter e number = 0

abbrev pub EntersBelow : ℕ → HistoryEntry → Type 0
EntersBelow count x = number_of_enter x.event x.reply < count

-- a number that is below, or none
abbrev pub IsUnder : ℕ → Option ℕ → Type 0
IsUnder count None = Unit {0}
IsUnder count (Some number) = number < count

event_under : (count : ℕ) (p : PassState) (e : Event) (number : ℕ) → IsUnder count p.entered → number_of_enter e number < count
    → IsUnder count (pass_after p e number).entered
event_under count p (events.Enter v) number h l = l
event_under count p (events.Leave v) number h l = tt
event_under count p _ number h l = h

pub entries_under : (count : ℕ) (p : PassState) (xs : List HistoryEntry) → IsUnder count p.entered → Every (EntersBelow count) xs
    → IsUnder count (pass_after_all p xs).entered
entries_under count p [] h k = h
entries_under count p (x ∷ xs) h k = entries_under count (pass_after p x.event x.reply) xs (event_under count p x.event x.reply h k.0) k.1

makes_under : (count : ℕ) (places : List Place) (es : List Event) (t : PassTurn) → IsUnder count t.state.entered
    → Every (EntersBelow count) (makes places es t).entries → IsUnder count (makes places es t).state.entered
makes_under count places es t h k =
    entries_under count t.state (entries_of places es t.replies) h (every_rest (EntersBelow count) t.entries (entries_of places es t.replies) k)

-- a transfer in a generation
abbrev transferred_in : Generation → PassId → SpaceId → ℕ → Transfer → PassTurn → Transferred
transferred_in x pass s a transfer t =
    let steps = access x.forest s a transfer in
    let after = makes x.places (events_of_steps pass steps) t in record {
      turn = after;
      answer = record { result = result_of steps; number = number_entered t };
      bytes = bytes_read steps (replies_of (drop (length t.entries) after.entries));
    }

module _ (gs more : List Generation) (some : 0 < length gs) where
  pub under_number : (o : Option ℕ) → IsUnder (length gs) o → unwrap_or o 0 < length gs
  under_number None h = some
  under_number (Some number) h = h

  -- what a line does is the same, and leaves the pass in a generation that was published
  record IsSame (x y : PassLine) : Type 0 where
    same : x ≡ y
    under : IsUnder (length gs) y.turn.state.entered

  transferred_same : (pass : PassId) (s : SpaceId) (a : ℕ) (transfer : Transfer) (t : PassTurn) → IsUnder (length gs) t.state.entered
      → transferred (gs ++ more) pass s a transfer t ≡ transferred gs pass s a transfer t
  transferred_same pass s a transfer t h =
      ap (λ (x : Generation). transferred_in x pass s a transfer t) (numbered_same gs more some (number_entered t) (under_number t.state.entered h))

  module _ (names : Names) (pass : PassId) (line : ℕ) where
    access_same : (s : SpaceId) (a : ℕ) (transfer : Transfer) (t : PassTurn) → IsUnder (length gs) t.state.entered
        → Every (EntersBelow (length gs)) (pass_turns.accessed gs pass s a transfer t).turn.entries
        → IsSame (access_line pass transfer (pass_turns.accessed (gs ++ more) pass s a transfer t))
        (access_line pass transfer (pass_turns.accessed gs pass s a transfer t))
    access_same s a transfer t h k =
        let b = is_inside t in
        let one : PassTurn = makes [] (enters_unless b pass) t in
        let two : Transferred = transferred gs pass s a transfer one in
        let x : Generation = generation_entered gs one in
        let new : List HistoryEntry = entries_of [] (leaves_unless b pass) two.turn.replies in
        let k_two = every_first (EntersBelow (length gs)) two.turn.entries new k in
        let k_one = every_first (EntersBelow (length gs)) one.entries
        (entries_of x.places (events_of_steps pass (access x.forest s a transfer)) one.replies) k_two in
        let in_one = makes_under (length gs) [] (enters_unless b pass) t h k_one in
        let in_two = makes_under (length gs) x.places (events_of_steps pass (access x.forest s a transfer)) one in_one k_two in record {
          same = ap (λ (z : Transferred). access_line pass transfer (leaves_after b pass z)) (transferred_same pass s a transfer one in_one);
          under = makes_under (length gs) [] (leaves_unless b pass) two.turn in_two k;
        }

    copy_same : (from : SpaceId) (a n : ℕ) (to : SpaceId) (c : ℕ) (t : PassTurn) → IsUnder (length gs) t.state.entered
        → Every (EntersBelow (length gs)) (pass_turns.copied gs pass from a n to c t).turn.entries
        → IsSame (copy_line pass (pass_turns.copied (gs ++ more) pass from a n to c t)) (copy_line pass (pass_turns.copied gs pass from a n to c t))
    copy_same from a n to c t h k =
        let b = is_inside t in
        let one : PassTurn = makes [] (enters_unless b pass) t in
        let x : Generation = generation_entered gs one in
        let two : Transferred = transferred gs pass from a (reading n) one in
        let y : Generation = generation_entered gs two.turn in
        let wrote : Transferred = transferred gs pass to c (writing two.bytes) two.turn in
        let three : Transferred = copied_on gs pass to c two in
        let new : List HistoryEntry = entries_of [] (leaves_unless b pass) wrote.turn.replies in
        let k_three = every_first (EntersBelow (length gs)) wrote.turn.entries new k in
        let k_two = every_first (EntersBelow (length gs)) two.turn.entries
        (entries_of y.places (events_of_steps pass (access y.forest to c (writing two.bytes))) two.turn.replies) k_three in
        let k_one = every_first (EntersBelow (length gs)) one.entries
        (entries_of x.places (events_of_steps pass (access x.forest from a (reading n))) one.replies) k_two in
        let in_one = makes_under (length gs) [] (enters_unless b pass) t h k_one in
        let in_two = makes_under (length gs) x.places (events_of_steps pass (access x.forest from a (reading n))) one in_one k_two in
        let in_three = makes_under (length gs) y.places (events_of_steps pass (access y.forest to c (writing two.bytes))) two.turn in_two k_three in
        record {
          same = ap (λ (z : Transferred). copy_line pass (leaves_after b pass (copied_on (gs ++ more) pass to c z)))
              (transferred_same pass from a (reading n) one in_one)
              ∙ ap (λ (z : Transferred). copy_line pass (leaves_after b pass (record {
                turn = z.turn;
                answer = record { result = either two.answer.result z.answer.result; number = two.answer.number };
                bytes = two.bytes;
              })))
              (transferred_same pass to c (writing two.bytes) two.turn in_two);
          under = makes_under (length gs) [] (leaves_unless b pass) wrote.turn in_three k;
        }

    task_same : (task : Task) (t : PassTurn) (e : DeskEntry) → IsUnder (length gs) t.state.entered
        → Every (EntersBelow (length gs)) (task_of_pass gs names pass line task t e).turn.entries
        → IsSame (task_of_pass (gs ++ more) names pass line task t e) (task_of_pass gs names pass line task t e)
    task_same tasks.idle t e h k = record { same = refl; under = h }
    task_same (tasks.ordered order name) t e h k = record { same = refl; under = h }
    task_same (tasks.shown s) t e h k = record { same = refl; under = h }
    task_same (tasks.found s addr) t e h k = record { same = refl; under = h }
    task_same (tasks.watched name r first last) t e h k = record { same = refl; under = h }
    task_same (tasks.unwatched id) t e h k = record { same = refl; under = h }
    task_same tasks.entered t e h k = record { same = refl; under = makes_under (length gs) [] (enters_anew (is_inside t) pass) t h k }
    task_same tasks.left t e h k =
        record { same = refl; under = makes_under (length gs) [] (if is_inside t then leaves pass else []) t h k }
    task_same (tasks.accessed s addr transfer) t e h k = access_same s addr transfer t h k
    task_same (tasks.copied from addr n to to_addr) t e h k = copy_same from addr n to to_addr t h k

    resolved_same : (task : Result Task Text) (t : PassTurn) (e : DeskEntry) → IsUnder (length gs) t.state.entered
        → Every (EntersBelow (length gs)) (line_of_pass gs names pass line task t e).turn.entries
        → IsSame (line_of_pass (gs ++ more) names pass line task t e) (line_of_pass gs names pass line task t e)
    resolved_same (Ok task) t e h k = task_same task t e h k
    resolved_same (Err why) t e h k = record { same = refl; under = h }

  pub pass_lines_same : (k : Known) (names : Names) (pass : PassId) (lines : List Line) (p : PassState) (replies : List ℕ) (got : List DeskEntry)
      → IsUnder (length gs) p.entered
      → Every (EntersBelow (length gs)) (flat_map (λ (x : PassLine). x.turn.entries) (lines_of_pass gs k names pass p lines replies got))
      → lines_of_pass (gs ++ more) k names pass p lines replies got ≡ lines_of_pass gs k names pass p lines replies got
  pass_lines_same k names pass [] p replies got h below = refl
  pass_lines_same k names pass (line ∷ lines) p replies got h below =
      let x : PassLine = line_of_pass gs names pass line.0 (task_of k line.1) (pass_begins p replies) (entry_at got 0) in
      let rest : List PassLine = lines_of_pass gs k names pass x.turn.state lines x.turn.replies (drop (length x.asks) got) in
      let is = resolved_same names pass line.0 (task_of k line.1) (pass_begins p replies) (entry_at got 0) h
      (every_first (EntersBelow (length gs)) x.turn.entries (flat_map (λ (x : PassLine). x.turn.entries) rest) below) in
      ap (λ (z : PassLine). z ∷ lines_of_pass (gs ++ more) k names pass z.turn.state lines z.turn.replies (drop (length z.asks) got)) is.same
      ∙ ap (λ (zs : List PassLine). x ∷ zs) (pass_lines_same k names pass lines x.turn.state x.turn.replies (drop (length x.asks) got) is.under
      (every_rest (EntersBelow (length gs)) x.turn.entries (flat_map (λ (x : PassLine). x.turn.entries) rest) below))
