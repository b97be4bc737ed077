-- A line of the desk outside the block, from what the record took to the race that goes on.
use Rattle.std.proofs.Common.{◌≡◌, ℕ, ◌+◌, List, [], ◌∷◌, ◌++◌, map, Option, Some, None, Result, Ok, Err, refl, sym, ap, subst, ◌∙◌}
use Rattle.std.specs.Arc.{arc_value}
use Rattle.mem_base.specs.declared.map.forests.Forest.{Forest}
use Rattle.mem_base.specs.declared.machine.events.HistoryEntry.{HistoryEntry}
use Rattle.mem_base.specs.declared.machine.records.DeskAnswer.{DeskAnswer}
use Rattle.mem_base.specs.declared.machine.records.DeskAnswer.TheVariants as answers
use Rattle.mem_base.specs.declared.machine.records.DeskEntry.{DeskEntry}
use Rattle.mem_base.specs.declared.machine.records.DeskOrder.{DeskOrder}
use Rattle.mem_base.specs.declared.machine.records.DeskOrder.TheVariants as orders
use Rattle.mem_base.specs.lists.Every.{Every}
use Rattle.mem_base.specs.map.Limits.{most_passes, notifier_count}
use Rattle.mem_base.specs.machine.Actors.{generation_published}
use Rattle.mem_base.specs.machine.Reaps.{Writer}
use Rattle.mem_base.specs.machine.Records.{FitsDeskOrder, Given, journal_length, recorded, told}
use Rattle.mem_base.specs.machine.SharedHistory.{IsSharedLegal}
use Rattle.mem_base.specs.script.Spelling.{Text}
use Rattle.mem_base.specs.script.Scripts.{Line}
use Rattle.mem_base.specs.script.Tasks.{Known, Resolved, Task, task_of}
use Rattle.mem_base.specs.script.Tasks as tasks
use Rattle.mem_base.specs.script.RaceLines.{DeskLine, Said, asked_first, entry_at, number_looked, said_text}
use Rattle.mem_base.specs.script.Race.{Course, Stand, actor_number, alone, desk_number}
use Rattle.generation.specs.Published.{Published}
use Rattle.epoch_rule.specs.declared.views.Sizes.{Sizes}
use Rattle.epoch_rule.specs.Rule.{IsLegal}
use Rattle.epoch_rule.specs.Values.{PassValue}
use Rattle.run_laws.specs.Fitting.{FitsCommand}
use Rattle.race_laws.specs.SoFar.{IsRaceSoFar}
use Rattle.race_laws.specs.Outside.{desk_course}
use Rattle.race_laws.proofs.OutsideLaws.{orders_fit}
use Rattle.desk_orders.specs.declared.orders.Receipt.{Receipt}
use Rattle.desk_orders.specs.Receipts.{HandsOut}
use Rattle.desk_orders.specs.Records.{GrewBy, RecordState}
use Rattle.desk_orders.specs.Given.{turn_of}
use Rattle.desk_orders.proofs.Giving.{given_by}
use Rattle.desk_lock.specs.Turned.{Takes}
use Rattle.desk_orders.proofs.RecordLaws.{grew_on}
use Rattle.desk_lock.proofs.RecordLaws.{grew_one}
use Rattle.race_lines.specs.declared.tasks.LineTask.{LineTask}
use Rattle.race_lines.specs.declared.tasks.LineTask.TheVariants.{Idle, Ordered, Shown, Found, Watched, Unwatched, Entered, Left, Read, Written, Copied}
use Rattle.race_lines.specs.declared.tasks.Refused.{Refused}
use Rattle.race_lines.specs.DeskLines.{desk_line_by, entry_with}
use Rattle.race_lines.specs.LineTasks.{Resolves, name_made, resolved}
use Rattle.race_lines.proofs.SaidLaws.{lines_go_by_answers}
use Rattle.race_levels.specs.Steps.{HasGiven, line_given, orders_of, stand_with}
use Rattle.race_levels.proofs.StepLaws.{desk_lines_step}
use Rattle.race_levels.specs.Settling.{AreLevel, HaveMet}
use Rattle.race_levels.proofs.SettlingLaws.{desk_settles}
use Rattle.view_laws.proofs.Tests.{none_is_not_some}
use Rattle.race_outside.specs.declared.desks.Asked.{Asked}
use Rattle.race_outside.specs.Asked.{IsAsked, LooksAt, TakesOwn, entry_of_receipt, line_asked}
use Rattle.race_levels.specs.Outside.{StepsOn, stand_of}

-- a look's answer tells the number of the generation that it hands out
looked : (a : DeskAnswer) (g : Published) (seen : List HistoryEntry) → HandsOut orders.Look a (Some g) seen
    → (g.number ≡ number_looked a) × (g.forest ≡ (generation_published seen g.number).forest)
looked (answers.Looked number) g seen h = (h.0, h.1 ∙ ap (λ (n : ℕ). (generation_published seen n).forest) (sym h.0))
looked _ g seen h = absurd h

module _ (v m w : RecordState) (k : Known) (line : Line) (got : Option Receipt) (g : Published) where
  -- which orders were given for a line, and what they told
  pub record Gave (task : Result LineTask Refused) : Type 0 where
    pub given : List Given
    pub grew : GrewBy given v w
    pub own : Every (λ x. x.who ≡ desk_number) given
    pub fits : Every (λ x. FitsDeskOrder x.order) given
    pub orders : map (λ x. x.order) given ≡ orders_of (resolved task)
    pub number : g.number ≡ number_looked (entry_at (recorded v.part given) (asked_first (resolved task))).answer
    pub line_is : (n : ℕ) (f : Forest) → desk_line_by k line.0 (resolved task) (entry_at (recorded v.part given) 0) n f
        ≡ desk_line_by k line.0 (resolved task) (entry_of_receipt got) n f

  -- of a line without an order
  record IsQuiet (task : Result LineTask Refused) : Type 0 where
    asks : orders_of (resolved task) ≡ orders.Look ∷ []
    first : asked_first (resolved task) ≡ 0
    line_is : (e e' : DeskEntry) (n : ℕ) (f : Forest) → desk_line_by k line.0 (resolved task) e n f ≡ desk_line_by k line.0 (resolved task) e' n f

  by_look : (task : Result LineTask Refused) → IsQuiet task → m ≡ v → LooksAt m g w → Gave task
  by_look task q same x =
      let looks : LooksAt v g w = subst (λ (r : RecordState). LooksAt r g w) same x in
      let ns : List ℕ = looks.takes.turned.asked.replies in
      let hands = looked looks.receipt.answer g looks.receipt.note.seen
      (subst (λ (o : Option Published). HandsOut orders.Look looks.receipt.answer o looks.receipt.note.seen) looks.current looks.is.current) in
      let two : Given = given_by desk_number orders.Look ns in record {
        given = two ∷ [];
        grew = grew_one v w desk_number orders.Look looks.receipt looks.takes tt;
        own = (refl, tt);
        fits = (tt, tt);
        orders = sym q.asks;
        number = hands.0 ∙ ap number_looked looks.takes.turned.asked.answer_is
            ∙ ap (λ (j : ℕ). number_looked (entry_at (recorded v.part (two ∷ [])) j).answer) (sym q.first);
        line_is = λ n f. q.line_is (entry_at (recorded v.part (two ∷ [])) 0) (entry_of_receipt got) n f;
      }

  by_order : (order : DeskOrder) (task : Result LineTask Refused) (name : Text) (r : Receipt) → resolved task ≡ Ok (tasks.ordered order name)
      → got ≡ Some r → FitsDeskOrder order → Takes v desk_number order r m → LooksAt m g w → Gave task
  by_order order task name r is some fits takes looks =
      let one : Given = given_by desk_number order takes.turned.asked.replies in
      let two : Given = given_by desk_number orders.Look looks.takes.turned.asked.replies in
      let part : m.part ≡ (turn_of v.part order takes.turned.asked.replies).writer = takes.turned.asked.part in
      let hands = looked looks.receipt.answer g looks.receipt.note.seen
      (subst (λ (o : Option Published). HandsOut orders.Look looks.receipt.answer o looks.receipt.note.seen) looks.current looks.is.current) in
      let e : DeskEntry = entry_at (recorded v.part (one ∷ two ∷ [])) 0 in record {
        given = one ∷ two ∷ [];
        grew = grew_on (one ∷ []) (two ∷ []) v m w (grew_one v m desk_number order r takes fits)
            (grew_one m w desk_number orders.Look looks.receipt looks.takes tt);
        own = (refl, (refl, tt));
        fits = (fits, (tt, tt));
        orders = ap orders_of (sym is);
        number = hands.0
            ∙ ap number_looked (looks.takes.turned.asked.answer_is
            ∙ ap (λ (h : Writer). told (turn_of h orders.Look looks.takes.turned.asked.replies).answer) part)
            ∙ ap (λ (t : Resolved Task). number_looked (entry_at (recorded v.part (one ∷ two ∷ [])) (asked_first t)).answer) (sym is);
        line_is = λ n f. lines_go_by_answers k line.0 (resolved task) e n f
            ∙ (λ i. desk_line_by k line.0 (resolved task) (entry_with (sym takes.turned.asked.answer_is i) (sym takes.turned.from i)
            (sym (takes.turned.to ∙ ap journal_length part) i)) n f)
            ∙ ap (λ (o : Option Receipt). desk_line_by k line.0 (resolved task) (entry_of_receipt o) n f) (sym some);
      }

  pub gave : (task : Result LineTask Refused) → Resolves k task (task_of k line.1) → FitsCommand line.1 → TakesOwn v task got m → LooksAt m g w → Gave task
  gave (Ok (Ordered order naming)) r fits takes looks = go got refl takes
    where
      go : (o : Option Receipt) → got ≡ o → TakesOwn v (Ok (Ordered order naming)) o m → Gave (Ok (Ordered order naming))
      go (Some receipt) some t = by_order order (Ok (Ordered order naming)) (name_made naming) receipt refl some
          (orders_fit k line.1 order (name_made naming) fits (sym r.is)) t looks
      go None none t = absurd t
  gave (Ok Idle) r fits takes looks = by_look (Ok Idle) (record { asks = refl; first = refl; line_is = λ e e' n f. refl }) takes.1 looks
  gave (Ok (Shown space)) r fits takes looks =
      by_look (Ok (Shown space)) (record { asks = refl; first = refl; line_is = λ e e' n f. refl }) takes.1 looks
  gave (Ok (Found space addr)) r fits takes looks =
      by_look (Ok (Found space addr)) (record { asks = refl; first = refl; line_is = λ e e' n f. refl }) takes.1 looks
  gave (Ok (Watched name region first last)) r fits takes looks =
      by_look (Ok (Watched name region first last)) (record { asks = refl; first = refl; line_is = λ e e' n f. refl }) takes.1 looks
  gave (Ok (Unwatched name watcher)) r fits takes looks =
      by_look (Ok (Unwatched name watcher)) (record { asks = refl; first = refl; line_is = λ e e' n f. refl }) takes.1 looks
  gave (Ok Entered) r fits takes looks = by_look (Ok Entered) (record { asks = refl; first = refl; line_is = λ e e' n f. refl }) takes.1 looks
  gave (Ok Left) r fits takes looks = by_look (Ok Left) (record { asks = refl; first = refl; line_is = λ e e' n f. refl }) takes.1 looks
  gave (Ok (Read space addr len)) r fits takes looks =
      by_look (Ok (Read space addr len)) (record { asks = refl; first = refl; line_is = λ e e' n f. refl }) takes.1 looks
  gave (Ok (Written space addr bytes)) r fits takes looks =
      by_look (Ok (Written space addr bytes)) (record { asks = refl; first = refl; line_is = λ e e' n f. refl }) takes.1 looks
  gave (Ok (Copied space addr len to_space to_addr)) r fits takes looks =
      by_look (Ok (Copied space addr len to_space to_addr)) (record { asks = refl; first = refl; line_is = λ e e' n f. refl }) takes.1 looks
  gave (Err why) r fits takes looks = by_look (Err why) (record { asks = refl; first = refl; line_is = λ e e' n f. refl }) takes.1 looks

  abbrev line_got : Result LineTask Refused → DeskLine
  line_got task = desk_line_by k line.0 (resolved task) (entry_of_receipt got) g.number g.forest

  no_pass : PassValue Published
  no_pass = record { cabinet = v.seat.cabinet; number = 0; sizes = v.seat.sizes; seen = []; edition = None }

  pub steps_on : (task : Result LineTask Refused) (next : Known) (said : Said) (olds news : List (PassValue Published)) → Resolves k task (task_of k line.1)
      → Gave task → LooksAt m g w → actor_number line.1 ≡ desk_number → IsLegal w.seat.sizes w.seat.seen → AreLevel v.seat.seen olds
      → HaveMet w.seat.seen olds news → next ≡ (line_got task).known → said ≡ (line_got task).said
      → StepsOn v k (alone line) w next (said_text next.names w.part.desk.listening.journal said)
  steps_on task next said olds news r x looks actor lawful level met known_is said_is pool done text sizes race =
      let s : Stand = stand_of k v in
      let c : Course = desk_course s x.given in
      let legal : IsSharedLegal (pool + notifier_count) most_passes w.seat.seen =
      subst (λ (z : Sizes). IsLegal z w.seat.seen) (x.grew.sizes ∙ sizes) lawful in
      let seen : w.seat.seen ≡ s.seen ++ c.entries = (desk_settles pool v w x.given olds news no_pass legal x.grew level met).0 in
      let hands = looked looks.receipt.answer g looks.receipt.note.seen
      (subst (λ (o : Option Published). HandsOut orders.Look looks.receipt.answer o looks.receipt.note.seen) looks.current looks.is.current) in
      let given : HasGiven pool s line x.given g.number g.forest = record {
        actor = actor;
        own = x.own;
        fits = x.fits;
        orders = x.orders ∙ ap orders_of r.is;
        legal = subst (λ (xs : List HistoryEntry). IsSharedLegal (pool + notifier_count) most_passes xs) seen legal;
        number_is = x.number ∙ ap (λ (t : Resolved Task). number_looked (entry_at (recorded v.part x.given) (asked_first t)).answer) r.is;
        forest_is = hands.1 ∙ ap (λ (xs : List HistoryEntry). (generation_published xs g.number).forest) (looks.note ∙ seen);
      } in
      let step = desk_lines_step pool done s text line x.given g.number g.forest race given in
      let same : line_given s line x.given g.number g.forest ≡ line_got task =
      ap (λ (t : Resolved Task). desk_line_by k line.0 t (entry_at (recorded v.part x.given) 0) g.number g.forest) (sym r.is)
      ∙ x.line_is g.number g.forest in
      let known : (line_given s line x.given g.number g.forest).known ≡ next = ap (λ (y : DeskLine). y.known) same ∙ sym known_is in
      let says : (line_given s line x.given g.number g.forest).said ≡ said = ap (λ (y : DeskLine). y.said) same ∙ sym said_is in
      let stands : stand_with s line c ≡ stand_of next w =
      (λ i. record { known = (step.known_is ∙ known) i; seen = sym seen i; writer = sym x.grew.part i }) in
      subst (λ (t : Text). IsRaceSoFar pool (done ++ alone line ∷ []) (stand_of next w) (text ++ t))
      (λ i. said_text (known i).names (stands i).writer.desk.listening.journal (says i))
      (subst (λ (z : Stand). IsRaceSoFar pool (done ++ alone line ∷ []) z
      (text ++ said_text (line_given s line x.given g.number g.forest).known.names (stand_with s line c).writer.desk.listening.journal
      (line_given s line x.given g.number g.forest).said)) stands step.race)

-- a look hands out a generation
pub hands_some : (a : DeskAnswer) (o : Option Published) (seen : List HistoryEntry) → HandsOut orders.Look a o seen → o ≡ None → ⊥
hands_some (answers.Looked number) None seen h e = h
hands_some (answers.Looked number) (Some g) seen h e = none_is_not_some g (sym e)
hands_some answers.Done o seen h e = h
hands_some (answers.Called applied number) o seen h e = h
hands_some (answers.Committed number) o seen h e = h
hands_some (answers.Released regions) o seen h e = h
hands_some (answers.Pages pages) o seen h e = h
hands_some (answers.Value value) o seen h e = h
hands_some (answers.Refused why) o seen h e = h

-- a line that was given all its orders is a phase, where this is known after it and this is what it says
pub asked_steps : (v w : RecordState) (k : Known) (line : Line) (x : Asked) (next : Known) (said : Said) (olds news : List (PassValue Published))
    → IsAsked v k line.1 x w → FitsCommand line.1 → actor_number line.1 ≡ desk_number → IsLegal w.seat.sizes w.seat.seen → AreLevel v.seat.seen olds
    → HaveMet w.seat.seen olds news → next ≡ (line_asked k line.0 x).known → said ≡ (line_asked k line.0 x).said
    → StepsOn v k (alone line) w next (said_text next.names w.part.desk.listening.journal said)
asked_steps v w k line x next said olds news a fits actor lawful level met known_is said_is =
    let g : Published = arc_value x.current in
    let given = gave v a.between w k line x.got g x.task a.first.resolves fits a.first.took a.looks in
    steps_on v a.between w k line x.got g x.task next said olds news a.first.resolves given a.looks actor lawful level met known_is said_is
