-- A task of the desk, by what its orders got, is what the run does.
use Rattle.std.proofs.Common.{◌≡◌, ℕ, suc, List, [], ◌∷◌, ◌++◌, length, append_assoc, drop, refl, sym, ap, subst, ◌∙◌, arith, Option, Some, None, Ok}
use Rattle.mem_base.specs.declared.map.calls.Call.TheVariants as calls
use Rattle.mem_base.specs.declared.map.forests.Forest.{Forest}
use Rattle.mem_base.specs.declared.map.refusals.Refusal.{Refusal}
use Rattle.mem_base.specs.declared.machine.events.HistoryEntry.{HistoryEntry}
use Rattle.mem_base.specs.declared.machine.records.DeskOrder.{DeskOrder}
use Rattle.mem_base.specs.declared.machine.records.DeskOrder.TheVariants as orders
use Rattle.mem_base.specs.declared.machine.records.DeskAnswer.TheVariants as answers
use Rattle.mem_base.specs.declared.machine.records.DeskEntry.{DeskEntry}
use Rattle.mem_base.specs.views.Listening.{Delivery}
use Rattle.mem_base.specs.machine.Desk.{Desk}
use Rattle.mem_base.specs.machine.Generations.{Generation}
use Rattle.mem_base.specs.machine.Publishing.{current_forest}
use Rattle.mem_base.specs.machine.Reaps.{Writer}
use Rattle.mem_base.specs.machine.World.{World}
use Rattle.mem_base.specs.machine.Answers.{Answer}
use Rattle.mem_base.specs.machine.Composites.{completed}
use Rattle.mem_base.specs.machine.Actors.{generations_published}
use Rattle.mem_base.specs.machine.Turns.{WriterCall, entries_of_turn, turn}
use Rattle.mem_base.specs.machine.Records.{Given, call_of, entry_of, recorded, told}
use Rattle.mem_base.specs.script.Spelling.{Text}
use Rattle.mem_base.specs.script.Output.{notice_lines, told_lines}
use Rattle.mem_base.specs.script.Watching.{Watcher, caught_up, notices_all, watch_refusal}
use Rattle.mem_base.specs.script.States.{Outcome, State, outcome}
use Rattle.mem_base.specs.script.Shows.{catches_up, joins_unless, shown_forest}
use Rattle.mem_base.specs.script.Tasks.{Known, Resolved, Task, after_order, ordered, unwatched, watched}
use Rattle.mem_base.specs.script.RaceLines.{DeskLine, Said, answer_text, asked_first, catching_up, entry_at, generation_numbered, new_watcher}
use Rattle.mem_base.specs.script.RaceLines.{number_looked, own_line, said_text, says, watch_line}
use Rattle.run_laws.specs.TaskSteps.{desk_order, desk_step, known_state}
use Rattle.run_laws.specs.KnownNames.{IsKnownTask, KnowsNames}
use Rattle.run_laws.proofs.KnowingLaws.{orders_are_known}
use Rattle.race_laws.proofs.Running.{IsLegal, IsRun, IsTurned, current_shown, turned, world_after}
use Rattle.run_laws.proofs.DeskLaws.{other_watchers, sliced, after_watchers}

-- a line of the desk by its task
abbrev pub desk_by : List Generation → Known → ℕ → Resolved Task → List DeskEntry → DeskLine
desk_by published k n task got =
    let number = number_looked (entry_at got (asked_first task)).answer in
    let f = (generation_numbered published number).forest in
    catching_up f (own_line k n task (entry_at got 0) number f)

-- what it asks for before its Look
abbrev pub asks_of : Resolved Task → List DeskOrder
asks_of (Ok (ordered order name)) = order ∷ []
asks_of task = []

watch_asks : (k : Known) (n : ℕ) (f : Forest) (name : Text) (w : Watcher) (o : Option Refusal) → (watch_line k n f name w o).asks ≡ []
watch_asks k n f name w None = refl
watch_asks k n f name w (Some why) = refl

pub asks_are : (k : Known) (n : ℕ) (task : Resolved Task) (e : DeskEntry) (number : ℕ) (f : Forest) → (own_line k n task e number f).asks ≡ asks_of task
asks_are k n (Ok (watched name region first last)) e number f = watch_asks k n f name (new_watcher k region first last) (watch_refusal k.watchers first last)
asks_are k n task e number f = refl

pub one_is_not_none : (order : DeskOrder) → order ∷ [] ≡ [] → ⊥
one_is_not_none order e = let z : suc (length {A = DeskOrder} []) ≡ length {A = DeskOrder} [] = ap length e in omega arith

asked_none : (task : Resolved Task) → asks_of task ≡ [] → asked_first task ≡ 0
asked_none (Ok (ordered order name)) e = absurd (one_is_not_none order e)
asked_none task e = refl

-- orders change no watchers

-- Tasks without an order

record IsOwn (k : Known) (w : World) (o : Outcome) (x : DeskLine) : Type 0 where
  said : x.said ≡ says o.0
  left : known_state x.known w ≡ o.1
  knows : (d : Desk) → KnowsNames k d → KnowsNames x.known d

watch_own : (k : Known) (w : World) (n : ℕ) (name : Text) (v : Watcher) (o : Option Refusal)
    → IsOwn k w (joins_unless (known_state k w) n o name v) (watch_line k n (current_forest w.writer.generations) name v o)
watch_own k w n name v None = record {
  said = refl;
  left = refl;
  knows = λ d a. record { regions = a.regions; made = a.made; dropped = a.dropped; listeners = a.listeners; gone = a.gone };
}
watch_own k w n name v (Some why) = record { said = refl; left = refl; knows = λ d a. a }

own_is : (k : Known) (w : World) (n : ℕ) (task : Resolved Task) (e : DeskEntry) → asks_of task ≡ []
    → IsOwn k w (desk_step k w n task) (own_line k n task e w.writer.generations.current (current_forest w.writer.generations))
own_is k w n (Ok (ordered order name)) e h = absurd (one_is_not_none order h)
own_is k w n (Ok (watched name region first last)) e h =
    watch_own k w n name (new_watcher k region first last) (watch_refusal k.watchers first last)
own_is k w n (Ok (unwatched id)) e h = record { said = refl; left = refl; knows = λ d a. other_watchers k d _ a }
own_is k w n task e h = record { said = refl; left = refl; knows = λ d a. a }

-- what a line writes and what is then known, where the run of the machine stands after it
pub record Follows (pool : ℕ) (h : Writer) (seen : List HistoryEntry) (known : Known) (said : Said) (o : Outcome) : Type 0 where
  pub text : said_text known.names h.desk.listening.journal said ≡ o.0
  pub left : known_state known (world_after pool h seen) ≡ o.1
  pub runs : IsRun pool h seen
  pub knows : KnowsNames known h.desk

caught : (pool : ℕ) (h : Writer) (seen : List HistoryEntry) (k : Known) (o : Outcome) (x : DeskLine) → IsOwn k (world_after pool h seen) o x
    → IsRun pool h seen → KnowsNames k h.desk
    → let y = catching_up (current_forest h.generations) x in Follows pool h seen y.known y.said (catches_up o)
caught pool h seen k o x own r a =
    let f : Forest = current_forest h.generations in
    let y : DeskLine = catching_up f x in
    let journal : List Delivery = h.desk.listening.journal in record {
      text = ap (λ (z : Said). said_text x.known.names journal (record z { notices = y.said.notices })) own.said
          ∙ ap (λ (st : State). o.0 ++ notice_lines st.names (notices_all (shown_forest st) st.watchers)) own.left;
      left = ap (λ (st : State). record st { watchers = caught_up (shown_forest st) st.watchers }) own.left;
      runs = r;
      knows = other_watchers x.known h.desk (caught_up f x.known.watchers) (own.knows h.desk a);
    }

-- the order of a Look, whoever gave it
abbrev pub look_by : ℕ → List ℕ → Given
look_by who replies = record { who = who; order = orders.Look; replies = replies }

module _ (pool : ℕ) (published : List Generation) (h : Writer) (seen : List HistoryEntry) (k : Known) (n : ℕ) (r : IsRun pool h seen)
    (a : KnowsNames k h.desk) where
  abbrev w : World
  w = world_after pool h seen

  pub quiet : (task : Resolved Task) → asks_of task ≡ [] → (who : ℕ) (replies : List ℕ) (rest : List HistoryEntry) → IsLegal pool seen
      → published ≡ generations_published (seen ++ rest)
      → let x = desk_by published k n task (recorded h (look_by who replies ∷ [])) in Follows pool h seen x.known x.said (catches_up (desk_step k w n task))
  quiet task none who replies rest legal are =
      let got : List DeskEntry = recorded h (look_by who replies ∷ []) in
      let c : ℕ = h.generations.current in
      let f : Forest = current_forest h.generations in
      let number : number_looked (entry_at got (asked_first task)).answer ≡ c = ap (λ (j : ℕ). number_looked (entry_at got j).answer) (asked_none task none) in
      let forest : (generation_numbered published (number_looked (entry_at got (asked_first task)).answer)).forest ≡ f =
      (λ i. (generation_numbered (are i) (number i)).forest) ∙ current_shown pool h seen rest r legal in
      let same : desk_by published k n task got ≡ catching_up f (own_line k n task (entry_at got 0) c f) =
      (λ i. catching_up (forest i) (own_line k n task (entry_at got 0) (number i) (forest i))) in
      subst (λ (x : DeskLine). Follows pool h seen x.known x.said (catches_up (desk_step k w n task))) (sym same)
      (caught pool h seen k (desk_step k w n task) (own_line k n task (entry_at got 0) c f) (own_is k w n task (entry_at got 0) none) r a)

  -- one order, and then a Look

  module _ (order : DeskOrder) (name : Text) (who : ℕ) (replies : List ℕ) where
    abbrev t : WriterCall
    t = turn h (call_of order) replies

    abbrev g : Given
    g = record { who = who; order = order; replies = replies }

    abbrev e : DeskEntry
    e = entry_of h g t

    -- by an answer, and the world after it
    abbrev by : Answer → World → Outcome
    by x v = let names = (after_order k name order (told x)).names in outcome (known_state k w) names v (answer_text names n order (told x))

    abbrev after : Known
    after = after_order k name order (told t.answer)

    abbrev heard_then : List Delivery
    heard_then = drop (length h.desk.listening.journal) t.writer.desk.listening.journal

    ordering : (zs : List HistoryEntry) → IsTurned pool h seen (call_of order) t → zs ≡ seen ++ entries_of_turn t → IsKnownTask k (Ok (ordered order name))
        → let f = current_forest t.writer.generations in
        let y = catching_up f (own_line k n (Ok (ordered order name)) e t.writer.generations.current f) in
        Follows pool t.writer zs y.known y.said (catches_up (desk_step k w n (Ok (ordered order name))))
    ordering zs done is known =
        let f : Forest = current_forest t.writer.generations in
        let own : Text = answer_text after.names n order (told t.answer) in
        let v : World = world_after pool t.writer zs in
        let world : v ≡ (completed w (call_of order)).world = ap (λ (ys : List HistoryEntry). world_after pool t.writer ys) is ∙ done.world in
        let watchers : after.watchers ≡ k.watchers = after_watchers k name order (told t.answer) in
        let notices : List Watcher → Text = λ ws. notice_lines after.names (notices_all f ws) in
        let to_run : catches_up (by t.answer v) ≡ catches_up (desk_order k w n order name) = (λ i. catches_up (by (done.answer i) (world i))) in
        record {
          text = ap (λ (ds : List Delivery). own ++ (told_lines after.names ds ++ notices after.watchers))
              (sliced t.writer.desk.listening.journal (length h.desk.listening.journal))
              ∙ sym (append_assoc own (told_lines after.names heard_then) (notices after.watchers))
              ∙ ap (λ (ws : List Watcher). (own ++ told_lines after.names heard_then) ++ notices ws) watchers
              ∙ ap (λ (o : Outcome). o.0) to_run;
          left = ap (λ (ws : List Watcher). known_state (record after { watchers = caught_up f ws }) v) watchers ∙ ap (λ (o : Outcome). o.1) to_run;
          runs = subst (λ (ys : List HistoryEntry). IsRun pool t.writer ys) (sym is) done.goes;
          knows = other_watchers after t.writer.desk (caught_up f after.watchers)
              (subst (λ (d : Desk). KnowsNames after d) (ap (λ (u : World). u.writer.desk) (sym done.world))
              (subst (λ (x : Answer). KnowsNames (after_order k name order (told x)) (completed w (call_of order)).world.writer.desk) (sym done.answer)
              ((orders_are_known k w order a).desk name known)));
        }

    pub ordered_then : (other : ℕ) (more : List ℕ) (rest : List HistoryEntry) → IsKnownTask k (Ok (ordered order name))
        → IsLegal pool (seen ++ entries_of_turn t)
        → published ≡ generations_published ((seen ++ entries_of_turn t) ++ rest) → (zs : List HistoryEntry) → zs ≡ seen ++ entries_of_turn t
        → let x = desk_by published k n (Ok (ordered order name)) (recorded h (g ∷ look_by other more ∷ [])) in
        Follows pool t.writer zs x.known x.said (catches_up (desk_step k w n (Ok (ordered order name))))
    ordered_then other more rest known legal are zs is =
        let done : IsTurned pool h seen (call_of order) t = turned pool h seen (call_of order) replies r legal in
        let c : ℕ = t.writer.generations.current in
        let forest : (generation_numbered published c).forest ≡ current_forest t.writer.generations =
        ap (λ (gs : List Generation). (generation_numbered gs c).forest) are
        ∙ current_shown pool t.writer (seen ++ entries_of_turn t) rest done.goes legal in
        subst (λ (f : Forest). let x = catching_up f (own_line k n (Ok (ordered order name)) e c f) in
        Follows pool t.writer zs x.known x.said (catches_up (desk_step k w n (Ok (ordered order name))))) (sym forest)
        (ordering zs done is known)
