-- A phase that is one line of the desk is what the run does by it.
use Rattle.std.proofs.Common.{◌≡◌, ◌<◌, ◌≤◌, ◌+◌, ℕ, suc, List, [], ◌∷◌, ◌++◌, length, map, append-nil, drop, refl, sym, ap, subst, ◌∙◌, arith, Option, Ok}
use Rattle.std.specs.Prelude.{flat_map, slice_index_or}
use Rattle.mem_base.specs.map.PassIds.{PassId}
use Rattle.mem_base.specs.declared.machine.events.HistoryEntry.{HistoryEntry}
use Rattle.mem_base.specs.declared.machine.records.DeskOrder.{DeskOrder}
use Rattle.mem_base.specs.declared.machine.records.DeskOrder.TheVariants as orders
use Rattle.mem_base.specs.declared.machine.records.DeskEntry.{DeskEntry}
use Rattle.mem_base.specs.declared.machine.records.Differs.{Differs}
use Rattle.mem_base.specs.lists.Every.{Every}
use Rattle.mem_base.specs.map.Limits.{most_passes, notifier_count}
use Rattle.mem_base.specs.machine.Passes.{pass_id}
use Rattle.mem_base.specs.machine.Generations.{Generation}
use Rattle.mem_base.specs.machine.Reaps.{Writer}
use Rattle.mem_base.specs.machine.World.{World}
use Rattle.mem_base.specs.machine.Actors.{generations_published, own_entries}
use Rattle.mem_base.specs.machine.Turns.{WriterCall, entries_of_turn, last_writer, replies_of, turn, turns}
use Rattle.mem_base.specs.machine.Records.{Closes, Given, answered, call_of, got_by, recorded}
use Rattle.mem_base.specs.script.Spelling.{Text}
use Rattle.mem_base.specs.script.Scripts.{Line}
use Rattle.mem_base.specs.script.States.{Outcome}
use Rattle.mem_base.specs.script.Shows.{catches_up}
use Rattle.mem_base.specs.script.Run.{step}
use Rattle.mem_base.specs.script.Tasks.{Known, Resolved, Task, ordered, task_of}
use Rattle.mem_base.specs.script.RaceLines.{DeskLine, PassLine, known_after, lines_of_desk, lines_of_pass, said_text}
use Rattle.mem_base.specs.script.Race.{Course, IsPassPart, IsPhase, Stand, actor_number, alone, desk_number, desk_part, differs_line, pass_part, passes}
use Rattle.mem_base.specs.script.Race.{pass_state, phase_text, stand_after, turns_in}
use Rattle.history_laws.proofs.NumberLaws.{sound}
use Rattle.end_laws.proofs.TurnRuns.{shared_both}
use Rattle.run_laws.specs.TaskSteps.{desk_step, known_state}
use Rattle.run_laws.specs.KnownNames.{IsKnownTask, KnowsNames}
use Rattle.run_laws.specs.LineLaws.{IsDeskLine}
use Rattle.race_laws.proofs.Actors.{IsMachines, actor_alone, all_machines, each_pass, lines_mine, lines_others, of_nobody, only_writers}
use Rattle.race_laws.proofs.Recording.{got_all, recorded_orders}
use Rattle.race_laws.proofs.Running.{IsLegal, IsRun, opening, shared_after, world_after}
use Rattle.race_laws.proofs.DeskTasks.{Follows, asks_are, asks_of, desk_by, look_by, ordered_then, quiet}

-- what was given, by the orders

abbrev given : ℕ → DeskOrder → List ℕ → Given
given who order replies = record { who = who; order = order; replies = replies }

abbrev pub orders_of : List Given → List DeskOrder
orders_of gs = map (λ g. g.order) gs

pub first_same : (x y : DeskOrder) (xs ys : List DeskOrder) → x ∷ xs ≡ y ∷ ys → x ≡ y
first_same x y xs ys e = ap (λ (os : List DeskOrder). slice_index_or os 0 x) e

pub rest_same : (x y : DeskOrder) (xs ys : List DeskOrder) → x ∷ xs ≡ y ∷ ys → xs ≡ ys
rest_same x y xs ys e = ap (λ (os : List DeskOrder). drop 1 os) e

pub no_less : {A : Type 0} (x : DeskOrder) (xs : List DeskOrder) → [] ≡ x ∷ xs → A
no_less x xs e = absurd (let z : length {A = DeskOrder} [] ≡ suc (length xs) = ap length e in omega arith)

pub none_given : (gs : List Given) → orders_of gs ≡ [] → gs ≡ []
none_given [] e = refl
none_given (g ∷ gs) e = no_less g.order (orders_of gs) (sym e)

pub record IsOneGiven (gs : List Given) (order : DeskOrder) : Type 0 where
  pub who : ℕ
  pub replies : List ℕ
  pub is : gs ≡ given who order replies ∷ []

pub one_given : (gs : List Given) (order : DeskOrder) → orders_of gs ≡ order ∷ [] → IsOneGiven gs order
one_given [] order e = no_less order [] e
one_given (g ∷ gs) order e = record {
  who = g.who;
  replies = g.replies;
  is = (λ i. given g.who (first_same g.order order (orders_of gs) [] e i) g.replies ∷ none_given gs (rest_same g.order order (orders_of gs) [] e) i);
}

record AreTwoGiven (gs : List Given) (order next : DeskOrder) : Type 0 where
  who : ℕ
  replies : List ℕ
  other : ℕ
  more : List ℕ
  is : gs ≡ given who order replies ∷ given other next more ∷ []

two_given : (gs : List Given) (order next : DeskOrder) → orders_of gs ≡ order ∷ next ∷ [] → AreTwoGiven gs order next
two_given [] order next e = no_less order (next ∷ []) e
two_given (g ∷ gs) order next e =
    let o = one_given gs next (rest_same g.order order (orders_of gs) (next ∷ []) e) in record {
      who = g.who;
      replies = g.replies;
      other = o.who;
      more = o.replies;
      is = (λ i. given g.who (first_same g.order order (orders_of gs) (next ∷ []) e i) g.replies ∷ o.is i);
    }

-- a task of the desk, whatever it is

module _ (pool : ℕ) (published : List Generation) (h : Writer) (seen : List HistoryEntry) (k : Known) (n : ℕ) (r : IsRun pool h seen)
    (a : KnowsNames k h.desk) where
  abbrev w : World
  w = world_after pool h seen

  abbrev FollowsBy : Resolved Task → List HistoryEntry → List Given → Type 0
  FollowsBy task zs gs = let x = desk_by published k n task (recorded h gs) in
      Follows pool (last_writer h (turns h (map answered gs))) zs x.known x.said (catches_up (desk_step k w n task))

  quietly : (task : Resolved Task) (gs : List Given) (zs rest : List HistoryEntry) → asks_of task ≡ [] → orders_of gs ≡ orders.Look ∷ []
      → zs ≡ seen ++ flat_map entries_of_turn (turns h (map answered gs)) → IsLegal pool zs → published ≡ generations_published (zs ++ rest)
      → FollowsBy task zs gs
  quietly task gs zs rest none are is legal p =
      let o = one_given gs orders.Look are in
      let same : zs ≡ seen = is ∙ ap (λ (fs : List Given). seen ++ flat_map entries_of_turn (turns h (map answered fs))) o.is ∙ append-nil seen in
      subst (λ (fs : List Given). FollowsBy task zs fs) (sym o.is)
      (subst (λ (ys : List HistoryEntry). FollowsBy task ys (look_by o.who o.replies ∷ [])) (sym same)
      (quiet pool published h seen k n r a task none o.who o.replies rest (subst (IsLegal pool) same legal)
      (p ∙ ap (λ (ys : List HistoryEntry). generations_published (ys ++ rest)) same)))

  pub task_follows : (task : Resolved Task) (gs : List Given) (zs rest : List HistoryEntry) → IsKnownTask k task
      → orders_of gs ≡ asks_of task ++ orders.Look ∷ []
      → zs ≡ seen ++ flat_map entries_of_turn (turns h (map answered gs)) → IsLegal pool zs → published ≡ generations_published (zs ++ rest)
      → FollowsBy task zs gs
  task_follows (Ok (ordered order name)) gs zs rest known are is legal p =
      let o = two_given gs order orders.Look are in
      let t : WriterCall = turn h (call_of order) o.replies in
      let same : zs ≡ seen ++ entries_of_turn t =
      is ∙ ap (λ (fs : List Given). seen ++ flat_map entries_of_turn (turns h (map answered fs))) o.is
      ∙ ap (λ (ys : List HistoryEntry). seen ++ ys) (append-nil (entries_of_turn t)) in
      subst (λ (fs : List Given). FollowsBy (Ok (ordered order name)) zs fs) (sym o.is)
      (ordered_then pool published h seen k n r a order name o.who o.replies o.other o.more rest known (subst (IsLegal pool) same legal)
      (p ∙ ap (λ (ys : List HistoryEntry). generations_published (ys ++ rest)) same) zs same)
  task_follows task gs zs rest known are is legal p = quietly task gs zs rest refl are is legal p

-- What a phase of one line does, in the run

pub record Goes (pool : ℕ) (published : List Generation) (s : Stand) (line : Line) (c : Course) : Type 0 where
  pub text : phase_text published s (alone line) c ≡ (step (known_state s.known (world_after pool s.writer s.seen)) line.0 line.1).0
  pub left : let t = stand_after published s (alone line) c in
      known_state t.known (world_after pool t.writer t.seen) ≡ (step (known_state s.known (world_after pool s.writer s.seen)) line.0 line.1).1
  pub runs : let t = stand_after published s (alone line) c in IsRun pool t.writer t.seen
  pub knows : let t = stand_after published s (alone line) c in KnowsNames t.known t.writer.desk

-- the text of a phase by its parts
abbrev pub text_by : Known → Writer → List DeskLine → (PassId → List PassLine) → Option Differs → Text
text_by known h part by_pass differs =
    let written = said_text known.names h.desk.listening.journal in
    flat_map (λ x. written x.said) part ++ (flat_map (λ pass. flat_map (λ x. written x.said) (by_pass pass)) passes ++ differs_line differs)

-- the entries of a phase are the machine's
pub course_machines : (pool : ℕ) (seen ys : List HistoryEntry) → IsLegal pool (seen ++ ys) → Every IsMachines ys
course_machines pool seen ys legal =
    let parts = shared_both seen ys (opening pool) legal in
    all_machines (pool + notifier_count) ys (generations_published seen) (shared_after pool seen)
    (sound (pool + notifier_count) most_passes seen parts.0) parts.1

pub got_record : (published : List Generation) (s : Stand) (line : Line) (c : Course) → IsPhase published s (alone line) c
    → actor_number line.1 ≤ desk_number → got_by (actor_number line.1) c.clerks ≡ recorded s.writer c.given
got_record published s line c p l = got_all (recorded s.writer c.given) c.clerks (actor_number line.1) (p.clerks ∙ actor_alone line l)
    (subst (λ (d : Option Differs). Closes (recorded s.writer c.given) c.clerks d) p.lock p.closes)

module _ (pool : ℕ) (published : List Generation) (s : Stand) (line : Line) (c : Course) (rest : List HistoryEntry) (r : IsRun pool s.writer s.seen)
    (a : KnowsNames s.known s.writer.desk) (p : IsPhase published s (alone line) c) (legal : IsLegal pool (s.seen ++ c.entries))
    (are : published ≡ generations_published ((s.seen ++ c.entries) ++ rest))
    (d : IsDeskLine s.known (world_after pool s.writer s.seen) line.0 line.1) where
  abbrev task : Resolved Task
  task = task_of s.known line.1

  abbrev x : DeskLine
  x = desk_by published s.known line.0 task (recorded s.writer c.given)

  part : desk_part published s (alone line) c ≡ x ∷ []
  part =
      (λ i. lines_of_desk published s.known (lines_mine line desk_number d.actor i) (got_by desk_number c.clerks))
      ∙ ap (λ (got : List DeskEntry). desk_by published s.known line.0 task got ∷ [])
      (ap (λ (who : ℕ). got_by who c.clerks) (sym d.actor) ∙ got_record published s line c p (let e = d.actor in omega arith))

  others : (v : ℕ) → v < most_passes → pass_part published s (alone line) c (pass_id v) ≡ []
  others v l = let e = d.actor in
      (λ i. lines_of_pass published s.known (stand_after published s (alone line) c).known.names (pass_id v)
      (pass_state (pass_id v) s.seen) (lines_others line v (λ same. omega (arith, same, e, l)) i)
      (replies_of (own_entries (v + 1) c.entries)) (got_by v c.clerks))

  asked : orders_of c.given ≡ asks_of task ++ orders.Look ∷ []
  asked =
      sym (recorded_orders s.writer c.given)
      ∙ ap (λ (es : List DeskEntry). map (λ e. e.order) es)
      (sym (got_record published s line c p (let e = d.actor in omega arith)) ∙ ap (λ (who : ℕ). got_by who c.clerks) d.actor)
      ∙ p.desk ∙ ap (λ (ls : List DeskLine). flat_map (λ y. y.asks) ls) part ∙ append-nil x.asks
      ∙ ap (λ (os : List DeskOrder). os ++ orders.Look ∷ []) (asks_are s.known line.0 task _ _ _)

  entries : c.entries ≡ flat_map entries_of_turn (turns_in s c)
  entries = sym (only_writers c.entries (course_machines pool s.seen c.entries legal)
      (λ v l. (each_pass (IsPassPart published s (alone line) c) p.each v l).entries
      ∙ ap (λ (ls : List PassLine). flat_map (λ y. y.turn.entries) ls) (others v l))) ∙ p.writer

  abbrev h : Writer
  h = last_writer s.writer (turns_in s c)

  follows : Follows pool h (s.seen ++ c.entries) x.known x.said (catches_up (desk_step s.known (world_after pool s.writer s.seen) line.0 task))
  follows = task_follows pool published s.writer s.seen s.known line.0 r a task c.given (s.seen ++ c.entries) rest d.known asked
      (ap (λ (ys : List HistoryEntry). s.seen ++ ys) entries) legal are

  pub desk_goes : Goes pool published s line c
  desk_goes = record {
    text =
        (λ i. text_by (known_after s.known (part i)) h (part i) (pass_part published s (alone line) c) (p.lock i))
        ∙ ap (λ (t : Text). (said_text x.known.names h.desk.listening.journal x.said ++ []) ++ (t ++ []))
        (of_nobody (λ pass. flat_map (λ y. said_text x.known.names h.desk.listening.journal y.said) (pass_part published s (alone line) c pass))
        (λ v l. ap (λ (ls : List PassLine). flat_map (λ y. said_text x.known.names h.desk.listening.journal y.said) ls) (others v l)))
        ∙ append-nil (said_text x.known.names h.desk.listening.journal x.said ++ [])
        ∙ append-nil (said_text x.known.names h.desk.listening.journal x.said)
        ∙ follows.text ∙ ap (λ (o : Outcome). o.0) (sym d.does);
    left = ap (λ (ls : List DeskLine). known_state (known_after s.known ls) (world_after pool h (s.seen ++ c.entries))) part
        ∙ follows.left ∙ ap (λ (o : Outcome). o.1) (sym d.does);
    runs = follows.runs;
    knows = subst (λ (ls : List DeskLine). KnowsNames (known_after s.known ls) h.desk) (sym part) follows.knows;
  }
