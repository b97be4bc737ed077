-- A phase that is one line of a pass is what the run does by it.
use Rattle.std.proofs.Common.{◌≡◌, ◌≢◌, ◌<◌, ◌+◌, ℕ, List, [], ◌∷◌, ◌++◌, length, map, append-nil, drop, refl, sym, ap, subst, ◌∙◌, arith, Ok}
use Rattle.std.specs.Prelude.{flat_map}
use mathlib.Core.Logic.{dite}
use native.Mathlib.Decide.{ℕ_discrete}
use Rattle.mem_base.specs.map.PassIds.{PassId}
use Rattle.mem_base.specs.declared.machine.events.HistoryEntry.{HistoryEntry}
use Rattle.mem_base.specs.declared.machine.records.DeskOrder.{DeskOrder}
use Rattle.mem_base.specs.declared.machine.records.DeskEntry.{DeskEntry}
use Rattle.mem_base.specs.lists.Every.{Every}
use Rattle.mem_base.specs.map.Limits.{most_passes}
use Rattle.mem_base.specs.views.Listening.{Delivery}
use Rattle.mem_base.specs.machine.Passes.{pass_id}
use Rattle.mem_base.specs.machine.Generations.{Generation}
use Rattle.mem_base.specs.machine.Reaps.{Writer}
use Rattle.mem_base.specs.machine.World.{World}
use Rattle.mem_base.specs.machine.Answers.{Answer}
use Rattle.mem_base.specs.machine.Composites.{completed}
use Rattle.mem_base.specs.machine.Actors.{generations_published, own_entries}
use Rattle.mem_base.specs.machine.PassTurns.{PassTurn, pass_begins}
use Rattle.mem_base.specs.machine.Turns.{WriterCall, entries_of_turn, last_writer, replies_of, turn, turns, writers_of}
use Rattle.mem_base.specs.machine.Records.{Given, answered, call_of, got_by, recorded, told}
use Rattle.mem_base.specs.script.Spelling.{Text}
use Rattle.mem_base.specs.script.Scripts.{Line}
use Rattle.mem_base.specs.script.Named.{Names}
use Rattle.mem_base.specs.script.Output.{told_lines}
use Rattle.mem_base.specs.script.States.{Outcome, outcome}
use Rattle.mem_base.specs.script.Tasks.{Known, Resolved, Task, ordered, task_of}
use Rattle.mem_base.specs.script.RaceLines.{PassLine, do_text, entry_at, known_after, line_of_pass, lines_of_desk, lines_of_pass, said_text}
use Rattle.mem_base.specs.script.Race.{Course, IsPassPart, IsPhase, Stand, alone, desk_number, desk_part, pass_part, pass_state, passes, stand_after, turns_in}
use Rattle.run_laws.specs.TaskSteps.{known_state, pass_step}
use Rattle.run_laws.specs.KnownNames.{IsPassTask, KnowsNames}
use Rattle.run_laws.specs.LineLaws.{IsPassLine}
use Rattle.run_laws.proofs.KnowingLaws.{orders_are_known}
use Rattle.race_laws.proofs.Actors.{IsMachines, each_pass, lines_mine, lines_others, of_one, only_pass, only_writers}
use Rattle.race_laws.proofs.Recording.{recorded_orders}
use Rattle.race_laws.proofs.Running.{IsLegal, IsRun, IsTurned, turned, world_after}
use Rattle.race_laws.proofs.DeskTasks.{Follows, asks_of}
use Rattle.race_laws.proofs.DeskPhases.{Goes, course_machines, got_record, none_given, one_given, orders_of, text_by}
use Rattle.race_laws.proofs.PassTasks.{pass_follows}
use Rattle.run_laws.proofs.DeskLaws.{sliced}

pub pass_asks : (published : List Generation) (names : Names) (pass : PassId) (n : ℕ) (task : Resolved Task) (t : PassTurn) (e : DeskEntry)
    → (line_of_pass published names pass n task t e).asks ≡ asks_of task
pass_asks published names pass n (Ok (ordered order name)) t e = refl
pass_asks published names pass n task t e = refl

module _ (pool : ℕ) (published : List Generation) (h : Writer) (seen : List HistoryEntry) (k : Known) (n : ℕ) (r : IsRun pool h seen) (a : KnowsNames k h.desk)
    (pass : PassId) (near : pass.0 < most_passes) where
  abbrev w : World
  w = world_after pool h seen

  abbrev line_by : Resolved Task → List Given → List ℕ → PassLine
  line_by task gs rs = line_of_pass published k.names pass n task (pass_begins (pass_state pass seen) rs) (entry_at (recorded h gs) 0)

  abbrev FollowsBy : Resolved Task → List HistoryEntry → List Given → List ℕ → Type 0
  FollowsBy task zs gs rs = Follows pool (last_writer h (turns h (map answered gs))) zs k (line_by task gs rs).said (pass_step k w pass n task)

  -- an order

  module _ (order : DeskOrder) (name : Text) (who : ℕ) (replies : List ℕ) where
    abbrev g : Given
    g = record { who = who; order = order; replies = replies }

    abbrev t : WriterCall
    t = turn h (call_of order) replies

    abbrev by : Answer → World → Outcome
    by x v = outcome (known_state k w) k.names v (do_text k.names n pass (told x))

    abbrev later : List Delivery
    later = drop (length h.desk.listening.journal) t.writer.desk.listening.journal

    order_follows : (zs : List HistoryEntry) (rs : List ℕ) → IsPassTask (Ok (ordered order name)) → IsLegal pool zs → zs ≡ seen ++ entries_of_turn t
        → FollowsBy (Ok (ordered order name)) zs (g ∷ []) rs
    order_follows zs rs known legal is =
        let done : IsTurned pool h seen (call_of order) t = turned pool h seen (call_of order) replies r (subst (IsLegal pool) is legal) in
        let own : Text = do_text k.names n pass (told t.answer) in
        let v : World = world_after pool t.writer zs in
        let world : v ≡ (completed w (call_of order)).world = ap (λ (ys : List HistoryEntry). world_after pool t.writer ys) is ∙ done.world in
        let to_run : by t.answer v ≡ pass_step k w pass n (Ok (ordered order name)) = (λ i. by (done.answer i) (world i)) in
        record {
          text = ap (λ (ds : List Delivery). own ++ (told_lines k.names ds ++ [])) (sliced t.writer.desk.listening.journal (length h.desk.listening.journal))
              ∙ ap (λ (x : Text). own ++ x) (append-nil (told_lines k.names later))
              ∙ ap (λ (o : Outcome). o.0) to_run;
          left = ap (λ (o : Outcome). o.1) to_run;
          runs = subst (λ (ys : List HistoryEntry). IsRun pool t.writer ys) (sym is) done.goes;
          knows = subst (KnowsNames k) (ap (λ (u : World). u.writer.desk) (sym done.world)) ((orders_are_known k w order a).pass known);
        }

  module _ (zs rest : List HistoryEntry) (rs : List ℕ) (machines : Every IsMachines zs)
      (others : (v : ℕ) → v < most_passes → v ≢ pass.0 → own_entries (v + 1) zs ≡ []) (legal : IsLegal pool (seen ++ zs))
      (are : published ≡ generations_published ((seen ++ zs) ++ rest)) where
    quietly : (task : Resolved Task) (gs : List Given) → asks_of task ≡ [] → orders_of gs ≡ []
        → writers_of zs ≡ flat_map entries_of_turn (turns h (map answered gs))
        → own_entries (pass.0 + 1) zs ≡ (line_by task gs rs).turn.entries → FollowsBy task (seen ++ zs) gs rs
    quietly task gs none asks writers own =
        let no : gs ≡ [] = none_given gs asks in
        let e : DeskEntry = entry_at (recorded h gs) 0 in
        let empty : writers_of zs ≡ [] = writers ∙ ap (λ (fs : List Given). flat_map entries_of_turn (turns h (map answered fs))) no in
        let same : zs ≡ (line_by task gs rs).turn.entries = sym (only_pass pass.0 zs machines empty others).0 ∙ own in
        subst (λ (u : Writer). Follows pool u (seen ++ zs) k (line_by task gs rs).said (pass_step k w pass n task))
        (sym (ap (λ (fs : List Given). last_writer h (turns h (map answered fs))) no))
        (subst (λ (ys : List HistoryEntry). Follows pool h (seen ++ ys) k (line_by task gs rs).said (pass_step k w pass n task)) (sym same)
        (pass_follows pool published h pass near seen rs r k a n e rest task none (subst (λ (ys : List HistoryEntry). IsLegal pool (seen ++ ys)) same legal)
        (are ∙ ap (λ (ys : List HistoryEntry). generations_published ((seen ++ ys) ++ rest)) same)))

    task_follows : (task : Resolved Task) (gs : List Given) → IsPassTask task → orders_of gs ≡ asks_of task
        → writers_of zs ≡ flat_map entries_of_turn (turns h (map answered gs)) → own_entries (pass.0 + 1) zs ≡ (line_by task gs rs).turn.entries
        → FollowsBy task (seen ++ zs) gs rs
    task_follows (Ok (ordered order name)) gs known asks writers own =
        let o = one_given gs order asks in
        let t : WriterCall = turn h (call_of order) o.replies in
        let all : writers_of zs ≡ zs = only_writers zs machines (λ v l. dite (ℕ_discrete v pass.0)
        (λ same. ap (λ (u : ℕ). own_entries (u + 1) zs) same ∙ own) (λ other. others v l other)) in
        let same : zs ≡ entries_of_turn t = sym all ∙ writers
        ∙ ap (λ (fs : List Given). flat_map entries_of_turn (turns h (map answered fs))) o.is ∙ append-nil (entries_of_turn t) in
        subst (λ (fs : List Given). FollowsBy (Ok (ordered order name)) (seen ++ zs) fs rs) (sym o.is)
        (order_follows order name o.who o.replies (seen ++ zs) rs known legal (ap (λ (ys : List HistoryEntry). seen ++ ys) same))
    task_follows task gs known asks writers own = quietly task gs refl asks writers own

module _ (pool : ℕ) (published : List Generation) (s : Stand) (line : Line) (c : Course) (rest : List HistoryEntry) (r : IsRun pool s.writer s.seen)
    (a : KnowsNames s.known s.writer.desk) (p : IsPhase published s (alone line) c) (legal : IsLegal pool (s.seen ++ c.entries))
    (are : published ≡ generations_published ((s.seen ++ c.entries) ++ rest)) (pass : PassId)
    (d : IsPassLine s.known (world_after pool s.writer s.seen) line.0 line.1 pass) where
  abbrev task : Resolved Task
  task = task_of s.known line.1

  abbrev rs : List ℕ
  rs = replies_of (own_entries (pass.0 + 1) c.entries)

  abbrev y : PassLine
  y = line_of_pass published s.known.names pass line.0 task (pass_begins (pass_state pass s.seen) rs) (entry_at (recorded s.writer c.given) 0)

  abbrev h : Writer
  h = last_writer s.writer (turns_in s c)

  no_desk : desk_part published s (alone line) c ≡ []
  no_desk = let e = d.actor in let near = d.near in
      (λ i. lines_of_desk published s.known (lines_others line desk_number (λ same. omega (arith, same, e, near)) i) (got_by desk_number c.clerks))

  same_known : known_after s.known (desk_part published s (alone line) c) ≡ s.known
  same_known = ap (known_after s.known) no_desk

  got : got_by pass.0 c.clerks ≡ recorded s.writer c.given
  got = let e = d.actor in let near = d.near in ap (λ (who : ℕ). got_by who c.clerks) (sym e) ∙ got_record published s line c p (omega arith)

  mine : pass_part published s (alone line) c pass ≡ y ∷ []
  mine = (λ i. lines_of_pass published s.known (same_known i).names pass (pass_state pass s.seen) (lines_mine line pass.0 d.actor i) rs (got i))

  others : (v : ℕ) → v ≢ pass.0 → pass_part published s (alone line) c (pass_id v) ≡ []
  others v other = let e = d.actor in
      (λ i. lines_of_pass published s.known (stand_after published s (alone line) c).known.names (pass_id v) (pass_state (pass_id v) s.seen)
      (lines_others line v (λ same. other (sym same ∙ e)) i) (replies_of (own_entries (v + 1) c.entries)) (got_by v c.clerks))

  part : IsPassPart published s (alone line) c pass
  part = each_pass (IsPassPart published s (alone line) c) p.each pass.0 d.near

  asked : orders_of c.given ≡ asks_of task
  asked = sym (recorded_orders s.writer c.given) ∙ ap (λ (es : List DeskEntry). map (λ e. e.order) es) (sym got)
      ∙ part.asks ∙ ap (λ (ls : List PassLine). flat_map (λ x. x.asks) ls) mine ∙ append-nil y.asks
      ∙ pass_asks published s.known.names pass line.0 task _ _

  own : own_entries (pass.0 + 1) c.entries ≡ y.turn.entries
  own = part.entries ∙ ap (λ (ls : List PassLine). flat_map (λ x. x.turn.entries) ls) mine ∙ append-nil y.turn.entries

  no_others : (v : ℕ) → v < most_passes → v ≢ pass.0 → own_entries (v + 1) c.entries ≡ []
  no_others v l other = (each_pass (IsPassPart published s (alone line) c) p.each v l).entries
      ∙ ap (λ (ls : List PassLine). flat_map (λ x. x.turn.entries) ls) (others v other)

  follows : Follows pool h (s.seen ++ c.entries) s.known y.said (pass_step s.known (world_after pool s.writer s.seen) pass line.0 task)
  follows = task_follows pool published s.writer s.seen s.known line.0 r a pass d.near c.entries rest rs
      (course_machines pool s.seen c.entries legal) no_others legal are
      task c.given d.known asked p.writer own

  abbrev written : List PassLine → Text
  written ls = flat_map (λ x. said_text s.known.names h.desk.listening.journal x.said) ls

  pub pass_goes : Goes pool published s line c
  pass_goes = record {
    text =
        (λ i. text_by (same_known i) h (no_desk i) (pass_part published s (alone line) c) (p.lock i))
        ∙ append-nil (flat_map (λ v. written (pass_part published s (alone line) c v)) passes)
        ∙ of_one (λ v. written (pass_part published s (alone line) c v)) pass.0 d.near (λ v other. ap written (others v other))
        ∙ append-nil (written (pass_part published s (alone line) c pass))
        ∙ ap written mine ∙ append-nil (said_text s.known.names h.desk.listening.journal y.said)
        ∙ follows.text ∙ ap (λ (o : Outcome). o.0) (sym d.does);
    left = ap (λ (k : Known). known_state k (world_after pool h (s.seen ++ c.entries))) same_known
        ∙ follows.left ∙ ap (λ (o : Outcome). o.1) (sym d.does);
    runs = follows.runs;
    knows = subst (λ (k : Known). KnowsNames k h.desk) (sym same_known) follows.knows;
  }
