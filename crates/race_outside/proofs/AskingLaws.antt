-- A race that stopped in a phase, or lost the text of one, could have gone on.
use Rattle.std.proofs.Common.{◌≡◌, ℕ, ◌+◌, List, [], ◌∷◌, ◌++◌, Option, Some, None, Result, Ok, Err, inl, inr, refl, sym, subst, ◌∙◌}
use Rattle.mem_base.specs.declared.machine.events.HistoryEntry.{HistoryEntry}
use Rattle.mem_base.specs.declared.machine.records.DeskOrder.{DeskOrder}
use Rattle.mem_base.specs.map.Limits.{most_passes, notifier_count}
use Rattle.mem_base.specs.machine.Records.{FitsDeskOrder, Given}
use Rattle.mem_base.specs.machine.SharedHistory.{IsSharedLegal}
use Rattle.mem_base.specs.script.Spelling.{Text}
use Rattle.mem_base.specs.script.Scripts.{Line}
use Rattle.mem_base.specs.script.Run.{pool_words}
use Rattle.mem_base.specs.script.Tasks.{Known, task_of}
use Rattle.mem_base.specs.script.Tasks as tasks
use Rattle.mem_base.specs.script.Race.{Course, Stand, actor_number, alone, desk_number}
use Rattle.generation.specs.Published.{Published}
use Rattle.epoch_rule.specs.declared.views.Sizes.{Sizes}
use Rattle.epoch_rule.specs.Rule.{IsLegal}
use Rattle.epoch_rule.specs.Values.{PassValue}
use Rattle.run_laws.specs.Fitting.{FitsCommand}
use Rattle.race_laws.specs.Outside.{desk_course}
use Rattle.race_laws.specs.Stopped.{GoesOn}
use Rattle.race_laws.proofs.OneLine.{desk_line_stops}
use Rattle.race_laws.proofs.OutsideLaws.{orders_fit}
use Rattle.race_laws.proofs.StoppedEnds.{stopped_race_goes_on}
use Rattle.desk_orders.specs.declared.orders.Receipt.{Receipt}
use Rattle.desk_orders.specs.Records.{GrewBy, RecordState}
use Rattle.desk_orders.proofs.Giving.{given_by}
use Rattle.desk_lock.specs.Turned.{Takes}
use Rattle.desk_lock.proofs.RecordLaws.{grew_one}
use Rattle.race_lines.specs.declared.tasks.LineTask.{LineTask}
use Rattle.race_lines.specs.declared.tasks.LineTask.TheVariants.{Idle, Ordered, Shown, Found, Watched, Unwatched, Entered, Left, Read, Written, Copied}
use Rattle.race_lines.specs.declared.tasks.Refused.{Refused}
use Rattle.race_lines.specs.LineTasks.{Resolves, name_made}
use Rattle.race_levels.specs.Settling.{AreLevel, HaveMet}
use Rattle.race_levels.proofs.SettlingLaws.{desk_settles}
use Rattle.race_outside.specs.Asked.{StopsAsking, TakesOwn}
use Rattle.race_levels.specs.Outside.{StopsIn, stand_of}
use Rattle.race_levels.proofs.StoppingLaws.{nothing_stops}

-- the order of a line of the desk was given, and the line has not asked what is current
module _ (v w : RecordState) (k : Known) (line : Line) (olds news : List (PassValue Published)) (actor : actor_number line.1 ≡ desk_number)
    (lawful : IsLegal w.seat.sizes w.seat.seen) (level : AreLevel v.seat.seen olds) (met : HaveMet w.seat.seen olds news) where
  no_pass : PassValue Published
  no_pass = record { cabinet = v.seat.cabinet; number = 0; sizes = v.seat.sizes; seen = []; edition = None }

  ordered_stops : (order : DeskOrder) (name : Text) (r : Receipt) → task_of k line.1 ≡ Ok (tasks.ordered order name) → FitsDeskOrder order
      → Takes v desk_number order r w → StopsIn v k (alone line) w
  ordered_stops order name r is fits takes lines done left text sizes all cut race =
      let pool : ℕ = pool_words lines in
      let g : Given = given_by desk_number order takes.turned.asked.replies in
      let grew : GrewBy (g ∷ []) v w = grew_one v w desk_number order r takes fits in
      let s : Stand = stand_of k v in
      let c : Course = desk_course s (g ∷ []) in
      let legal : IsSharedLegal (pool + notifier_count) most_passes w.seat.seen =
      subst (λ (z : Sizes). IsLegal z w.seat.seen) (grew.sizes ∙ sizes) lawful in
      let seen : w.seat.seen ≡ s.seen ++ c.entries = (desk_settles pool v w (g ∷ []) olds news no_pass legal grew level met).0 in
      let begun = desk_line_stops pool done s text line g name race actor refl is fits
      (subst (λ (xs : List HistoryEntry). IsSharedLegal (pool + notifier_count) most_passes xs) seen legal) in
      subst (λ (xs : List HistoryEntry). GoesOn lines xs text) (sym seen)
      (stopped_race_goes_on lines done (alone line) left s text c all cut race begun)

  pub begun_stops : (task : Result LineTask Refused) (got : Option Receipt) → Resolves k task (task_of k line.1) → FitsCommand line.1
      → TakesOwn v task got w → StopsIn v k (alone line) w
  begun_stops (Ok (Ordered order naming)) (Some receipt) r fits takes =
      ordered_stops order (name_made naming) receipt (sym r.is) (orders_fit k line.1 order (name_made naming) fits (sym r.is)) takes
  begun_stops (Ok (Ordered order naming)) None r fits takes = absurd takes
  begun_stops (Ok Idle) got r fits takes = nothing_stops v w k (alone line) takes.1
  begun_stops (Ok (Shown space)) got r fits takes = nothing_stops v w k (alone line) takes.1
  begun_stops (Ok (Found space addr)) got r fits takes = nothing_stops v w k (alone line) takes.1
  begun_stops (Ok (Watched name region first last)) got r fits takes = nothing_stops v w k (alone line) takes.1
  begun_stops (Ok (Unwatched name watcher)) got r fits takes = nothing_stops v w k (alone line) takes.1
  begun_stops (Ok Entered) got r fits takes = nothing_stops v w k (alone line) takes.1
  begun_stops (Ok Left) got r fits takes = nothing_stops v w k (alone line) takes.1
  begun_stops (Ok (Read space addr len)) got r fits takes = nothing_stops v w k (alone line) takes.1
  begun_stops (Ok (Written space addr bytes)) got r fits takes = nothing_stops v w k (alone line) takes.1
  begun_stops (Ok (Copied space addr len to_space to_addr)) got r fits takes = nothing_stops v w k (alone line) takes.1
  begun_stops (Err why) got r fits takes = nothing_stops v w k (alone line) takes.1

  -- it gave no order, or just that one
  pub asking_stops : FitsCommand line.1 → StopsAsking v k line.1 w → StopsIn v k (alone line) w
  asking_stops fits (inl same) = nothing_stops v w k (alone line) same
  asking_stops fits (inr h) = begun_stops h.task h.got h.first.resolves fits h.first.took
