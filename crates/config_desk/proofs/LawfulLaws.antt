-- What holds at every moment of a legal history whose private events are those of turns that fit their types.
use Rattle.std.proofs.Common.{◌≡◌, ℕ, ◌+◌, List, [], ◌∷◌, ◌++◌, map, refl, sym, ap, subst, ◌∙◌, Some, None}
use Rattle.std.specs.Prelude.{flat_map, Result}
use Rattle.mem_base.specs.declared.map.refusals.Refusal.{Refusal}
use Rattle.mem_base.specs.declared.map.ids.SpaceId.{SpaceId}
use Rattle.mem_base.specs.declared.map.ids.ListenerId.{ListenerId}
use Rattle.mem_base.specs.declared.map.forests.Forest.{Forest}
use Rattle.mem_base.specs.declared.machine.events.Event.{Event}
use Rattle.mem_base.specs.declared.machine.events.Event.TheVariants as events
use Rattle.mem_base.specs.declared.machine.events.Reply.{Reply}
use Rattle.mem_base.specs.lists.Every.{Every}
use Rattle.mem_base.specs.map.Limits.{notifier_count}
use Rattle.mem_base.specs.map.Forest.{IsMade, IsOrderedForest}
use Rattle.mem_base.specs.views.View.{IsView}
use Rattle.mem_base.specs.views.Flattened.{view_of}
use Rattle.mem_base.specs.views.Replay.{replay}
use Rattle.mem_base.specs.views.Listening.{calls_to}
use Rattle.mem_base.specs.machine.Generations.{Generation}
use Rattle.mem_base.specs.machine.Orders.{Order, configure, reap, load, harvest, notified, journal, current}
use Rattle.mem_base.specs.machine.Reaps.{Writer, first_writer}
use Rattle.mem_base.specs.machine.Turns.{Answered, WriterCall, turn, turns}
use Rattle.mem_base.specs.machine.World.{opening}
use Rattle.mem_base.specs.machine.History.{PureEntry, pure_entry, after_entries, IsLegal}
use Rattle.mem_base.specs.machine.JoinedHistory.{IsJoined, TurnsJoin, private_entries_in}
use Rattle.mem_base.specs.machine.ListenerReplay.{heard_of, listener_of, told_forest}
use Rattle.mem_base.proofs.EveryLaws.{every_append, every_first}
use Rattle.map_laws.proofs.CallLaws.{IsOrderedForest-made}
use Rattle.map_laws.proofs.OffsetLaws.{IsView-made}
use Rattle.map_laws.proofs.PathLaws.{Finds-found_at}
use Rattle.history_laws.proofs.PublishedLaws.{generations_are_committed}
use Rattle.history_laws.proofs.PureAppends.{legal_parts}
use Rattle.history_laws.proofs.ReleasedLaws.{releases_unnamed}
use Rattle.history_laws.proofs.ReplayedLaws.{all_calls_replay, listeners_replay}
use Rattle.run_laws.specs.MadeForests.{FitsEvent}
use Rattle.run_laws.proofs.MadeLaws.{forests_are_made}
use Rattle.cell_laws.specs.TurnCells.{FitsOrder, HasFittingCall, TurnsKeepMarks, TurnsReuseReleased}
use Rattle.epoch_rule.specs.Rule.{IsLegal as IsSharedLegal}
use Rattle.config_desk.specs.Configs.{ConfigState, IsOfTurns}
use Rattle.config_desk.specs.SeenLaws.{IsSeenLegal, seen_by_turns}
use Rattle.config_desk.specs.LawfulDesks.{IsLawfulDesk, IsLawfulMoment, ShowsTheSearch, part_after}
use Rattle.config_desk.proofs.ConfigLaws.{joined, joins, marks, reuses}

abbrev HasFittingEvent : PureEntry → Type 0
HasFittingEvent y = FitsEvent y.event

-- the private events of turns whose calls fit their types fit them

turn_fits : (h : Writer) (k : Order) (ns : List ℕ) → FitsOrder k → Every HasFittingEvent (turn h k ns).private
turn_fits h (configure c) ns fits = (fits, tt)
turn_fits h reap ns fits = (tt, tt)
turn_fits h (load region offset bytes) ns fits = tt
turn_fits h (harvest region client) ns fits = tt
turn_fits h (notified number) ns fits = tt
turn_fits h journal ns fits = tt
turn_fits h current ns fits = tt

turns_fit : (os : List Answered) (h : Writer) → Every HasFittingCall os → Every HasFittingEvent (flat_map (λ t. t.private) (turns h os))
turns_fit [] h fits = tt
turns_fit (o ∷ os) h fits =
    let t : WriterCall = turn h o.0 o.1 in every_append HasFittingEvent t.private _ (turn_fits h o.0 o.1 fits.0) (turns_fit os t.writer fits.1)

-- and where the private events of a history do, all of its events do

one_fits : (e : Event) (r : Result Reply Refusal) (ys : List PureEntry)
    → (Every HasFittingEvent (private_entries_in ys) → Every HasFittingEvent ys) → Every HasFittingEvent (private_entries_in (pure_entry e r ∷ ys))
    → FitsEvent e × Every HasFittingEvent ys
one_fits (events.Config k) r ys others fits = (fits.0, others fits.1)
one_fits events.Reap r ys others fits = (tt, others fits.1)
one_fits _ r ys others fits = (tt, others fits)

all_fit : (ys : List PureEntry) → Every HasFittingEvent (private_entries_in ys) → Every HasFittingEvent ys
all_fit [] fits = tt
all_fit (y ∷ ys) fits = one_fits y.event y.reply ys (all_fit ys) fits

-- a forest that such calls made

shows_search : (f : Forest) → IsMade f → ShowsTheSearch f
shows_search f made = record {
  made = made;
  views = λ space. subst (λ (g : Forest). IsView g space (view_of g space)) made.made (IsView-made made.calls space made.fitting);
  spots = λ space root addr is. Finds-found_at f space root addr (subst IsOrderedForest made.made (IsOrderedForest-made made.calls)) is;
}

all_show : (xs : List Generation) → Every (λ x. IsMade x.forest) xs → Every (λ x. ShowsTheSearch x.forest) xs
all_show [] made = tt
all_show (x ∷ xs) made = (shows_search x.forest made.0, all_show xs made.1)

-- a moment of such a history

moment : (pool_words passes : ℕ) (ys : List PureEntry) → IsLegal pool_words passes ys → Every HasFittingEvent ys → IsLawfulMoment pool_words passes ys
moment pool_words passes ys legal fits = let h : Writer = part_after pool_words passes ys in record {
  legal = legal;
  committed = generations_are_committed pool_words passes ys legal;
  shows = all_show h.generations.kept (forests_are_made pool_words passes ys fits).kept;
  joined = λ id l is. listeners_replay pool_words passes ys legal id l is;
  left = λ id none. all_calls_replay pool_words passes ys legal id ∙ ap (λ o. Some (heard_of (told_forest h) o)) none;
  releases = releases_unnamed h;
}

moments : (c : ConfigState) (t : IsOfTurns c.seat c.part) → IsSeenLegal c
    → IsJoined t.pool_words t.passes (turns (first_writer t.pool_words t.passes) t.orders) c.seat.seen
    → (before after : List PureEntry) → seen_by_turns c t ≡ before ++ after → IsLawfulMoment t.pool_words t.passes before
moments c t legal joined before after is =
    let fits : Every HasFittingEvent (private_entries_in (seen_by_turns c t)) =
    subst (Every HasFittingEvent) (sym joined.private) (turns_fit t.orders (first_writer t.pool_words t.passes) t.fitting) in
    let every : Every HasFittingEvent (before ++ after) = subst (Every HasFittingEvent) is (all_fit (seen_by_turns c t) fits) in
    let whole : IsLegal t.pool_words t.passes (before ++ after) = subst (IsLegal t.pool_words t.passes) is (legal t).0 in
    moment t.pool_words t.passes before (legal_parts (opening t.pool_words t.passes) before after whole).0 (every_first HasFittingEvent before after every)

pub lawful : (c : ConfigState) → IsSharedLegal c.seat.sizes c.seat.seen → IsOfTurns c.seat c.part → TurnsJoin → TurnsReuseReleased → TurnsKeepMarks → IsLawfulDesk c
lawful c seen t join reuse keep = let legal : IsSeenLegal c = joins c seen join in record {
  turns = t;
  legal = legal;
  moments = moments c t legal (joined c seen join t);
  reuses = reuses c seen reuse;
  marks = marks c seen keep;
}
