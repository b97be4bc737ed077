-- What a call of the writer leaves of the map: which regions are there, and who listens.
use Rattle.std.proofs.Common.{◌≡◌, ◌≢◌, ℕ, ◌+◌, ◌-◌, ◌/◌, ◌<◌, eq-eqb, ne_eqb, Bool, true, false, ◌&&◌, ◌||◌, cond, List, [], ◌∷◌, ◌++◌, length, map, Option, take, drop}
use Rattle.std.proofs.Common.{Some, None, Result, Ok, Err, refl, sym, ap, subst, ◌∙◌, arith, if◌then◌else◌}
use Rattle.std.specs.Prelude.{is_some, not, ◌==◌, filter, option_map}
use Rattle.std.specs.List.{list_any, range_with_len}
use Rattle.std.proofs.lemmas.Bool.{eqb-true, or_right}
use Rattle.mem_base.specs.declared.map.ids.RegionId.{RegionId}
use Rattle.mem_base.specs.declared.map.ids.ListenerId.{ListenerId}
use Rattle.mem_base.specs.declared.map.forests.Forest.{Forest}
use Rattle.mem_base.specs.declared.map.forests.Node.{Node}
use Rattle.mem_base.specs.declared.map.calls.Applied.{Applied}
use Rattle.mem_base.specs.declared.map.calls.Applied.TheVariants.{Done, Made}
use Rattle.mem_base.specs.declared.map.calls.Call.{Call}
use Rattle.mem_base.specs.declared.map.calls.Call.TheVariants as calls
use Rattle.mem_base.specs.declared.map.calls.Config.{Config}
use Rattle.mem_base.specs.declared.map.calls.Config.TheVariants as configs
use Rattle.mem_base.specs.declared.map.refusals.Refusal.{Refusal}
use Rattle.mem_base.specs.declared.map.refusals.Refusal.TheVariants.{NoTransaction, TooNested}
use Rattle.mem_base.specs.declared.views.listening.Listener.{Listener}
use Rattle.mem_base.specs.declared.machine.events.Event.{Event}
use Rattle.mem_base.specs.declared.machine.events.Event.TheVariants as events
use Rattle.mem_base.specs.declared.machine.events.Hand.TheVariants as hands
use Rattle.mem_base.specs.lists.Every.{Every}
use Rattle.mem_base.specs.lists.Runs.{touched}
use Rattle.mem_base.specs.map.Limits.{word_size, most_nested}
use Rattle.mem_base.specs.map.Region.{has_id, node_of}
use Rattle.mem_base.specs.map.Refusals.{first_refusal, unknown_space}
use Rattle.mem_base.specs.map.Changes.{changed, changed_at, moved}
use Rattle.mem_base.specs.map.Edits.{edited}
use Rattle.mem_base.specs.map.Calls.{after as forest_after, answer_of, counted, is_quiet}
use Rattle.mem_base.specs.access.Places.{Extent, extent_of, words_of, first_fit}
use Rattle.mem_base.specs.access.Cells.{cell}
use Rattle.mem_base.specs.access.MemoryAccess.{replaces}
use Rattle.mem_base.specs.views.Flattened.{view_of}
use Rattle.mem_base.specs.views.LiveEvents.{lives_of}
use Rattle.mem_base.specs.views.Listening.{joined, join_refusal, left, leave_refusal, is_listener, Delivery}
use Rattle.mem_base.specs.machine.Generations.{Generations}
use Rattle.mem_base.specs.machine.Desk.{Desk, places_of}
use Rattle.mem_base.specs.machine.Reaps.{Writer}
use Rattle.mem_base.specs.machine.Publishing.{Settled, settled, refused_desk, unless_refused, held_up, readied, publishing, current_forest, would_publish}
use Rattle.mem_base.specs.machine.Configs.{configured, made, backed, kept_back, after_call, begun, committed, listened, unlistened, without_listener}
use Rattle.mem_base.specs.machine.World.{World, world_after}
use Rattle.mem_base.specs.machine.History.{run_events}
use Rattle.mem_base.specs.machine.Orders.{Order, configure, reap, load, harvest, notified, sweeps, publishes, unless, loads, harvests, pass_ids, load_refusal}
use Rattle.mem_base.specs.machine.Orders.{harvest_refusal, mark_words_at, events_before, events_after}
use Rattle.mem_base.specs.machine.Orders as orders
use Rattle.mem_base.specs.declared.machine.records.DeskOrder.TheVariants as desk_orders
use Rattle.mem_base.specs.declared.machine.records.DeskAnswer.TheVariants as answers
use Rattle.mem_base.specs.declared.map.kinds.Kind.{Kind}
use Rattle.mem_base.specs.declared.map.kinds.Client.{Client}
use Rattle.mem_base.specs.access.PlacesByRegion.{place_in}
use Rattle.mem_base.specs.machine.Composites.{completed}
use Rattle.mem_base.specs.machine.Answers.{answer_of_config, number_due}
use Rattle.mem_base.specs.script.WriterSteps.{refusal_in}
use Rattle.mem_base.proofs.EveryLaws.{every_push}
use Rattle.mem_base.proofs.JoinLaws.{node_of-changed_at}
use Rattle.map_laws.proofs.DropLaws.{node_of-without, node_of-dropped}
use Rattle.map_laws.proofs.CallLaws.{after-accepted}
use Rattle.mem_base.specs.script.Watching.{Watcher}
use Rattle.mem_base.specs.script.Tasks.{Known, with_order, after_order}
use Rattle.run_laws.specs.KnownNames.{KnowsNames}
use Rattle.std.proofs.lemmas.List.{take_all, length-drop}
use Rattle.mem_base.specs.declared.machine.records.DeskOrder.{DeskOrder}
use Rattle.mem_base.specs.script.Spelling.{Text}
use Rattle.mem_base.specs.declared.machine.records.DeskAnswer.{DeskAnswer}
use Rattle.map_laws.proofs.MoveLaws.{moved_id}
use Rattle.mem_base.proofs.BoolLaws.{or_false, true_is_not_false}

-- the forest and the listeners of one desk are another's
pub record SameMap (d e : Desk) : Type 0 where
  pub forest : e.forest ≡ d.forest
  pub listeners : e.listening.listeners ≡ d.listening.listeners

pub same_map : (d : Desk) → SameMap d d
same_map d = record { forest = refl; listeners = refl }

pub then_same : (c d e : Desk) → SameMap c d → SameMap d e → SameMap c e
then_same c d e k l = record { forest = l.forest ∙ k.forest; listeners = l.listeners ∙ k.listeners }

-- Events that change neither

abbrev pub IsPlain : Event → Type 0
IsPlain e = (w : World) → SameMap w.writer.desk (world_after w e).writer.desk

plain_run : (es : List Event) → Every IsPlain es → (w : World) → SameMap w.writer.desk (run_events w es).world.writer.desk
plain_run [] h w = same_map w.writer.desk
plain_run (e ∷ es) h w = then_same w.writer.desk (world_after w e).writer.desk (run_events (world_after w e) es).world.writer.desk
    (h.0 w)
    (plain_run es h.1 (world_after w e))

plain_each : {A : Type 0} (f : A → Event) → ((x : A) → IsPlain (f x)) → (xs : List A) → Every IsPlain (map f xs)
plain_each f h [] = tt
plain_each f h (x ∷ xs) = (h x, plain_each f h xs)

plain_if : (b : Bool) (es fs : List Event) → Every IsPlain es → Every IsPlain fs → Every IsPlain (if b then es else fs)
plain_if true es fs h k = h
plain_if false es fs h k = k

plain_unless : (o : Option Refusal) (es : List Event) → Every IsPlain es → Every IsPlain (unless o es)
plain_unless None es h = h
plain_unless (Some why) es h = tt

plain_sweeps : (g : Generations) → Every IsPlain (sweeps g)
plain_sweeps g = plain_each (λ pass. events.Sweep pass) (λ pass w. record { forest = refl; listeners = refl }) (pass_ids g)

plain_publishes : (g : Generations) → Every IsPlain (publishes g)
plain_publishes g = every_push IsPlain (map (λ pass. events.Place pass) (pass_ids g)) events.Publish
    (plain_each (λ pass. events.Place pass) (λ pass w. record { forest = refl; listeners = refl }) (pass_ids g))
    (λ w. record { forest = refl; listeners = refl })

pub plain_before : (w : Writer) (k : Order) → Every IsPlain (events_before w k)
plain_before w (configure k) = plain_if (would_publish w.desk k) (sweeps w.generations) [] (plain_sweeps w.generations) tt
plain_before w reap = plain_sweeps w.generations
plain_before w (load region offset bytes) = tt
plain_before w (harvest region client) = tt
plain_before w (notified number) = tt
plain_before w orders.journal = tt
plain_before w orders.current = tt

pub plain_after : (w : Writer) (k : Order) → Every IsPlain (events_after w k)
plain_after w (configure k) =
    plain_if w.desk.due (publishes w.generations) (map (λ c. events.Fill c) w.desk.unfilled) (plain_publishes w.generations)
    (plain_each (λ c. events.Fill c) (λ c w. record { forest = refl; listeners = refl }) w.desk.unfilled)
plain_after w reap = tt
plain_after w (load region offset bytes) =
    plain_unless (load_refusal w.desk.forest region offset (length bytes)) (loads region offset bytes)
    (plain_each (λ x. events.Word hands.Writer (cell region (x.start / word_size)) (replaces offset bytes x))
    (λ x w. record { forest = refl; listeners = refl })
    (touched word_size offset (length bytes)))
plain_after w (harvest region client) =
    plain_unless (harvest_refusal w.desk.forest region) (harvests w.desk region client)
    (plain_each (λ index. events.Harvest region client index) (λ x w. record { forest = refl; listeners = refl })
    (range_with_len 0 (mark_words_at (place_in (places_of w.desk) region))))
plain_after w (notified number) = ((λ w. record { forest = refl; listeners = refl }), tt)
plain_after w orders.journal = tt
plain_after w orders.current = tt

-- Private events

abbrev pub err_in : Result Applied Refusal → Option Refusal
err_in (Ok applied) = None
err_in (Err why) = Some why

-- a call with a private event leaves what that event leaves, and is refused where it is
pub record Configures (w : World) (c : Config) (v : World) (refused : Option Refusal) : Type 0 where
  pub generations : Generations
  pub desk : Desk
  pub before : SameMap w.writer.desk desk
  pub refusal : refused ≡ err_in (configured generations desk c).answer
  pub after : SameMap (configured generations desk c).desk v.writer.desk

pub refused_config : (c : Config) (r : Result Applied Refusal) (number : Option ℕ)
    → refusal_in (answer_of_config c r number) ≡ err_in r
refused_config configs.Begin (Ok x) number = refl
refused_config configs.Begin (Err why) number = refl
refused_config (configs.Call call) (Ok x) number = refl
refused_config (configs.Call call) (Err why) number = refl
refused_config configs.Commit (Ok x) number = refl
refused_config configs.Commit (Err why) number = refl
refused_config (configs.Listen listener space priority) (Ok x) number = refl
refused_config (configs.Listen listener space priority) (Err why) number = refl
refused_config (configs.Unlisten listener) (Ok x) number = refl
refused_config (configs.Unlisten listener) (Err why) number = refl

pub configures : (w : World) (c : Config)
    → Configures w c (completed w (configure c)).world (refusal_in (completed w (configure c)).answer)
configures w c =
    let before = run_events w (events_before w.writer (configure c)) in
    let private = world_after before.world (events.Config c) in record {
      generations = before.world.writer.generations;
      desk = before.world.writer.desk;
      before = plain_run (events_before w.writer (configure c)) (plain_before w.writer (configure c)) w;
      refusal = refused_config c (configured before.world.writer.generations before.world.writer.desk c).answer
          (number_due private.writer);
      after = let later = plain_run (events_after private.writer (configure c)) (plain_after private.writer (configure c))
          private in
          record { forest = later.forest; listeners = later.listeners };
    }

-- a call without one keeps all, and so does a reap
pub reap_keeps : (w : World) → SameMap w.writer.desk (completed w reap).world.writer.desk
reap_keeps w =
    let before = run_events w (events_before w.writer reap) in
    let k = plain_run (events_before w.writer reap) (plain_before w.writer reap) w in
    record { forest = k.forest; listeners = k.listeners }

pub load_keeps : (w : World) (region : RegionId) (offset : ℕ) (bytes : List ℕ)
    → SameMap w.writer.desk (completed w (load region offset bytes)).world.writer.desk
load_keeps w region offset bytes = plain_run (events_after w.writer (load region offset bytes))
    (plain_after w.writer (load region offset bytes)) w

pub harvest_keeps : (w : World) (region : RegionId) (client : Client)
    → SameMap w.writer.desk (completed w (harvest region client)).world.writer.desk
harvest_keeps w region client = plain_run (events_after w.writer (harvest region client))
    (plain_after w.writer (harvest region client)) w

pub notified_keeps : (w : World) (number : ℕ) → SameMap w.writer.desk (completed w (notified number)).world.writer.desk
notified_keeps w number = plain_run (events_after w.writer (notified number)) (plain_after w.writer (notified number)) w

-- Calls of the map

-- an accepted call changes the forest as it is defined, a refused one keeps it
abbrev pub LeavesCall : Desk → Call → Desk → Option Refusal → Type 0
LeavesCall d call e None = (e.forest ≡ counted (changed d.forest call)) × (e.listening.listeners ≡ d.listening.listeners)
LeavesCall d call e (Some why) = SameMap d e

abbrev pub CallLeft : Desk → Call → Settled → Type 0
CallLeft d call s = LeavesCall d call s.desk (err_in s.answer)

module _ (g : Generations) (d : Desk) (call : Call) (f : Forest) (is : f ≡ counted (changed d.forest call)) where
  published_left : (o : Option Refusal) (a : Applied) → CallLeft d call (unless_refused o d (settled (readied g d f) a))
  published_left None a = (is, refl)
  published_left (Some why) a = same_map d

  backed_left : (x : Extent) (o : Option ℕ) (r : RegionId) → CallLeft d call (backed d f r x o)
  backed_left x None r = same_map d
  backed_left x (Some start) r = (is, refl)

  made_left : (x : Extent) (r : RegionId) → CallLeft d call (made d f r x)
  made_left x r = go (words_of x == 0)
    where
      go : (b : Bool) → CallLeft d call (if b then settled (record d { forest = f }) (Made r) else backed d f r x
          (first_fit d.pool_words d.places (words_of x)))
      go true = (is, refl)
      go false = backed_left x (first_fit d.pool_words d.places (words_of x)) r

kept_left : (d : Desk) (call : Call) (f : Forest) → f ≡ counted (changed d.forest call) → CallLeft d call (kept_back d call f)
kept_left d (calls.Region kind size) f is = made_left (record { current = 0; kept = []; passes = [] }) d (calls.Region kind size)
    f is (extent_of kind size) (record { 0 = d.forest.made })
kept_left d _ f is = (is, refl)

pub called_left : (g : Generations) (d : Desk) (call : Call) → CallLeft d call (after_call g d call (forest_after d.forest call))
called_left g d call = go (forest_after d.forest call) refl
  where
    at : (f : Forest) → f ≡ counted (changed d.forest call) → (b : Bool)
        → CallLeft d call (if b then publishing g d f (answer_of d.forest call) else kept_back d call f)
    at f is true = published_left g d call f is (held_up g) (answer_of d.forest call)
    at f is false = kept_left d call f is

    go : (x : Result Forest Refusal) → forest_after d.forest call ≡ x → CallLeft d call (after_call g d call x)
    go (Err why) e = same_map d
    go (Ok f) e = let ok = after-accepted d.forest f call e in at f ok.1 ((d.depth == 0) && not (is_quiet call))

pub leaves_same : (d d2 e e2 : Desk) (call : Call) (o : Option Refusal) → SameMap d d2 → SameMap e e2 → LeavesCall d2 call e o
    → LeavesCall d call e2 o
leaves_same d d2 e e2 call None k l m =
    (l.forest ∙ m.0 ∙ ap (λ (f : Forest). counted (changed f call)) k.forest, l.listeners ∙ m.1 ∙ k.listeners)
leaves_same d d2 e e2 call (Some why) k l m = then_same d d2 e2 k (then_same d2 e e2 m l)

pub call_leaves : (w : World) (call : Call) → let c = completed w (configure (configs.Call call)) in
    LeavesCall w.writer.desk call c.world.writer.desk (refusal_in c.answer)
call_leaves w call =
    let k = configures w (configs.Call call) in
    let v = (completed w (configure (configs.Call call))).world in
    let s = configured k.generations k.desk (configs.Call call) in
    subst (LeavesCall w.writer.desk call v.writer.desk) (sym k.refusal)
    (leaves_same w.writer.desk k.desk s.desk v.writer.desk call (err_in s.answer) k.before k.after
    (called_left k.generations k.desk call))

-- Begin and commit

pub commit_same : (g : Generations) (d : Desk) → SameMap d (committed g d).desk
commit_same g d = go (d.depth == 0)
  where
    held : (o : Option Refusal) → SameMap d (unless_refused o d (settled (readied g d d.forest) Done)).desk
    held None = record { forest = refl; listeners = refl }
    held (Some why) = same_map d

    inner : (b : Bool) → SameMap d (if b then publishing g d d.forest Done else settled (record d { depth = d.depth - 1 })
        Done).desk
    inner true = held (held_up g)
    inner false = record { forest = refl; listeners = refl }

    go : (b : Bool) → SameMap d (if b then refused_desk d NoTransaction
        else if (d.depth == 1) && d.pending then publishing g d d.forest Done else settled (record d { depth = d.depth - 1 })
        Done).desk
    go true = same_map d
    go false = inner ((d.depth == 1) && d.pending)

pub begin_same : (d : Desk) → SameMap d (begun d).desk
begin_same d = go (d.depth == most_nested)
  where
    go : (b : Bool) → SameMap d (if b then refused_desk d TooNested else settled (record d { depth = d.depth + 1 }) Done).desk
    go true = same_map d
    go false = record { forest = refl; listeners = refl }

pub begin_keeps : (w : World) → SameMap w.writer.desk (completed w (configure configs.Begin)).world.writer.desk
begin_keeps w =
    let k = configures w configs.Begin in
    then_same w.writer.desk k.desk _ k.before (then_same k.desk (begun k.desk).desk _ (begin_same k.desk) k.after)

pub commit_keeps : (w : World) → SameMap w.writer.desk (completed w (configure configs.Commit)).world.writer.desk
commit_keeps w =
    let k = configures w configs.Commit in
    then_same w.writer.desk k.desk _ k.before (then_same k.desk (committed k.generations k.desk).desk _
    (commit_same k.generations k.desk) k.after)

-- Listeners

-- one more listener, where it is not refused
abbrev pub LeavesListen : Desk → Listener → Desk → Option Refusal → Type 0
LeavesListen d l e None = (e.forest ≡ d.forest) × (e.listening.listeners ≡ d.listening.listeners ++ l ∷ [])
LeavesListen d l e (Some why) = SameMap d e

pub listen_left : (g : Generations) (d : Desk) (l : Listener)
    → LeavesListen d l (listened g d l).desk (err_in (listened g d l).answer)
listen_left g d l = go (first_refusal (unknown_space d.forest l.space ∷ join_refusal d.listening l.listener ∷ []))
  where
    go : (o : Option Refusal)
        → let s = unless_refused o d (settled
        (record d {
          listening = joined d.listening l (view_of (current_forest g) l.space)
              (lives_of (current_forest g) l.space);
        }) Done) in
        LeavesListen d l s.desk (err_in s.answer)
    go None = (refl, refl)
    go (Some why) = same_map d

pub listen_same : (d d2 e e2 : Desk) (l : Listener) (o : Option Refusal) → SameMap d d2 → SameMap e e2 → LeavesListen d2 l e o
    → LeavesListen d l e2 o
listen_same d d2 e e2 l None k j m =
    (j.forest ∙ m.0 ∙ k.forest, j.listeners ∙ m.1 ∙ ap (λ (ls : List Listener). ls ++ l ∷ []) k.listeners)
listen_same d d2 e e2 l (Some why) k j m = then_same d d2 e2 k (then_same d2 e e2 m j)

pub listen_leaves : (w : World) (l : Listener) → let c = completed w (configure (configs.Listen l.listener l.space l.priority)) in
    LeavesListen w.writer.desk l c.world.writer.desk (refusal_in c.answer)
listen_leaves w l =
    let k = configures w (configs.Listen l.listener l.space l.priority) in
    let v = (completed w (configure (configs.Listen l.listener l.space l.priority))).world in
    let s = configured k.generations k.desk (configs.Listen l.listener l.space l.priority) in
    subst (LeavesListen w.writer.desk l v.writer.desk) (sym k.refusal)
    (listen_same w.writer.desk k.desk s.desk v.writer.desk l (err_in s.answer) k.before k.after
    (listen_left k.generations k.desk l))

-- one listener fewer, where it is not refused: the others are there as before
pub record IsGone (d : Desk) (id : ListenerId) (e : Desk) : Type 0 where
  pub forest : e.forest ≡ d.forest
  pub gone : list_any (is_listener id) e.listening.listeners ≡ false
  pub others : (m : ListenerId) → m.0 ≢ id.0 → list_any (is_listener m) e.listening.listeners
      ≡ list_any (is_listener m) d.listening.listeners

abbrev pub LeavesUnlisten : Desk → ListenerId → Desk → Option Refusal → Type 0
LeavesUnlisten d id e None = IsGone d id e
LeavesUnlisten d id e (Some why) = SameMap d e

without : ListenerId → List Listener → List Listener
without id ls = filter (λ l. not (is_listener id l)) ls

none_without : (id : ListenerId) (ls : List Listener) → list_any (is_listener id) (without id ls) ≡ false
unfolding without
none_without id [] = refl
none_without id (l ∷ ls) = go (is_listener id l) refl (none_without id ls)
  where
    go : (b : Bool) → is_listener id l ≡ b → list_any (is_listener id) (without id ls) ≡ false
        → list_any (is_listener id) (cond (not b) (l ∷ without id ls) (without id ls)) ≡ false
    go true e ih = ih
    go false e ih = (λ i. e i || list_any (is_listener id) (without id ls)) ∙ ih

some_without : (id m : ListenerId) → m.0 ≢ id.0 → (ls : List Listener)
    → list_any (is_listener m) (without id ls) ≡ list_any (is_listener m) ls
unfolding without
some_without id m ne [] = refl
some_without id m ne (l ∷ ls) = go (is_listener id l) refl (some_without id m ne ls)
  where
    other : l.listener.0 ≡ id.0 → is_listener m l ≡ false
    other e = ne_eqb l.listener.0 m.0 (λ same. ne (sym same ∙ e))

    go : (b : Bool) → is_listener id l ≡ b → list_any (is_listener m) (without id ls) ≡ list_any (is_listener m) ls
        → list_any (is_listener m) (cond (not b) (l ∷ without id ls) (without id ls))
        ≡ (is_listener m l || list_any (is_listener m) ls)
    go true e ih = ih ∙ (λ i. sym (other (eqb-true l.listener.0 id.0 e)) i || list_any (is_listener m) ls)
    go false e ih = (λ i. is_listener m l || ih i)

gone_in : (g : Generations) (d : Desk) (id : ListenerId) (ls : List Listener)
    → (list_any (is_listener id) ls ≡ list_any (is_listener id) d.listening.listeners) → IsGone d id (without_listener ls id g d)
unfolding without
gone_in g d id [] e = record { forest = refl; gone = sym e; others = λ m ne. refl }
gone_in g d id (l ∷ ls) e = go (l.listener.0 == id.0) e (gone_in g d id ls)
  where
    go : (b : Bool) → (b || list_any (is_listener id) ls) ≡ list_any (is_listener id) d.listening.listeners
        → ((list_any (is_listener id) ls ≡ list_any (is_listener id) d.listening.listeners)
        → IsGone d id (without_listener ls id g d))
        → IsGone d id (if b then record d {
          listening = left d.listening id (view_of (current_forest g) l.space)
              (lives_of (current_forest g) l.space);
        }
        else without_listener ls id g d)
    go true e ih = record {
      forest = refl;
      gone = none_without id d.listening.listeners;
      others = λ m ne. some_without id m ne d.listening.listeners;
    }
    go false e ih = ih e

pub unlisten_left : (g : Generations) (d : Desk) (id : ListenerId)
    → LeavesUnlisten d id (unlistened g d id).desk (err_in (unlistened g d id).answer)
unlisten_left g d id = go (leave_refusal d.listening id)
  where
    go : (o : Option Refusal) → let s = unless_refused o d (settled (without_listener d.listening.listeners id g d) Done) in
        LeavesUnlisten d id s.desk (err_in s.answer)
    go None = gone_in g d id d.listening.listeners refl
    go (Some why) = same_map d

pub unlisten_same : (d d2 e e2 : Desk) (id : ListenerId) (o : Option Refusal) → SameMap d d2 → SameMap e e2 → LeavesUnlisten d2 id e o
    → LeavesUnlisten d id e2 o
unlisten_same d d2 e e2 id None k j m = record {
  forest = j.forest ∙ m.forest ∙ k.forest;
  gone = ap (list_any (is_listener id)) j.listeners ∙ m.gone;
  others = λ q ne. ap (list_any (is_listener q)) j.listeners ∙ m.others q ne ∙ ap (list_any (is_listener q)) k.listeners;
}
unlisten_same d d2 e e2 id (Some why) k j m = then_same d d2 e2 k (then_same d2 e e2 m j)

pub unlisten_leaves : (w : World) (id : ListenerId) → let c = completed w (configure (configs.Unlisten id)) in
    LeavesUnlisten w.writer.desk id c.world.writer.desk (refusal_in c.answer)
unlisten_leaves w id =
    let k = configures w (configs.Unlisten id) in
    let v = (completed w (configure (configs.Unlisten id))).world in
    let s = configured k.generations k.desk (configs.Unlisten id) in
    subst (LeavesUnlisten w.writer.desk id v.writer.desk) (sym k.refusal)
    (unlisten_same w.writer.desk k.desk s.desk v.writer.desk id (err_in s.answer) k.before k.after
    (unlisten_left k.generations k.desk id))

-- Which regions an accepted call leaves

is_there : List Node → RegionId → Bool
is_there nodes r = is_some (node_of nodes r)

changed_there : (nodes : List Node) (r : RegionId) (h : Node → Node) → ((n : Node) → (h n).id ≡ n.id) → (q : RegionId)
    → is_some (node_of (changed_at r h nodes) q) ≡ is_some (node_of nodes q)
changed_there nodes r h id q = ap is_some (node_of-changed_at r h id nodes q) ∙ go (node_of nodes q)
  where
    go : (o : Option Node) → is_some (option_map (λ n. cond (has_id r n) (h n) n) o) ≡ is_some o
    go None = refl
    go (Some n) = refl

-- the regions of one forest are there in another, and as many were made
pub record SameRegions (f g : Forest) : Type 0 where
  pub there : (q : RegionId) → is_some (node_of g.nodes q) ≡ is_some (node_of f.nodes q)
  pub made : g.made ≡ f.made

pub change_keeps : (f : Forest) (call : Call) → is_quiet call ≡ false → SameRegions f (counted (changed f call))
change_keeps f (calls.Region kind size) e = true_is_not_false true refl e
change_keeps f (calls.Drop region) e = true_is_not_false true refl e
change_keeps f (calls.Space space root) e = record { there = λ q. refl; made = refl }
change_keeps f (calls.Add parent offset child priority) e =
    record { there = changed_there f.nodes child _ (λ n. refl); made = refl }
change_keeps f (calls.Del parent child) e = record { there = changed_there f.nodes child _ (λ n. refl); made = refl }
change_keeps f (calls.Move child offset) e =
    record { there = changed_there f.nodes child (moved offset f.placings) (moved_id offset f.placings); made = refl }
change_keeps f (calls.Resize region size) e =
    record { there = changed_there f.nodes region (edited (calls.Resize region size)) (λ n. refl); made = refl }
change_keeps f (calls.Retarget alias offset) e =
    record { there = changed_there f.nodes alias (edited (calls.Retarget alias offset)) (λ n. refl); made = refl }
change_keeps f (calls.Enable region on) e = record { there = changed_there f.nodes region _ (λ n. refl); made = refl }
change_keeps f (calls.Readonly region on) e = record { there = changed_there f.nodes region _ (λ n. refl); made = refl }
change_keeps f (calls.Nonvolatile region on) e = record { there = changed_there f.nodes region _ (λ n. refl); made = refl }
change_keeps f (calls.Unmergeable region on) e = record { there = changed_there f.nodes region _ (λ n. refl); made = refl }
change_keeps f (calls.Romd region on) e = record { there = changed_there f.nodes region _ (λ n. refl); made = refl }
change_keeps f (calls.Log region client on) e = record { there = changed_there f.nodes region _ (λ n. refl); made = refl }
change_keeps f (calls.Global on) e = record { there = λ q. refl; made = refl }
change_keeps f (calls.Map region iova size space translated perm) e =
    record { there = changed_there f.nodes region _ (λ n. refl); made = refl }
change_keeps f (calls.Unmap region iova) e = record { there = changed_there f.nodes region _ (λ n. refl); made = refl }
change_keeps f (calls.Event region event) e = record { there = changed_there f.nodes region _ (λ n. refl); made = refl }
change_keeps f (calls.Unevent region offset size matched value) e =
    record { there = changed_there f.nodes region _ (λ n. refl); made = refl }

there_push : (nodes : List Node) (n : Node) (q : RegionId)
    → is_some (node_of (nodes ++ n ∷ []) q) ≡ (is_some (node_of nodes q) || has_id q n)
there_push [] n q = go (has_id q n)
  where
    go : (b : Bool) → is_some (if b then Some n else None) ≡ b
    go true = refl
    go false = refl
there_push (m ∷ ms) n q = go (has_id q m) (there_push ms n q)
  where
    go : (b : Bool) → is_some (node_of (ms ++ n ∷ []) q) ≡ (is_some (node_of ms q) || has_id q n)
        → is_some (if b then Some m else node_of (ms ++ n ∷ []) q) ≡ (is_some (if b then Some m else node_of ms q) || has_id q n)
    go true ih = refl
    go false ih = ih

pub made_there : (f : Forest) (kind : Kind) (size : ℕ) → let g = counted (changed f (calls.Region kind size)) in
    is_some (node_of g.nodes (record { 0 = f.made })) ≡ true
made_there f kind size = there_push f.nodes _ (record { 0 = f.made })
    ∙ or_right (is_some (node_of f.nodes (record { 0 = f.made }))) (f.made == f.made)
    (eq-eqb f.made f.made refl)

pub made_others : (f : Forest) (kind : Kind) (size : ℕ) (q : RegionId) → q.0 < f.made
    → let g = counted (changed f (calls.Region kind size)) in
    is_some (node_of g.nodes q) ≡ is_some (node_of f.nodes q)
made_others f kind size q l = there_push f.nodes _ q
    ∙ or_false (is_some (node_of f.nodes q)) (f.made == q.0) (ne_eqb f.made q.0 (λ e. omega arith))

pub dropped_gone : (f : Forest) (region : RegionId)
    → is_some (node_of (counted (changed f (calls.Drop region))).nodes region) ≡ false
dropped_gone f region = ap is_some (node_of-dropped region f.nodes)

pub dropped_others : (f : Forest) (region q : RegionId) → q.0 ≢ region.0
    → is_some (node_of (counted (changed f (calls.Drop region))).nodes q) ≡ is_some (node_of f.nodes q)
dropped_others f region q ne = ap is_some (node_of-without region f.nodes q ne)

pub any_push : {A : Type 0} (p : A → Bool) (xs : List A) (x : A) → list_any p (xs ++ x ∷ []) ≡ (list_any p xs || p x)
any_push p [] x = go (p x)
  where
    go : (b : Bool) → (b || false) ≡ b
    go true = refl
    go false = refl
any_push p (y ∷ ys) x = go (p y) (any_push p ys x)
  where
    go : (b : Bool) → list_any p (ys ++ x ∷ []) ≡ (list_any p ys || p x)
        → (b || list_any p (ys ++ x ∷ [])) ≡ ((b || list_any p ys) || p x)
    go true e = refl
    go false e = e

pub other_watchers : (k : Known) (d : Desk) (watchers : List Watcher) → KnowsNames k d → KnowsNames (record k { watchers = watchers }) d
other_watchers k d watchers a =
    record { regions = a.regions; made = a.made; dropped = a.dropped; listeners = a.listeners; gone = a.gone }

pub sliced : (xs : List Delivery) (m : ℕ) → take (length xs - m) (drop m xs) ≡ drop m xs
sliced xs m = take_all (length xs - m) (drop m xs) (let l = length-drop m xs in omega (arith, l))

pub with_watchers : (k : Known) (name : Text) (order : DeskOrder) → (with_order k name order).watchers ≡ k.watchers
with_watchers k name (desk_orders.Call (calls.Region kind size)) = refl
with_watchers k name (desk_orders.Call (calls.Space space root)) = refl
with_watchers k name (desk_orders.Call (calls.Drop region)) = refl
with_watchers k name (desk_orders.Listen listener space priority) = refl
with_watchers k name (desk_orders.Unlisten listener) = refl
with_watchers k name order = refl

pub after_watchers : (k : Known) (name : Text) (order : DeskOrder) (x : DeskAnswer) → (after_order k name order x).watchers ≡ k.watchers
after_watchers k name order (answers.Refused why) = refl
after_watchers k name order x = with_watchers k name order
