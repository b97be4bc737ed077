-- A call of the writer is the defined turn.
use Rattle.std.proofs.Common.{◌≡◌, ℕ, ◌+◌, ◌<◌, ◌≤◌, Bool, true, false, List, [], ◌∷◌, ◌++◌, length, map, append-nil, zero, suc}
use Rattle.std.proofs.Common.{Option, Some, None, refl, sym, ap, subst, ◌∙◌, arith}
use Rattle.std.specs.Prelude.{◌^◌, if◌then◌else◌, Result, Ok, Err, IfSome}
use Rattle.std.specs.List.{range_with_len}
use Rattle.mem_base.specs.declared.map.ids.RegionId.{RegionId}
use Rattle.mem_base.specs.map.PassIds.{PassId}
use Rattle.mem_base.specs.declared.map.forests.Forest.{Forest}
use Rattle.mem_base.specs.declared.map.calls.Applied.{Applied}
use Rattle.mem_base.specs.declared.map.calls.Applied.TheVariants.{Done}
use Rattle.mem_base.specs.declared.map.calls.Call.{Call}
use Rattle.mem_base.specs.declared.map.calls.Config.{Config}
use Rattle.mem_base.specs.declared.map.calls.Config.TheVariants as configs
use Rattle.mem_base.specs.declared.map.refusals.Refusal.{Refusal}
use Rattle.mem_base.specs.declared.map.refusals.Refusal.TheVariants.{Memory}
use Rattle.mem_base.specs.declared.access.cells.Place.{Place}
use Rattle.mem_base.specs.declared.access.cells.Cell.{Cell}
use Rattle.mem_base.specs.declared.machine.events.Event.TheVariants as events
use Rattle.mem_base.specs.declared.machine.events.Carried.TheVariants as carries
use Rattle.mem_base.specs.declared.machine.events.HistoryEntry.{HistoryEntry}
use Rattle.mem_base.specs.lists.Every.{Every}
use Rattle.mem_base.specs.map.Limits.{notifier_count}
use Rattle.mem_base.specs.access.Places.{past, notifiers_place}
use Rattle.mem_base.specs.views.Listening.{delivered}
use Rattle.mem_base.specs.machine.Actors.{generations_after_all}
use Rattle.mem_base.specs.machine.Answers.{Answer, call_answer, answer_of_config, number_due}
use Rattle.mem_base.specs.machine.Configs.{configured}
use Rattle.mem_base.specs.machine.Desk.{Desk, cells_of, carried_by, unswept}
use Rattle.mem_base.specs.machine.Generations.{Generations, Generation, PassTrack}
use Rattle.mem_base.specs.machine.History.{PureEntry}
use Rattle.mem_base.specs.machine.Orders.{configure, sweeps, publishes, pass_ids, events_before, events_after}
use Rattle.mem_base.specs.machine.Passes.{pass_id}
use Rattle.mem_base.specs.machine.Publishing.{Settled, would_publish, held_up, held_from, held_at, holds_up, forest_in, current_forest}
use Rattle.mem_base.specs.machine.Reaps.{Writer, writer}
use Rattle.mem_base.specs.machine.Turns.{Played, WriterCall, played, turn, private_entries, entries_of_turn}
use Rattle.mem_base.proofs.EveryLaws.{weaker, every_push}
use Rattle.view_laws.proofs.Tests.{none_is_not_some}
use Rattle.view_laws.proofs.SortedLaws.{every_filter}
use Rattle.history_laws.proofs.Idles.{Idle}
use Rattle.history_laws.proofs.Outcomes.{Distinct, outcome}
use Rattle.turn_laws.proofs.Rows.{publishes_of, fills_of, flags_after, with_swept, with_due}
use Rattle.turn_laws.proofs.Rows.{swept_length, published_desk, filled_desk, filled_generations}
use Rattle.turn_laws.proofs.Turning.{turn_facts}
use Rattle.generation.specs.Published.{Published}
use Rattle.writer_desk.proofs.HandedOn.{Readied, when_done, AreDeskPlaces, BackedState, backed_state, all_places}
use Rattle.writer_desk.specs.Writers.{WriterState, writer_state, Beside, desk_of, settled_as, IsReady}
use Rattle.writer_desk.specs.Listened.{ListenedState, resting, told, IsDone, IsReadied, IsRefused, IsUnmoved}
use Rattle.writer_hand.specs.Entries.{entries_with, edition_of}
use Rattle.writer_hand.specs.Hands.{swept, MayPublish, IsHeldUp}
use Rattle.writer_desk.specs.declared.idle.IdleDesk.{IdleDesk}
use Rattle.writer_run.specs.Parts.{idle_beside, part_with, BelongTogether, AreParts}
use Rattle.writer_desk.specs.Writers.{dropped_with, is_held, made_place}
use Rattle.writer_desk.proofs.HeldLaws.{held_where_refused}
use Rattle.writer_run.specs.Turns.{IsTurn, answer_by, cleared_at, number_told}
use Rattle.writer_run.proofs.DropLaws.{configured_gone, gone_then}
use Rattle.writer_hand.proofs.EntryLaws.{Keeps, Publishes, same_flags, after_both, sweeps_keep, after_sweeps, played_sweeps, published_by, publishes_leave}
use Rattle.writer_hand.proofs.EntryLaws.{played_publishes, publishes_make, fills_keep, played_fills}
use Rattle.writer_run.proofs.MadeLaws.{unfilled_with, kept_beside, cells_at, unfilled_is, made_has, made_among, same_first, pool_stays}
use Rattle.mem_base.proofs.BoolLaws.{true_is_not_false}
use Rattle.mem_base.proofs.ListLaws.{length_map}

-- the call is a turn, and the parts belong together after it
pub record Leaves (w : Writer) (k : Config) (makes : List HistoryEntry → Type 0) (answer : Answer) (s : ListenedState) (dropped : List RegionId)
    (g : Generations) (words : ℕ) : Type 0 where
  pub turn_is : IsTurn w (configure k) makes answer (part_with s dropped g)
  pub parts : BelongTogether s dropped g words

-- an answer of a call as the machine states it
pub call_answered : (call : Call) (r : Result (Applied × Option ℕ) Refusal) → answer_by (configs.Call call) r ≡ call_answer r
call_answered call (Ok x) = refl
call_answered call (Err why) = refl

-- what holds a publish up is no want of memory
pub held_tells : (current first : ℕ) (ks : List PassTrack) → held_from current first ks ≡ Some Memory → ⊥
held_tells current first [] e = none_is_not_some Memory e
held_tells current first (k ∷ ks) e = go k.found (holds_up current k.found) e (held_tells current (first + 1) ks)
  where
    go : (o : Option ℕ) (b : Bool) → (if b then held_at (pass_id first) o else held_from current (first + 1) ks) ≡ Some Memory
        → (held_from current (first + 1) ks ≡ Some Memory → ⊥) → ⊥
    go o false e rest = rest e
    go None true e rest = none_is_not_some Memory e
    go (Some n) true e rest = cc

pub held_is_told : (g : Generations) (makes : List HistoryEntry → Type 0) (why : Refusal) → IsHeldUp g why makes → why ≡ Memory → ⊥
held_is_told g makes why h e = let a = generations_after_all g (swept g h.found) in
    held_tells a.current 0 a.passes (h.held ∙ ap (λ (r : Refusal). Some r) e)

-- the turn of a private event, by what was played before it and what it settles
abbrev turn_from : Config → List PureEntry → Played → Settled → WriterCall
turn_from k private b s =
    let m = writer (unswept s.desk) b.writer.generations in
    let later = played m (events_after m (configure k)) b.replies in record {
      before = b.entries;
      private = private;
      after = later.entries;
      writer = later.writer;
      answer = answer_of_config k s.answer (number_due m);
    }

abbrev privately : Config → Writer → List PureEntry
privately k w = private_entries w (events.Config k ∷ [])

turn_as : (w : Writer) (k : Config) (rs : List ℕ) (b : Played) (s : Settled) → played w (events_before w (configure k)) rs ≡ b
    → configured b.writer.generations b.writer.desk k ≡ s → turn w (configure k) rs ≡ turn_from k (privately k b.writer) b s
turn_as w k rs b s before settles =
    ap (λ (x : Played). turn_from k (privately k x.writer) x (configured x.writer.generations x.writer.desk k)) before
    ∙ ap (λ (y : Settled). turn_from k (privately k b.writer) b y) settles

is_turn : (w : Writer) (k : Config) (rs : List ℕ) (t : WriterCall) (makes : List HistoryEntry → Type 0) (answer : Answer) (v : Writer)
    → turn w (configure k) rs ≡ t → makes (t.before ++ t.after) → answer ≡ t.answer → v ≡ t.writer → IsTurn w (configure k) makes answer v
is_turn w k rs t makes answer v is made told left = record {
  replies = rs;
  made = subst (λ (x : WriterCall). makes (entries_of_turn x)) (sym is) made;
  answer_is = told ∙ ap (λ (x : WriterCall). x.answer) (sym is);
  writer = left ∙ ap (λ (x : WriterCall). x.writer) (sym is);
}

idle_then : (w : Writer) (k : Config) (makes : List HistoryEntry → Type 0) (answer : Answer) (v : Writer) → Idle w
    → IsTurn w (configure k) makes answer v → Idle v
idle_then w k makes answer v idle t = subst Idle (sym t.writer) (turn_facts w w (configure k) t.replies idle).idle

module _ (from : IdleDesk) (g : Generations) (words : ℕ) (parts : AreParts from g words) (k : Config) where
  abbrev s : ListenedState
  s = from.listened

  abbrev dropped : List RegionId
  dropped = from.dropped.items

  abbrev w : Writer
  w = part_with s dropped g

  abbrev vs : List PassId
  vs = pass_ids g

  -- the desk where these are dropped, unfilled and swept, of a state of it
  abbrev standing_at : WriterState → List RegionId → List Cell → List Bool → Desk
  standing_at d rs cs bs = desk_of d (record { dropped = rs; unfilled = cs; swept = bs })

  as_many : length vs ≡ length g.passes
  as_many = length_map pass_id (range_with_len 0 (length g.passes)) ∙ count 0 (length g.passes)
    where
      count : (a n : ℕ) → length (range_with_len a n) ≡ n
      count a zero = refl
      count a (suc n) = ap suc (count (a + 1) n)

  -- an event that publishes nothing

  quiet_before : would_publish w.desk k ≡ false → played w (events_before w (configure k)) [] ≡ (record { entries = []; writer = w; replies = [] })
  quiet_before quiet = ap (λ (b : Bool). played w (if b then sweeps g else []) []) quiet

  pub refused : (why : Refusal) → IsRefused s k why → (t : ListenedState) → IsUnmoved s t → (dropped_then : List RegionId) → dropped_then ≡ dropped
      → (makes : List HistoryEntry → Type 0) → makes [] → IsTurn w (configure k) makes (answer_of_config k (Err why) None) (part_with t dropped_then g)
  refused why r t same dropped_then drops makes made =
      let settles : configured g w.desk k ≡ settled_as w.desk (Err why) = r.configured (held_up g) g (idle_beside dropped g) parts.current (λ x. refl) in
      is_turn w k [] _ makes _ (part_with t dropped_then g) (turn_as w k [] (record { entries = []; writer = w; replies = [] }) (settled_as w.desk
      (Err why))
      (quiet_before (r.no_publish (idle_beside dropped g))) settles) made refl
      (λ i. writer (standing_at (writer_state (same.0 i) (same.1 i) None) (drops i) []
      (same_flags g.passes w.desk.swept (sym (length_map (λ k. false) g.passes)) i)) g)

  -- an event that is done, with the place of a region that it makes
  module _ (t : ListenedState) (a : Applied) (d : IsDone s k t a) where
    abbrev new_place : Option Place
    new_place = made_place t.backed.backing.places a

    below : Every (λ p. p.region.0 < s.backed.desk.state.forest.made) s.backed.backing.places
    below = parts.idle.sound.places

    left_unfilled : unfilled_with s.backed k ≡ cells_at new_place
    left_unfilled = unfilled_is s.backed below k ∙ (λ i. cells_at (made_place (sym d.accepted.backing i).places (sym d.accepted.answered i)))

    -- the place ends within the words
    pub ends_within : (f : Forest) (ps : List Place) → ps ≡ all_places t.backed.backing → AreDeskPlaces f ps → IfSome new_place (λ p. past p ≤ words)
    ends_within f ps are back = go new_place refl
      where
        ends : (back.regions ≡ t.backed.backing.places) × (notifiers_place back.pool_words ≡ notifiers_place t.backed.backing.pool_words)
        ends = same_first back.regions t.backed.backing.places _ _ (sym back.parts ∙ are)

        pool : back.pool_words ≡ s.backed.backing.pool_words
        pool = ap (λ (p : Place). p.start) ends.1 ∙ ap (λ b. b.pool_words) d.accepted.backing ∙ pool_stays s.backed k

        inside : Every (λ p. past p ≤ back.pool_words) t.backed.backing.places
        inside = subst (λ (qs : List Place). Every (λ p. past p ≤ back.pool_words) qs) ends.0
            (weaker _ (λ p. past p ≤ back.pool_words) (λ p h. h.2) back.regions back.backs.inside)

        go : (o : Option Place) → new_place ≡ o → IfSome o (λ p. past p ≤ words)
        go None e = tt
        go (Some p) e =
            let within : past p ≤ back.pool_words = made_has (λ q. past q ≤ back.pool_words) t.backed.backing.places a p inside e in
            let wide : words ≡ s.backed.backing.pool_words + notifier_count = parts.wide in
            let same : back.pool_words ≡ s.backed.backing.pool_words = pool in omega (arith, within, same, wide)

    -- the desk after it
    abbrev then_at : List Cell → Desk
    then_at cs = standing_at (resting t) (dropped_with k dropped) cs (map (λ k. false) g.passes)

    settles : configured g w.desk k ≡ settled_as (then_at (unfilled_with s.backed k)) (Ok a)
    settles = d.configured (held_up g) g (idle_beside dropped g) parts.current (λ x. refl)
        ∙ ap (λ (b : Beside). settled_as (desk_of (resting t) b) (Ok a)) (kept_beside s.backed (idle_beside dropped g) k refl)

    abbrev middle : List Cell → Writer
    middle cs = writer (unswept (then_at cs)) g

    distinct : Distinct (unfilled_with s.backed k)
    distinct = subst (λ (x : Settled). Distinct x.desk.unfilled) settles (outcome g w.desk parts.idle.sound parts.idle.due parts.idle.filled k).distinct

    -- the entries that clear the place
    clears : (o : Option Place) → new_place ≡ o → (played (middle (cells_at o)) (fills_of (cells_at o)) []).entries ≡ cleared_at o
    clears None e = refl
    clears (Some p) e = played_fills p p.region (range_with_len 0 p.words) (middle (cells_of p))
        (made_among t.backed.backing.places (notifiers_place t.backed.backing.pool_words ∷ []) a p e)

    pub done : (dropped_then : List RegionId) → dropped_then ≡ dropped_with k dropped
        → (h : Generations) (words_then : ℕ) (makes : List HistoryEntry → Type 0)
        → makes (cleared_at new_place) → h ≡ generations_after_all g (cleared_at new_place) → words_then ≡ words
        → Leaves w k makes (answer_of_config k (Ok a) None) t dropped_then h words_then
    done dropped_then drops h words_then makes made kept wide = record {
      turn_is = is;
      parts = record {
        idle = idle_then w k makes (answer_of_config k (Ok a) None) (part_with t dropped_then h) parts.idle is;
        gone = gone_then w (configure k) makes (answer_of_config k (Ok a) None) (part_with t dropped_then h)
            (λ rs. configured_gone w k rs parts.idle.sound parts.gone) is;
        current = ap (λ (x : Generations). current_forest x) same ∙ parts.current ∙ ap (λ (p : Published). p.forest) (sym d.accepted.current);
        number = ap (λ (p : Published). p.number) d.accepted.current ∙ parts.number ∙ ap (λ (x : Generations). x.current) (sym same);
        wide = wide ∙ parts.wide ∙ ap (λ (n : ℕ). n + notifier_count) (sym (ap (λ b. b.pool_words) d.accepted.backing ∙ pool_stays s.backed k));
      };
    }
      where
        same_by : (o : Option Place) → generations_after_all g (cleared_at o) ≡ g
        same_by None = refl
        same_by (Some p) = fills_keep p (cells_of p) [] g

        same : h ≡ g
        same = kept ∙ same_by new_place

        later : Played
        later = played (middle (unfilled_with s.backed k)) (fills_of (unfilled_with s.backed k)) []

        entries : later.entries ≡ cleared_at new_place
        entries = ap (λ (cs : List Cell). (played (middle cs) (fills_of cs) []).entries) left_unfilled ∙ clears new_place refl

        flags : map (λ k. false) h.passes ≡ (unswept (then_at [])).swept
        flags = ap (λ (x : Generations). map (λ k. false) x.passes) same
            ∙ same_flags g.passes (map (λ k. false) g.passes) (sym (length_map (λ k. false) g.passes))

        left : part_with t dropped_then h ≡ later.writer
        left = (λ i. writer (standing_at (resting t) (drops i) [] (flags i)) (same i))
            ∙ (λ i. writer (sym (filled_desk (unfilled_with s.backed k) (middle (unfilled_with s.backed k)) [] refl distinct) i)
            (sym (filled_generations (unfilled_with s.backed k) (middle (unfilled_with s.backed k)) []) i))

        is : IsTurn w (configure k) makes (answer_of_config k (Ok a) None) (part_with t dropped_then h)
        is = is_turn w k [] _ makes _ (part_with t dropped_then h)
            (turn_as w k [] (record { entries = []; writer = w; replies = [] }) (settled_as (then_at (unfilled_with s.backed k)) (Ok a))
            (quiet_before (d.no_publish (idle_beside dropped g))) settles) (subst makes (sym entries) made) refl left

  -- an event that would publish

  module _ (r : Readied) (t : ListenedState) (z : IsReadied s k t r) (found : List ℕ) (each : length found ≡ length (sweeps g)) where
    abbrev g1 : Generations
    g1 = generations_after_all g (swept g found)

    keeps : Keeps g g1
    keeps = sweeps_keep vs g found

    as_each : length found ≡ length vs
    as_each = each ∙ length_map _ vs

    abbrev flags1 : List Bool
    flags1 = flags_after vs (map (λ k. false) g.passes)

    swept_before : (rs : List ℕ) → played w (events_before w (configure k)) (found ++ rs) ≡ after_sweeps vs w found rs
    swept_before rs = ap (λ (b : Bool). played w (if b then sweeps g else []) (found ++ rs)) (z.publishes (idle_beside dropped g))
        ∙ played_sweeps vs w found rs as_each

    abbrev swept_beside : Beside
    swept_beside = record { dropped = dropped; unfilled = []; swept = flags1 }

    here : current_forest g1 ≡ s.backed.desk.current.forest
    here = ap (λ (xs : List Generation). forest_in xs) keeps.kept ∙ parts.current

    flags_are : (h : Generations) → length h.passes ≡ length g.passes → map (λ k. false) h.passes ≡ map (λ k. false) flags1
    flags_are h long = same_flags h.passes flags1
        (long ∙ sym (swept_length vs (map (λ k. false) g.passes) ∙ length_map (λ k. false) g.passes))

    -- it is held up

    pub held : (why : Refusal) → held_up g1 ≡ Some why → (h : Generations) (words_then : ℕ) (makes : List HistoryEntry → Type 0)
        → makes (swept g found) → h ≡ g1 → words_then ≡ words → (dropped_then : List RegionId) → dropped_then ≡ dropped
        → Leaves w k makes (answer_of_config k (Err why) None) t dropped_then h words_then
    held why up h words_then makes made kept wide dropped_then drops = record {
      turn_is = is;
      parts = record {
        idle = idle_then w k makes (answer_of_config k (Err why) None) (part_with t dropped_then h) parts.idle is;
        gone = gone_then w (configure k) makes (answer_of_config k (Err why) None) (part_with t dropped_then h)
            (λ rs. configured_gone w k rs parts.idle.sound parts.gone) is;
        current = ap (λ (x : Generations). current_forest x) kept ∙ here ∙ ap (λ (b : BackedState). b.desk.current.forest) (sym z.unmoved.0);
        number = ap (λ (b : BackedState). b.desk.current.number) z.unmoved.0 ∙ parts.number ∙ sym keeps.current
            ∙ ap (λ (x : Generations). x.current) (sym kept);
        wide = wide ∙ parts.wide ∙ ap (λ (b : BackedState). b.backing.pool_words + notifier_count) (sym z.unmoved.0);
      };
    }
      where
        settles : configured g1 (with_swept flags1 w.desk) k ≡ settled_as (with_swept flags1 w.desk) (Err why)
        settles = z.held why g1 swept_beside here (λ x. up)

        is : IsTurn w (configure k) makes (answer_of_config k (Err why) None) (part_with t dropped_then h)
        is = is_turn w k (found ++ []) _ makes _ (part_with t dropped_then h)
            (turn_as w k (found ++ []) (after_sweeps vs w found []) (settled_as (with_swept flags1 w.desk) (Err why)) (swept_before []) settles)
            (subst makes (sym (append-nil (swept g found))) made) refl
            (λ i. writer (standing_at (writer_state (z.unmoved.0 i) (z.unmoved.1 i) None) (drops i) [] ((ap (λ (x : Generations). map
            (λ k. false) x.passes) kept
            ∙ flags_are g1 keeps.passes) i)) (kept i))

    -- it is published

    pub published : held_up g1 ≡ None → (replies : List ℕ) (u : ListenedState) → u.backed ≡ backed_state (when_done r) t.backed.backing
        → u.set.listening ≡ delivered t.set.listening r.changes → (dropped_then : List RegionId) → dropped_then ≡ dropped_with k dropped
        → (h : Generations) (words_then : ℕ)
        (makes : List HistoryEntry → Type 0) → makes (swept g found ++ entries_with (edition_of r.generation) (publishes g) replies)
        → h ≡ generations_after_all g (swept g found ++ entries_with (edition_of r.generation) (publishes g) replies) → words_then ≡ words
        → (number : ℕ) → number ≡ r.generation.number → Leaves w k makes (answer_of_config k (Ok Done) (Some number)) u dropped_then h words_then
    published free replies u moved heard dropped_then drops h words_then makes made kept wide number next = record {
      turn_is = is;
      parts = record {
        idle = idle_then w k makes (answer_of_config k (Ok Done) (Some number)) (part_with u dropped_then h) parts.idle is;
        gone = gone_then w (configure k) makes (answer_of_config k (Ok Done) (Some number)) (part_with u dropped_then h)
            (λ rs. configured_gone w k rs parts.idle.sound parts.gone) is;
        current = ap (λ (x : Generations). current_forest x) kept_from ∙ ap (λ (xs : List Generation). forest_in xs) leaves.kept
            ∙ ap (λ (b : BackedState). b.desk.current.forest) (sym moved);
        number = ap (λ (b : BackedState). b.desk.current.number) moved ∙ number_is ∙ sym leaves.current
            ∙ ap (λ (x : Generations). x.current) (sym kept_from);
        wide = wide ∙ parts.wide ∙ ap (λ (b : BackedState). b.backing.pool_words + notifier_count) (sym z.unmoved.0)
            ∙ ap (λ (b : BackedState). b.backing.pool_words + notifier_count) (sym moved);
      };
    }
      where
        x : Published
        x = r.generation

        -- the desk that the private event leaves
        then_at : List Cell → Desk
        then_at cs = standing_at (told s r) (dropped_with k dropped) cs flags1

        settles : configured g1 (with_swept flags1 w.desk) k ≡ settled_as (then_at (unfilled_with s.backed k)) (Ok Done)
        settles = z.free g1 swept_beside here (λ x. free)
            ∙ ap (λ (b : Beside). settled_as (desk_of (told s r) b) (Ok Done)) (kept_beside s.backed swept_beside k refl)

        none : unfilled_with s.backed k ≡ []
        none = (subst (λ (y : Settled). y.desk.due ≡ true → y.desk.unfilled ≡ []) settles
            (outcome g1 (with_swept flags1 w.desk)
            (record { forest = parts.idle.sound.forest; few = parts.idle.sound.few; places = parts.idle.sound.places; pending = parts.idle.sound.pending })
            parts.idle.due parts.idle.filled k).none_due) refl

        m : Writer
        m = writer (unswept (then_at (unfilled_with s.backed k))) g1

        same_ids : pass_ids g1 ≡ vs
        same_ids = ap (λ (n : ℕ). map pass_id (range_with_len 0 n)) keeps.passes

        carried : carried_by m.desk events.Publish ≡ carries.Edition x.forest x.places
        carried = ap (λ (ps : List Place). carries.Edition x.forest ps) (sym (ap (λ (p : Published). p.places)
            (subst (λ (b : BackedState). IsReady b r) z.unmoved.0 z.ready).next))

        leaves : Publishes x g1 (generations_after_all g1 (published_by x vs replies))
        leaves = publishes_leave x vs g1 replies

        kept_from : h ≡ generations_after_all g1 (published_by x vs replies)
        kept_from = kept ∙ after_both (swept g found) (published_by x vs replies) g

        number_is : x.number ≡ g1.current + 1
        number_is = z.ready.of_desk.of_desk.number ∙ ap (λ (b : BackedState). b.desk.current.number + 1) z.unmoved.0
            ∙ ap (λ (n : ℕ). n + 1) (parts.number ∙ sym keeps.current)

        later : List PassId → Played
        later us = played m (publishes_of us) replies

        entries : (later (pass_ids g1)).entries ≡ published_by x vs replies
        entries = ap (λ (us : List PassId). (later us).entries) same_ids ∙ played_publishes x vs m replies carried

        last : (later (pass_ids g1)).writer ≡ writer (with_due false m.desk) (generations_after_all g1 (published_by x vs replies))
        last = ap (λ (us : List PassId). (later us).writer) same_ids
            ∙ (λ i. writer (published_desk vs m replies i) (publishes_make x vs m replies carried i))

        flags : map (λ k. false) h.passes ≡ map (λ k. false) flags1
        flags = flags_are h (ap (λ (y : Generations). length y.passes) kept_from ∙ leaves.passes ∙ keeps.passes)

        state : u.backed ≡ backed_state (when_done r) s.backed.backing
        state = moved ∙ ap (λ (b : BackedState). backed_state (when_done r) b.backing) z.unmoved.0

        listening : u.set.listening ≡ delivered s.set.listening r.changes
        listening = heard ∙ (λ i. delivered (z.unmoved.1 i) r.changes)

        left : part_with u dropped_then h ≡ (later (pass_ids g1)).writer
        left = (λ i. writer (standing_at (writer_state (state i) (listening i) None) (drops i) (sym none i) (flags i)) (kept_from i)) ∙ sym last

        is : IsTurn w (configure k) makes (answer_of_config k (Ok Done) (Some number)) (part_with u dropped_then h)
        is = is_turn w k (found ++ replies) _ makes _ (part_with u dropped_then h)
            (turn_as w k (found ++ replies) (after_sweeps vs w found replies) (settled_as (then_at (unfilled_with s.backed k)) (Ok Done))
            (swept_before replies) settles)
            (subst (λ es. makes (swept g found ++ es)) (sym entries) made)
            (ap (λ (n : ℕ). answer_of_config k (Ok Done) (Some n)) (next ∙ number_is)) left

  -- what is answered, and what a refusal leaves

  pub quiet_number : (t : ListenedState) (a : Applied) → IsDone s k t a → None ≡ number_told w k
  quiet_number t a d = ap (λ (b : Bool). if b then Some (g.current + 1) else None) (sym (d.no_publish (idle_beside dropped g)))

  pub next_number : (r : Readied) (t : ListenedState) → IsReadied s k t r → (number : ℕ) → number ≡ r.generation.number → Some number ≡ number_told w k
  next_number r t z number is =
      ap (λ (n : ℕ). Some n) (is ∙ z.ready.of_desk.of_desk.number ∙ ap (λ (b : BackedState). b.desk.current.number + 1) z.unmoved.0
      ∙ ap (λ (n : ℕ). n + 1) parts.number)
      ∙ ap (λ (b : Bool). if b then Some (g.current + 1) else None) (sym (z.publishes (idle_beside dropped g)))

  -- a refusal says that a pass holds the publish up just where the event would publish

  pub held_where_refused_is : (why : Refusal) → IsRefused s k why → is_held why ≡ would_publish w.desk k
  held_where_refused_is why r = held_where_refused g w.desk k why
      (ap (λ (x : Settled). x.answer) (r.configured (held_up g) g (idle_beside dropped g) parts.current (λ x. refl)))

  pub held_where_due : (r : Readied) (t : ListenedState) (z : IsReadied s k t r) (found : List ℕ) (each : length found ≡ length (sweeps g)) (why : Refusal)
      → held_up (generations_after_all g (swept g found)) ≡ Some why → is_held why ≡ would_publish w.desk k
  held_where_due r t z found each why up =
      held_where_refused (g1 r t z found each) (with_swept (flags1 r t z found each) w.desk) k why
      (ap (λ (x : Settled). x.answer) (z.held why (g1 r t z found each) (swept_beside r t z found each) (here r t z found each) (λ x. up)))
      ∙ z.publishes (swept_beside r t z found each) ∙ sym (z.publishes (idle_beside dropped g))

  pub never_held : (why : Refusal) → IsRefused s k why → would_publish w.desk k ≡ true → ⊥
  never_held why r due = true_is_not_false (would_publish w.desk k) due (r.no_publish (idle_beside dropped g))

  pub desk_stays : (t : ListenedState) → IsUnmoved s t → (dropped_then : List RegionId) → dropped_then ≡ dropped → (h : Generations)
      → length h.passes ≡ length g.passes → (part_with t dropped_then h).desk ≡ w.desk
  desk_stays t same dropped_then drops h each =
      λ i. standing_at (writer_state (same.0 i) (same.1 i) None) (drops i) [] (same_flags h.passes g.passes each i)

  pub desk_stays_held : (r : Readied) (t : ListenedState) → IsReadied s k t r → (found : List ℕ) → length found ≡ length (sweeps g)
      → (dropped_then : List RegionId) → dropped_then ≡ dropped → (h : Generations) → h ≡ generations_after_all g (swept g found)
      → (part_with t dropped_then h).desk ≡ w.desk
  desk_stays_held r t z found each dropped_then drops h kept =
      desk_stays t z.unmoved dropped_then drops h (ap (λ (x : Generations). length x.passes) kept ∙ (sweeps_keep vs g found).passes)

  -- what is ready may be published
  pub may_publish : (r : Readied) (t : ListenedState) → IsReadied s k t r → r.generation.number + 1 < 2 ^ 64 → MayPublish g words r.generation
  may_publish r t z small = record {
    next = z.ready.of_desk.of_desk.number ∙ ap (λ (b : BackedState). b.desk.current.number + 1) z.unmoved.0 ∙ ap (λ (n : ℕ). n + 1) parts.number;
    small = small;
    roomy = subst (λ (ps : List Place). Every (λ p. past p ≤ words) ps) (sym (ap (λ (p : Published). p.places) z.ready.next))
        (every_filter (λ p. past p ≤ words) (λ p. past p ≤ words) _ (all_places t.backed.backing) (λ p e l. l) all);
  }
    where
      pool : t.backed.backing.pool_words + notifier_count ≡ words
      pool = ap (λ (b : BackedState). b.backing.pool_words + notifier_count) z.unmoved.0 ∙ sym parts.wide

      all : Every (λ p. past p ≤ words) (all_places t.backed.backing)
      all = let same : t.backed.backing.pool_words + notifier_count ≡ words = pool in
          every_push (λ p. past p ≤ words) t.backed.backing.places (notifiers_place t.backed.backing.pool_words)
          (weaker _ (λ p. past p ≤ words) (λ p h. let l : past p ≤ t.backed.backing.pool_words = h.2 in omega (arith, l, same)) t.backed.backing.places
          z.ready.of_desk.backs.inside)
          (omega (arith, same))
