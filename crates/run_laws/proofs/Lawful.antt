-- What holds where a legal history led and nothing is due.
use Rattle.std.proofs.Common.{◌≡◌, ℕ, ◌+◌, ◌-◌, ◌≤◌, Bool, false, List, [], ◌∷◌, ◌++◌, length, map, drop, append-nil}
use Rattle.std.proofs.Common.{refl, sym, ap, subst, ◌∙◌, arith, if◌then◌else◌, Option, Some, None}
use Rattle.std.specs.Prelude.{min, slice_get, Contains, ◌↔◌}
use Rattle.std.proofs.lemmas.Bool.{le-leb, and_parts, not-true}
use Rattle.mem_base.specs.declared.map.ids.RegionId.{RegionId}
use Rattle.mem_base.specs.declared.map.ids.SpaceId.{SpaceId}
use Rattle.mem_base.specs.map.PassIds.{PassId}
use Rattle.mem_base.specs.declared.map.forests.Forest.{Forest}
use Rattle.mem_base.specs.declared.views.listening.Listener.{Listener}
use Rattle.mem_base.specs.declared.script.commands.Command.TheVariants as commands
use Rattle.mem_base.specs.declared.machine.events.Event.TheVariants as events
use Rattle.mem_base.specs.lists.Every.{Every}
use Rattle.mem_base.specs.map.Limits.{most_passes, most_generations}
use Rattle.mem_base.specs.map.Forest.{IsMade, IsOrderedForest}
use Rattle.mem_base.specs.views.View.{IsView}
use Rattle.mem_base.specs.views.Flattened.{view_of}
use Rattle.mem_base.specs.views.Replay.{replay}
use Rattle.mem_base.specs.views.Listening.{Delivery, calls_to}
use Rattle.mem_base.specs.machine.Committed.{committed_forests}
use Rattle.mem_base.specs.machine.Generations.{Generation, Generations, generation_of}
use Rattle.mem_base.specs.machine.Publishing.{current_forest, forest_in}
use Rattle.mem_base.specs.machine.Desk.{Desk}
use Rattle.mem_base.specs.machine.Reaps.{Writer, released}
use Rattle.mem_base.specs.machine.Orders.{sweeps}
use Rattle.mem_base.specs.machine.World.{World, opening, world_after}
use Rattle.mem_base.specs.machine.History.{PureEntry, after_entries, run_events, IsOrderly}
use Rattle.mem_base.specs.machine.ListenerReplay.{listener_of, shown_to, heard_of, told_forest, calls_since_joining}
use Rattle.mem_base.specs.machine.JoinedHistory.{accepted}
use Rattle.mem_base.specs.script.Output.{released_lines, told_lines}
use Rattle.mem_base.specs.script.States.{State}
use Rattle.mem_base.specs.script.Shows.{shown_forest}
use Rattle.mem_base.specs.script.Run.{own_step}
use Rattle.map_laws.proofs.CallLaws.{IsOrderedForest-made}
use Rattle.map_laws.proofs.OffsetLaws.{IsView-made}
use Rattle.map_laws.proofs.PathLaws.{Finds-found_at}
use Rattle.view_laws.specs.Named.{Names}
use Rattle.history_laws.specs.Released.{AreFoundFree, DropsOnce}
use Rattle.history_laws.specs.Published.{CarriesForests}
use Rattle.history_laws.proofs.OrderLaws.{order}
use Rattle.history_laws.proofs.PublishedLaws.{generations_are_committed}
use Rattle.history_laws.proofs.ReleasedLaws.{free_passes_release_all, releases_unnamed, ids}
use Rattle.history_laws.proofs.DroppedLaws.{regions_are_dropped_once}
use Rattle.history_laws.proofs.ReplayedLaws.{all_calls_replay, listeners_replay}
use Rattle.world_laws.proofs.HandedOn.{flags_after}
use Rattle.history_laws.proofs.PureAppends.{run_ends}
use Rattle.world_laws.proofs.Running.{legal_run}
use Rattle.world_laws.proofs.OrderRows.{swept_desk, sweeps_may}
use Rattle.run_laws.specs.LawfulRuns.{IsLawful, Reaps, ShowsCommitted, TellsListeners, swept_writer}
use Rattle.map_laws.proofs.MadeForests.{made_empty}
use Rattle.run_laws.proofs.MadeLaws.{made_run}
use Rattle.world_laws.proofs.PassKeeping.{after_events}
use Rattle.run_laws.proofs.Passing.{Led, led_on}
use Rattle.run_laws.proofs.Ordering.{Settled, all_fit, sweeps_ours}

-- what the forest of the current generation is

first_made : (kept : List Generation) → Every (λ x. IsMade x.forest) kept → IsMade (forest_in kept)
first_made [] k = made_empty
first_made (x ∷ xs) k = k.0

sweeps_keep : (vs : List PassId) (w : World) → (run_events w (map (λ pass. events.Sweep pass) vs)).world.writer.generations.kept
    ≡ w.writer.generations.kept
sweeps_keep [] w = refl
sweeps_keep (v ∷ vs) w = sweeps_keep vs (world_after w (events.Sweep v))

pub drop_all : (xs : List Delivery) → drop (length xs) xs ≡ []
drop_all [] = refl
drop_all (x ∷ xs) = drop_all xs

record IsCurrent (g : Generations) : Type 0 where
  generation : Generation
  numbered : generation_of g g.current ≡ Some generation
  shown : current_forest g ≡ generation.forest

-- some generation is kept
is_current : (g : Generations) → length g.kept ≡ min (g.current + 1) most_generations → IsCurrent g
is_current g many = go g.kept refl
  where
    none : (n c : ℕ) → n ≡ 0 → n ≡ min (c + 1) 8 → ⊥
    none n c z e = omega (arith, z, e)

    at_head : (x : Generation) (xs : List Generation) (n : ℕ) → n ≡ 0 → slice_get (x ∷ xs) n ≡ Some x
    at_head x xs n z = ap (slice_get (x ∷ xs)) z

    go : (kept : List Generation) → g.kept ≡ kept → IsCurrent g
    go [] e = absurd (none (length g.kept) g.current (ap (λ (xs : List Generation). length xs) e) many)
    go (x ∷ xs) e = record {
      generation = x;
      numbered =
          ap (λ (b : Bool). if b then slice_get g.kept (g.current - g.current) else None)
          (let l : g.current ≤ g.current = omega arith in le-leb g.current g.current l)
          ∙ ap (λ (ys : List Generation). slice_get ys (g.current - g.current)) e
          ∙ at_head x xs (g.current - g.current) (omega arith);
      shown = ap forest_in e;
    }

module _ (pool : ℕ) (xs : List PureEntry) (state : State) (k : Settled pool xs state.world) where
  abbrev h : Writer
  h = state.world.writer

  abbrev f : Forest
  f = shown_forest state

  -- a law of legal histories, here
  here : (P : World → Type 0) → P (after_entries (opening pool most_passes) xs) → P state.world
  here P p = subst P k.led.leads p

  off : h.desk.due ≡ false
  off = not-true h.desk.due (and_parts _ _ k.rests).0

  told : told_forest h ≡ f
  told = ap (λ (b : Bool). if b then h.desk.forest else current_forest h.generations) off

  orderly : IsOrderly state.world
  orderly = here IsOrderly (order pool most_passes xs k.led.legal)

  forest_made : IsMade f
  forest_made = first_made h.generations.kept k.led.made.kept

  forest_ordered : IsOrderedForest f
  forest_ordered = subst IsOrderedForest forest_made.made (IsOrderedForest-made forest_made.calls)

  one_view : (space : SpaceId) → IsView f space (view_of f space)
  one_view space = subst (λ (g : Forest). IsView g space (view_of g space)) forest_made.made (IsView-made forest_made.calls space forest_made.fitting)

  shows : ShowsCommitted xs state
  shows =
      let c = is_current h.generations orderly.kept in
      let carries : CarriesForests h (committed_forests (accepted xs)) =
      here (λ w. CarriesForests w.writer (committed_forests (accepted xs))) (generations_are_committed pool most_passes xs k.led.legal) in record {
        committed = carries.carried h.generations.current c.generation c.numbered ∙ ap (λ (g : Forest). Some g) (sym c.shown);
        made = forest_made;
        views = one_view;
        spots = λ space root addr is. Finds-found_at f space root addr forest_ordered is;
      }

  tells : TellsListeners pool xs state
  tells = record {
    joined = λ id l is.
        let r = here (λ w. listener_of w.writer.desk.listening.listeners id ≡ Some l
        → replay (calls_since_joining id pool most_passes xs) ≡ Some (shown_to (told_forest w.writer) l))
        (listeners_replay pool most_passes xs k.led.legal id l) in
        r is ∙ ap (λ (g : Forest). Some (shown_to g l)) told;
    left = λ id none.
        let r = here (λ w. replay (calls_to id w.writer.desk.listening.journal)
        ≡ Some (heard_of (told_forest w.writer) (listener_of w.writer.desk.listening.listeners id)))
        (all_calls_replay pool most_passes xs k.led.legal id) in
        r ∙ ap (λ (o : Option Listener). Some (heard_of (told_forest h) o)) none;
  }

  -- a sweep finds what was announced, and changes nothing else of the desk
  swept_is : (swept_writer state.world).desk ≡ (record h.desk { swept = flags_after (ids 0 (length h.generations.passes)) h.desk.swept })
  swept_is = swept_desk (ids 0 (length h.generations.passes)) state.world

  same_dropped : (swept_writer state.world).desk.dropped ≡ h.desk.dropped
  same_dropped = ap (λ (d : Desk). d.dropped) swept_is

  same_journal : (swept_writer state.world).desk.listening.journal ≡ h.desk.listening.journal
  same_journal = ap (λ (d : Desk). d.listening.journal) swept_is

  same_forest : current_forest (swept_writer state.world).generations ≡ f
  same_forest = ap forest_in (sweeps_keep (ids 0 (length h.generations.passes)) state.world)

  -- and they are legal
  swept_leads : Led pool (xs ++ (run_events state.world (sweeps h.generations)).entries) (after_events state.world (sweeps h.generations))
  swept_leads = let e = orderly.all_known in let es = sweeps h.generations in
      led_on pool xs state.world (after_events state.world es) (run_events state.world es).entries k.led
      (legal_run es state.world (sweeps_may 0 (length h.generations.passes) state.world (omega arith))) (run_ends es state.world)
      (made_run es state.world (all_fit es (sweeps_ours h.generations)) k.led.made)

  -- nobody hears of a reap
  reap_text : (line : ℕ) → (own_step state line commands.Reap).0 ≡ released_lines state.names (released (swept_writer state.world))
  reap_text line =
      let rs = released_lines state.names (released (swept_writer state.world)) in
      let journal = h.desk.listening.journal in
      ap (λ (ds : List Delivery). rs ++ told_lines state.names (drop (length journal) ds)) same_journal
      ∙ ap (λ (ds : List Delivery). rs ++ told_lines state.names ds) (drop_all journal) ∙ append-nil rs

  reaps : Reaps state
  reaps = record {
    text = reap_text;
    dropped = same_dropped;
    releases = releases_unnamed (swept_writer state.world);
    free = λ free region.
        subst (λ (z : List RegionId × Forest). Contains (released (swept_writer state.world)) region ↔ (Contains z.0 region × (Names z.1 region → ⊥)))
        (λ i. (same_dropped i, same_forest i))
        (here (λ w. AreFoundFree (swept_writer w).generations → Contains (released (swept_writer w)) region
        ↔ (Contains (swept_writer w).desk.dropped region × (Names (current_forest (swept_writer w).generations) region → ⊥)))
        (λ free. free_passes_release_all pool most_passes xs k.led.legal free region) free);
    rising = (subst (λ (w : World). DropsOnce w.writer) swept_leads.leads
        (regions_are_dropped_once pool most_passes (xs ++ (run_events state.world (sweeps h.generations)).entries) swept_leads.legal)).released;
  }

  pub lawful : IsLawful pool xs state
  lawful = record {
    led = record { legal = k.led.legal; leads = k.led.leads; rests = k.rests };
    shows = shows;
    tells = tells;
    reaps = reaps;
  }
