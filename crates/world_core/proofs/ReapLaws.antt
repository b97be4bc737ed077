-- The dropped regions that are released by one event.
use Rattle.std.proofs.Common.{◌≡◌, ℕ, true, List, [], ◌∷◌, filter, sym, ap, subst, ◌∙◌}
use Rattle.std.specs.Prelude.{not}
use Rattle.mem_base.specs.declared.map.ids.RegionId.{RegionId}
use Rattle.mem_base.specs.declared.machine.events.Event.TheVariants as events
use Rattle.mem_base.specs.access.Cells.{Block}
use Rattle.mem_base.specs.access.Places.{notifiers_place}
use Rattle.mem_base.specs.machine.Generations.{least_lowest}
use Rattle.mem_base.specs.machine.Reaps.{writer, is_named, is_among}
use Rattle.mem_base.specs.machine.World.{World, world, possible, world_after}
use Rattle.kept_generations.specs.KeptState.{KeptState, generations_of}
use Rattle.place_words.proofs.CellLaws.{fewer_keep}
use Rattle.writer_desk.specs.Listened.{ListenedState, resting}
use Rattle.writer_desk.specs.Writers.{desk_of}
use Rattle.writer_hand.specs.Hands.{is_named_from}
use Rattle.writer_run.specs.Reaped.{without_regions}
use Rattle.world_hand.specs.Reached.{IsReached}
use Rattle.world_core.specs.Worlds.{aside, filled_beside, filled_world, unswept, IsFilledWorld}
use Rattle.world_core.proofs.ReachedLaws.{reached_after}
use Rattle.world_core.proofs.WordLaws.{apart}

module _ (s : ListenedState) (k : KeptState) (ws : List ℕ) (dropped : List RegionId) (h : IsFilledWorld (resting s) k ws dropped) where
  abbrev here : World
  here = filled_world (resting s) k ws dropped

  -- the regions that are released, and those that stay dropped
  abbrev gone : List RegionId
  gone = filter (λ r. not (is_named (generations_of k) r)) dropped

  abbrev stays : List RegionId
  stays = filter (is_named (generations_of k)) dropped

  then_is : filled_world (resting (without_regions s gone)) (unswept k) ws stays ≡ world_after here events.Reap
  then_is = ap (λ (bs : List Block). world
      (writer (desk_of (resting (without_regions s gone)) (filled_beside stays (unswept k).swept)) (generations_of k)) k.states bs)
      (sym (fewer_keep ws (λ p. not (is_among gone p.region)) s.backed.backing.places (notifiers_place s.backed.backing.pool_words ∷ [])
      (apart (resting s) k ws (aside dropped []) h)))

  pub record IsReleased (e : ListenedState) (l : KeptState) (rs : List RegionId) : Type 0 where
    pub world : IsFilledWorld (resting e) l ws rs
    pub is : filled_world (resting e) l ws rs ≡ world_after here events.Reap

  released : possible here events.Reap ≡ true → IsReleased (without_regions s gone) (unswept k) stays
  released may = record {
    world = record {
      reached = subst IsReached (sym then_is) (reached_after here events.Reap h.reached may);
      current = h.current;
      number = h.number;
      ready = tt;
      wide = h.wide;
    };
    is = then_is;
  }

  pub released_by : possible here events.Reap ≡ true → (lowest : ℕ) → lowest ≡ least_lowest k.current k.tracks → (e : ListenedState)
      → e ≡ without_regions s (filter (λ r. not (is_named_from (generations_of k) lowest r)) dropped)
      → (rs : List RegionId) → rs ≡ filter (is_named_from (generations_of k) lowest) dropped → (l : KeptState) → l ≡ unswept k → IsReleased e l rs
  released_by may lowest low e places rs stay l flags =
      let places_are : e ≡ without_regions s gone =
      places ∙ ap (λ (n : ℕ). without_regions s (filter (λ r. not (is_named_from (generations_of k) n r)) dropped)) low in
      let stays_are : rs ≡ stays = stay ∙ ap (λ (n : ℕ). filter (is_named_from (generations_of k) n) dropped) low in
      subst (λ (z : ListenedState × KeptState × List RegionId). IsReleased z.0 z.1 z.2)
      (λ i. (sym places_are i, sym flags i, sym stays_are i)) (released may)
