-- Events of the writer that sweep a pass, hand it its copy, or make the next generation current.
use Rattle.std.proofs.Common.{◌≡◌, ℕ, ◌+◌, ◌<◌, true, false, List, ◌∷◌, map, take, Option, Some, refl, sym, ap, subst, ◌∙◌, arith}
use Rattle.std.specs.Prelude.{◌^◌}
use Rattle.std.proofs.lemmas.List.{take-map}
use Rattle.mem_base.specs.declared.machine.events.Event.{Event}
use Rattle.mem_base.specs.declared.machine.events.Event.TheVariants as events
use Rattle.mem_base.specs.map.Forest.{IsMade}
use Rattle.mem_base.specs.declared.map.forests.Forest.{Forest}
use Rattle.mem_base.specs.machine.Desk.{shown_places}
use Rattle.mem_base.specs.machine.Generations.{generation, with_placed, generations_after}
use Rattle.mem_base.specs.declared.machine.events.Carried.TheVariants.{Nothing}
use Rattle.mem_base.specs.map.PassIds.{PassId}
use Rattle.mem_base.specs.machine.Reaps.{writer}
use Rattle.mem_base.specs.machine.World.{World, world, possible, world_after}
use Rattle.generation.specs.Published.{Published}
use Rattle.mem_base.specs.machine.Publishing.{forest_in}
use Rattle.kept_generations.specs.KeptState.{KeptState, generations_of, shown_by, after_publish, with_tracks}
use Rattle.mem_base.specs.access.PlaceCells.{blocks_at}
use Rattle.transact.specs.Preparing.{Readied}
use Rattle.transact.specs.Backed.{all_places}
use Rattle.writer_desk.specs.Writers.{WriterState, writer_state, desk_of, standing, IsReady, published_with}
use Rattle.world_core.specs.Worlds.{Aside, beside, world_of, IsWorld}
use Rattle.world_hand.specs.Reached.{IsReached}
use Rattle.world_core.proofs.NumberLaws.{numbers_fit}
use Rattle.world_core.proofs.ReachedLaws.{reached_after}

module _ (d : WriterState) (k : KeptState) (ws : List ℕ) (x : Aside) (h : IsWorld d k ws x) where
  abbrev here : World
  here = world_of d k ws x

  -- an event that changes what is known of passes, or which were swept
  pub tracks_change : (l : KeptState) (e : Event) → l.kept ≡ k.kept → l.current ≡ k.current → possible here e ≡ true
      → world_of d l ws x ≡ world_after here e
      → IsWorld d l ws x
  tracks_change l e kept number may goes = record {
    reached = subst IsReached (sym goes) (reached_after here e h.reached may);
    current = ap (λ (ps : List Published). forest_in (map shown_by ps)) kept ∙ h.current;
    number = h.number ∙ sym number;
    ready = h.ready;
    wide = h.wide;
  }

  -- a copy
  pub place_is : (l : KeptState) (pass : PassId) → generations_of l ≡ generations_after (generations_of k) (events.Place pass) Nothing 0
      → l ≡ with_tracks k (generations_of l).passes → world_of d l ws x ≡ world_after here (events.Place pass)
  place_is l pass goes state = λ i. world (writer (desk_of d (beside x (state i).swept)) (goes i)) (state i).states
      (blocks_at ws (all_places d.backed.backing))

  -- a publish

  module _ (g : Readied) (due : d.due ≡ Some g) (ready : IsReady d.backed g) where
    abbrev next : World
    next = world_of (published_with d (Some g)) (after_publish k g.generation) ws x

    publish_is : next ≡ world_after here events.Publish
    publish_is =
        let places : shown_places g.generation.forest (all_places d.backed.backing) ≡ g.generation.places =
        sym (ap (λ (p : Published). p.places) ready.next) in
        let older : take 7 (map shown_by k.kept) ≡ map shown_by (take 7 k.kept) = take-map shown_by 7 k.kept in
        (λ i. world (writer (desk_of (published_with d (Some g)) (beside x k.swept))
        (record {
          current = k.current + 1;
          kept = generation g.generation.forest (sym places i) ∷ sym older i;
          passes = map (with_placed false) k.tracks;
        })) k.states (blocks_at ws (all_places d.backed.backing)))
        ∙ ap (λ (o : Option Readied). world_after (world_of (writer_state d.backed d.listening o) k ws x) events.Publish) (sym due)

    -- it has the next number
    pub next_number : g.generation.number ≡ k.current + 1
    next_number = ready.of_desk.of_desk.number ∙ ap (λ (n : ℕ). n + 1) h.number

    -- and 64 bits hold the number after it
    pub next_fits : IsMade g.generation.forest → g.generation.number + 1 < 2 ^ 64
    next_fits made =
        let stood : g.generation.forest ≡ here.writer.desk.forest = ap (λ (o : Option Readied). (standing d.backed.desk o).forest) (sym due) in
        let fits : k.current + 2 < 2 ^ 64 = numbers_fit here h.reached (subst (λ (f : Forest). IsMade f) stood made) in
        let number : g.generation.number ≡ k.current + 1 = next_number in
        omega (arith, fits, number)

    -- what is left is a world, the one after the publish
    pub record Publishes (e : WriterState) (l : KeptState) : Type 0 where
      pub world : IsWorld e l ws x
      pub is : world_of e l ws x ≡ world_after here events.Publish

    pub publishes : possible here events.Publish ≡ true → (e : WriterState) → e ≡ published_with d (Some g) → (l : KeptState)
        → l ≡ after_publish k g.generation → Publishes e l
    publishes may e is l kept = record {
      world = subst (λ (z : WriterState × KeptState). IsWorld z.0 z.1 ws x) (λ i. (sym is i, sym kept i)) record {
        reached = subst IsReached (sym publish_is) (reached_after here events.Publish h.reached may);
        current = refl;
        number = next_number;
        ready = tt;
        wide = h.wide;
      };
      is = (λ i. world_of (is i) (kept i) ws x) ∙ publish_is;
    }
