use Rattle.std.proofs.Common.{rules, ◌≡◌, None, List, Option, sym, ap, subst, ◌∙◌, length}
use Rattle.mem_base.specs.declared.map.ids.RegionId.{RegionId}
use Rattle.mem_base.specs.declared.access.cells.Cell.{Cell}
use Rattle.mem_base.specs.declared.machine.events.Event.TheVariants as events
use Rattle.mem_base.specs.lists.Every.{Every}
use Rattle.mem_base.specs.map.Region.{node_of}
use Rattle.mem_base.specs.machine.World.{World, possible, world_after}
use Rattle.kept_generations.specs.KeptState.{generations_of}
use Rattle.transact.specs.Preparing.{Readied}
use Rattle.transact.specs.Backed.{forest_at}
use Rattle.writer_run.proofs.ReapLaws.{none_there}
use Rattle.world_core.specs.Worlds.{aside, state_with, world_of, IsWorld}
use Rattle.world_core.proofs.ReapLaws.{IsReleased, released_by}
use Rattle.world_core.proofs.RestLaws.{Rested, parts_of, rested}
use Rattle.world_core.proofs.world.World.release_dropped.Goals.{After-unsweep}
use Rattle.world_core.proofs.world.World.release_dropped.Goals as goal
use Rattle.std.proofs.lemmas.Bool.{and_parts}

pub release_unnamed-requires : goal.release_unnamed-requires
release_unnamed-requires c =
    let s = c.self.inside in record {
      gone = subst (λ (rs : List RegionId). Every (λ r. node_of (forest_at s.desk.listened.backed).nodes r ≡ None) rs) (sym c.as_slice.ensures.value)
          (none_there s.desk (generations_of s.hand.kept) (length s.hand.words)
          (parts_of s c.args.self.now c.self.invariant c.self.view_is (and_parts _ _ c.requires).0));
    }

start : (c : After-unsweep) → Rested c.self.inside c.args.self.now
start c = rested c.self.inside c.args.self.now c.self.invariant c.self.view_is (and_parts _ _ c.requires).0

releases : (c : After-unsweep) → IsReleased c.self.inside.desk.listened c.self.inside.hand.kept c.self.inside.hand.words c.self.inside.desk.dropped.items
    (start c).world c.release_unnamed.new.desk c.unsweep.new.self c.keep_named.new.regions.items
releases c =
    let s = c.self.inside in
    released_by s.desk.listened s.hand.kept s.hand.words s.desk.dropped.items (start c).world
    (ap (λ (w : World). possible w events.Reap) (start c).view ∙ c.requires) c.lowest-lowest.result c.lowest-lowest.ensures
    c.release_unnamed.new.desk (search rules) c.keep_named.new.regions.items (search rules) c.unsweep.new.self c.unsweep.ensures

pub invariant_of-self : goal.invariant_of-self
invariant_of-self c =
    subst (λ (z : Option Readied × List Cell). IsWorld (state_with c.release_unnamed.new.desk z.0) c.unsweep.new.self c.self.inside.hand.words
    (aside c.keep_named.new.regions.items z.1)) (λ i. (sym (start c).none_due i, sym (start c).none_left i)) (releases c).world

pub returns : goal.returns
returns c =
    (λ i. world_of (state_with c.release_unnamed.new.desk ((start c).none_due i)) c.unsweep.new.self c.self.inside.hand.words
    (aside c.keep_named.new.regions.items ((start c).none_left i)))
    ∙ (releases c).is ∙ ap (λ (w : World). world_after w events.Reap) (start c).view
