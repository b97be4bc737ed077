use Rattle.std.proofs.Common.{◌≡◌, true, sym, ap, subst, ◌∙◌, rules}
use Rattle.mem_base.specs.declared.machine.events.Event.TheVariants as events
use Rattle.mem_base.specs.machine.World.{World, possible, world_after}
use Rattle.world_core.proofs.ReachedLaws.{may_enter}
use Rattle.world_core.specs.Worlds.{after_events}
use Rattle.world_hand.specs.Reached.{IsReached}
use Rattle.mem_base.specs.machine.Composites.{enters}
use Rattle.world_laws.proofs.PassKeeping.{enter_keeps}
use Rattle.world_core.proofs.world.World.enter.Goals as goal

pub enter_current-requires : goal.enter_current-requires
enter_current-requires c =
    let w : World = c.args.self.now in
    let here : IsReached w = c.is_reached.ensures in
    let one : c.look.new.self ≡ world_after w (events.Look c.args.pass) = c.look.ensures.world in
    let two : c.announce.new.self ≡ world_after (world_after w (events.Look c.args.pass)) (events.Announce c.args.pass) =
    c.announce.ensures ∙ ap (λ (v : World). world_after v (events.Announce c.args.pass)) one in
    subst (λ (v : World). possible v (events.Enter c.args.pass) ≡ true) (sym two) (may_enter w c.args.pass here c.requires)

pub returns-clause-keeps : goal.returns-clause-keeps
returns-clause-keeps c =
    let w : World = c.args.self.now in
    let v : World = c.enter_current.new.self in
    let is : v ≡ after_events w (enters c.args.pass) = search rules in
    enter_keeps w v c.args.pass c.requires is
