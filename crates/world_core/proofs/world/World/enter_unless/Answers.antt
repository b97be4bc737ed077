use Rattle.std.proofs.Common.{rules, ◌≡◌, true, sym, ap, ◌∙◌}
use Rattle.std.specs.Prelude.{is_some}
use Rattle.mem_base.specs.declared.machine.events.Event.TheVariants as events
use Rattle.mem_base.specs.machine.Passes.{pass_of}
use Rattle.mem_base.specs.machine.World.{World, possible}
use Rattle.mem_base.specs.machine.Composites.{enters}
use Rattle.world_core.specs.Worlds.{after_events}
use Rattle.world_core.proofs.AccessLaws.{inside_of}
use Rattle.world_laws.proofs.PassKeeping.{entered_by}
use Rattle.world_core.proofs.world.World.enter_unless.Goals as goal

pub returns-then-not-entered-clause-inside : goal.returns-then-not-entered-clause-inside
returns-then-not-entered-clause-inside c =
    let w : World = c.args.self.now in
    let v : World = c.enter.new.self in
    let may : possible w (events.Look c.args.pass) ≡ true = search rules in
    let is : after_events w (enters c.args.pass) ≡ v = search rules in
    inside_of v c.args.pass c.is_reached-then-not-entered.ensures
    (ap (λ (u : World). is_some (pass_of u.passes c.args.pass).entered) (sym is) ∙ entered_by w c.args.pass may)

pub returns-else-not-entered-clause-inside : goal.returns-else-not-entered-clause-inside
returns-else-not-entered-clause-inside c =
    let some : is_some (pass_of c.args.self.now.passes c.args.pass).entered ≡ true = search rules in
    inside_of c.args.self.now c.args.pass c.is_reached.ensures some
