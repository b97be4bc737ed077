use Rattle.std.proofs.Common.{ap, sym, ◌∙◌}
use Rattle.mem_base.specs.script.Tasks.{region_named}
use Rattle.mem_base.specs.script.States as states
use Rattle.run_laws.proofs.Naming.{regions_agree}
use Rattle.script_map.specs.Left.{Left, left_state}
use Rattle.script_map.proofs.maps.ScriptMap.region.Goals as goal

pub returns : goal.returns
returns c =
    c.region.ensures ∙ ap (λ k. region_named k c.args.name.now) c.known.ensures
    ∙ sym (regions_agree c.self.inside.session.known c.self.inside.session.world c.self.invariant.names c.args.name.now)
    ∙ ap (λ (m : Left). states.region_named (left_state m) c.args.name.now) c.self.view_is
