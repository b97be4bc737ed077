use Rattle.std.proofs.Common.{◌≡◌, Ok, ℤ, rules, subst, w32}
use Rattle.std.proofs.lemmas.Int.{to_z-of_z}
use Rattle.mem_base.specs.declared.map.forests.Forest.{Forest}
use Rattle.mem_base.specs.declared.map.calls.Call.TheVariants.{Add}
use Rattle.mem_base.specs.map.Calls.{after}
use Rattle.vobrekan.proofs.maps.Map.add.Goals as goal

pub returns : goal.returns
returns c =
    let done = subst (λ (z : ℤ). after c.self.inside.tree (Add c.args.parent c.args.offset c.args.child z) ≡ Ok c.apply.new.self)
    (to_z-of_z w32 c.args.priority c.ranges.priority) c.in_ok-apply.ensures.applied.0 in
    record {
      done = subst (λ (f : Forest). after f (Add c.args.parent c.args.offset c.args.child c.args.priority) ≡ Ok c.apply.new.self) c.self.view_is done;
      refused = search rules;
      unchanged = search rules;
    }
