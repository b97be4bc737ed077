use Rattle.std.proofs.Common.{rules, ◌≡◌, [], ◌∷◌, ◌++◌, subst}
use Rattle.mem_base.specs.map.Calls.{after, after_all, left_by}
use Rattle.transact.proofs.SpareLaws.{one_more_call}
use Rattle.transact.proofs.spare.Spare.with_call.Goals as goal

pub returns-in-Ok : goal.returns-in-Ok
returns-in-Ok c =
    let more : c.push.new.self.items ≡ c.self.inside.missing.items ++ c.args.call.now ∷ [] = search rules in
    subst (λ f. after_all c.self.inside.tree c.push.new.self.items ≡ left_by f (after f c.args.call.now)) c.self.view_is
    (one_more_call c.self.inside.tree c.self.inside.missing.items c.push.new.self.items c.args.call.now more)
