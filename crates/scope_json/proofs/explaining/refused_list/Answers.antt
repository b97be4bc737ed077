use Rattle.std.proofs.Common.{◌∷◌, ◌++◌, ◌∙◌, [], ap}
use Rattle.serde_json.specs.Data.{Data}
use Rattle.json_build.specs.Held.{values}
use Rattle.scope_json.specs.Explains.{refused_data}
use Rattle.scope_json.proofs.Lists.{map_next}
use Rattle.scope_json.proofs.explaining.refused_list.Goals as goal

pub loop-one-preserved : goal.loop-one-preserved
loop-one-preserved c =
    let added = c.in_ok-push.ensures ∙ ap (λ (d : Data). values c.loop-one.items ++ d ∷ []) c.in_ok-value.ensures in
    map_next refused_data c.args.refused.now c.loop-one.one-index c.one-item.result c.one-item.result (values c.loop-one.items)
    (values c.push.new.self) _ c.loop-one-test.true c.one-item.is added c.loop-one.invariant
