use Rattle.std.proofs.Common.{ltb, not, length, sym, ap, ◌∙◌}
use Rattle.mem_base.specs.declared.map.ids.RegionId.{RegionId}
use Rattle.std.specs.Prelude.{List, nat_lt}
use Rattle.transact.proofs.EventLaws.{some_listed, not_empty}
use Rattle.transact.proofs.preparing.some_events.Goals as goal

pub returns : goal.returns
returns c =
    ap not c.is_empty.ensures ∙ not_empty c.args.with_events.now ∙ ap (λ (rs : List RegionId). ltb 0 (length rs)) c.requires.events
    ∙ sym (some_listed (λ n. nat_lt 0 (length n.events)) c.args.forest.now.nodes)
