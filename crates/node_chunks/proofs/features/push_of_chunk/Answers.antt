use Rattle.std.proofs.Common.{rules, ◌≡◌, false, ◌++◌, sym, ap, ◌∙◌}
use Rattle.std.proofs.lemmas.List.{append-nil}
use Rattle.mem_base.specs.map.Chunks.{any_events}
use Rattle.node_chunks.proofs.FeatureLaws.{noted_none}
use Rattle.node_chunks.proofs.features.push_of_chunk.Goals as goal

pub returns-then-not-has_events : goal.returns-then-not-has_events
returns-then-not-has_events c =
    let list = c.args.list.now.items in
    let none : any_events c.args.chunk.now ≡ false = search rules in
    sym (ap (λ l. list ++ l) (noted_none c.args.chunk.now none) ∙ append-nil list)
