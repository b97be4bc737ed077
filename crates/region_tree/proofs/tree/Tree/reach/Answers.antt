use Rattle.std.proofs.Common.{◌∙◌, sym, ap, filter}
use Rattle.mem_base.specs.map.Order.{ids_of}
use Rattle.mem_base.specs.map.Touched.{is_reached_from}
use Rattle.region_tree.proofs.PickedLaws.{none_reached}
use Rattle.region_tree.proofs.tree.Tree.reach.Goals as goal

pub returns-in-None : goal.returns-in-None
returns-in-None c =
    let f = c.args.self.now in
    c.new.ensures.items ∙ sym (ap (λ o. ids_of (filter (λ n. is_reached_from f.nodes o n.id) f.nodes)) (sym c.root.ensures ∙ c.in-None.is)
    ∙ none_reached f.nodes f.nodes)
