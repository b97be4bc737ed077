use Rattle.std.proofs.Common.{rules, ◌≡◌, [], None, ap, ◌∙◌}
use Rattle.mem_base.specs.map.Search.{root_of}
use Rattle.mem_base.specs.views.Flattened.{view_of}
use Rattle.touched_spaces.proofs.ViewedLaws.{nothing_shown}
use Rattle.touched_spaces.proofs.changes.change_for.Goals as goal

pub change_from-requires-2-clause-old : goal.change_from-requires-2-clause-old
change_from-requires-2-clause-old c =
    let f = c.args.current.now.forest in
    let gone : root_of f c.args.space ≡ None = search rules in
    let none : c.new-nothing.result ≡ [] = search rules in
    let same : f ≡ c.forest-old.result.now = search rules in
    none ∙ nothing_shown f c.args.space c.forest-old.ensures.made gone ∙ ap (λ f. view_of f c.args.space) same
