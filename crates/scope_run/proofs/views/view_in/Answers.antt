use Rattle.std.proofs.Common.{rules, ◌≡◌, ◌∙◌, None, sym}
use Rattle.mem_base.specs.map.Search.{root_of}
use Rattle.map_laws.proofs.FlattenedLaws.{view_of-no_space}
use Rattle.scope_run.proofs.views.view_in.Goals as goal

pub returns-in-None : goal.returns-in-None
returns-in-None c =
    let f = c.args.generation.now.forest in
    let gone : root_of f c.args.space ≡ None = search rules in
    c.new-in-None-2.ensures ∙ c.new-in-None.ensures.items ∙ sym (view_of-no_space f c.args.space gone)
