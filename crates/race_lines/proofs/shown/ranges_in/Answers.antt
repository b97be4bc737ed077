use Rattle.std.proofs.Common.{rules, ◌≡◌, None, sym}
use Rattle.mem_base.specs.map.Search.{root_of}
use Rattle.map_laws.proofs.FlattenedLaws.{view_of-no_space}
use Rattle.race_lines.proofs.shown.ranges_in.Goals as goal

pub returns-in-None : goal.returns-in-None
returns-in-None c =
    let f = c.args.generation.now.forest in
    let gone : root_of f c.args.space ≡ None = search rules in
    sym (view_of-no_space f c.args.space gone)
