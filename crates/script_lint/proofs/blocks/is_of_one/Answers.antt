use Rattle.std.proofs.Common.{◌≡◌, ◌==◌, ◌∷◌, ◌∙◌, ap, sym, rules}
use Rattle.std.specs.List.{list_all}
use Rattle.mem_base.specs.script.Race.{actor_number}
use Rattle.script_lint.specs.Blocks.{is_of_one}
use Rattle.script_lint.proofs.blocks.is_of_one.Goals as goal

pub returns : goal.returns
returns c =
    let whole : c.args.lines.now ≡ c.in-Some.first.now ∷ c.in-Some.rest.now = search rules in
    c.are_by.ensures ∙ ap (λ n. list_all (λ other. actor_number other.1 == n) c.in-Some.rest.now) c.actor_number-who.ensures
    ∙ sym (ap is_of_one whole)
