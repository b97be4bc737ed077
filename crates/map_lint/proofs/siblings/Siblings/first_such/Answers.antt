use Rattle.std.proofs.Common.{◌≡◌, ap, map, rules, ◌∙◌}
use Rattle.std.specs.Prelude.{find, option_map}
use Rattle.map_lint.specs.Faults.{is_such}
use Rattle.map_lint.proofs.FaultLaws.{found_mapped}
use Rattle.map_lint.proofs.siblings.Siblings.first_such.Goals as goal

pub returns : goal.returns
returns c =
    let same : c.as_slice.result.now ≡ c.args.self.now.regions.items = search rules in
    λ nodes a. c.first_among.ensures ∙ found_mapped (λ m. m.now) (is_such c.args.test c.args.node.now) c.as_slice.result.now
    ∙ ap (λ ms. option_map (λ m. m.id) (find (is_such c.args.test c.args.node.now) ms)) (ap (map (λ m. m.now)) same ∙ a)
