use Rattle.std.proofs.Common.{rules, ◌≡◌, ◌==◌, sym, ap, ◌∙◌}
use Rattle.std.specs.Prelude.{find, option_map}
use Rattle.std.specs.Arc.{arc_value}
use Rattle.mem_base.specs.map.Search.{root_of}
use Rattle.mem_base.specs.views.Flattened.{view_of}
use Rattle.generation.proofs.ShownLaws.{atlas_is, some_found, none_found}
use Rattle.generation.proofs.generation.Generation.shared_atlas.Goals as goal

pub returns-in-Some-clause-none : goal.returns-in-Some-clause-none
returns-in-Some-clause-none c =
    let f = c.self.inside.forest in
    let same : f ≡ c.args.self.now.forest = search rules in
    let from = c.in-Some.ensures ∙ ap (λ atlases. option_map (λ p. arc_value p.1) (find (λ p. p.0.0 == c.args.space.0) atlases)) c.as_slice.ensures.value
    ∙ atlas_is arc_value f c.args.space c.self.inside.atlases.items c.self.invariant.views in
    let there = some_found (arc_value c.in-Some.atlas.now) (view_of f c.args.space) (root_of f c.args.space) from in
    (λ e. cc, λ e. absurd (there.1 (ap (λ f. root_of f c.args.space) same ∙ e)))

pub returns-in-Some-clause-some : goal.returns-in-Some-clause-some
returns-in-Some-clause-some c =
    let f = c.self.inside.forest in
    let same : f ≡ c.args.self.now.forest = search rules in
    let from = c.in-Some.ensures ∙ ap (λ atlases. option_map (λ p. arc_value p.1) (find (λ p. p.0.0 == c.args.space.0) atlases)) c.as_slice.ensures.value
    ∙ atlas_is arc_value f c.args.space c.self.inside.atlases.items c.self.invariant.views in
    (some_found (arc_value c.in-Some.atlas.now) (view_of f c.args.space) (root_of f c.args.space) from).0 ∙ ap (λ f. view_of f c.args.space) same

pub returns-in-None-clause-none : goal.returns-in-None-clause-none
returns-in-None-clause-none c =
    let f = c.self.inside.forest in
    let same : f ≡ c.args.self.now.forest = search rules in
    let from = c.in-None.ensures ∙ ap (λ atlases. option_map (λ p. arc_value p.1) (find (λ p. p.0.0 == c.args.space.0) atlases)) c.as_slice.ensures.value
    ∙ atlas_is arc_value f c.args.space c.self.inside.atlases.items c.self.invariant.views in
    (λ e. sym (ap (λ f. root_of f c.args.space) same) ∙ none_found (view_of f c.args.space) (root_of f c.args.space) from, λ e. cc)
