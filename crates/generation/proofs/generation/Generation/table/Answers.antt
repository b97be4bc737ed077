use Rattle.std.proofs.Common.{rules, ◌≡◌, ◌+◌, Some, None, false, refl, sym, ◌∙◌, subst}
use Rattle.mem_base.specs.declared.map.forests.Forest.{Forest}
use Rattle.mem_base.specs.declared.map.forests.Node.{Node}
use Rattle.mem_base.specs.lists.Every.{Every}
use Rattle.mem_base.specs.map.Region.{node_of}
use Rattle.mem_base.specs.map.TableRefusals.{bad_page}
use Rattle.mem_base.specs.access.Translations.{translates}
use Rattle.generation.proofs.TableLaws.{none_translates, pages_made}
use Rattle.generation.proofs.generation.Generation.table.Goals as goal

pub returns-then-not-self-clause-none : goal.returns-then-not-self-clause-none
returns-then-not-self-clause-none c =
    let f : Forest = c.self.inside.forest in
    let same : f ≡ c.args.self.now.forest = search rules in
    let none = none_translates f c.args.region (sym c.self.invariant.iommu ∙ c.if-not-self.true) in
    (λ e. subst (λ (f : Forest). translates f c.args.region ≡ false) same none, λ e. refl)

pub returns-in-Iommu-clause-pages : goal.returns-in-Iommu-clause-pages
returns-in-Iommu-clause-pages c =
    let f : Forest = c.self.inside.forest in
    let n : Node = c.in_ok-node.node.now in
    let there : node_of f.nodes c.args.region ≡ Some n = c.in_ok-node.ensures.some in
    subst (Every (λ e. bad_page e.iova (e.mask + 1) ≡ None)) (sym c.as_slice.ensures.value)
    (pages_made f c.args.region n c.self.invariant.edition.made there)
