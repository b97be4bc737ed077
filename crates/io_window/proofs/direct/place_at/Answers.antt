use Rattle.std.proofs.Common.{◌≡◌, Some, None, true, sym, ap, ◌∙◌}
use Rattle.mem_base.specs.map.Region.{node_of}
use Rattle.mem_base.specs.access.PlacesByRegion.{place_in}
use Rattle.mem_base.specs.access.Windows.{is_direct_kind, is_direct_node}
use Rattle.io_window.proofs.DirectLaws.{direct_placed, direct_memory}
use Rattle.io_window.proofs.direct.place_at.Goals as goal

pub returns-in_default-place_of : goal.returns-in_default-place_of
returns-in_default-place_of c =
    let g = c.args.g.now in
    let spot = c.args.spot.now in
    let n = c.in-Some.node.now in
    let is : node_of g.forest.nodes spot.leaf ≡ Some n = c.in-Some.ensures.some in
    let none : place_in g.places spot.leaf ≡ None = sym c.place_of.ensures.value ∙ c.in_default-place_of.is in
    let direct : is_direct_kind n.kind c.args.write spot.attrs ≡ true = sym c.is_direct_kind.ensures ∙ c.if-not-is_direct_kind.false in
    absurd (direct_placed g c.place_of.ensures.shown spot.leaf n c.requires.named is c.args.write spot.attrs direct none)

pub returns : goal.returns
returns c =
    let g = c.args.g.now in
    let spot = c.args.spot.now in
    let n = c.in-Some.node.now in
    let is : node_of g.forest.nodes spot.leaf ≡ Some n = c.in-Some.ensures.some in
    let found : place_in g.places spot.leaf ≡ Some c.in-Some-place_of.place = sym c.place_of.ensures.value ∙ c.in-Some-place_of.is in
    let direct : is_direct_kind n.kind c.args.write spot.attrs ≡ true = sym c.is_direct_kind.ensures ∙ c.if-not-is_direct_kind.false in (
      ap (λ o. is_direct_node o c.args.write spot.attrs) is ∙ direct,
      direct_memory g c.place_of.ensures.shown spot n c.requires.named is c.args.write direct c.in-Some-place_of.place found,
    )
