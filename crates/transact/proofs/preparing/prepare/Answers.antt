use Rattle.std.proofs.Common.{◌≡◌, List, map, sym, ap, subst, ◌∙◌}
use Rattle.std.specs.Arc.{arc_value}
use Rattle.mem_base.specs.declared.access.cells.Place.{Place}
use Rattle.mem_base.specs.access.EditionPlaces.{IsEdition}
use Rattle.mem_base.specs.machine.Desk.{shown_places}
use Rattle.generation.specs.Published.{views_of}
use Rattle.transact.specs.Preparing.{places_or}
use Rattle.transact.proofs.PlacedLaws.{edition_of, ascending_of}
use Rattle.transact.proofs.preparing.prepare.Goals as goal

pub shown_places-requires-clause-views : goal.shown_places-requires-clause-views
shown_places-requires-clause-views g c =
    ap (λ atlases. map (λ p. (p.0, arc_value p.1)) atlases) c.as_slice.ensures.value ∙ c.in_ok-atlases.ensures.atlases ∙ ap views_of
    (sym c.in_ok-forest.ensures.forest)

pub generation_after-requires-clause-edition : goal.generation_after-requires-clause-edition
generation_after-requires-clause-edition g c =
    let places : List Place = places_or c.args.current.now c.in_ok-places.places in
    let list : places ≡ shown_places c.args.tree.now c.args.places.now = c.in_ok-places.ensures
    ∙ ap (λ f. shown_places f c.args.places.now) c.in_ok-forest.ensures.forest in
    subst (λ f. IsEdition f places) (sym c.in_ok-forest.ensures.forest)
    (edition_of c.args.tree.now c.args.places.now places c.requires.made c.requires.places list)

pub generation_after-requires-clause-ascending : goal.generation_after-requires-clause-ascending
generation_after-requires-clause-ascending g c =
    let places : List Place = places_or c.args.current.now c.in_ok-places.places in
    let list : places ≡ shown_places c.args.tree.now c.args.places.now = c.in_ok-places.ensures
    ∙ ap (λ f. shown_places f c.args.places.now) c.in_ok-forest.ensures.forest in
    ascending_of c.args.tree.now c.args.places.now places c.requires.places list
