use Rattle.std.proofs.Common.{rules, ◌≡◌, ℕ, List, ◌∷◌, [], Some, None, ap, subst, ◌∙◌}
use Rattle.mem_base.specs.declared.map.forests.Forest.{Forest}
use Rattle.mem_base.specs.declared.access.cells.Place.{Place}
use Rattle.mem_base.specs.declared.machine.events.HistoryEntry.{HistoryEntry}
use Rattle.mem_base.specs.map.Forest.{IsMade}
use Rattle.mem_base.specs.access.Places.{mark_words, notifiers_place}
use Rattle.mem_base.specs.access.PlacesByRegion.{place_in}
use Rattle.mem_base.specs.machine.Generations.{Generations}
use Rattle.mem_base.specs.machine.Orders.{harvest_refusal}
use Rattle.writer_desk.proofs.HandedOn.{AreDeskPlaces, BackedState, all_places}
use Rattle.writer_hand.specs.Hands.{AreHarvested}
use Rattle.writer_run.proofs.HarvestLaws.{harvested, harvests_keep}
use Rattle.writer_run.proofs.MadeLaws.{region_of_place, more_places}
use Rattle.writer_run.proofs.WordLaws.{within, sized, has_place, still}
use Rattle.writer_run.proofs.harvesting.harvest.Goals as goal

pub take_pages-requires-clause-within : goal.take_pages-requires-clause-within
take_pages-requires-clause-within g c =
    let gens : Generations = g.H.Writing.generations c.args.hand.now in
    let words : ℕ = g.H.Writing.words c.args.hand.now in
    let told : List Place = all_places c.backed-backed.result.now.backing in
    let are : told ≡ all_places c.args.desk.now.listened.backed.backing = ap (λ (b : BackedState). all_places b.backing) c.backed-backed.ensures in
    let found : place_in c.args.desk.now.listened.backed.backing.places c.args.region ≡ Some c.in-Some-place_of.place = search rules in
    within c.args.desk.now gens words c.requires.parts _ told are c.knows_places.ensures c.args.region c.in-Some-place_of.place found

pub take_pages-requires-clause-words : goal.take_pages-requires-clause-words
take_pages-requires-clause-words g c =
    let gens : Generations = g.H.Writing.generations c.args.hand.now in
    let words : ℕ = g.H.Writing.words c.args.hand.now in
    let f : Forest = c.args.desk.now.listened.backed.desk.state.forest in
    let told : List Place = all_places c.backed-backed.result.now.backing in
    let are : told ≡ all_places c.args.desk.now.listened.backed.backing = ap (λ (b : BackedState). all_places b.backing) c.backed-backed.ensures in
    let fit : AreDeskPlaces f told = subst (λ (b : BackedState). AreDeskPlaces b.desk.state.forest told) c.backed-backed.ensures c.knows_places.ensures in
    let found : place_in c.args.desk.now.listened.backed.backing.places c.args.region ≡ Some c.in-Some-place_of.place = search rules in
    let made : IsMade f = search rules in
    let none : harvest_refusal f c.args.region ≡ None = search rules in
    sized c.args.desk.now gens words c.requires.parts f told are fit made c.args.region none c.in-Some-place_of.place found

pub returns-in_default-place_of-clause-turn : goal.returns-in_default-place_of-clause-turn
returns-in_default-place_of-clause-turn g c =
    let gens : Generations = g.H.Writing.generations c.args.hand.now in
    let words : ℕ = g.H.Writing.words c.args.hand.now in
    let f : Forest = c.args.desk.now.listened.backed.desk.state.forest in
    let told : List Place = all_places c.backed-backed.result.now.backing in
    let are : told ≡ all_places c.args.desk.now.listened.backed.backing = ap (λ (b : BackedState). all_places b.backing) c.backed-backed.ensures in
    let fit : AreDeskPlaces f told = subst (λ (b : BackedState). AreDeskPlaces b.desk.state.forest told) c.backed-backed.ensures c.knows_places.ensures in
    let found : place_in c.args.desk.now.listened.backed.backing.places c.args.region ≡ None = search rules in
    let made : IsMade f = search rules in
    let none : harvest_refusal f c.args.region ≡ None = search rules in
    absurd (has_place c.args.desk.now gens words c.requires.parts f told are fit made c.args.region none found)

pub returns-clause-turn : goal.returns-clause-turn
returns-clause-turn g c =
    let gens : Generations = g.H.Writing.generations c.args.hand.now in
    let p : Place = c.in-Some-place_of.place in
    let makes : List HistoryEntry → Type 0 = λ xs. g.H.Writing.makes c.args.hand.now xs c.take_pages.new.hand in
    let found : place_in c.args.desk.now.listened.backed.backing.places c.args.region ≡ Some p = search rules in
    let none : harvest_refusal c.args.desk.now.listened.backed.desk.state.forest c.args.region ≡ None = search rules in
    let k : AreHarvested p c.args.client (mark_words p.bytes) makes c.take_pages.new.pages.items = c.take_pages.ensures in
    let left = g.met.H.Writing.leaves c.args.hand.now c.take_pages.new.hand _ k.made in
    λ other. harvested c.args.desk.now gens c.args.region c.args.client p
    (more_places c.args.desk.now.listened.backed.backing.places (notifiers_place c.args.desk.now.listened.backed.backing.pool_words ∷ [])
    c.args.region p found)
    (region_of_place c.args.desk.now.listened.backed.backing.places c.args.region p found) none makes c.take_pages.new.pages.items k
    (g.H.Writing.generations c.take_pages.new.hand) (left.0 ∙ harvests_keep p p.region c.args.client (mark_words p.bytes) k.replies gens)

pub returns-clause-parts : goal.returns-clause-parts
returns-clause-parts g c =
    let gens : Generations = g.H.Writing.generations c.args.hand.now in
    let words : ℕ = g.H.Writing.words c.args.hand.now in
    let p : Place = c.in-Some-place_of.place in
    let k = c.take_pages.ensures in
    let left = g.met.H.Writing.leaves c.args.hand.now c.take_pages.new.hand _ k.made in
    still c.args.desk.now gens words c.requires.parts (g.H.Writing.generations c.take_pages.new.hand)
    (g.H.Writing.words c.take_pages.new.hand) (left.0 ∙ harvests_keep p p.region c.args.client (mark_words p.bytes) k.replies gens) left.1
