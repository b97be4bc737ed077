use Rattle.std.proofs.Common.{rules, ◌≡◌, ℕ, List, [], ◌∷◌, length, Some, None, ap, subst, ◌∙◌}
use Rattle.mem_base.specs.declared.map.ids.RegionId.{RegionId}
use Rattle.mem_base.specs.declared.map.forests.Forest.{Forest}
use Rattle.mem_base.specs.declared.access.cells.Place.{Place}
use Rattle.mem_base.specs.declared.machine.events.HistoryEntry.{HistoryEntry}
use Rattle.mem_base.specs.map.Forest.{IsMade}
use Rattle.mem_base.specs.access.Places.{notifiers_place}
use Rattle.mem_base.specs.access.PlacesByRegion.{place_in}
use Rattle.mem_base.specs.machine.Generations.{Generations}
use Rattle.mem_base.specs.machine.Orders.{load_refusal, loads}
use Rattle.writer_desk.proofs.HandedOn.{AreDeskPlaces, BackedState, all_places}
use Rattle.writer_hand.specs.Entries.{entries_with, at}
use Rattle.writer_run.proofs.MadeLaws.{region_of_place, more_places}
use Rattle.writer_run.proofs.WordLaws.{within, room, never, loaded, loads_keep, still}
use Rattle.writer_run.proofs.words.load_bytes.Goals as goal

pub load_words-requires-clause-within : goal.load_words-requires-clause-within
load_words-requires-clause-within g c =
    let gens : Generations = g.H.Writing.generations c.args.hand.now in
    let words : ℕ = g.H.Writing.words c.args.hand.now in
    let told : List Place = all_places c.backed-backed.result.now.backing in
    let are : told ≡ all_places c.args.desk.now.listened.backed.backing = ap (λ (b : BackedState). all_places b.backing) c.backed-backed.ensures in
    let found : place_in c.args.desk.now.listened.backed.backing.places c.args.region ≡ Some c.in-Some-place_of.place = search rules in
    within c.args.desk.now gens words c.requires.parts _ told are c.knows_places.ensures c.args.region c.in-Some-place_of.place found

pub load_words-requires-clause-inside : goal.load_words-requires-clause-inside
load_words-requires-clause-inside g c =
    let gens : Generations = g.H.Writing.generations c.args.hand.now in
    let words : ℕ = g.H.Writing.words c.args.hand.now in
    let f : Forest = c.args.desk.now.listened.backed.desk.state.forest in
    let told : List Place = all_places c.backed-backed.result.now.backing in
    let are : told ≡ all_places c.args.desk.now.listened.backed.backing = ap (λ (b : BackedState). all_places b.backing) c.backed-backed.ensures in
    let fit : AreDeskPlaces f told = subst (λ (b : BackedState). AreDeskPlaces b.desk.state.forest told) c.backed-backed.ensures c.knows_places.ensures in
    let found : place_in c.args.desk.now.listened.backed.backing.places c.args.region ≡ Some c.in-Some-place_of.place = search rules in
    let made : IsMade f = search rules in
    let none : load_refusal f c.args.region c.args.offset (length c.args.bytes.now) ≡ None = search rules in
    room c.args.desk.now gens words c.requires.parts f told are fit made c.args.region c.args.offset (length c.args.bytes.now)
    none c.in-Some-place_of.place found

pub unreachable-requires : goal.unreachable-requires
unreachable-requires g c =
    let gens : Generations = g.H.Writing.generations c.args.hand.now in
    let words : ℕ = g.H.Writing.words c.args.hand.now in
    let f : Forest = c.args.desk.now.listened.backed.desk.state.forest in
    let told : List Place = all_places c.backed-backed.result.now.backing in
    let are : told ≡ all_places c.args.desk.now.listened.backed.backing = ap (λ (b : BackedState). all_places b.backing) c.backed-backed.ensures in
    let fit : AreDeskPlaces f told = subst (λ (b : BackedState). AreDeskPlaces b.desk.state.forest told) c.backed-backed.ensures c.knows_places.ensures in
    let found : place_in c.args.desk.now.listened.backed.backing.places c.args.region ≡ None = search rules in
    let made : IsMade f = search rules in
    let none : load_refusal f c.args.region c.args.offset (length c.args.bytes.now) ≡ None = search rules in
    never c.args.desk.now gens words c.requires.parts f told are fit made c.args.region c.args.offset
    (length c.args.bytes.now) none found

pub returns-clause-turn : goal.returns-clause-turn
returns-clause-turn g c =
    let gens : Generations = g.H.Writing.generations c.args.hand.now in
    let words : ℕ = g.H.Writing.words c.args.hand.now in
    let p : Place = c.in-Some-place_of.place in
    let makes : List HistoryEntry → Type 0 = λ xs. g.H.Writing.makes c.args.hand.now xs c.load_words.new.hand in
    let f : Forest = c.args.desk.now.listened.backed.desk.state.forest in
    let found : place_in c.args.desk.now.listened.backed.backing.places c.args.region ≡ Some p = search rules in
    let none : load_refusal f c.args.region c.args.offset (length c.args.bytes.now) ≡ None = search rules in
    let replies : List ℕ = c.load_words.ensures.0 in
    let made : makes (entries_with (at p) (loads c.args.region c.args.offset c.args.bytes.now) replies) =
    subst (λ (r : RegionId). makes (entries_with (at p) (loads r c.args.offset c.args.bytes.now) replies))
    (region_of_place c.args.desk.now.listened.backed.backing.places c.args.region p found) c.load_words.ensures.1 in
    let left = g.met.H.Writing.leaves c.args.hand.now c.load_words.new.hand (entries_with (at p)
    (loads c.args.region c.args.offset c.args.bytes.now) replies) made in
    loaded c.args.desk.now gens words c.requires.parts c.args.region c.args.offset c.args.bytes.now p found
    (more_places c.args.desk.now.listened.backed.backing.places (notifiers_place c.args.desk.now.listened.backed.backing.pool_words ∷ [])
    c.args.region p found) none makes replies made
    (g.H.Writing.generations c.load_words.new.hand) (left.0 ∙ loads_keep p c.args.region c.args.offset c.args.bytes.now replies gens)

pub returns-clause-parts : goal.returns-clause-parts
returns-clause-parts g c =
    let gens : Generations = g.H.Writing.generations c.args.hand.now in
    let words : ℕ = g.H.Writing.words c.args.hand.now in
    let p : Place = c.in-Some-place_of.place in
    let replies : List ℕ = c.load_words.ensures.0 in
    let left = g.met.H.Writing.leaves c.args.hand.now c.load_words.new.hand _ c.load_words.ensures.1 in
    still c.args.desk.now gens words c.requires.parts (g.H.Writing.generations c.load_words.new.hand)
    (g.H.Writing.words c.load_words.new.hand) (left.0 ∙ loads_keep p p.region c.args.offset c.args.bytes.now replies gens) left.1
