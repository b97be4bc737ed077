use Rattle.std.proofs.Common.{◌≡◌, ℕ, ◌∙◌, ap, subst, [], ◌∷◌}
use Rattle.mem_base.specs.declared.access.cells.Place.{Place}
use Rattle.mem_base.specs.declared.access.cells.WordStep.TheVariants.{Take}
use Rattle.mem_base.specs.access.Places.{notifiers_place}
use Rattle.mem_base.specs.machine.Generations.{Generations}
use Rattle.writer_desk.proofs.HandedOn.{BackedState, all_places}
use Rattle.writer_hand.specs.Hands.{word_entry}
use Rattle.writer_run.proofs.WordLaws.{taken}
use Rattle.writer_run.proofs.words.notified.Goals as goal

pub returns-clause-turn : goal.returns-clause-turn
returns-clause-turn g c =
    let gens : Generations = g.H.Writing.generations c.args.hand.now in
    let np : Place = notifiers_place c.args.desk.now.listened.backed.backing.pool_words in
    let is : c.last_of-place.result ≡ np = c.last_of-place.ensures c.args.desk.now.listened.backed.backing.places np
    (c.places.ensures.places ∙ ap (λ (b : BackedState). all_places b.backing) c.backed.ensures) in
    let made : g.H.Writing.makes c.args.hand.now (word_entry np c.args.number Take c.take.result ∷ []) c.take.new.self =
    subst (λ (x : Place × ℕ). g.H.Writing.makes c.args.hand.now (word_entry x.0 x.1 Take c.take.result ∷ []) c.take.new.self)
    (λ i. (is i, c.number.ensures.value i)) c.take.ensures in
    let left = g.met.H.Writing.leaves c.args.hand.now c.take.new.self (word_entry np c.args.number Take c.take.result ∷ []) made in
    taken c.args.desk.now gens (g.H.Writing.words c.args.hand.now) c.requires.parts c.args.number c.take.result
    (g.H.Writing.generations c.take.new.self) (λ xs. g.H.Writing.makes c.args.hand.now xs c.take.new.self) made left.0
