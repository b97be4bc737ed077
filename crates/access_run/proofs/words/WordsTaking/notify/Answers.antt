use Rattle.std.proofs.Common.{[], ◌∷◌, refl, subst}
use Rattle.mem_base.specs.declared.map.ids.RegionId.{RegionId}
use Rattle.mem_base.specs.declared.access.cells.WordStep.TheVariants.{Or}
use Rattle.generation.specs.Published.{Published}
use Rattle.access_run.specs.RegionPlaces.{AreNotifiersOf}
use Rattle.access_run.proofs.WordLaws.{asked_notifier, event_of_word}
use Rattle.access_run.proofs.words.WordsTaking.notify.Goals as goal

pub write_word-requires-clause-placed : goal.write_word-requires-clause-placed
write_word-requires-clause-placed g c =
    (subst (λ (z : Published). AreNotifiersOf z c.notifiers_of-place.result) c.generation.ensures c.notifiers_of-place.ensures).placed

pub write_word-requires-clause-inside : goal.write_word-requires-clause-inside
write_word-requires-clause-inside g c = c.notifiers_of-place.ensures.words c.args.number c.requires.number

pub returns : goal.returns
returns g c =
    let hand = c.args.self.now.hand.now in
    let made = c.write_word.ensures in (
      refl,
      asked_notifier g.H.Entered.makes (g.H.Entered.pass hand) (g.H.Entered.shows hand).forest hand c.write_word.new.self c.args.number made.0
          (subst (λ (r : RegionId). g.H.Entered.makes hand (event_of_word (g.H.Entered.pass hand) r c.args.number (Or 1) ∷ []) (made.0 ∷ [])
          c.write_word.new.self) c.notifiers_of-place.ensures.region made.1),
    )
