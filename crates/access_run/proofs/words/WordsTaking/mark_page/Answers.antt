use Rattle.std.proofs.Common.{[], ◌∷◌, refl, subst}
use Rattle.mem_base.specs.declared.map.ids.RegionId.{RegionId}
use Rattle.mem_base.specs.declared.machine.events.Event.TheVariants as events
use Rattle.generation.specs.Published.{Published}
use Rattle.access_run.specs.RegionPlaces.{IsMemoryOf}
use Rattle.access_run.proofs.WordLaws.{asked_mark}
use Rattle.access_run.proofs.words.WordsTaking.mark_page.Goals as goal

pub mark_page-requires-clause-inside : goal.mark_page-requires-clause-inside
mark_page-requires-clause-inside g c =
    let m : IsMemoryOf (g.H.Entered.shows c.args.self.now.hand.now) c.args.region c.memory_of-place.result =
    subst (λ (z : Published). IsMemoryOf z c.args.region c.memory_of-place.result) c.generation.ensures c.memory_of-place.ensures in
    m.pages c.args.page c.requires.inside

pub returns : goal.returns
returns g c =
    let hand = c.args.self.now.hand.now in
    let m : IsMemoryOf (g.H.Entered.shows hand) c.args.region c.memory_of-place.result =
    subst (λ (z : Published). IsMemoryOf z c.args.region c.memory_of-place.result) c.generation.ensures c.memory_of-place.ensures in (
      refl,
      asked_mark g.H.Entered.makes (g.H.Entered.pass hand) (g.H.Entered.shows hand).forest hand c.mark_page.new.self c.args.region c.args.client c.args.page
          (subst (λ (r : RegionId). g.H.Entered.makes hand (events.Mark (g.H.Entered.pass hand) r c.args.client c.args.page ∷ []) (0 ∷ [])
          c.mark_page.new.self) m.region c.mark_page.ensures),
    )
