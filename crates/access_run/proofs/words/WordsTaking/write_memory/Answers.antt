use Rattle.std.proofs.Common.{[], refl, sym, subst}
use Rattle.mem_base.specs.declared.map.ids.RegionId.{RegionId}
use Rattle.mem_base.specs.access.AccessSteps.{writing}
use Rattle.mem_base.specs.access.MemoryAccess.{on_words}
use Rattle.generation.specs.Published.{Published}
use Rattle.access_run.specs.Runs.{HasDone, TakesAll}
use Rattle.access_run.specs.RegionPlaces.{IsMemoryOf}
use Rattle.access_run.proofs.WordLaws.{asked_written}
use Rattle.access_run.proofs.words.WordsTaking.write_memory.Goals as goal

pub write-requires-clause-takes : goal.write-requires-clause-takes
write-requires-clause-takes g c =
    let hand = c.args.self.now.hand.now in
    let m : IsMemoryOf (g.H.Entered.shows hand) c.args.region c.memory_of-place.result =
    subst (λ (z : Published). IsMemoryOf z c.args.region c.memory_of-place.result) c.generation.ensures c.memory_of-place.ensures in
    subst (λ (r : RegionId). TakesAll (g.H.Writes.takes hand) (on_words r c.args.offset (writing c.args.bytes.now))) (sym m.region) c.requires.takes

pub returns : goal.returns
returns g c =
    let hand = c.args.self.now.hand.now in
    let m : IsMemoryOf (g.H.Entered.shows hand) c.args.region c.memory_of-place.result =
    subst (λ (z : Published). IsMemoryOf z c.args.region c.memory_of-place.result) c.generation.ensures c.memory_of-place.ensures in (
      refl,
      asked_written g.H.Entered.makes (g.H.Entered.pass hand) (g.H.Entered.shows hand).forest hand c.write.new.hand c.args.region c.args.offset c.args.bytes.now
          (subst (λ (r : RegionId). HasDone g.H.Entered.makes (g.H.Entered.pass hand) hand (on_words r c.args.offset (writing c.args.bytes.now)) []
          c.write.new.hand) m.region c.write.ensures),
    )
