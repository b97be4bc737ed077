use Rattle.std.proofs.Common.{ℕ, length, refl, subst}
use Rattle.mem_base.specs.declared.map.ids.RegionId.{RegionId}
use Rattle.mem_base.specs.access.AccessSteps.{reading}
use Rattle.mem_base.specs.access.MemoryAccess.{on_words}
use Rattle.generation.specs.Published.{Published}
use Rattle.access_run.specs.Runs.{HasDone}
use Rattle.access_run.specs.RegionPlaces.{IsMemoryOf}
use Rattle.access_run.proofs.WordLaws.{asked_memory}
use Rattle.access_run.proofs.words.WordsAnswering.read_memory.Goals as goal

pub returns : goal.returns
returns g c =
    let hand = c.args.self.now.hand.now in
    let n : ℕ = length c.args.out.now in
    let m : IsMemoryOf (g.H.Entered.shows hand) c.args.region c.memory_of-place.result =
    subst (λ (z : Published). IsMemoryOf z c.args.region c.memory_of-place.result) c.generation.ensures c.memory_of-place.ensures in (
      refl,
      asked_memory g.H.Entered.makes (g.H.Entered.pass hand) (g.H.Entered.shows hand).forest hand c.read.new.hand c.args.region c.args.offset n c.read.new.out
          (subst (λ (r : RegionId). HasDone g.H.Entered.makes (g.H.Entered.pass hand) hand (on_words r c.args.offset (reading n)) c.read.new.out c.read.new.hand)
          m.region c.read.ensures),
    )
