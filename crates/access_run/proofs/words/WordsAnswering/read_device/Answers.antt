use Rattle.std.proofs.Common.{ℕ, ◌+◌, false, [], ◌∷◌, None, refl, sym, subst, ◌∙◌}
use Rattle.mem_base.specs.declared.map.ids.RegionId.{RegionId}
use Rattle.mem_base.specs.access.Places.{data_words}
use Rattle.mem_base.specs.access.Plans.{answers}
use Rattle.mem_base.specs.access.AccessSteps.{tx}
use Rattle.generation.specs.Published.{Published}
use Rattle.access_reach.specs.Asking.{calls, of_device}
use Rattle.access_run.specs.WordReplies.{AsksWords}
use Rattle.access_run.specs.RegionPlaces.{AreRegistersOf}
use Rattle.access_run.proofs.WordLaws.{asked_step, asked_fault, event_of_word}
use Rattle.access_run.proofs.words.WordsAnswering.read_device.Goals as goal

pub returns-in-Step : goal.returns-in-Step
returns-in-Step g c =
    let hand = c.args.self.now.hand.now in
    let makes = g.H.Entered.makes in
    let pass = g.H.Entered.pass hand in
    let region = c.args.region in
    let place = c.registers_of.result.0 in
    let device = c.registers_of.result.1 in
    let base : ℕ = data_words place.bytes in
    let d : AreRegistersOf (g.H.Entered.shows hand) region place device =
    subst (λ (z : Published). AreRegistersOf z region place device) c.generation.ensures c.registers_of.ensures in
    let old : ℕ = c.read_word-old.result in
    let made : makes hand (event_of_word pass place.region c.register_word.result c.in-Step.step ∷ []) (old ∷ []) c.read_word-old.new.self =
    c.read_word-old.ensures in
    let at : makes hand (event_of_word pass place.region (base + c.in-Step.reg) c.in-Step.step ∷ []) (old ∷ []) c.read_word-old.new.self =
    subst (λ w. makes hand (event_of_word pass place.region w c.in-Step.step ∷ []) (old ∷ []) c.read_word-old.new.self) c.register_word.ensures.word made in
    let there : makes hand (event_of_word pass region (base + c.in-Step.reg) c.in-Step.step ∷ []) (old ∷ []) c.read_word-old.new.self =
    subst (λ (r : RegionId). makes hand (event_of_word pass r (base + c.in-Step.reg) c.in-Step.step ∷ []) (old ∷ []) c.read_word-old.new.self) d.region at in (
      refl,
      subst (λ n. AsksWords makes pass (g.H.Entered.shows hand).forest hand (calls region c.args.offset c.args.size None ∷ [])
          (of_device n (tx false false) ∷ []) c.read_word-old.new.self) (sym c.reply_of.ensures)
          (asked_step makes pass (g.H.Entered.shows hand).forest hand c.read_word-old.new.self region device base c.args.offset c.args.size c.in-Step.reg old
          c.in-Step.step (d.does c.args.offset c.args.size (answers 0 false)) (sym c.step_of.ensures ∙ c.in-Step.is) there),
    )

pub returns-in-Error : goal.returns-in-Error
returns-in-Error g c =
    let hand = c.args.self.now.hand.now in
    let region = c.args.region in
    let place = c.registers_of.result.0 in
    let device = c.registers_of.result.1 in
    let d : AreRegistersOf (g.H.Entered.shows hand) region place device =
    subst (λ (z : Published). AreRegistersOf z region place device) c.generation.ensures c.registers_of.ensures in (
      refl,
      asked_fault g.H.Entered.makes (g.H.Entered.pass hand) (g.H.Entered.shows hand).forest hand region device (data_words place.bytes) c.args.offset c.args.size
          (d.does c.args.offset c.args.size (answers 0 false)) (sym c.step_of.ensures ∙ c.in-Error.is) (g.met.H.Entered.begins hand),
    )
