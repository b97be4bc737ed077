use Rattle.std.proofs.Common.{ℕ, ◌≡◌, ◌+◌, [], ◌∷◌, refl, sym, ap, subst, ◌∙◌}
use Rattle.mem_base.specs.declared.map.ids.RegionId.{RegionId}
use Rattle.mem_base.specs.access.Cells.{cell}
use Rattle.mem_base.specs.access.Places.{data_words}
use Rattle.mem_base.specs.access.AccessSteps.{writing, steps, nothing_shown}
use Rattle.mem_base.specs.access.DeviceAccess.{on_device}
use Rattle.mem_base.specs.access.Plans.{takes}
use Rattle.mem_base.specs.access.PlanSteps.{by_region}
use Rattle.mem_base.specs.map.Region.{node_of}
use Rattle.generation.specs.Published.{Published}
use Rattle.access_run.specs.Runs.{TakesAll}
use Rattle.access_run.specs.RegionPlaces.{AreRegistersOf}
use Rattle.access_run.proofs.CallbackLaws.{write_kind}
use Rattle.access_run.proofs.WordLaws.{asked_call, asked_refused, event_of_word}
use Rattle.access_run.proofs.words.WordsTaking.write_device.Goals as goal

pub write_word-requires-clause-kind : goal.write_word-requires-clause-kind
write_word-requires-clause-kind g c =
    write_kind c.registers_of.result.1 c.args.offset c.args.size c.args.value c.in-Step.reg c.in-Step.step c.requires.some
    (sym c.step_of.ensures ∙ c.in-Step.is)

pub write_word-requires-clause-takes : goal.write_word-requires-clause-takes
write_word-requires-clause-takes g c =
    let hand = c.args.self.now.hand.now in
    let f = (g.H.Entered.shows hand).forest in
    let region = c.args.region in
    let place = c.registers_of.result.0 in
    let device = c.registers_of.result.1 in
    let d : AreRegistersOf (g.H.Entered.shows hand) region place device =
    subst (λ (z : Published). AreRegistersOf z region place device) c.generation.ensures c.registers_of.ensures in
    let base : ℕ = data_words place.bytes in
    let one : by_region (node_of f.nodes region) c.args.offset c.args.size (takes c.args.value)
    ≡ steps (cell region (base + c.in-Step.reg)) c.in-Step.step nothing_shown ∷ [] =
    d.does c.args.offset c.args.size (takes c.args.value)
    ∙ ap (λ s. on_device region base s nothing_shown (writing []) ∷ []) (sym c.step_of.ensures ∙ c.in-Step.is) in
    (subst (TakesAll (g.H.Writes.takes hand)) one c.requires.takes).0

pub returns-in-Step : goal.returns-in-Step
returns-in-Step g c =
    let hand = c.args.self.now.hand.now in
    let makes = g.H.Entered.makes in
    let pass = g.H.Entered.pass hand in
    let region = c.args.region in
    let place = c.registers_of.result.0 in
    let device = c.registers_of.result.1 in
    let base : ℕ = data_words place.bytes in
    let d : AreRegistersOf (g.H.Entered.shows hand) region place device =
    subst (λ (z : Published). AreRegistersOf z region place device) c.generation.ensures c.registers_of.ensures in
    let old : ℕ = c.write_word.ensures.0 in
    let made : makes hand (event_of_word pass place.region c.register_word.result c.in-Step.step ∷ []) (old ∷ []) c.write_word.new.self =
    c.write_word.ensures.1 in
    let at : makes hand (event_of_word pass place.region (base + c.in-Step.reg) c.in-Step.step ∷ []) (old ∷ []) c.write_word.new.self =
    subst (λ w. makes hand (event_of_word pass place.region w c.in-Step.step ∷ []) (old ∷ []) c.write_word.new.self) c.register_word.ensures.word made in
    let there : makes hand (event_of_word pass region (base + c.in-Step.reg) c.in-Step.step ∷ []) (old ∷ []) c.write_word.new.self =
    subst (λ (r : RegionId). makes hand (event_of_word pass r (base + c.in-Step.reg) c.in-Step.step ∷ []) (old ∷ []) c.write_word.new.self) d.region at in (
      refl,
      asked_call makes pass (g.H.Entered.shows hand).forest hand c.write_word.new.self region device base c.args.offset c.args.size c.args.value c.in-Step.reg old
          c.in-Step.step (d.does c.args.offset c.args.size (takes c.args.value)) (sym c.step_of.ensures ∙ c.in-Step.is) there,
    )

pub returns-in-Error : goal.returns-in-Error
returns-in-Error g c =
    let hand = c.args.self.now.hand.now in
    let region = c.args.region in
    let place = c.registers_of.result.0 in
    let device = c.registers_of.result.1 in
    let d : AreRegistersOf (g.H.Entered.shows hand) region place device =
    subst (λ (z : Published). AreRegistersOf z region place device) c.generation.ensures c.registers_of.ensures in (
      refl,
      asked_refused g.H.Entered.makes (g.H.Entered.pass hand) (g.H.Entered.shows hand).forest hand region device (data_words place.bytes) c.args.offset
          c.args.size c.args.value (d.does c.args.offset c.args.size (takes c.args.value)) (sym c.step_of.ensures ∙ c.in-Error.is)
          (g.met.H.Entered.begins hand),
    )
