use Rattle.std.proofs.Common.{sym, ap, ◌∙◌}
use Rattle.access_plan.specs.Answering.{memory_unless}
use Rattle.access_plan.proofs.WhoLaws.{by_place}
use Rattle.access_plan.proofs.answerers.answerer_by.Goals as goal

pub returns-then-place-eq0 : goal.returns-then-place-eq0
returns-then-place-eq0 c =
    by_place c.args.g.now c.place_of.ensures.shown c.args.host c.args.spot.now c.args.write c.in-Some.place
    (sym c.place_of.ensures.value ∙ c.in-Some.is) c.if-place-eq0.true c.memory_unless.result
    (c.memory_unless.ensures ∙ ap memory_unless c.is_shut.ensures)
