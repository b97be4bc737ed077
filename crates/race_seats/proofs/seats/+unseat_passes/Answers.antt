use Rattle.std.proofs.Common.{[], ◌∷◌, ◌++◌, refl, sym, ap, ◌∙◌}
use Rattle.generation.specs.Published.{Published}
use Rattle.epoch_rule.specs.Values.{PassValue}
use Rattle.view_laws.proofs.Tests.{none_is_not_some}
use Rattle.race_seats.proofs.BackLaws.{none_come, one_comes}
use Rattle.race_seats.proofs.seats.+unseat_passes.Goals as goal
use Rattle.std.proofs.lemmas.Option.{same_Some}

pub returns-in_default-clause-back : goal.returns-in_default-clause-back
returns-in_default-clause-back t c =
    none_come c.args.busy.now c.args.actors.now.items c.args.actors.now.items c.args.waiting.now.items c.args.cpus.now.items c.args.cpus.now.items
    c.in_default.ensures.cases refl refl

pub returns-in-Some-cpu-clause-back : goal.returns-in-Some-cpu-clause-back
returns-in-Some-cpu-clause-back t c =
    one_comes c.args.busy.now c.in-Some.others.now c.in-Some.acts.now c.args.actors.now.items c.take_cpu-cpu.new.actors.items
    c.unseat_passes.new.actors.items c.args.waiting.now.items c.take_cpu-cpu.new.waiting.items c.args.cpus.now.items c.unseat_passes.new.cpus.items
    c.push_reserved.new.self.items c.take_cpu-cpu.result c.in-Some.ensures.cases.0 c.take_cpu-cpu.ensures c.unseat_passes.ensures.back
    (λ x e. c.push_reserved.ensures.items
    ∙ ap (λ (y : PassValue Published). c.unseat_passes.new.cpus.items ++ y ∷ []) (same_Some c.in-Some-cpu.cpu x (sym c.in-Some-cpu.is ∙ e)))

pub returns-in_default-cpu-clause-back : goal.returns-in_default-cpu-clause-back
returns-in_default-cpu-clause-back t c =
    one_comes c.args.busy.now c.in-Some.others.now c.in-Some.acts.now c.args.actors.now.items c.take_cpu-cpu.new.actors.items
    c.unseat_passes.new.actors.items c.args.waiting.now.items c.take_cpu-cpu.new.waiting.items c.args.cpus.now.items c.unseat_passes.new.cpus.items
    c.unseat_passes.new.cpus.items c.take_cpu-cpu.result c.in-Some.ensures.cases.0 c.take_cpu-cpu.ensures c.unseat_passes.ensures.back
    (λ x e. none_is_not_some x (sym c.in_default-cpu.is ∙ e))
