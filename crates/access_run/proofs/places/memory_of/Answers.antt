use Rattle.std.proofs.Common.{sym, ◌∙◌}
use Rattle.access_run.proofs.PlaceLaws.{no_memory, memory_at}
use Rattle.access_run.proofs.places.memory_of.Goals as goal

pub unreachable-requires : goal.unreachable-requires
unreachable-requires c =
    no_memory c.args.g.now c.place_of.ensures.shown c.args.region c.requires.named c.requires.kind (sym c.place_of.ensures.value ∙ c.in_default.is)

pub returns : goal.returns
returns c =
    memory_at c.args.g.now c.place_of.ensures.shown c.args.region c.in-Some.place c.requires.kind (sym c.place_of.ensures.value ∙ c.in-Some.is)
