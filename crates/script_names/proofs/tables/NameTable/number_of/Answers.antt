use Rattle.std.proofs.Common.{ap, ◌∙◌}
use Rattle.script_names.specs.Tables.{number_of}
use Rattle.script_names.proofs.Viewed.{number_of-view}
use Rattle.script_names.proofs.tables.NameTable.number_of.Goals as goal

pub returns : goal.returns
returns c =
    c.copied.ensures ∙ c.get.ensures.value ∙ number_of-view c.self.inside.numbers.entries c.args.name.now
    ∙ ap (λ v. number_of v.bound c.args.name.now) c.self.view_is
