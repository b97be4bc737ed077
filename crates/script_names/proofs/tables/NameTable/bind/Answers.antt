use Rattle.std.proofs.Common.{ap}
use Rattle.script_names.proofs.Viewed.{insert-view}
use Rattle.script_names.proofs.tables.NameTable.bind.Goals as goal

pub returns-clause-bound : goal.returns-clause-bound
returns-clause-bound c =
    insert-view c.self.inside.numbers c.insert.new.self c.in_ok-key.key c.len-number.result c.args.name.now c.args.self.now.bound
    c.in_ok-key.ensures (ap (λ v. v.bound) c.self.view_is) c.requires.free c.in_ok-insert.ensures.entries
