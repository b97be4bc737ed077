use Rattle.std.proofs.Common.{ap, subst, map, None}
use Rattle.script_names.specs.Tables.{Rebinds}
use Rattle.script_names.proofs.Viewed.{rebinds, seen}
use Rattle.script_names.proofs.tables.NameTable.forget.Goals as goal

pub returns-clause-bound : goal.returns-clause-bound
returns-clause-bound c =
    subst (λ bound. Rebinds bound (map seen c.swap_remove.new.self.entries) c.args.name.now None) (ap (λ v. v.bound) c.self.view_is)
    (rebinds c.self.inside.numbers.entries c.swap_remove.new.self.entries c.args.name.now c.swap_remove.ensures.updates.3 c.swap_remove.ensures.updates.1)
