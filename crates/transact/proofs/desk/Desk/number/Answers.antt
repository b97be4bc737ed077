use Rattle.std.proofs.Common.{rules, arith, ◌≡◌, ◌+◌, ◌<◌, ◌^◌}
use Rattle.std.specs.Arc.{arc_value}
use Rattle.mem_base.specs.machine.Committed.{transaction}
use Rattle.transact.specs.Desks.{desk_state}
use Rattle.transact.proofs.DeskLaws.{number_fits}
use Rattle.transact.proofs.desk.Desk.number.Goals as goal

pub returns-clause-fits : goal.returns-clause-fits
returns-clause-fits c =
    let d = desk_state (transaction c.self.inside.tree c.self.inside.depth c.self.inside.pending) (arc_value c.self.inside.current) in
    let told : c.number.result ≡ (arc_value c.self.inside.current).number = search rules in
    let fits : (arc_value c.self.inside.current).number + 2 < 2 ^ 64 =
    number_fits d c.self.inside.reached.items c.self.inside.noted c.self.inside.spare c.self.invariant in
    omega (arith, told, fits)
