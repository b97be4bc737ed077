use Rattle.std.proofs.Common.{◌+◌, ◌<◌, ◌^◌, subst}
use Rattle.std.specs.Arc.{arc_value}
use Rattle.mem_base.specs.machine.Committed.{transaction}
use Rattle.transact.specs.Desks.{DeskState, desk_state}
use Rattle.transact.proofs.DeskLaws.{number_fits}
use Rattle.transact.proofs.desk.Desk.knows_number.Goals as goal

pub returns : goal.returns
returns c =
    let d = desk_state (transaction c.self.inside.tree c.self.inside.depth c.self.inside.pending) (arc_value c.self.inside.current) in
    subst (λ (x : DeskState). x.current.number + 2 < 2 ^ 64) c.self.view_is
    (number_fits d c.self.inside.reached.items c.self.inside.noted c.self.inside.spare c.self.invariant)
