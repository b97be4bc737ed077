use Rattle.std.proofs.Common.{rules, arith, ◌≡◌, ◌+◌, ◌<◌, ◌^◌, subst}
use Rattle.std.specs.Arc.{arc_value}
use Rattle.mem_base.specs.machine.Committed.{transaction}
use Rattle.transact.specs.Desks.{desk_state}
use Rattle.transact.proofs.DeskLaws.{number_fits}
use Rattle.transact.proofs.desk.Desk.commit_prepare.Goals as goal

pub prepare-requires-clause-number : goal.prepare-requires-clause-number
prepare-requires-clause-number g c =
    let d = desk_state (transaction c.self.inside.tree c.self.inside.depth c.self.inside.pending) (arc_value c.self.inside.current) in
    let same : arc_value c.self.inside.current ≡ c.deref.result.now = search rules in
    let two : d.current.number + 2 < 2 ^ 64 = number_fits d c.self.inside.reached.items c.self.inside.noted c.self.inside.spare c.self.invariant in
    let one : d.current.number + 1 < 2 ^ 64 = omega (arith, two) in
    subst (λ current. current.number + 1 < 2 ^ 64) same one
