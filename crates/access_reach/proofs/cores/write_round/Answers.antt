use Rattle.std.proofs.Common.{true}
use Rattle.mem_base.specs.views.LiveEvents.{events_of}
use Rattle.mem_base.specs.access.AccessSteps.{writing}
use Rattle.mem_base.specs.access.Plans.{in_piece, reached}
use Rattle.access_plan.specs.HostPlans.{answerer_by}
use Rattle.access_reach.proofs.TakenLaws.{all_taken}
use Rattle.access_reach.proofs.cores.write_round.Goals as goal

pub write-requires-clause-takes : goal.write-requires-clause-takes
write-requires-clause-takes g c =
    all_taken c.args.bus.now (reached (answerer_by true (g.B.Bus.shows c.args.bus.now).forest true c.in-Route.leads) (writing c.args.bytes.now))

pub write_piece-requires-clause-takes : goal.write_piece-requires-clause-takes
write_piece-requires-clause-takes g c =
    all_taken c.args.bus.now (in_piece c.in-Piece.region c.in-Piece.ops
    (events_of (g.B.Bus.shows c.args.bus.now).forest c.in-Piece.region) c.in-Piece.piece (writing c.args.bytes.now))
