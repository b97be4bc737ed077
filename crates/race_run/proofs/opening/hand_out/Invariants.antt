use Rattle.std.proofs.Common.{◌≡◌, ◌≤◌, [], length}
use Rattle.std.specs.Prelude.{vec_capacity}
use Rattle.mem_base.specs.map.Limits.{most_passes}
use Rattle.race_run.proofs.OpeningLaws.{AreNew, out_of}
use Rattle.race_run.proofs.opening.hand_out.Given as goal

abbrev pub invariant-loop-count : goal.invariant-loop-count
invariant-loop-count l = (l.desk.seat.out ≡ out_of l._count) × (length l.cpus.items ≡ l._count) × (most_passes ≤ vec_capacity l.cpus)
    × AreNew l.fn.desk.seat.cabinet l._count l.cpus.items × (l.desk.seat.cabinet ≡ l.fn.desk.seat.cabinet)
    × (l.desk.seat.sizes ≡ l.fn.desk.seat.sizes) × (l.desk.seat.seen ≡ []) × (l.desk.part ≡ l.fn.desk.part)
