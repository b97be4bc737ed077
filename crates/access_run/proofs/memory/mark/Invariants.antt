use Rattle.std.proofs.Common.{◌<◌, length, map, false, []}
use Rattle.mem_base.specs.lists.Every.{Every}
use Rattle.mem_base.specs.access.AccessSteps.{marks, tx}
use Rattle.mem_base.specs.access.MemoryAccess.{marked}
use Rattle.mem_base.specs.access.Places.{pages_in}
use Rattle.access_run.specs.Runs.{IsUnderway}
use Rattle.access_run.proofs.memory.mark.Given as goal

abbrev pub invariant-loop-page : goal.invariant-loop-page
invariant-loop-page g l =
    IsUnderway g.H.Entered.makes (g.H.Entered.pass l.initial.hand) l.initial.hand
    (marked l.place.region l.log l.offset l.len) (map (λ m. marks l.place.region m.1 m.0) l.marks) [] (tx false false) l.hand
    × Every (λ m. m.0 < pages_in l.place) l.marks

abbrev pub decreases-loop-page : goal.decreases-loop-page
decreases-loop-page g l = length l.marks
