use Rattle.std.proofs.Common.{◌≤◌, ◌+◌, ◌-◌, length, map, false, []}
use Rattle.mem_base.specs.lists.Runs.{touched}
use Rattle.mem_base.specs.access.AccessSteps.{writing, tx}
use Rattle.mem_base.specs.access.MemoryAccess.{on_word, on_words}
use Rattle.access_run.specs.Runs.{IsUnderway, TakesAll}
use Rattle.access_run.proofs.memory.write.Given as goal

abbrev pub invariant-loop-done : goal.invariant-loop-done
invariant-loop-done g l =
    let n = length l.bytes in
    let rest = map (on_word l.place.region l.offset (writing l.bytes)) (touched 8 (l.offset + l.done) (n - l.done)) in (l.done ≤ n)
    × IsUnderway g.H.Entered.makes (g.H.Entered.pass l.initial.hand) l.initial.hand
    (on_words l.place.region l.offset (writing l.bytes)) rest [] (tx false false) l.hand
    × TakesAll (g.H.Writes.takes l.hand) rest

abbrev pub decreases-loop-done : goal.decreases-loop-done
decreases-loop-done g l = length l.bytes - l.done
