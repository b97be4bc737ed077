use Rattle.std.proofs.Common.{◌≡◌, ◌≤◌, ◌+◌, ◌-◌, ◌%◌, length, take, map, false}
use Rattle.mem_base.specs.lists.Runs.{touched}
use Rattle.mem_base.specs.access.AccessSteps.{reading, tx}
use Rattle.mem_base.specs.access.MemoryAccess.{on_word, on_words}
use Rattle.access_run.specs.Runs.{IsUnderway}
use Rattle.access_run.proofs.memory.read_words.Given as goal

abbrev pub invariant-loop-done : goal.invariant-loop-done
invariant-loop-done g l =
    let n = length l.initial.out in (l.done ≤ n)
    × IsUnderway g.H.Entered.makes (g.H.Entered.pass l.initial.hand) l.initial.hand
    (on_words l.place.region l.offset (reading n))
    (map (on_word l.place.region l.offset (reading n)) (touched 8 (l.offset + l.done) (n - l.done)))
    (take l.done l.out) (tx false false) l.hand
    × (l.done % 8 ≡ 0)

abbrev pub decreases-loop-done : goal.decreases-loop-done
decreases-loop-done g l = length l.initial.out - l.done
