use Rattle.std.proofs.Common.{◌≡◌, ◌+◌, ◌-◌, ◌%◌, ◌≤◌, ◌<◌, ◌⊎◌, length, []}
use Rattle.io_window.specs.Calls.{Does}
use Rattle.bounded_write.proofs.WordLaws.{words_below}
use Rattle.bounded_write.proofs.memory.write_words.Given as goal

abbrev pub invariant-loop-done : goal.invariant-loop-done
invariant-loop-done l = (l.done ≤ length l.bytes) × Does l.fn.pass (words_below l.place.region l.offset l.bytes l.done) [] l.pass
    × (l.done < length l.bytes → (l.done ≡ 0) ⊎ ((l.offset + l.done) % 8 ≡ 0))

abbrev pub decreases-loop-done : goal.decreases-loop-done
decreases-loop-done l = length l.bytes - l.done
