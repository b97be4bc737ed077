-- Which slots the writer takes. A pass has a slot for each generation that is kept: generation g is in the one at g mod `most_generations`.
use Rattle.std.specs.Prelude.{◌≡◌, ◌≢◌, ℕ, ◌+◌, ◌-◌, ◌%◌, ◌<◌, ◌≤◌, List, Some}
use Rattle.mem_base.specs.declared.machine.events.HistoryEntry.{HistoryEntry}
use Rattle.mem_base.specs.machine.Passes.{PassState, pass_id, pass_of}
use Rattle.mem_base.specs.machine.Generations.{PassTrack, known_of}
use Rattle.mem_base.specs.machine.SharedHistory.{shared_opening, after_shared_entries, IsSharedLegal}
use Rattle.mem_base.specs.map.Limits.{most_generations}

-- of a pass whose copy of the next generation may be placed: the slot that it takes is of no generation from the pass's
-- lowest number to the current one, and the pass is entered in one of these, if in any
pub record IsFreeSlot (current : ℕ) (k : PassTrack) (p : PassState) : Type 0 where
  pub apart : (number : ℕ) → k.lowest ≤ number → number ≤ current → number % most_generations ≢ (current + 1) % most_generations
  pub entered : (number : ℕ) → p.entered ≡ Some number → (k.lowest ≤ number) × (number ≤ current)

abbrev pub TakenSlotsAreFree : Type 0
TakenSlotsAreFree = (words passes : ℕ) (xs : List HistoryEntry) → IsSharedLegal words passes xs → (v : ℕ) → v < passes →
    let s = after_shared_entries (shared_opening words passes) xs in
    let k = known_of s.generations (pass_id v) in
    s.generations.current ≤ k.lowest + (most_generations - 2) → IsFreeSlot s.generations.current k (pass_of s.passes (pass_id v))
