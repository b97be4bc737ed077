-- What the pure machine does in the world that is shown, the running machine may do next.
use Rattle.std.specs.Prelude.{◌≡◌, ℕ, ◌+◌, true, List, ◌++◌, map, flat_map}
use Rattle.mem_base.specs.map.PassIds.{PassId}
use Rattle.mem_base.specs.declared.map.ids.SpaceId.{SpaceId}
use Rattle.mem_base.specs.declared.machine.events.HistoryEntry.{HistoryEntry}
use Rattle.mem_base.specs.map.Limits.{most_passes, notifier_count}
use Rattle.mem_base.specs.machine.Reaps.{first_writer}
use Rattle.mem_base.specs.machine.Orders.{Order}
use Rattle.mem_base.specs.access.AccessSteps.{Transfer}
use Rattle.mem_base.specs.machine.Composites.{accessed}
use Rattle.mem_base.specs.machine.Completions.{may_access}
use Rattle.mem_base.specs.machine.SharedHistory.{shared_opening, after_shared_entries, IsSharedLegal}
use Rattle.mem_base.specs.machine.Turns.{Answered, turn, turns, entries_of_turn, last_writer, writers_of}
use Rattle.world_laws.specs.Legal.{IsFitting}
use Rattle.run_laws.specs.MadeForests.{HasMadeForests}
use Rattle.mem_base.specs.machine.ShownWorlds.{world_shown}

-- after a legal shared history whose writer's entries are those of turns, there are replies with which the entries of any further
-- turn may stand next
abbrev pub TurnsMayFollow : Type 0
TurnsMayFollow = (pool_words passes : ℕ) (os : List Answered) (xs : List HistoryEntry) (k : Order) →
    let ts = turns (first_writer pool_words passes) os in
    let h = last_writer (first_writer pool_words passes) ts in
    let s = after_shared_entries (shared_opening (pool_words + notifier_count) passes) xs in
    IsSharedLegal (pool_words + notifier_count) passes xs →
    writers_of xs ≡ flat_map entries_of_turn ts →
    IsFitting (world_shown h s) k →
    (replies : List ℕ) × IsSharedLegal (pool_words + notifier_count) passes (xs ++ entries_of_turn (turn h k replies))

-- after such a history there are entries of each access that a pass may make in the world that is shown, which may stand next; where
-- calls that fit their types made the forests of the writer's part
abbrev pub AccessesMayFollow : Type 0
AccessesMayFollow = (pool_words : ℕ) (os : List Answered) (xs : List HistoryEntry) (pass : PassId) (space : SpaceId) (addr : ℕ) (transfer : Transfer) →
    let ts = turns (first_writer pool_words most_passes) os in
    let h = last_writer (first_writer pool_words most_passes) ts in
    let s = after_shared_entries (shared_opening (pool_words + notifier_count) most_passes) xs in
    IsSharedLegal (pool_words + notifier_count) most_passes xs →
    writers_of xs ≡ flat_map entries_of_turn ts →
    HasMadeForests h → may_access (world_shown h s) pass ≡ true →
    (ys : List HistoryEntry) × (map (λ y. y.event) ys ≡ map (λ y. y.event) (accessed (world_shown h s) pass space addr transfer).entries) ×
    IsSharedLegal (pool_words + notifier_count) most_passes (xs ++ ys)
