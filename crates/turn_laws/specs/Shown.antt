-- What the writer's part holds after turns on the running machine.
use Rattle.std.specs.Prelude.{◌≡◌, ℕ, ◌+◌, List, flat_map}
use Rattle.mem_base.specs.declared.machine.events.HistoryEntry.{HistoryEntry}
use Rattle.mem_base.specs.map.Limits.{notifier_count}
use Rattle.mem_base.specs.machine.Reaps.{Writer, first_writer}
use Rattle.mem_base.specs.machine.SharedHistory.{IsSharedLegal}
use Rattle.mem_base.specs.machine.Turns.{Answered, turns, entries_of_turn, last_writer, writers_of}
use Rattle.history_laws.specs.BackedForests.{ShowsOwnPlaces}
use Rattle.history_laws.specs.Released.{DropsOnce}

-- the desk's places back its forest, each generation that is kept shows just the places of its forest, and each dropped
-- region was dropped once
pub record HoldsTogether (pool_words : ℕ) (h : Writer) : Type 0 where
  pub places : ShowsOwnPlaces pool_words h
  pub dropped : DropsOnce h

-- of a legal shared history in which the writer's entries are those of turns: the writer's part that the last turn leaves
abbrev pub TurnsHoldTogether : Type 0
TurnsHoldTogether = (pool_words passes : ℕ) (os : List Answered) (xs : List HistoryEntry) → IsSharedLegal (pool_words + notifier_count) passes xs →
    let ts = turns (first_writer pool_words passes) os in
    writers_of xs ≡ flat_map entries_of_turn ts → HoldsTogether pool_words (last_writer (first_writer pool_words passes) ts)
