-- What came to pass while one actor did something, by the own entries of all actors, once all have seen the same history.
use Rattle.std.specs.Prelude.{◌≡◌, ◌≢◌, ℕ, ◌+◌, ◌<◌, List, ◌++◌}
use Rattle.mem_base.specs.declared.machine.events.HistoryEntry.{HistoryEntry}
use Rattle.mem_base.specs.map.Limits.{most_passes, notifier_count}
use Rattle.mem_base.specs.machine.Actors.{own_entries}
use Rattle.mem_base.specs.machine.SharedHistory.{IsSharedLegal}

-- an actor has no more entries of its own than before
abbrev pub Stayed : ℕ → List HistoryEntry → List HistoryEntry → Type 0
Stayed actor before after = own_entries actor after ≡ own_entries actor before

-- an actor's own entries grew by these
abbrev pub GrewOwn : ℕ → List HistoryEntry → List HistoryEntry → List HistoryEntry → Type 0
GrewOwn actor before new after = own_entries actor after ≡ own_entries actor before ++ new

-- where only the writer made entries, the history grew by just those; and the same of a pass
pub record OneActed (pool : ℕ) (before more : List HistoryEntry) : Type 0 where
  pub writer : (new : List HistoryEntry) → GrewOwn 0 before new (before ++ more)
      → ((v : ℕ) → v < most_passes → Stayed (v + 1) before (before ++ more)) → more ≡ new
  pub pass : (p : ℕ) (new : List HistoryEntry) → Stayed 0 before (before ++ more) → GrewOwn (p + 1) before new (before ++ more)
      → ((v : ℕ) → v < most_passes → v ≢ p → Stayed (v + 1) before (before ++ more)) → more ≡ new

abbrev pub ActorsAreLevel : Type 0
ActorsAreLevel = (pool : ℕ) (before more : List HistoryEntry) → IsSharedLegal (pool + notifier_count) most_passes (before ++ more) → OneActed pool before more
