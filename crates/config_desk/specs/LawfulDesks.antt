-- What holds at every moment of the history that a desk has seen, whatever the passes did beside it: what is published shows what the rules of
-- QEMU's manual find, listeners have been told just that, a reap releases what nobody may use any more, and no word or mark is lost.
use Rattle.std.specs.Prelude.{◌≡◌, ℕ, List, ◌++◌, Some, None}
use Rattle.mem_base.specs.declared.map.ids.RegionId.{RegionId}
use Rattle.mem_base.specs.declared.map.ids.SpaceId.{SpaceId}
use Rattle.mem_base.specs.declared.map.ids.ListenerId.{ListenerId}
use Rattle.mem_base.specs.declared.map.forests.Forest.{Forest}
use Rattle.mem_base.specs.declared.views.listening.Listener.{Listener}
use Rattle.mem_base.specs.lists.Every.{Every}
use Rattle.mem_base.specs.map.Search.{found_at, root_of}
use Rattle.mem_base.specs.map.Paths.{Finds}
use Rattle.mem_base.specs.map.Forest.{IsMade}
use Rattle.mem_base.specs.views.View.{IsView}
use Rattle.mem_base.specs.views.Flattened.{view_of}
use Rattle.mem_base.specs.views.Replay.{replay, nothing_heard}
use Rattle.mem_base.specs.views.Listening.{calls_to}
use Rattle.mem_base.specs.machine.Committed.{committed_forests}
use Rattle.mem_base.specs.machine.Reaps.{Writer}
use Rattle.mem_base.specs.machine.World.{opening}
use Rattle.mem_base.specs.machine.History.{PureEntry, after_entries, IsLegal}
use Rattle.mem_base.specs.machine.JoinedHistory.{accepted}
use Rattle.mem_base.specs.machine.ListenerReplay.{listener_of, shown_to, told_forest, calls_since_joining}
use Rattle.history_laws.specs.Published.{CarriesForests}
use Rattle.history_laws.specs.Released.{ReleasesUnnamed}
use Rattle.config_desk.specs.Configs.{ConfigState, IsOfTurns}
use Rattle.config_desk.specs.SeenLaws.{IsSeenLegal, KeepsMarks, ReusesWords, seen_by_turns}

-- accepted calls made the forest, so what is shown of a space is its one view, and each spot is what the rules of QEMU's manual find there
pub record ShowsTheSearch (f : Forest) : Type 0 where
  pub made : IsMade f
  pub views : (space : SpaceId) → IsView f space (view_of f space)
  pub spots : (space : SpaceId) (root : RegionId) (addr : ℕ) → root_of f space ≡ Some root → Finds f root addr (found_at f space addr)

-- the writer's part after these entries
abbrev pub part_after : ℕ → ℕ → List PureEntry → Writer
part_after pool_words passes ys = (after_entries (opening pool_words passes) ys).writer

-- the machine after these entries, between any two steps
pub record IsLawfulMoment (pool_words passes : ℕ) (ys : List PureEntry) : Type 0 where
  pub legal : IsLegal pool_words passes ys
  -- each generation that is kept has the committed forest of its number, and shows what the manual's search finds in it
  pub committed : CarriesForests (part_after pool_words passes ys) (committed_forests (accepted ys))
  pub shows : Every (λ x. ShowsTheSearch x.forest) (part_after pool_words passes ys).generations.kept
  -- the calls that each listener got since it joined replay to the ranges and the live ioeventfds of its space in the forest of which it
  -- was told last; those of an id that nobody has replay to nothing
  pub joined : (id : ListenerId) (l : Listener) → let h = part_after pool_words passes ys in listener_of h.desk.listening.listeners id ≡ Some l →
      replay (calls_since_joining id pool_words passes ys) ≡ Some (shown_to (told_forest h) l)
  pub left : (id : ListenerId) → let h = part_after pool_words passes ys in listener_of h.desk.listening.listeners id ≡ None →
      replay (calls_to id h.desk.listening.journal) ≡ Some nothing_heard
  -- a reap at this moment releases just the dropped regions that no held generation names
  pub releases : ReleasesUnnamed (part_after pool_words passes ys)

-- so it is at every moment of what the desk has seen, read as a history of the pure machine, which ends in the desk's part
pub record IsLawfulDesk (c : ConfigState) : Type 0 where
  pub turns : IsOfTurns c.seat c.part
  pub legal : IsSeenLegal c
  pub moments : (before after : List PureEntry) → seen_by_turns c turns ≡ before ++ after → IsLawfulMoment turns.pool_words turns.passes before
  -- a step on a cell tells what the steps on it before left, and each mark is told by the first harvest of its word, or still stands
  pub reuses : ReusesWords c
  pub marks : KeepsMarks c
