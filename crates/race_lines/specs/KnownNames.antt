-- What is known of the names, and the tables that find by a name what it stands for.
use Rattle.std.specs.Prelude.{◌≡◌, ◌≤◌, ℕ, ◌==◌, Bool, true, false, not, List, length}
use Rattle.std.specs.List.{list_any}
use Rattle.mem_base.specs.declared.map.ids.RegionId.{RegionId}
use Rattle.mem_base.specs.declared.map.ids.ListenerId.{ListenerId}
use Rattle.mem_base.specs.machine.Reaps.{is_among}
use Rattle.mem_base.specs.script.Tasks.{Known, region_id}
use Rattle.mem_base.specs.script.Watching.{Watcher, is_watcher}
use Rattle.script_names.specs.Tables.{AllNames, printed_names}
use Rattle.race_lines.specs.NamedTables.{IsNamed}

-- the region of this number was not dropped, the listener has not left, and the watcher is there
abbrev pub is_kept : List RegionId → ℕ → Bool
is_kept dropped n = not (is_among dropped (region_id n))

abbrev pub listens_on : List ListenerId → ℕ → Bool
listens_on gone n = not (list_any (λ l. l.0 == n) gone)

abbrev pub watches : List Watcher → ℕ → Bool
watches watchers n = list_any (is_watcher n) watchers

-- what is known, by the parts that the code keeps
abbrev pub known_of : AllNames → List RegionId → List ListenerId → List Watcher → Known
known_of names dropped gone watchers = record { names = printed_names names; dropped = dropped; gone = gone; watchers = watchers }

-- each table finds what is there; only what has a name was dropped or has left, and no watcher has a number to come
pub record HoldsNames (names : AllNames) (dropped : List RegionId) (gone : List ListenerId) (watchers : List Watcher) : Type 0 where
  pub regions : IsNamed names.regions (is_kept dropped)
  pub spaces : IsNamed names.spaces (λ n. true)
  pub listeners : IsNamed names.listeners (listens_on gone)
  pub notifiers : IsNamed names.notifiers (watches watchers)
  pub made : (n : ℕ) → length names.regions.made ≤ n → is_among dropped (region_id n) ≡ false
  pub left : (n : ℕ) → length names.listeners.made ≤ n → list_any (λ l. l.0 == n) gone ≡ false
  pub fresh : (n : ℕ) → length names.notifiers.made ≤ n → watches watchers n ≡ false
