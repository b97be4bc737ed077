-- Worked walks and publishes, by computing.
use Rattle.std.specs.Prelude.{◌≡◌, ℕ, Bool, true, false, List, [], ◌∷◌, ◌++◌, map, Some, None, pos, negsuc, ◌-ℤ◌}
use Rattle.mem_base.specs.declared.views.flat.FlatRange.{FlatRange}
use Rattle.mem_base.specs.declared.map.forests.Forest.{Forest}
use Rattle.mem_base.specs.declared.map.ioevents.Live.{Live}
use Rattle.mem_base.specs.declared.map.kinds.DeviceKind.TheVariants.{Latch}
use Rattle.mem_base.specs.declared.map.kinds.Kind.TheVariants as kinds
use Rattle.mem_base.specs.declared.map.calls.Config.{Config}
use Rattle.mem_base.specs.declared.map.calls.Config.TheVariants as configs
use Rattle.mem_base.specs.declared.map.calls.Call.TheVariants as calls
use Rattle.mem_base.specs.declared.views.listening.Listener.{Listener}
use Rattle.mem_base.specs.declared.views.listening.Change.{Change}
use Rattle.mem_base.specs.declared.views.listening.RangeEvent.{RangeEvent}
use Rattle.mem_base.specs.declared.views.listening.RangeEvent.TheVariants.{Delete, Add, Keep, LogStart, LogStop}
use Rattle.mem_base.specs.declared.views.listening.ListenerEvent.TheVariants as hears
use Rattle.mem_base.specs.map.Search.{look, path_at}
use Rattle.mem_base.specs.map.Changes.{made_region, placed}
use Rattle.mem_base.specs.map.Calls.{empty, after_all}
use Rattle.mem_base.specs.views.Flattened.{ranges_from}
use Rattle.mem_base.specs.views.LiveEvents.{lives_in, lives_below, without}
use Rattle.mem_base.specs.views.Walk.{walk}
use Rattle.mem_base.specs.views.Replay.{replay, ranges_after_all}
use Rattle.mem_base.specs.machine.Committed.{committed_forests}
use Rattle.mem_base.specs.views.Listening.{deliveries_of_changes, joining, ascending, switches, switched}
use Rattle.machine_rows.specs.Values.{region, space, listener, forest_of, ops, device}

-- a range of a region at an offset, with a log
abbrev pub range : ℕ → ℕ → ℕ → ℕ → ℕ → FlatRange
range start last r offset log = record {
  start = start;
  last = last;
  leaf = region r;
  offset = offset;
  attrs = record { readonly = false; nonvolatile = false; romd = false; unmergeable = false; log = log };
}

-- R is region 1, T region 2, W region 3

abbrev pub first_view : List FlatRange
first_view = range 0 0x2fff 1 0 0 ∷ range 0x8000 0x8fff 2 0 0 ∷ []

abbrev pub second_view : List FlatRange
second_view = range 0 0xfff 1 0 0 ∷ range 0x1000 0x1fff 3 0 0 ∷ range 0x2000 0x2fff 1 0x2000 0 ∷ range 0x8000 0x8fff 2 0 0 ∷ []

abbrev pub third_view : List FlatRange
third_view = range 0 0xfff 1 0 0 ∷ range 0x1000 0x1fff 3 0 0 ∷ range 0x2000 0x2fff 1 0x2000 0 ∷ range 0x8000 0x8fff 2 0 1 ∷ []

abbrev pub first_walk : List RangeEvent
first_walk = Delete (range 0 0x2fff 1 0 0) ∷ Add (range 0 0xfff 1 0 0) ∷ Add (range 0x1000 0x1fff 3 0 0) ∷ Add (range 0x2000 0x2fff 1 0x2000 0)
    ∷ Keep (range 0x8000 0x8fff 2 0 0) ∷ []

abbrev pub second_walk : List RangeEvent
second_walk = Keep (range 0 0xfff 1 0 0) ∷ Keep (range 0x1000 0x1fff 3 0 0) ∷ Keep (range 0x2000 0x2fff 1 0x2000 0) ∷ Keep (range 0x8000 0x8fff 2 0 1)
    ∷ LogStart (range 0x8000 0x8fff 2 0 1) 0 1 ∷ []

-- an ioeventfd of a device that is moved: the directions of its calls, to two listeners of priority 0 and 1

abbrev pub live : ℕ → Live
live a = record { addr = pos a; size = 4; matched = true; value = 0x55; number = 7 }

abbrev pub low : Listener
low = record { listener = listener 5; space = space 0; priority = pos 0 }

abbrev pub high : Listener
high = record { listener = listener 4; space = space 0; priority = pos 1 }

abbrev pub elsewhere : Listener
elsewhere = record { listener = listener 3; space = space 1; priority = negsuc 0 }

abbrev pub moving : Change
moving = record {
  space = space 0;
  walk = walk (range 0x1000 0x10ff 1 0 0 ∷ []) (range 0x2000 0x20ff 1 0 0 ∷ []);
  lost = without (live 0x1010 ∷ []) (live 0x2010 ∷ []);
  gained = without (live 0x2010 ∷ []) (live 0x1010 ∷ []);
}

-- live ioeventfds: a latch of 8 bytes at 4 in a container, with an ioeventfd at its last two bytes and one that ends
-- past it; the container ends at 10

abbrev pub evented : Forest
evented = forest_of (made_region (region 0) kinds.Container 10
    ∷ (record (placed (region 0) 4 (pos 0) 0 (made_region (region 1) (kinds.Io (device Latch 1 (ops 1 4 1 4 false))) 8)) {
      events =
          (record { offset = 5; size = 2; matched = false; value = 0; number = 1 })
          ∷ (record { offset = 6; size = 2; matched = false; value = 0; number = 2 }) ∷ [];
    }) ∷ [])
    ((space 0, region 0) ∷ [])

abbrev pub shown_live : List Live
shown_live = (record { addr = pos 9; size = 2; matched = false; value = 0; number = 1 }) ∷ []

-- committed forests: an inner commit and an outermost one without a change commit nothing

abbrev pub global : Bool → Config
global on = configs.Call (calls.Global on)

abbrev pub nested : List Config
nested = global true ∷ configs.Begin ∷ configs.Begin ∷ global false ∷ configs.Commit ∷ configs.Commit ∷ configs.Begin ∷ configs.Commit ∷ configs.Call
    (calls.Region kinds.Container 8) ∷ []

pub record ListenerRows : Type 0 where
  pub splits-a-range : walk first_view second_view ≡ first_walk
  pub starts-a-log : walk second_view third_view ≡ second_walk
  pub stops-a-log : walk third_view second_view ≡ Keep (range 0 0xfff 1 0 0) ∷ Keep (range 0x1000 0x1fff 3 0 0)
      ∷ Keep (range 0x2000 0x2fff 1 0x2000 0) ∷ Keep (range 0x8000 0x8fff 2 0 0) ∷ LogStop (range 0x8000 0x8fff 2 0 0) 1 0 ∷ []
  pub replays : ranges_after_all (Some first_view) (first_walk ++ second_walk) ≡ Some third_view
  pub replays-what-a-joiner-hears : replay (joining first_view []) ≡ Some (record { ranges = first_view; lives = []; begun = false })
  pub adds-twice : ranges_after_all (Some first_view) (Add (range 0x2fff 0x3000 3 0 0) ∷ []) ≡ None
  pub begins-twice : replay (hears.Begin ∷ hears.Begin ∷ []) ≡ None
  pub moves-an-ioeventfd : deliveries_of_changes (ascending (high ∷ low ∷ elsewhere ∷ [])) (moving ∷ [])
      ≡ (listener 3, hears.Begin) ∷ (listener 5, hears.Begin) ∷ (listener 4, hears.Begin)
      ∷ (listener 4, hears.Range (Delete (range 0x1000 0x10ff 1 0 0))) ∷ (listener 5, hears.Range (Delete (range 0x1000 0x10ff 1 0 0)))
      ∷ (listener 5, hears.Range (Add (range 0x2000 0x20ff 1 0 0))) ∷ (listener 4, hears.Range (Add (range 0x2000 0x20ff 1 0 0)))
      ∷ (listener 5, hears.EventDel (live 0x1010)) ∷ (listener 4, hears.EventDel (live 0x1010))
      ∷ (listener 4, hears.EventAdd (live 0x2010)) ∷ (listener 5, hears.EventAdd (live 0x2010))
      ∷ (listener 3, hears.Commit) ∷ (listener 5, hears.Commit) ∷ (listener 4, hears.Commit) ∷ []
  -- two that join with one priority stay in order of joining
  pub joins-in-order : map (λ l. l.listener) (ascending (low ∷ (record low { listener = listener 9 }) ∷ high ∷ [])) ≡ listener 5 ∷ listener 9 ∷ listener 4 ∷ []
  pub lives-by-address : lives_below evented 16 (look evented (space 0)) ≡ shown_live
  pub lives-by-range : lives_in evented (range 4 9 1 0 0 ∷ []) ≡ shown_live
  pub view-by-address : ranges_from (look evented (space 0)) (path_at evented (space 0)) 0 16 ≡ range 4 9 1 0 0 ∷ []
  -- an event may begin before address 0
  pub begins-before-zero : lives_in evented (range 0 3 1 6 0 ∷ [])
      ≡ (record { addr = pos 0 -ℤ pos 1; size = 2; matched = false; value = 0; number = 1 })
      ∷ (record { addr = pos 0; size = 2; matched = false; value = 0; number = 2 }) ∷ []
  pub commits-twice : committed_forests nested ≡ empty ∷ after_all empty (calls.Global true ∷ []) ∷ after_all empty
      (calls.Global true ∷ calls.Global false ∷ []) ∷ []
  -- a change that the forest refuses commits nothing, alone or in a transaction
  pub a-refused-change : committed_forests (configs.Call (calls.Enable (region 9) true) ∷ []) ≡ empty ∷ []
  pub refused-in-a-transaction : committed_forests (configs.Begin ∷ configs.Call (calls.Enable (region 9) true) ∷ configs.Commit ∷ []) ≡ empty ∷ []
  -- one and the same ioeventfd is deleted before it is added
  pub deleted-before-added : map switched (switches (live 8 ∷ []) (live 4 ∷ live 8 ∷ [])) ≡ hears.EventAdd (live 4) ∷ hears.EventDel (live 8)
      ∷ hears.EventAdd (live 8) ∷ []
