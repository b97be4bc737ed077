-- The desk: what the writer keeps in private, and what of it a publish carries.
-- QEMU's core has this under its big lock: the tree, the depth of transactions, what is pending, and the listeners.
use Rattle.std.specs.Prelude.{ℕ, Bool, false, ◌==◌, if◌then◌else◌, List, [], ◌∷◌, ◌++◌, map, filter, length, replicate, Option, Some, None, option_and_then}
use Rattle.std.specs.List.{list_any, list_all, range_with_len}
use Rattle.std.specs.declared.cmp.Ordering.{Ordering}
use Rattle.std.specs.Ordering.{nat_cmp}
use Rattle.mem_base.specs.declared.map.ids.RegionId.{RegionId}
use Rattle.mem_base.specs.declared.map.forests.Forest.{Forest}
use Rattle.mem_base.specs.declared.access.cells.Place.{Place}
use Rattle.mem_base.specs.declared.access.cells.Cell.{Cell}
use Rattle.mem_base.specs.declared.machine.events.Event.{Event}
use Rattle.mem_base.specs.declared.machine.events.Event.TheVariants as events
use Rattle.mem_base.specs.declared.machine.events.Carried.{Carried}
use Rattle.mem_base.specs.declared.machine.events.Carried.TheVariants as carries
use Rattle.mem_base.specs.access.PlacesByRegion.{place_in}
use Rattle.mem_base.specs.map.Calls.{empty}
use Rattle.mem_base.specs.access.Places.{notifiers_place, is_notifiers}
use Rattle.mem_base.specs.access.Cells.{cell, is_same_cell, region_of}
use Rattle.mem_base.specs.views.Naming.{names, shows_events}
use Rattle.mem_base.specs.views.Listening.{Listening, no_listeners}

-- what the writer keeps
pub record Desk : Type 0 where
  pub forest : Forest
  pub depth : ℕ  -- the transactions that are open
  pub pending : Bool  -- a change was made in them
  pub listening : Listening
  pub pool_words : ℕ
  pub places : List Place  -- of the regions that have words, in order of making
  pub dropped : List RegionId  -- and not released yet, ascending
  pub unfilled : List Cell  -- of a new region, and not cleared yet
  pub due : Bool  -- a publish is due
  pub swept : List Bool  -- of each pass: it was swept since the last private event

-- the desk before anything was done, by the words of its pool and the number of passes
abbrev pub first_desk : ℕ → ℕ → Desk
first_desk pool_words passes = record {
  forest = empty;
  depth = 0;
  pending = false;
  listening = no_listeners;
  pool_words = pool_words;
  places = [];
  dropped = [];
  unfilled = [];
  due = false;
  swept = replicate passes false;
}

-- all places in which there are cells: those of regions, and after the pool that of the notifiers
abbrev pub places_of : Desk → List Place
places_of d = d.places ++ notifiers_place d.pool_words ∷ []

-- the cells of a place, ascending
abbrev pub cells_of : Place → List Cell
cells_of p = map (cell p.region) (range_with_len 0 p.words)

-- the cell is not cleared yet
abbrev pub is_unfilled : Desk → Cell → Bool
is_unfilled d c = list_any (is_same_cell c) d.unfilled

-- every cell of every region is cleared
abbrev pub is_all_filled : Desk → Bool
is_all_filled d = length d.unfilled == 0

-- each pass was swept since the last private event
abbrev pub is_all_swept : Desk → Bool
is_all_swept d = list_all (λ swept. swept) d.swept

-- regions stand by ascending id
abbrev pub region_order : RegionId → RegionId → Ordering
region_order x y = nat_cmp x.0 y.0

-- after a private event, a refused one too, no pass is swept
abbrev pub unswept : Desk → Desk
unswept d = record d { swept = map (λ swept. false) d.swept }

-- the places that a generation of a forest has: of just the regions that it names, and the notifiers' place where a
-- leaf has an ioeventfd
abbrev pub is_shown_place : Forest → Place → Bool
is_shown_place f p = if is_notifiers p.region then shows_events f else names f p.region

-- of these places, those that a generation of the forest has
abbrev pub shown_places : Forest → List Place → List Place
shown_places f places = filter (is_shown_place f) places

-- what a step on a cell carries: the place of the cell's region, if there is one
abbrev pub at_place : Option Place → Carried
at_place None = carries.Nothing
at_place (Some p) = carries.At p

-- what an event of the writer carries: a Publish the desk's forest and its places, a step on a cell the place of the
-- cell's region
abbrev pub carried_by : Desk → Event → Carried
carried_by d events.Publish = carries.Edition d.forest (shown_places d.forest (places_of d))
carried_by d e = at_place (option_and_then (place_in (places_of d)) (region_of e))
