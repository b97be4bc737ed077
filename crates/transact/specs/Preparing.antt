-- What is prepared before a generation becomes current, and how often that may carve.
use Rattle.std.specs.Prelude.{◌≡◌, ℕ, Bool, ◌+◌, ◌*◌, ◌⊎◌, true, false, if◌then◌else◌, List, [], ◌∷◌, ◌++◌, filter, Option, option_map, unwrap_or, Some, None, Ok, Vec}
use Rattle.std.specs.declared.alloc.Global.{Global}
use Rattle.std.specs.List.{list_any, sum_by}
use Rattle.mem_base.specs.declared.map.ids.RegionId.{RegionId}
use Rattle.mem_base.specs.declared.map.ids.SpaceId.{SpaceId}
use Rattle.mem_base.specs.declared.map.forests.Forest.{Forest}
use Rattle.mem_base.specs.declared.map.forests.Node.{Node}
use Rattle.mem_base.specs.declared.map.calls.Call.{Call}
use Rattle.mem_base.specs.declared.access.cells.Place.{Place}
use Rattle.mem_base.specs.declared.views.listening.Change.{Change}
use Rattle.mem_base.specs.declared.views.listening.Listener.{Listener}
use Rattle.mem_base.specs.map.Search.{root_of}
use Rattle.mem_base.specs.map.Steps.{weight_of}
use Rattle.mem_base.specs.map.Calls.{after}
use Rattle.mem_base.specs.map.Touched.{is_touched}
use Rattle.mem_base.specs.declared.views.flat.FlatRange.{FlatRange}
use Rattle.mem_base.specs.views.Naming.{has_leaf}
use Rattle.mem_base.specs.access.Places.{is_notifiers, notifiers_place}
use Rattle.mem_base.specs.views.Listening.{changes_between, hears}
use Rattle.mem_base.specs.machine.Committed.{transaction}
use Rattle.mem_base.specs.machine.Desk.{shown_places}
use Rattle.history_laws.specs.BackedForests.{BacksForest}
use Rattle.generation.specs.Published.{Published, published, AscendByRegion}
use Rattle.transact.specs.Desks.{DeskState, desk_state}

-- the places of all regions of a forest that have words, in order of making, and after the pool the notifiers'
pub record AreDeskPlaces (f : Forest) (places : List Place) : Type 0 where
  pub pool_words : ℕ
  pub regions : List Place
  pub parts : places ≡ regions ++ notifiers_place pool_words ∷ []
  pub backs : BacksForest pool_words f regions
  pub ascending : AscendByRegion places

-- a generation with these atlases has the place: its region is a leaf in one of their views, or it is the notifiers', where `notifies`
abbrev pub is_shown_in : {X : Type 0} → (X → List FlatRange) → List (SpaceId × X) → Bool → Place → Bool
is_shown_in view atlases notifies q = if is_notifiers q.region then notifies else list_any (λ p. has_leaf q.region (view p.1)) atlases

-- these places, or where there are none here those of a generation
abbrev pub places_or : Published → Option (Vec Place Global) → List Place
places_or current places = unwrap_or (option_map (λ list. list.items) places) current.places

-- the generation that publishes a forest after this one
abbrev pub next_of : Published → Forest → List Place → Published
next_of current f places = published (current.number + 1) f (shown_places f places)

-- one of the listeners listens to the space
abbrev pub is_heard : List Listener → SpaceId → Bool
is_heard listeners s = list_any (hears s) listeners

-- of some changes those of the spaces to which one of the listeners listens
abbrev pub heard_by : List Listener → List Change → List Change
heard_by listeners changes = filter (λ c. is_heard listeners c.space) changes

-- what is ready to become current: a generation, what the listeners are to be told, and where it comes of a call outside all
-- transactions, that call
pub record Readied : Type 0 where
  pub generation : Published
  pub changes : List Change
  pub call : Option Call

-- what is prepared of a forest: the generation that publishes it next, and the changes from the current one to it that these listeners
-- hear
abbrev pub readied : Published → Forest → List Place → List Listener → Option Call → Readied
readied current f places listeners call = record {
  generation = next_of current f places;
  changes = heard_by listeners (changes_between current.forest f);
  call = call;
}

-- the weight of a space's root
abbrev pub weight_at : List Node → Option RegionId → ℕ
weight_at nodes None = 0
weight_at nodes (Some root) = weight_of nodes root

-- the carves that a space may take from one forest to another: none where it is not touched
abbrev pub carves_of : Forest → Forest → SpaceId → ℕ
carves_of f g s = if is_touched f g s then weight_at g.nodes (root_of g s) * weight_at g.nodes (root_of g s) else 0

-- those of all spaces
abbrev pub most_carves : Forest → Forest → ℕ
most_carves f g = sum_by (λ p. carves_of f g p.0) g.spaces

-- what is prepared belongs to a desk as it stands: the generation comes next, and its forest is that of a call outside
-- all transactions, or the desk's own where the outermost transaction has a change pending
abbrev pub IsFromCall : DeskState → Readied → Type 0
IsFromCall d r = (d.state.depth ≡ 0) × ((call : Call) × (r.call ≡ Some call) × (after d.state.forest call ≡ Ok r.generation.forest))

abbrev pub IsFromCommit : DeskState → Readied → Type 0
IsFromCommit d r = (d.state.depth ≡ 1) × (d.state.pending ≡ true) × (r.call ≡ None) × (r.generation.forest ≡ d.state.forest)

pub record IsOfDesk (d : DeskState) (r : Readied) : Type 0 where
  pub number : r.generation.number ≡ d.current.number + 1
  pub source : IsFromCall d r ⊎ IsFromCommit d r

-- the desk when what was prepared is current: no transaction is open, and nothing is pending
abbrev pub when_done : Readied → DeskState
when_done r = desk_state (transaction r.generation.forest 0 false) r.generation
