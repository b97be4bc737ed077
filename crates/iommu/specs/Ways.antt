-- Routes by how many translations may still be used, and where a search finds the same thing byte after byte.
use Rattle.std.specs.Prelude.{◌≡◌, ℕ, ◌+◌, ◌<◌, ◌≤◌, Bool, true, false, not, ◌&&◌, ◌||◌, List, ◌∷◌, Option, Some, None, option_map, filter_map}
use Rattle.mem_base.specs.declared.map.ids.SpaceId.{SpaceId}
use Rattle.mem_base.specs.declared.map.forests.Forest.{Forest}
use Rattle.mem_base.specs.declared.map.spots.Spot.{Spot}
use Rattle.mem_base.specs.declared.map.translations.Entry.{Entry}
use Rattle.mem_base.specs.declared.access.accesses.Target.{Target}
use Rattle.mem_base.specs.lists.Runs.{runs}
use Rattle.mem_base.specs.map.Search.{Found, spot_of}
use Rattle.mem_base.specs.views.Flattened.{same_path}
use Rattle.mem_base.specs.access.Trails.{Route, first_length, trail_within, is_next_spot, is_next_trail}

-- a spot n bytes further on
abbrev pub further : ℕ → Spot → Spot
further n s = record { leaf = s.leaf; offset = s.offset + n; attrs = s.attrs }

-- the second search finds the byte after the first one's and, where that is unmergeable, on the same path
abbrev pub is_next_found : Found → Found → Bool
is_next_found x y = is_next_spot x.0 y.0 && (not x.0.attrs.unmergeable || same_path x.1 y.1)

-- the same of searches that may find nothing: either both do, or neither
abbrev pub joins : Option Found → Option Found → Bool
joins None None = true
joins (Some x) (Some y) = is_next_found x y
joins _ _ = false

-- of the addresses from `a` on, at most `limit`, just the first n find the same thing, byte after byte
pub record IsStretch (found : ℕ → Option Found) (a n limit : ℕ) : Type 0 where
  pub some : 0 < n
  pub within : n ≤ limit
  pub spots : (i : ℕ) → i < n → spot_of (found (a + i)) ≡ option_map (further i) (spot_of (found a))
  pub joined : (i : ℕ) → i + 1 < n → joins (found (a + i)) (found (a + (i + 1))) ≡ true
  pub parts : (i : ℕ) → i + 1 ≡ n → n < limit → joins (found (a + i)) (found (a + (i + 1))) ≡ false

abbrev pub way : Target → ℕ → List Entry → Route
way target length used = record { target = target; length = length; used = used }

-- an address shares the route with the next one, where at most `left` translations may still be used
abbrev pub shares_within : Forest → Bool → ℕ → SpaceId → ℕ → Bool
shares_within f write left s a = is_next_trail (trail_within f write left s a) (trail_within f write left s (a + 1))

-- the route of n addresses, where at most `left` translations may still be used
unfoldable pub way_within : Forest → Bool → ℕ → SpaceId → ℕ → ℕ → Route
way_within f write left s a n =
    way (trail_within f write left s a).target (first_length (runs (shares_within f write left s) a n))
    (filter_map (λ h. h.used) (trail_within f write left s a).hops)

-- a route whose first translation is this one, by the route from there on
abbrev pub leads_through : Entry → Route → Route
leads_through e r = way r.target r.length (e ∷ r.used)
