-- What an address of a space leads to, and how far it goes on alike.
use Rattle.std.specs.Prelude.{◌≡◌, ℕ, List, Option}
use Rattle.mem_base.specs.declared.map.forests.Forest.{Forest}
use Rattle.mem_base.specs.declared.map.ids.SpaceId.{SpaceId}
use Rattle.mem_base.specs.declared.map.spots.Spot.{Spot}
use Rattle.mem_base.specs.declared.views.flat.FlatRange.{FlatRange}
use Rattle.mem_base.specs.map.Search.{look}
use Rattle.mem_base.specs.views.View.{IsView}
use Rattle.flat_lookup.specs.Atlases.{run_end}

-- the search finds this at the address, and in the view of the space the range or the hole that holds it ends here
pub record IsRunAt (f : Forest) (s : SpaceId) (a : ℕ) (spot : Option Spot) (last : ℕ) : Type 0 where
  pub view : List FlatRange
  pub of_space : IsView f s view
  pub found : spot ≡ look f s a
  pub ends : last ≡ run_end view a
