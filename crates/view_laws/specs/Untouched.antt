-- What an untouched space shows.
use Rattle.std.specs.Prelude.{◌≡◌, ℕ, false}
use Rattle.mem_base.specs.declared.map.ids.SpaceId.{SpaceId}
use Rattle.mem_base.specs.declared.map.forests.Forest.{Forest}
use Rattle.mem_base.specs.map.Region.{IsAscending}
use Rattle.mem_base.specs.map.Search.{found_at}
use Rattle.mem_base.specs.map.Touched.{is_touched}
use Rattle.mem_base.specs.views.Flattened.{view_of}

-- the search finds the same at each address, and on the same path; so the view is the same
pub record ShowsTheSame (f g : Forest) (s : SpaceId) : Type 0 where
  pub found : (a : ℕ) → found_at f s a ≡ found_at g s a
  pub view : view_of f s ≡ view_of g s

abbrev pub UntouchedStay : Type 0
UntouchedStay = (f g : Forest) (s : SpaceId) → IsAscending f.nodes → IsAscending g.nodes → is_touched f g s ≡ false → ShowsTheSame f g s
