-- What the parts of a search answer. These are for the functions of this crate; the clauses of its public call do not name them.
use Rattle.std.specs.Prelude.{◌≡◌, ℕ, ◌-◌, ◌++◌, Bool, true, false, nat_le, if◌then◌else◌, List, map, reverse, Option, None, is_some}
use Rattle.mem_base.specs.declared.map.ids.RegionId.{RegionId}
use Rattle.mem_base.specs.declared.map.forests.Node.{Node}
use Rattle.mem_base.specs.declared.map.forests.Forest.{Forest}
use Rattle.mem_base.specs.declared.map.spots.Spot.{Spot}
use Rattle.mem_base.specs.map.Search.{Found, Search, spot_of, path_of}
use Rattle.map_laws.proofs.SearchLaws.{HasPathsWithin}
use Rattle.find_why.specs.declared.looks.Outcome.{Outcome}
use Rattle.find_why.specs.declared.looks.Outcome.TheVariants.{Answers, Hole, Disabled, EndsBefore, TriedLater}
use Rattle.find_why.specs.declared.looks.Look.{Look}
use Rattle.find_why.specs.declared.looks.Tried.{Tried}
use Rattle.find_why.specs.declared.search.Sight.{Sight}
use Rattle.find_why.specs.Reasons.{Place, place_in, IsSo, AreTried, is_answer}
use Rattle.find_why.specs.Looked.{AreLooked, AreFollowed, IsFollowed, Grows, answering}

-- what was looked into on the way to this, before and after
pub record Went (f : Forest) (x : Option Found) (old new : List Look) : Type 0 where
  pub path : answering new ≡ answering old ++ reverse (path_of x)
  pub grows : Grows old new
  pub looked : AreLooked f new

-- a region was tried, in which the search finds this
pub record Sees (f : Forest) (answered : Bool) (p : Place) (x : Option Found) (old new : List Look) (sight : Sight) : Type 0 where
  pub spot : sight.spot ≡ spot_of x
  pub so : IsSo f answered p sight.outcome
  pub answers : is_answer sight.outcome ≡ is_some x
  pub followed : IsFollowed new p.0 sight.outcome
  pub went : Went f x old new

-- regions were tried one after another, in which the search finds this
pub record SeesAmong (f : Forest) (ps : List Place) (x : Option Found) (old new : List Look) (tried : List Tried) (spot : Option Spot) : Type 0 where
  pub found : spot ≡ spot_of x
  pub so : AreTried f false ps tried
  pub followed : AreFollowed new tried
  pub went : Went f x old new

-- what a search finds in a child at an offset in its container
abbrev pub tried_in : Search → Node → ℕ → Option Found
tried_in below c a = if nat_le c.offset a then below c.id (a - c.offset) else None

-- what is looked for in a child once one before it was found to answer, or before that
abbrev pub unless : Bool → Option Found → Option Found
unless answered x = if answered then None else x

-- what comes of a region that was looked into
abbrev pub came_of : ℕ → Bool → Outcome
came_of a true = Answers a
came_of a false = Hole a

-- what comes of a region at an offset in it where one that is tried before it answers
abbrev pub later : Node → ℕ → Outcome
later n a = if nat_le n.size a then EndsBefore else if n.enabled then TriedLater else Disabled

-- the children, and where an offset in their container falls in each
abbrev pub places_of : ℕ → List Node → List Place
places_of a cs = map (place_in a) cs

-- no path from a region is longer than this
unfoldable pub IsShallow : Forest → ℕ → RegionId → Type 0
IsShallow f depth r = HasPathsWithin f depth r
