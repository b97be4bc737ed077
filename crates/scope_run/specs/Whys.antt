-- `why`: what is told of an address of a space.
use Rattle.std.specs.Prelude.{◌≡◌, ℕ, List, Option, Some, None}
use Rattle.mem_base.specs.declared.map.ids.RegionId.{RegionId}
use Rattle.mem_base.specs.declared.map.ids.SpaceId.{SpaceId}
use Rattle.mem_base.specs.map.Limits.{most_translations}
use Rattle.mem_base.specs.script.Named.{Names}
use Rattle.mem_base.specs.script.Shows.{shown_forest}
use Rattle.mem_base.specs.script.Spelling.{Text}
use Rattle.mem_base.specs.script.States.{State, region_named, space_named}
use Rattle.find_why.specs.Hops.{AreHops}
use Rattle.find_why.specs.declared.hops.Hop.{Hop}
use Rattle.scope_lines.specs.Whys.{concern_lines, why_lines}

-- the region that a name stands for, where one is asked for
abbrev pub IsAsked : State → Option Text → Option RegionId → Type 0
IsAsked s None region = region ≡ None
IsAsked s (Some name) region = (id : RegionId) × (region_named s name ≡ Some id) × (region ≡ Some id)

-- the lines of searches, or those of them that concern one region
abbrev pub why_text : Names → Option RegionId → List Hop → Text
why_text names None hops = why_lines names hops
why_text names (Some region) hops = concern_lines names region hops

-- the searches at an address of a space of the current generation, each with what it finds and why each other region does not answer
-- (`AreHops`), as lines
pub record TellsWhy (s : State) (space : Text) (addr : ℕ) (region : Option Text) (text : Text) : Type 0 where
  pub id : SpaceId
  pub named : space_named s space ≡ Some id
  pub one : Option RegionId
  pub asked : IsAsked s region one
  pub hops : List Hop
  pub are : AreHops (shown_forest s) most_translations id addr hops
  pub text_is : text ≡ why_text s.names one hops
