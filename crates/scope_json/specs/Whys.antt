-- `why` as JSON: the searches at an address of a space.
use Rattle.std.specs.Prelude.{◌≡◌, ℕ, [], ◌∷◌, List, Option, Some, codes}
use Rattle.serde_json.specs.Data.{Data}
use Rattle.mem_base.specs.declared.map.ids.RegionId.{RegionId}
use Rattle.mem_base.specs.declared.map.ids.SpaceId.{SpaceId}
use Rattle.mem_base.specs.map.Limits.{most_translations}
use Rattle.mem_base.specs.script.Named.{Names}
use Rattle.mem_base.specs.script.Shows.{shown_forest}
use Rattle.mem_base.specs.script.Spelling.{Text}
use Rattle.mem_base.specs.script.States.{State, space_named}
use Rattle.find_why.specs.Hops.{AreHops}
use Rattle.find_why.specs.declared.hops.Hop.{Hop}
use Rattle.scope_values.specs.Searches.{searches_data}
use Rattle.scope_run.specs.Whys.{IsAsked}
use Rattle.scope_json.specs.Texts.{answer_of}

abbrev pub why_fields : Names → Option RegionId → List Hop → List (Text × Data)
why_fields names region hops = (codes "searches", searches_data names region hops) ∷ []

abbrev pub why_data : Names → Option RegionId → List Hop → Data
why_data names region hops = answer_of (codes "why") (why_fields names region hops)

-- the searches at an address of a space of the current generation, each with what it finds and why each other region does not answer
-- (`AreHops`)
pub record TellsWhy (s : State) (space : Text) (addr : ℕ) (region : Option Text) (d : Data) : Type 0 where
  pub id : SpaceId
  pub named : space_named s space ≡ Some id
  pub one : Option RegionId
  pub asked : IsAsked s region one
  pub hops : List Hop
  pub are : AreHops (shown_forest s) most_translations id addr hops
  pub data_is : d ≡ why_data s.names one hops
