-- Why a region answers an address, and why the others do not, as JSON.
use Rattle.std.specs.Prelude.{◌==◌, if◌then◌else◌, List, [], ◌∷◌, ◌++◌, map, flat_map, Option, Some, None, codes}
use Rattle.serde_json.specs.Data.{Data, boolean, null, string}
use Rattle.json_build.specs.Parts.{address_of, list_of, name_of, record_of}
use Rattle.mem_base.specs.declared.map.ids.RegionId.{RegionId}
use Rattle.mem_base.specs.declared.map.translations.Entry.{Entry}
use Rattle.mem_base.specs.script.Named.{Names, kind_named, region_name, space_name}
use Rattle.mem_base.specs.script.Printing.{perm_text}
use Rattle.mem_base.specs.script.SpotLines.{kind_text}
use Rattle.mem_base.specs.script.Spelling.{Text}
use Rattle.find_why.specs.declared.looks.Look.{Look}
use Rattle.find_why.specs.declared.looks.Tried.{Tried}
use Rattle.find_why.specs.declared.hops.Hop.{Hop}
use Rattle.scope_lines.specs.Whys.{reason_text}
use Rattle.scope_values.specs.Ranges.{found_data}

-- a region that was tried, and what came of it
abbrev pub tried_fields : Names → Tried → List (Text × Data)
tried_fields names t = (codes "region", name_of (region_name names t.region)) ∷ (codes "reason", string (reason_text t.outcome)) ∷ []

abbrev pub tried_data : Names → Tried → Data
tried_data names t = record_of (tried_fields names t)

-- the root of a space, and what came of it
abbrev pub root_data : Names → Option Tried → Data
root_data names None = null
root_data names (Some t) = tried_data names t

-- a region that was looked into, at an offset; those in which something was found are the path; and the regions inside it as they are tried
abbrev pub look_fields : Names → Look → List (Text × Data)
look_fields names l =
    (codes "region", name_of (region_name names l.region)) ∷ (codes "kind", name_of (kind_text (kind_named names l.region)))
    ∷ (codes "offset", address_of l.at) ∷ (codes "answers", boolean l.answers) ∷ (codes "trials", list_of (map (tried_data names) l.trials)) ∷ []

abbrev pub look_data : Names → Look → Data
look_data names l = record_of (look_fields names l)

-- the translation by which the way goes on
abbrev pub entry_fields : Names → Entry → List (Text × Data)
entry_fields names e =
    (codes "page", address_of e.iova) ∷ (codes "space", name_of (space_name names e.space)) ∷ (codes "address", address_of e.translated)
    ∷ (codes "permission", string (perm_text e.perm)) ∷ []

abbrev pub translation_data : Names → Option Entry → Data
translation_data names None = null
translation_data names (Some e) = record_of (entry_fields names e)

-- where a search begins, and what it finds
abbrev pub search_fields : Names → Hop → List (Text × Data)
search_fields names h =
    (codes "space", name_of (space_name names h.space)) ∷ (codes "address", address_of h.addr) ∷ (codes "answer", found_data names h.answer) ∷ []

-- a search, with all regions that were looked into
abbrev pub whole_fields : Names → Hop → List (Text × Data)
whole_fields names h =
    search_fields names h ++ ((codes "root", root_data names h.root) ∷ (codes "looks", list_of (map (look_data names) h.looks))
    ∷ (codes "translation", translation_data names h.used) ∷ [])

abbrev pub search_data : Names → Hop → Data
search_data names h = record_of (whole_fields names h)

-- what came of a region, if it is this one
abbrev pub concern : Names → RegionId → Tried → List Data
concern names r t = if t.region.0 == r.0 then tried_data names t ∷ [] else []

abbrev pub root_concern : Names → RegionId → Option Tried → List Data
root_concern names r None = []
root_concern names r (Some t) = concern names r t

-- what came of a region inside one that was looked into
abbrev pub look_concern : Names → RegionId → Look → List Data
look_concern names r l = flat_map (concern names r) l.trials

-- a search, with what came of one region wherever it was tried
abbrev pub concern_fields : Names → RegionId → Hop → List (Text × Data)
concern_fields names r h =
    search_fields names h ++ (codes "trials", list_of (root_concern names r h.root ++ flat_map (look_concern names r) h.looks)) ∷ []

abbrev pub concern_data : Names → RegionId → Hop → Data
concern_data names r h = record_of (concern_fields names r h)

-- searches, with all that was looked at or with what concerns one region
abbrev pub searches_data : Names → Option RegionId → List Hop → Data
searches_data names None hops = list_of (map (search_data names) hops)
searches_data names (Some r) hops = list_of (map (concern_data names r) hops)
