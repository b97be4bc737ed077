-- What looks wrong in a map, as JSON.
use Rattle.std.specs.Prelude.{List, [], ◌∷◌, Option, Some, None, codes}
use Rattle.serde_json.specs.Data.{Data, null, string}
use Rattle.json_build.specs.Parts.{name_of, record_of}
use Rattle.mem_base.specs.declared.map.ids.RegionId.{RegionId}
use Rattle.mem_base.specs.script.Named.{Names, region_name}
use Rattle.mem_base.specs.script.Spelling.{Text}
use Rattle.map_lint.specs.declared.findings.Finding.{Finding}
use Rattle.map_lint.specs.declared.findings.Finding.TheVariants.{Unreached, Tied, PastTarget, Clipped, Hidden}

-- what is said of a region
abbrev pub finding_words : Finding → Text
finding_words (Unreached r) = codes "is reached by no address"
finding_words (Tied r other) = codes "is tried after one of the same priority that it overlaps"
finding_words (PastTarget r target) = codes "goes on past the end of its target"
finding_words (Clipped r container) = codes "goes on past the end of its container"
finding_words (Hidden r other) = codes "lies wholly under"

-- the region of which it is said
abbrev pub subject : Finding → RegionId
subject (Unreached r) = r
subject (Tied r other) = r
subject (PastTarget r target) = r
subject (Clipped r container) = r
subject (Hidden r other) = r

-- the other region that it speaks of
abbrev pub object_of : Finding → Option RegionId
object_of (Unreached r) = None
object_of (Tied r other) = Some other
object_of (PastTarget r target) = Some target
object_of (Clipped r container) = Some container
object_of (Hidden r other) = Some other

-- the name of a region, if there is one
abbrev pub region_data : Names → Option RegionId → Data
region_data names None = null
region_data names (Some r) = name_of (region_name names r)

abbrev pub finding_fields : Names → Finding → List (Text × Data)
finding_fields names f =
    (codes "region", name_of (region_name names (subject f))) ∷ (codes "finding", string (finding_words f))
    ∷ (codes "other", region_data names (object_of f)) ∷ []

abbrev pub finding_data : Names → Finding → Data
finding_data names f = record_of (finding_fields names f)
