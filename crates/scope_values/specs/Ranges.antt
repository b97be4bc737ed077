-- What answers at an address, and ranges of views, as JSON: addresses and offsets as texts, names and words as the plain answers have them.
use Rattle.std.specs.Prelude.{ℕ, Bool, if◌then◌else◌, List, [], ◌∷◌, ◌++◌, Option, Some, None, codes, drop, length, ◌+◌, ◌==◌}
use Rattle.std.specs.List.{before_first}
use Rattle.serde_json.specs.Data.{Data, null, number, string, unsigned}
use Rattle.json_build.specs.Parts.{address_of, list_of, name_of, record_of}
use Rattle.mem_base.specs.declared.map.spots.Attrs.{Attrs}
use Rattle.mem_base.specs.declared.map.spots.Spot.{Spot}
use Rattle.mem_base.specs.declared.views.flat.FlatRange.{FlatRange}
use Rattle.mem_base.specs.script.Named.{Names, kind_named, name_at, region_name}
use Rattle.mem_base.specs.script.Spelling.{Text}
use Rattle.mem_base.specs.script.SpotLines.{kind_text}

-- a word, where the flag is on
abbrev pub flag : Bool → Text → List Data
flag on word = if on then string word ∷ [] else []

-- read-only, non-volatile, ROM device mode, unmergeable: those that hold
abbrev pub flags_data : Attrs → Data
flags_data attrs =
    list_of (flag attrs.readonly (codes "ro") ++ (flag attrs.nonvolatile (codes "nv") ++ (flag attrs.romd (codes "romd")
    ++ flag attrs.unmergeable (codes "um"))))

-- the members of a region at an offset
abbrev pub place_fields : Text → Text → ℕ → Attrs → List (Text × Data)
place_fields region kind offset attrs =
    (codes "region", name_of region) ∷ (codes "kind", name_of kind) ∷ (codes "offset", address_of offset) ∷ (codes "flags", flags_data attrs)
    ∷ (codes "log", number (unsigned attrs.log)) ∷ []

-- the members of a spot
abbrev pub spot_fields : Names → Spot → List (Text × Data)
spot_fields names s = place_fields (region_name names s.leaf) (kind_text (kind_named names s.leaf)) s.offset s.attrs

-- what a search finds: a spot, or nothing
abbrev pub found_data : Names → Option Spot → Data
found_data names None = null
found_data names (Some s) = record_of (spot_fields names s)

-- the first address and the last one
abbrev pub ends_fields : ℕ → ℕ → List (Text × Data)
ends_fields start last = (codes "start", address_of start) ∷ (codes "last", address_of last) ∷ []

-- the members of a range
abbrev pub range_fields : Names → FlatRange → List (Text × Data)
range_fields names r = ends_fields r.start r.last ++ spot_fields names (record { leaf = r.leaf; offset = r.offset; attrs = r.attrs })

-- the name in a label, which is a name and the word of a kind with a space between them; and the word of the kind
abbrev pub label_name : Text → Text
label_name label = before_first (λ b. b == 32) label

abbrev pub label_kind : Text → Text
label_kind label = drop (length (label_name label) + 1) label

-- the members of a range whose leaf is told by its label
abbrev pub labelled_fields : List Text → FlatRange → List (Text × Data)
labelled_fields labels r =
    ends_fields r.start r.last ++ place_fields (label_name (name_at labels r.leaf.0)) (label_kind (name_at labels r.leaf.0)) r.offset r.attrs
