-- The lines of spots, ranges and views.
-- Generations and logging masks are decimal; addresses and offsets are lower-case hexadecimal, without prefix or leading
-- zeros.
use Rattle.std.specs.Prelude.{if◌then◌else◌, ℕ, ◌==◌, Bool, List, [], ◌++◌, Option, Some, None, codes, decimal, flat_map}
use Rattle.mem_base.specs.declared.map.kinds.Kind.{Kind}
use Rattle.mem_base.specs.declared.map.kinds.Kind.TheVariants.{Container, Ram, Rom, RomDevice, Io, Iommu, Alias, Reserve, Host}
use Rattle.mem_base.specs.declared.map.spots.Attrs.{Attrs}
use Rattle.mem_base.specs.declared.map.spots.Spot.{Spot}
use Rattle.mem_base.specs.declared.views.flat.FlatRange.{FlatRange}
use Rattle.mem_base.specs.script.Spelling.{Text}
use Rattle.mem_base.specs.script.Named.{Names, region_name, kind_named}
use Rattle.mem_base.specs.script.RefusalLines.{hex, line_feed}

-- the word of a kind; no script makes host memory, which is for a program on the library
abbrev pub kind_word : Kind → Text
kind_word Container = codes "container"
kind_word Ram = codes "ram"
kind_word Rom = codes "rom"
kind_word (RomDevice device) = codes "romdev"
kind_word (Io device) = codes "io"
kind_word Iommu = codes "iommu"
kind_word (Alias target offset) = codes "alias"
kind_word Reserve = codes "reserve"
kind_word Host = codes "host"

-- the word of a region's kind; nothing where the region has none
abbrev pub kind_text : Option Kind → Text
kind_text None = []
kind_text (Some kind) = kind_word kind

-- a word, where the flag is on
abbrev pub flag_text : Bool → Text → Text
flag_text on word = if on then word else []

-- a logging mask that is not 0
abbrev pub log_text : ℕ → Text
log_text log = if log == 0 then [] else codes " log=" ++ decimal log

-- read-only, non-volatile, ROM device mode, unmergeable, and a logging mask that is not 0, each after a space
abbrev pub attrs_text : Attrs → Text
attrs_text attrs =
    flag_text attrs.readonly (codes " ro") ++ (flag_text attrs.nonvolatile (codes " nv") ++ (flag_text attrs.romd (codes " romd")
    ++ (flag_text attrs.unmergeable (codes " um") ++ log_text attrs.log)))

-- LEAF @OFFSET KIND FLAGS
abbrev pub spot_text : Names → Spot → Text
spot_text names s =
    region_name names s.leaf ++ (codes " @" ++ (hex s.offset ++ (codes " " ++ (kind_text (kind_named names s.leaf) ++ attrs_text s.attrs))))

-- a spot, or `hole` where nothing is found
abbrev pub found_text : Names → Option Spot → Text
found_text names None = codes "hole"
found_text names (Some s) = spot_text names s

-- at SPACE ADDR SPOT, or at SPACE ADDR hole
abbrev pub at_line : Names → Text → ℕ → Option Spot → Text
at_line names space addr found =
    codes "at " ++ (space ++ (codes " " ++ (hex addr ++ (codes " " ++ (found_text names found ++ line_feed)))))

-- START-LAST SPOT, with the spot at the first address
abbrev pub range_text : Names → FlatRange → Text
range_text names r =
    hex r.start ++ (codes "-" ++ (hex r.last ++ (codes " " ++ spot_text names (record { leaf = r.leaf; offset = r.offset; attrs = r.attrs }))))

-- the line of a range
abbrev pub range_line : Names → FlatRange → Text
range_line names r = range_text names r ++ line_feed

-- a line for each range
abbrev pub range_lines : Names → List FlatRange → Text
range_lines names ranges = flat_map (range_line names) ranges

-- view SPACE gN
abbrev pub view_line : Text → ℕ → Text
view_line space generation = codes "view " ++ (space ++ (codes " g" ++ (decimal generation ++ line_feed)))
