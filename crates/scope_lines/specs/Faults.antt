-- The text of what looks wrong in a map.
use Rattle.std.specs.Prelude.{List, ◌++◌, codes, flat_map}
use Rattle.mem_base.specs.declared.map.ids.RegionId.{RegionId}
use Rattle.mem_base.specs.script.Spelling.{Text}
use Rattle.mem_base.specs.script.Named.{Names, region_name}
use Rattle.mem_base.specs.script.RefusalLines.{line_feed}
use Rattle.map_lint.specs.declared.findings.Finding.{Finding}
use Rattle.map_lint.specs.declared.findings.Finding.TheVariants.{Unreached, Tied, PastTarget, Clipped, Hidden}

-- a region, and what is said of it
abbrev pub fault : Names → RegionId → Text → Text
fault names r text = region_name names r ++ (text ++ line_feed)

-- a region, what is said of it, and another region that this speaks of
abbrev pub pair_line : Names → RegionId → Text → RegionId → Text
pair_line names r text other = region_name names r ++ (text ++ (region_name names other ++ line_feed))

abbrev pub finding_line : Names → Finding → Text
finding_line names (Unreached r) = fault names r (codes " is reached by no address")
finding_line names (Tied r other) = pair_line names r (codes " is tried after one of the same priority that it overlaps: ") other
finding_line names (PastTarget r target) = pair_line names r (codes " goes on past the end of its target ") target
finding_line names (Clipped r container) = pair_line names r (codes " goes on past the end of its container ") container
finding_line names (Hidden r other) = pair_line names r (codes " lies wholly under ") other

-- a line each
abbrev pub finding_lines : Names → List Finding → Text
finding_lines names found = flat_map (finding_line names) found
