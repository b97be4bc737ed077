-- The text of why a region answers an address, and why the others do not.
use Rattle.std.specs.Prelude.{ℕ, zero, suc, ◌+◌, ◌==◌, Bool, true, false, ◌||◌, not, if◌then◌else◌, List, [], ◌∷◌, ◌++◌, Option, Some, None, codes, decimal, flat_map}
use Rattle.std.specs.List.{list_any}
use Rattle.mem_base.specs.declared.map.ids.RegionId.{RegionId}
use Rattle.mem_base.specs.declared.map.translations.Entry.{Entry}
use Rattle.mem_base.specs.script.Spelling.{Text}
use Rattle.mem_base.specs.script.Named.{Names, region_name, space_name, kind_named}
use Rattle.mem_base.specs.script.RefusalLines.{hex, line_feed}
use Rattle.mem_base.specs.script.Printing.{perm_text}
use Rattle.mem_base.specs.script.SpotLines.{kind_text, at_line}
use Rattle.find_why.specs.declared.looks.Look.{Look}
use Rattle.find_why.specs.declared.looks.Tried.{Tried}
use Rattle.find_why.specs.declared.looks.Outcome.{Outcome}
use Rattle.find_why.specs.declared.looks.Outcome.TheVariants.{Answers, Hole, Disabled, BeginsAfter, EndsBefore, TriedLater}
use Rattle.find_why.specs.declared.hops.Hop.{Hop}
use Rattle.find_why.specs.Reasons.{is_answer}

-- two spaces for each level
abbrev pub indent : ℕ → Text
indent zero = []
indent (suc n) = codes "  " ++ indent n

-- NAME @OFFSET
abbrev pub place_text : Names → RegionId → ℕ → Text
place_text names r a = region_name names r ++ (codes " @" ++ hex a)

-- a region on the path: NAME @OFFSET KIND
abbrev pub path_line : Names → ℕ → Look → Text
path_line names depth l = indent depth ++ (place_text names l.region l.at ++ (codes " " ++ (kind_text (kind_named names l.region) ++ line_feed)))

-- the path: the regions in which something was found, each deeper than the one before it
abbrev pub path_lines : Names → ℕ → List Look → Text
path_lines names depth [] = []
path_lines names depth (l ∷ ls) = if l.answers then path_line names depth l ++ path_lines names (depth + 1) ls else path_lines names depth ls

abbrev pub reason_text : Outcome → Text
reason_text (Answers a) = codes "answers"
reason_text (Hole a) = codes "has a hole there"
reason_text Disabled = codes "is disabled"
reason_text BeginsAfter = codes "begins after it"
reason_text EndsBefore = codes "ends before it"
reason_text TriedLater = codes "is tried later"

-- NAME REASON
abbrev pub trial_line : Names → Tried → Text
trial_line names t = region_name names t.region ++ (codes " " ++ (reason_text t.outcome ++ line_feed))

-- the region holds the address
abbrev pub held : Outcome → Bool
held BeginsAfter = false
held EndsBefore = false
held _ = true

-- the line of a region that holds the address
abbrev pub trial_lines : Names → Tried → Text
trial_lines names t = if held t.outcome then codes "  " ++ trial_line names t else []

abbrev pub begins_after : Outcome → Bool
begins_after BeginsAfter = true
begins_after _ = false

abbrev pub ends_before : Outcome → Bool
ends_before EndsBefore = true
ends_before _ = false

-- how many regions begin after the address
abbrev pub after_count : List Tried → ℕ
after_count [] = 0
after_count (t ∷ ts) = if begins_after t.outcome then after_count ts + 1 else after_count ts

-- how many regions end before the address
abbrev pub before_count : List Tried → ℕ
before_count [] = 0
before_count (t ∷ ts) = if ends_before t.outcome then before_count ts + 1 else before_count ts

-- a count that is not 0
abbrev pub count_line : ℕ → Text → Text
count_line n text = if n == 0 then [] else (codes "  " ++ decimal n) ++ (text ++ line_feed)

-- one of the regions inside does not answer
abbrev pub is_told : List Tried → Bool
is_told ts = list_any (λ t. not (is_answer t.outcome)) ts

-- the regions inside one, where one of them does not answer
abbrev pub look_lines : Names → Look → Text
look_lines names l =
    if is_told l.trials then codes "in " ++ (place_text names l.region l.at ++ (codes ":" ++ (line_feed ++ (flat_map (trial_lines names) l.trials
    ++ (count_line (after_count l.trials) (codes " begin after it") ++ count_line (before_count l.trials) (codes " end before it"))))))
    else []

-- a root that does not answer
abbrev pub root_line : Names → Option Tried → Text
root_line names None = []
root_line names (Some t) = if is_answer t.outcome then [] else codes "  " ++ trial_line names t

-- page IOVA goes to SPACE ADDR PERM
abbrev pub used_line : Names → Option Entry → Text
used_line names None = []
used_line names (Some e) =
    codes "page " ++ (hex e.iova ++ (codes " goes to " ++ (space_name names e.space ++ (codes " " ++ (hex e.translated ++ (codes " " ++ (perm_text e.perm ++ line_feed)))))))

-- one search: what answers, the path to it, why the others do not, and where it is translated
abbrev pub hop_lines : Names → Hop → Text
hop_lines names h =
    at_line names (space_name names h.space) h.addr h.answer ++ (path_lines names 1 h.looks ++ (root_line names h.root
    ++ (flat_map (look_lines names) h.looks ++ used_line names h.used)))

-- all searches on the way of an address
abbrev pub why_lines : Names → List Hop → Text
why_lines names hops = flat_map (hop_lines names) hops

-- what came of a region, if it is this one
abbrev pub concern : Names → RegionId → Tried → Text
concern names r t = if t.region.0 == r.0 then trial_line names t else []

abbrev pub root_concern : Names → RegionId → Option Tried → Text
root_concern names r None = []
root_concern names r (Some t) = concern names r t

-- what concerns one region in one search
abbrev pub concern_of : Names → RegionId → Hop → Text
concern_of names r h =
    at_line names (space_name names h.space) h.addr h.answer ++ (root_concern names r h.root ++ flat_map (λ l. flat_map (concern names r) l.trials) h.looks)

abbrev pub is_root : RegionId → Option Tried → Bool
is_root r None = false
is_root r (Some t) = t.region.0 == r.0

-- the region was tried in a search
abbrev pub tried_in : RegionId → Hop → Bool
tried_in r h = is_root r h.root || list_any (λ l. list_any (λ t. t.region.0 == r.0) l.trials) h.looks

abbrev pub concerns : RegionId → List Hop → Bool
concerns r hops = list_any (tried_in r) hops

-- that no search tried the region
abbrev pub no_concern : Names → RegionId → Bool → Text
no_concern names r tried = if tried then [] else region_name names r ++ (codes " is not tried there" ++ line_feed)

-- what concerns one region
abbrev pub concern_lines : Names → RegionId → List Hop → Text
concern_lines names r hops = flat_map (concern_of names r) hops ++ no_concern names r (concerns r hops)
