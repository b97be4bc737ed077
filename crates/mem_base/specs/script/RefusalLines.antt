-- The line of a refused command, and that of a text which is no script.
-- Counts and numbers of lines are decimal; offsets are lower-case hexadecimal, without prefix or leading zeros.
use Rattle.std.specs.Prelude.{ℕ, false, [], ◌∷◌, ◌++◌, codes, decimal}
use Rattle.std.specs.Fmt.{digits}
use Rattle.mem_base.specs.map.PassIds.{PassId}
use Rattle.mem_base.specs.declared.map.refusals.What.{What}
use Rattle.mem_base.specs.declared.map.refusals.What.TheVariants as what
use Rattle.mem_base.specs.declared.map.refusals.User.{User}
use Rattle.mem_base.specs.declared.map.refusals.User.TheVariants as user
use Rattle.mem_base.specs.declared.map.refusals.Which.{Which}
use Rattle.mem_base.specs.declared.map.refusals.Which.TheVariants as which
use Rattle.mem_base.specs.declared.map.refusals.Refusal.{Refusal}
use Rattle.mem_base.specs.declared.map.refusals.Refusal.TheVariants as refusal
use Rattle.mem_base.specs.declared.script.faults.Cause.{Cause}
use Rattle.mem_base.specs.declared.script.faults.Cause.TheVariants as cause
use Rattle.mem_base.specs.declared.script.faults.BadScript.{BadScript}
use Rattle.mem_base.specs.script.Spelling.{Text}
use Rattle.mem_base.specs.script.Named.{Names, region_name, space_name, listener_name, watcher_name}

-- a number in lower-case hexadecimal
abbrev pub hex : ℕ → Text
hex n = digits 16 false n

-- the end of a line
abbrev pub line_feed : Text
line_feed = 10 ∷ []

-- a region, space, listener or watcher is told by its name, a translation or ioeventfd by its offset
abbrev pub what_text : Names → What → Text
what_text names (what.Region r) = region_name names r
what_text names (what.Space s) = space_name names s
what_text names (what.Listener l) = listener_name names l
what_text names (what.Watcher n) = watcher_name names n
what_text names (what.Entry iova) = hex iova
what_text names (what.Event offset) = hex offset

-- who uses a region
abbrev pub user_text : Names → User → Text
user_text names (user.Region r) = region_name names r
user_text names (user.Space s) = space_name names s

-- what a limit counts
abbrev pub which_text : Which → Text
which_text which.Regions = codes "regions"
which_text which.Made = codes "made"
which_text which.Spaces = codes "spaces"
which_text which.Listeners = codes "listeners"
which_text which.Entries = codes "entries"
which_text which.Events = codes "events"
which_text which.Calls = codes "calls"
which_text which.Watchers = codes "notifiers"

-- a count stands at its limit
abbrev pub limit_text : Which → ℕ → Text
limit_text w limit = codes "F17 limit " ++ (which_text w ++ (codes " " ++ decimal limit))

-- a pass holds a publish up
abbrev pub held_text : PassId → ℕ → Text
held_text pass generation = codes "F19 held v" ++ (decimal pass.0 ++ (codes " " ++ decimal generation))

-- a refusal by its number and words; no line tells of a lack of memory
abbrev pub refusal_text : Names → Refusal → Text
refusal_text names (refusal.Unknown w) = codes "F1 unknown " ++ what_text names w
refusal_text names (refusal.NameTaken w) = codes "F2 name-taken " ++ what_text names w
refusal_text names (refusal.HasContainer r) = codes "F3 has-container " ++ region_name names r
refusal_text names (refusal.NotChild r) = codes "F4 not-child " ++ region_name names r
refusal_text names (refusal.AliasParent r) = codes "F5 alias-parent " ++ region_name names r
refusal_text names (refusal.Loop r) = codes "F6 loop " ++ region_name names r
refusal_text names (refusal.TooDeep depth) = codes "F7 too-deep " ++ decimal depth
refusal_text names (refusal.TooWide weight) = codes "F8 too-wide " ++ decimal weight
refusal_text names refusal.BadSize = codes "F9 bad-size"
refusal_text names refusal.BadOps = codes "F10 bad-ops"
refusal_text names (refusal.WrongKind r) = codes "F11 wrong-kind " ++ region_name names r
refusal_text names refusal.NoTransaction = codes "F12 no-transaction"
refusal_text names refusal.TooNested = codes "F13 too-nested"
refusal_text names (refusal.InUse u) = codes "F14 in-use " ++ user_text names u
refusal_text names (refusal.PageOverlap iova) = codes "F15 page-overlap " ++ hex iova
refusal_text names refusal.BadPage = codes "F16 bad-page"
refusal_text names (refusal.LimitReached w limit) = limit_text w limit
refusal_text names (refusal.NoBacking words) = codes "F18 no-backing " ++ decimal words
refusal_text names (refusal.Held pass generation) = held_text pass generation
refusal_text names refusal.EventTaken = codes "F20 event-taken"
refusal_text names refusal.Memory = []

-- refused LINE TEXT
abbrev pub refused_line : ℕ → Text → Text
refused_line number text = codes "refused " ++ (decimal number ++ (codes " " ++ (text ++ line_feed)))

-- a name that stands for nothing, and one that is to be made and is there
abbrev pub unknown_text : Text → Text
unknown_text name = codes "F1 unknown " ++ name

-- a name that is to be made stands for something
abbrev pub taken_text : Text → Text
taken_text name = codes "F2 name-taken " ++ name

-- Faulty scripts

-- the word for a cause
abbrev pub cause_text : Cause → Text
cause_text cause.Byte = codes "byte"
cause_text cause.Word = codes "word"
cause_text cause.Name = codes "name"
cause_text cause.Number = codes "number"
cause_text cause.Count = codes "count"
cause_text cause.Place = codes "place"
cause_text cause.Long = codes "long"

-- bad script line N CAUSE
abbrev pub bad_line : BadScript → Text
bad_line bad = codes "bad script line " ++ (decimal bad.line ++ (codes " " ++ (cause_text bad.cause ++ line_feed)))
