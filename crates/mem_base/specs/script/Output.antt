-- The lines that a run of a script writes of accesses, notifiers, marks, listeners and watchers.
-- Numbers of passes, generations and notifiers, the value of a notifier, numbers of pages, sizes of ioeventfds and logging
-- masks are decimal; all other numbers are lower-case hexadecimal, without prefix or leading zeros.
use Rattle.std.specs.Prelude.{if◌then◌else◌, ℕ, Bool, List, [], ◌∷◌, ◌++◌, Option, Some, None, codes, decimal, ℤ, pos, int_lt, nat_abs, flat_map}
use Rattle.mem_base.specs.declared.map.ids.RegionId.{RegionId}
use Rattle.mem_base.specs.map.PassIds.{PassId}
use Rattle.mem_base.specs.declared.map.kinds.Client.{Client}
use Rattle.mem_base.specs.declared.map.ioevents.Live.{Live}
use Rattle.mem_base.specs.declared.views.listening.RangeEvent.{RangeEvent}
use Rattle.mem_base.specs.declared.views.listening.RangeEvent.TheVariants.{Delete, Add, Keep, LogStart, LogStop}
use Rattle.mem_base.specs.declared.views.listening.ListenerEvent.{ListenerEvent}
use Rattle.mem_base.specs.declared.views.listening.ListenerEvent.TheVariants.{Begin, Range, EventAdd, EventDel, Commit}
use Rattle.mem_base.specs.declared.access.notices.Notice.{Notice}
use Rattle.mem_base.specs.declared.access.notices.Notice.TheVariants.{Map, Unmap}
use Rattle.mem_base.specs.declared.access.accesses.Access.{Access}
use Rattle.mem_base.specs.declared.access.accesses.TxResult.{TxResult}
use Rattle.mem_base.specs.views.Listening.{Delivery}
use Rattle.mem_base.specs.script.Spelling.{Text}
use Rattle.mem_base.specs.script.Printing.{bytes_text, client_text, pass_text, perm_text}
use Rattle.mem_base.specs.script.Named.{Names, region_name, space_name, listener_name, watcher_name}
use Rattle.mem_base.specs.script.Watching.{Noticed}
use Rattle.mem_base.specs.script.RefusalLines.{hex, line_feed}
use Rattle.mem_base.specs.script.SpotLines.{range_text}

-- Accesses

-- ok, error, decode or error+decode
abbrev pub result_text : TxResult → Text
result_text r =
    if r.error then (if r.decode then codes "error+decode" else codes "error")
    else if r.decode then codes "decode" else codes "ok"

-- vN gG
abbrev pub entered_text : PassId → ℕ → Text
entered_text pass generation = pass_text pass ++ (codes " g" ++ decimal generation)

-- vN enter gG
abbrev pub enter_line : PassId → ℕ → Text
enter_line pass generation = pass_text pass ++ (codes " enter g" ++ (decimal generation ++ line_feed))

-- vN leave
abbrev pub leave_line : PassId → Text
leave_line pass = pass_text pass ++ (codes " leave" ++ line_feed)

-- vN gG read BYTES RESULT
abbrev pub read_line : PassId → Access → List ℕ → Text
read_line pass x bytes =
    entered_text pass x.number ++ (codes " read " ++ (bytes_text bytes ++ (codes " " ++ (result_text x.result ++ line_feed))))

-- vN gG write RESULT
abbrev pub write_line : PassId → Access → Text
write_line pass x = entered_text pass x.number ++ (codes " write " ++ (result_text x.result ++ line_feed))

-- vN gG dma RESULT
abbrev pub dma_line : PassId → Access → Text
dma_line pass x = entered_text pass x.number ++ (codes " dma " ++ (result_text x.result ++ line_feed))

-- ` gG`, where a generation was published
abbrev pub published_text : Option ℕ → Text
published_text None = []
published_text (Some generation) = codes " g" ++ decimal generation

-- vN do gG where a generation was published, else vN do
abbrev pub do_line : PassId → Option ℕ → Text
do_line pass published = pass_text pass ++ (codes " do" ++ (published_text published ++ line_feed))

-- Notifiers, marks and releases

-- notified N VALUE
abbrev pub notified_line : ℕ → ℕ → Text
notified_line number value = codes "notified " ++ (decimal number ++ (codes " " ++ (decimal value ++ line_feed)))

-- the pages, each after a space
abbrev pub page_list : List ℕ → Text
page_list [] = []
page_list (page ∷ pages) = codes " " ++ (decimal page ++ page_list pages)

-- the pages, each after a space; ` none` where there are none
abbrev pub pages_text : List ℕ → Text
pages_text [] = codes " none"
pages_text (page ∷ pages) = page_list (page ∷ pages)

-- dirty REGION CLIENT PAGES
abbrev pub dirty_line : Text → Client → List ℕ → Text
dirty_line region client pages =
    codes "dirty " ++ (region ++ (codes " " ++ (client_text client ++ (pages_text pages ++ line_feed))))

-- released REGION
abbrev pub released_line : Names → RegionId → Text
released_line names region = codes "released " ++ (region_name names region ++ line_feed)

-- a line for each region that was released
abbrev pub released_lines : Names → List RegionId → Text
released_lines names regions = flat_map (released_line names) regions

-- Listeners: the calls that they got

-- from A to B
abbrev pub from_to_text : ℕ → ℕ → Text
from_to_text from to = codes " from " ++ (decimal from ++ (codes " to " ++ decimal to))

-- what a listener is told of a range: what happens to it, the range, and the masks where logging starts or stops
abbrev pub range_event_text : Names → RangeEvent → Text
range_event_text names (Delete r) = codes "del " ++ range_text names r
range_event_text names (Add r) = codes "add " ++ range_text names r
range_event_text names (Keep r) = codes "keep " ++ range_text names r
range_event_text names (LogStart range from to) = codes "logstart " ++ (range_text names range ++ from_to_text from to)
range_event_text names (LogStop range from to) = codes "logstop " ++ (range_text names range ++ from_to_text from to)

-- `-` before a negative number
abbrev pub signed_hex : ℤ → Text
signed_hex n = if int_lt n (pos 0) then 45 ∷ hex (nat_abs n) else hex (nat_abs n)

-- VALUE, or `any` where every value fits
abbrev pub value_text : Bool → ℕ → Text
value_text matched value = if matched then hex value else codes "any"

-- ADDR SIZE VALUE NUMBER
abbrev pub live_text : Live → Text
live_text l =
    signed_hex l.addr ++ (codes " " ++ (decimal l.size ++ (codes " " ++ (value_text l.matched l.value ++ (codes " " ++ decimal l.number)))))

-- a call of a listener, without its name
abbrev pub listener_event_text : Names → ListenerEvent → Text
listener_event_text names Begin = codes "begin"
listener_event_text names (Range e) = range_event_text names e
listener_event_text names (EventAdd l) = codes "event+ " ++ live_text l
listener_event_text names (EventDel l) = codes "event- " ++ live_text l
listener_event_text names Commit = codes "commit"

-- a call that a listener got
abbrev pub told_line : Names → Delivery → Text
told_line names t = listener_name names t.0 ++ (codes " " ++ (listener_event_text names t.1 ++ line_feed))

-- a line for each call that a listener got
abbrev pub told_lines : Names → List Delivery → Text
told_lines names told = flat_map (told_line names) told

-- Watchers

-- FROM-TO
abbrev pub offsets_text : ℕ → ℕ → Text
offsets_text from to = hex from ++ (codes "-" ++ hex to)

-- map FROM-TO SPACE ADDR PERM, or unmap FROM-TO
abbrev pub notice_text : Names → Notice → Text
notice_text names (Map p) =
    codes "map " ++ (offsets_text p.from p.to ++ (codes " " ++ (space_name names p.space ++ (codes " " ++ (hex p.addr ++ (codes " " ++ perm_text p.perm))))))
notice_text names (Unmap p) = codes "unmap " ++ offsets_text p.from p.to

-- a notice that a watcher got
abbrev pub notice_line : Names → Noticed → Text
notice_line names x = watcher_name names x.0 ++ (codes " " ++ (notice_text names x.1 ++ line_feed))

-- a line for each notice that a watcher got
abbrev pub notice_lines : Names → List Noticed → Text
notice_lines names notices = flat_map (notice_line names) notices
