-- The calls that change the fields of one region and nothing else.
-- QEMU's manual, "The memory API": resizing, the window of an alias, enabling, the flags, the mode of a ROM device,
-- logging, translations and ioeventfds.
use Rattle.std.specs.Prelude.{ℕ, ◌-◌, not, Option, Some, None, filter, unwrap_or, option_map}
use Rattle.mem_base.specs.declared.map.ids.RegionId.{RegionId}
use Rattle.mem_base.specs.declared.map.forests.Node.{Node}
use Rattle.mem_base.specs.declared.map.kinds.Kind.{Kind}
use Rattle.mem_base.specs.declared.map.kinds.Kind.TheVariants.{Alias}
use Rattle.mem_base.specs.declared.map.calls.Call.{Call}
use Rattle.mem_base.specs.declared.map.calls.Call.TheVariants as calls
use Rattle.mem_base.specs.lists.Sorting.{put_by}
use Rattle.mem_base.specs.map.Clients.{logged}
use Rattle.mem_base.specs.map.Entries.{has_iova, entry_order}
use Rattle.mem_base.specs.map.Events.{is_event, event_order}

-- an alias with its window at another offset of its target
abbrev pub retargeted : ℕ → Kind → Kind
retargeted offset (Alias target old) = Alias target offset
retargeted offset kind = kind

-- the region that such a call changes, and how; no other call has one
abbrev pub edit : Call → Option (RegionId × (Node → Node))
edit (calls.Resize region size) = Some (region, λ n. record n { size = size })
edit (calls.Retarget alias offset) = Some (alias, λ n. record n { kind = retargeted offset n.kind })
edit (calls.Enable region on) = Some (region, λ n. record n { enabled = on })
edit (calls.Readonly region on) = Some (region, λ n. record n { readonly = on })
edit (calls.Nonvolatile region on) = Some (region, λ n. record n { nonvolatile = on })
edit (calls.Unmergeable region on) = Some (region, λ n. record n { unmergeable = on })
edit (calls.Romd region on) = Some (region, λ n. record n { romd = on })
edit (calls.Log region client on) = Some (region, λ n. record n { log = logged client on n.log })
edit (calls.Map region iova size space translated perm) = Some (
  region,
  λ n.
      record n { entries = put_by entry_order (record { iova = iova; mask = size - 1; space = space; translated = translated; perm = perm }) n.entries },
)
edit (calls.Unmap region iova) = Some (region, λ n. record n { entries = filter (λ e. not (has_iova iova e)) n.entries })
edit (calls.Event region event) = Some (region, λ n. record n { events = put_by event_order event n.events })
edit (calls.Unevent region offset size matched value) =
    Some (region, λ n. record n { events = filter (λ e. not (is_event offset size matched value e)) n.events })
edit _ = None

-- the region alone
abbrev pub edits : Call → Option RegionId
edits call = option_map (λ e. e.0) (edit call)

-- that region after the call; with any other call, as it is
abbrev pub edited : Call → Node → Node
edited call n = unwrap_or (option_map (λ e. e.1 n) (edit call)) n
