-- What a region allows of the calls that change its fields.
use Rattle.std.specs.Prelude.{◌≡◌, ℕ, false, Option, Some, None}
use Rattle.std.specs.List.{list_any}
use Rattle.mem_base.specs.declared.map.forests.Node.{Node}
use Rattle.mem_base.specs.declared.map.calls.Call.{Call}
use Rattle.mem_base.specs.declared.map.calls.Call.TheVariants as calls
use Rattle.mem_base.specs.map.Entries.{least_met}
use Rattle.mem_base.specs.map.Events.{is_event}
use Rattle.mem_base.specs.map.TableRefusals.{bad_page}

-- a new translation has a page that it may have, which meets none that is there; a new ioeventfd is not there yet
abbrev pub Allows : Call → Node → Type 0
Allows (calls.Map region iova size space translated perm) n = (bad_page iova size ≡ None) × (least_met iova size n.entries ≡ None)
Allows (calls.Event region event) n = list_any (is_event event.offset event.size event.matched event.value) n.events ≡ false
Allows _ n = Unit {0}

-- the size that a call gives to the region that it changes, if it gives one
abbrev pub new_size : Call → Option ℕ
new_size (calls.Resize region size) = Some size
new_size _ = None
