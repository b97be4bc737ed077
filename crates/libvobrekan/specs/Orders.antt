-- What is asked of a desk, by its numbers; numbers that stand for nothing ask for nothing.
use Rattle.std.specs.Prelude.{◌==◌, if◌then◌else◌, Option, Some, None, option_map}
use Rattle.mem_base.specs.declared.map.calls.Call.{Call}
use Rattle.mem_base.specs.declared.map.calls.Call.TheVariants as calls
use Rattle.mem_base.specs.declared.map.calls.Config.{Config}
use Rattle.mem_base.specs.declared.map.calls.Config.TheVariants as configs
use Rattle.mem_base.specs.declared.map.kinds.Kind.{Kind}
use Rattle.mem_base.specs.declared.map.kinds.Kind.TheVariants as kinds
use Rattle.libvobrekan.specs.declared.orders.OrderNumbers.{OrderNumbers}
use Rattle.libvobrekan.specs.Arguments.{client_of, device_of, event_of, listener_at, perm_of, region_at, size_of, space_at}

-- the kind of a region that is made
abbrev pub kind_in : OrderNumbers → Option Kind
kind_in o =
    if o.kind == 0 then Some kinds.Container else
    (if o.kind == 1 then Some kinds.Ram else
    (if o.kind == 2 then Some kinds.Rom else
    (if o.kind == 3 then option_map kinds.RomDevice (device_of o.device) else
    (if o.kind == 4 then option_map kinds.Io (device_of o.device) else
    (if o.kind == 5 then Some kinds.Iommu else
    (if o.kind == 6 then Some (kinds.Alias (region_at o.other) o.offset) else
    (if o.kind == 7 then Some kinds.Reserve else (if o.kind == 8 then Some kinds.Host else None))))))))

-- a call about a table, an ioeventfd, or a region that is dropped
abbrev pub table_call_in : OrderNumbers → Option Call
table_call_in o =
    if o.what == 18
    then option_map (λ perm. calls.Map (region_at o.region) o.offset (size_of o.size) (space_at o.space) o.translated perm) (perm_of o.perm) else
    (if o.what == 19 then Some (calls.Unmap (region_at o.region) o.offset) else
    (if o.what == 20 then Some (calls.Event (region_at o.region) (event_of o.event)) else
    (if o.what == 21 then Some (calls.Unevent (region_at o.region) o.event.offset o.event.size o.event.matched o.event.value) else
    (if o.what == 22 then Some (calls.Drop (region_at o.region)) else None))))

-- a call that switches something, or one of these
abbrev pub setting_in : OrderNumbers → Option Call
setting_in o =
    if o.what == 11 then Some (calls.Enable (region_at o.region) o.on) else
    (if o.what == 12 then Some (calls.Readonly (region_at o.region) o.on) else
    (if o.what == 13 then Some (calls.Nonvolatile (region_at o.region) o.on) else
    (if o.what == 14 then Some (calls.Unmergeable (region_at o.region) o.on) else
    (if o.what == 15 then Some (calls.Romd (region_at o.region) o.on) else
    (if o.what == 16 then option_map (λ client. calls.Log (region_at o.region) client o.on) (client_of o.client) else
    (if o.what == 17 then Some (calls.Global o.on) else table_call_in o))))))

-- a call
abbrev pub call_in : OrderNumbers → Option Call
call_in o =
    if o.what == 4 then option_map (λ kind. calls.Region kind (size_of o.size)) (kind_in o) else
    (if o.what == 5 then Some (calls.Space (space_at o.space) (region_at o.other)) else
    (if o.what == 6 then Some (calls.Add (region_at o.region) o.offset (region_at o.other) o.priority) else
    (if o.what == 7 then Some (calls.Del (region_at o.region) (region_at o.other)) else
    (if o.what == 8 then Some (calls.Move (region_at o.region) o.offset) else
    (if o.what == 9 then Some (calls.Resize (region_at o.region) (size_of o.size)) else
    (if o.what == 10 then Some (calls.Retarget (region_at o.region) o.offset) else setting_in o))))))

-- a call, a transaction that is opened or closed, or a listener that joins or leaves
abbrev pub order_in : OrderNumbers → Option Config
order_in o =
    if o.what == 0 then Some configs.Begin else
    (if o.what == 1 then Some configs.Commit else
    (if o.what == 2 then Some (configs.Listen (listener_at o.listener) (space_at o.space) o.priority) else
    (if o.what == 3 then Some (configs.Unlisten (listener_at o.listener)) else option_map configs.Call (call_in o))))
