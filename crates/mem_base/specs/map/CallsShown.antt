-- What a forest shows of a call that was accepted: the fields, the pair or the member of a list that the call sets, as it sets
-- them. Counts and the number of a placing are left out, so the forest may be one that later calls made too.
-- This project's own rule, for a desk that several actors share: who gave a call finds it in the generation that the answer names.
use Rattle.std.specs.Prelude.{◌≡◌, ◌==◌, ◌-◌, Bool, false, not, Option, Some, None, bit_and}
use Rattle.mem_base.specs.declared.map.ids.RegionId.{RegionId}
use Rattle.mem_base.specs.declared.map.forests.Node.{Node}
use Rattle.mem_base.specs.declared.map.forests.Forest.{Forest}
use Rattle.mem_base.specs.declared.map.kinds.Client.{Client}
use Rattle.mem_base.specs.declared.map.kinds.Kind.TheVariants.{Alias}
use Rattle.mem_base.specs.declared.map.calls.Call.{Call}
use Rattle.mem_base.specs.declared.map.calls.Call.TheVariants as calls
use Rattle.mem_base.specs.lists.Every.{Every, HasElement}
use Rattle.mem_base.specs.map.Region.{node_of}
use Rattle.mem_base.specs.map.Search.{root_of}
use Rattle.mem_base.specs.map.Clients.{bit_of}
use Rattle.mem_base.specs.map.Entries.{has_iova}
use Rattle.mem_base.specs.map.Events.{has_event}

-- the region is there, and this holds of it
abbrev pub HoldsOf : (Node → Type 0) → Option Node → Type 0
HoldsOf Fact None = ⊥
HoldsOf Fact (Some n) = Fact n

-- a forest has this region, of which a fact holds
abbrev pub HasRegion : Forest → RegionId → (Node → Type 0) → Type 0
HasRegion f region Fact = HoldsOf Fact (node_of f.nodes region)

-- writes to the region are logged for the client
abbrev pub is_logged : Client → Node → Bool
is_logged client n = not (bit_and n.log (bit_of client) == 0)

-- a region that was made is known by its kind and size, since the call does not say which it is
abbrev pub ShowsCall : Forest → Call → Type 0
ShowsCall f (calls.Region kind size) = (region : RegionId) × HasRegion f region (λ n. (n.kind ≡ kind) × (n.size ≡ size))
ShowsCall f (calls.Space space root) = root_of f space ≡ Some root
ShowsCall f (calls.Add parent offset child priority) =
    HasRegion f child (λ n. (n.parent ≡ Some parent) × (n.offset ≡ offset) × (n.priority ≡ priority))
ShowsCall f (calls.Del parent child) = HasRegion f child (λ n. n.parent ≡ None)
ShowsCall f (calls.Move child offset) = HasRegion f child (λ n. n.offset ≡ offset)
ShowsCall f (calls.Resize region size) = HasRegion f region (λ n. n.size ≡ size)
ShowsCall f (calls.Retarget alias offset) = HasRegion f alias (λ n. (target : RegionId) × (n.kind ≡ Alias target offset))
ShowsCall f (calls.Enable region on) = HasRegion f region (λ n. n.enabled ≡ on)
ShowsCall f (calls.Readonly region on) = HasRegion f region (λ n. n.readonly ≡ on)
ShowsCall f (calls.Nonvolatile region on) = HasRegion f region (λ n. n.nonvolatile ≡ on)
ShowsCall f (calls.Unmergeable region on) = HasRegion f region (λ n. n.unmergeable ≡ on)
ShowsCall f (calls.Romd region on) = HasRegion f region (λ n. n.romd ≡ on)
ShowsCall f (calls.Log region client on) = HasRegion f region (λ n. is_logged client n ≡ on)
ShowsCall f (calls.Global on) = f.global ≡ on
ShowsCall f (calls.Map region iova size space translated perm) = HasRegion f region
    (λ n. HasElement n.entries (record { iova = iova; mask = size - 1; space = space; translated = translated; perm = perm }))
ShowsCall f (calls.Unmap region iova) = HasRegion f region (λ n. Every (λ e. has_iova iova e ≡ false) n.entries)
ShowsCall f (calls.Event region event) = HasRegion f region (λ n. HasElement n.events event)
ShowsCall f (calls.Unevent region offset size matched value) = HasRegion f region (λ n. has_event offset size matched value n ≡ false)
ShowsCall f (calls.Drop region) = node_of f.nodes region ≡ None
