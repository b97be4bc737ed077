-- Whether two entries of the desk's record are the same can be told: orders and answers are written as numbers, and read again.
use Rattle.std.proofs.Common.{◌≡◌, ◌==◌, ℕ, Bool, true, false, if◌then◌else◌, List, [], ◌∷◌, drop, Option, Some, None, refl, sym, ap, ◌∙◌}
use Rattle.std.proofs.Common.{slice_index_or, ℤ, pos, negsuc, length, arith}
use native.Mathlib.Decide.{ℕ_discrete}
use Rattle.mem_base.specs.declared.map.ids.RegionId.{RegionId}
use Rattle.mem_base.specs.declared.map.ioevents.Ioevent.{Ioevent}
use Rattle.mem_base.specs.declared.map.kinds.Device.{Device}
use Rattle.mem_base.specs.declared.machine.records.DeskEntry.{DeskEntry}
use Rattle.mem_base.specs.declared.map.kinds.DeviceKind.{DeviceKind}
use Rattle.mem_base.specs.declared.map.kinds.DeviceKind.TheVariants as device_kinds
use Rattle.mem_base.specs.declared.map.kinds.Client.{Client}
use Rattle.mem_base.specs.declared.map.kinds.Client.TheVariants as clients
use Rattle.mem_base.specs.declared.map.translations.Perm.{Perm}
use Rattle.mem_base.specs.declared.map.translations.Perm.TheVariants as perms
use Rattle.mem_base.specs.declared.map.kinds.Kind.{Kind}
use Rattle.mem_base.specs.declared.map.kinds.Kind.TheVariants as kinds
use Rattle.mem_base.specs.declared.map.refusals.What.{What}
use Rattle.mem_base.specs.declared.map.refusals.What.TheVariants as whats
use Rattle.mem_base.specs.declared.map.refusals.User.{User}
use Rattle.mem_base.specs.declared.map.refusals.User.TheVariants as users
use Rattle.mem_base.specs.declared.map.refusals.Which.{Which}
use Rattle.mem_base.specs.declared.map.refusals.Which.TheVariants as whiches
use Rattle.mem_base.specs.declared.map.refusals.Refusal.{Refusal}
use Rattle.mem_base.specs.declared.map.refusals.Refusal.TheVariants as refusals
use Rattle.mem_base.specs.declared.map.calls.Applied.{Applied}
use Rattle.mem_base.specs.declared.map.calls.Applied.TheVariants as applieds
use Rattle.mem_base.specs.declared.map.calls.Call.{Call}
use Rattle.mem_base.specs.declared.map.calls.Call.TheVariants as calls
use Rattle.mem_base.specs.declared.machine.records.DeskOrder.{DeskOrder}
use Rattle.mem_base.specs.declared.machine.records.DeskOrder.TheVariants as orders
use Rattle.mem_base.specs.declared.machine.records.DeskAnswer.{DeskAnswer}
use Rattle.mem_base.specs.declared.machine.records.DeskAnswer.TheVariants as answers

abbrev at : List ℕ → ℕ → ℕ
at ns i = slice_index_or ns i 0

abbrev code_bool : Bool → ℕ
code_bool true = 1
code_bool false = 0

abbrev bool_of : ℕ → Bool
bool_of n = n == 1

bool_again : (b : Bool) → bool_of (code_bool b) ≡ b
bool_again true = refl
bool_again false = refl

abbrev code_int : ℤ → List ℕ
code_int (pos n) = 0 ∷ n ∷ []
code_int (negsuc n) = 1 ∷ n ∷ []

abbrev int_of : List ℕ → ℤ
int_of ns = if at ns 0 == 0 then pos (at ns 1) else negsuc (at ns 1)

int_again : (z : ℤ) → int_of (code_int z) ≡ z
int_again (pos n) = refl
int_again (negsuc n) = refl

abbrev code_numbers : List ℕ → List ℕ
code_numbers ns = ns

abbrev numbers_of : List ℕ → List ℕ
numbers_of ns = ns

numbers_again : (ns : List ℕ) → numbers_of (code_numbers ns) ≡ ns
numbers_again ns = refl

abbrev code_regions : List RegionId → List ℕ
code_regions [] = []
code_regions (r ∷ rs) = r.0 ∷ code_regions rs

abbrev regions_of : List ℕ → List RegionId
regions_of [] = []
regions_of (n ∷ ns) = record { 0 = n } ∷ regions_of ns

regions_again : (rs : List RegionId) → regions_of (code_regions rs) ≡ rs
regions_again [] = refl
regions_again (r ∷ rs) = ap (λ (ss : List RegionId). r ∷ ss) (regions_again rs)

abbrev is_there : Option ℕ → ℕ
is_there None = 0
is_there (Some n) = 1

abbrev number_there : Option ℕ → ℕ
number_there None = 0
number_there (Some n) = n

abbrev option_of : ℕ → ℕ → Option ℕ
option_of there n = if there == 0 then None else Some n

option_again : (o : Option ℕ) → option_of (is_there o) (number_there o) ≡ o
option_again None = refl
option_again (Some n) = refl

abbrev code_device_kind : DeviceKind → List ℕ
code_device_kind device_kinds.Latch = 0 ∷ []
code_device_kind device_kinds.Count = 1 ∷ []
code_device_kind device_kinds.Bell = 2 ∷ []
code_device_kind device_kinds.Fault = 3 ∷ []

abbrev device_kind_of : List ℕ → DeviceKind
device_kind_of ns =
    if at ns 0 == 0 then device_kinds.Latch
    else if at ns 0 == 1 then device_kinds.Count
    else if at ns 0 == 2 then device_kinds.Bell
    else device_kinds.Fault

device_kind_again : (x : DeviceKind) → device_kind_of (code_device_kind x) ≡ x
device_kind_again device_kinds.Latch = refl
device_kind_again _ = refl

abbrev code_device : Device → List ℕ
code_device d = d.regs ∷ d.ops.valid_min ∷ d.ops.valid_max ∷ code_bool d.ops.valid_unaligned ∷ d.ops.impl_min ∷ d.ops.impl_max
    ∷ code_bool d.ops.impl_unaligned ∷ code_bool d.ops.big ∷ code_device_kind d.kind

abbrev device_of : List ℕ → Device
device_of ns = record {
  kind = device_kind_of (drop 8 ns);
  regs = at ns 0;
  ops = record {
    valid_min = at ns 1;
    valid_max = at ns 2;
    valid_unaligned = bool_of (at ns 3);
    impl_min = at ns 4;
    impl_max = at ns 5;
    impl_unaligned = bool_of (at ns 6);
    big = bool_of (at ns 7);
  };
}

device_again : (d : Device) → device_of (code_device d) ≡ d
device_again d = (λ i. record {
  kind = device_kind_again d.kind i;
  regs = d.regs;
  ops = record {
    valid_min = d.ops.valid_min;
    valid_max = d.ops.valid_max;
    valid_unaligned = bool_again d.ops.valid_unaligned i;
    impl_min = d.ops.impl_min;
    impl_max = d.ops.impl_max;
    impl_unaligned = bool_again d.ops.impl_unaligned i;
    big = bool_again d.ops.big i;
  };
})

abbrev code_ioevent : Ioevent → List ℕ
code_ioevent e = e.offset ∷ e.size ∷ code_bool e.matched ∷ e.value ∷ e.number ∷ []

abbrev ioevent_of : List ℕ → Ioevent
ioevent_of ns = record { offset = at ns 0; size = at ns 1; matched = bool_of (at ns 2); value = at ns 3; number = at ns 4 }

ioevent_again : (e : Ioevent) → ioevent_of (code_ioevent e) ≡ e
ioevent_again e = (λ i. record { offset = e.offset; size = e.size; matched = bool_again e.matched i; value = e.value; number = e.number })

abbrev code_client : Client → List ℕ
code_client clients.Vga = 0 ∷ []
code_client clients.Code = 1 ∷ []
code_client clients.Migration = 2 ∷ []

abbrev client_of : List ℕ → Client
client_of ns =
    if at ns 0 == 0 then clients.Vga
    else if at ns 0 == 1 then clients.Code
    else clients.Migration

client_again : (x : Client) → client_of (code_client x) ≡ x
client_again clients.Vga = refl
client_again clients.Code = refl
client_again clients.Migration = refl

abbrev code_perm : Perm → List ℕ
code_perm perms.Nothing = 0 ∷ []
code_perm perms.Read = 1 ∷ []
code_perm perms.Write = 2 ∷ []
code_perm perms.Both = 3 ∷ []

abbrev perm_of : List ℕ → Perm
perm_of ns =
    if at ns 0 == 0 then perms.Nothing
    else if at ns 0 == 1 then perms.Read
    else if at ns 0 == 2 then perms.Write
    else perms.Both

perm_again : (x : Perm) → perm_of (code_perm x) ≡ x
perm_again perms.Nothing = refl
perm_again _ = refl

abbrev code_kind : Kind → List ℕ
code_kind kinds.Container = 0 ∷ []
code_kind kinds.Ram = 1 ∷ []
code_kind kinds.Rom = 2 ∷ []
code_kind (kinds.RomDevice a) = 3 ∷ code_device a
code_kind (kinds.Io a) = 4 ∷ code_device a
code_kind kinds.Iommu = 5 ∷ []
code_kind (kinds.Alias a b) = 6 ∷ a.0 ∷ b ∷ []
code_kind kinds.Reserve = 7 ∷ []
code_kind kinds.Host = 8 ∷ []

abbrev kind_of : List ℕ → Kind
kind_of ns =
    if at ns 0 == 0 then kinds.Container
    else if at ns 0 == 1 then kinds.Ram
    else if at ns 0 == 2 then kinds.Rom
    else if at ns 0 == 3 then kinds.RomDevice (device_of (drop 1 ns))
    else if at ns 0 == 4 then kinds.Io (device_of (drop 1 ns))
    else if at ns 0 == 5 then kinds.Iommu
    else if at ns 0 == 6 then kinds.Alias (record { 0 = at ns 1 }) (at ns 2)
    else if at ns 0 == 7 then kinds.Reserve
    else kinds.Host

kind_again : (x : Kind) → kind_of (code_kind x) ≡ x
kind_again (kinds.RomDevice a) = (λ i. kinds.RomDevice (device_again a i))
kind_again (kinds.Io a) = (λ i. kinds.Io (device_again a i))
kind_again _ = refl

abbrev code_what : What → List ℕ
code_what (whats.Region a) = 0 ∷ a.0 ∷ []
code_what (whats.Space a) = 1 ∷ a.0 ∷ []
code_what (whats.Listener a) = 2 ∷ a.0 ∷ []
code_what (whats.Watcher a) = 3 ∷ a.0 ∷ []
code_what (whats.Entry a) = 4 ∷ a ∷ []
code_what (whats.Event a) = 5 ∷ a ∷ []

abbrev what_of : List ℕ → What
what_of ns =
    if at ns 0 == 0 then whats.Region (record { 0 = at ns 1 })
    else if at ns 0 == 1 then whats.Space (record { 0 = at ns 1 })
    else if at ns 0 == 2 then whats.Listener (record { 0 = at ns 1 })
    else if at ns 0 == 3 then whats.Watcher (record { 0 = at ns 1 })
    else if at ns 0 == 4 then whats.Entry (at ns 1)
    else whats.Event (at ns 1)

what_again : (x : What) → what_of (code_what x) ≡ x
what_again (whats.Region a) = refl
what_again _ = refl

abbrev code_user : User → List ℕ
code_user (users.Region a) = 0 ∷ a.0 ∷ []
code_user (users.Space a) = 1 ∷ a.0 ∷ []

abbrev user_of : List ℕ → User
user_of ns =
    if at ns 0 == 0 then users.Region (record { 0 = at ns 1 })
    else users.Space (record { 0 = at ns 1 })

user_again : (x : User) → user_of (code_user x) ≡ x
user_again (users.Region a) = refl
user_again (users.Space a) = refl

abbrev code_which : Which → List ℕ
code_which whiches.Regions = 0 ∷ []
code_which whiches.Made = 1 ∷ []
code_which whiches.Spaces = 2 ∷ []
code_which whiches.Listeners = 3 ∷ []
code_which whiches.Entries = 4 ∷ []
code_which whiches.Events = 5 ∷ []
code_which whiches.Calls = 6 ∷ []
code_which whiches.Watchers = 7 ∷ []

abbrev which_of : List ℕ → Which
which_of ns =
    if at ns 0 == 0 then whiches.Regions
    else if at ns 0 == 1 then whiches.Made
    else if at ns 0 == 2 then whiches.Spaces
    else if at ns 0 == 3 then whiches.Listeners
    else if at ns 0 == 4 then whiches.Entries
    else if at ns 0 == 5 then whiches.Events
    else if at ns 0 == 6 then whiches.Calls
    else whiches.Watchers

which_again : (x : Which) → which_of (code_which x) ≡ x
which_again whiches.Regions = refl
which_again _ = refl

abbrev code_refusal : Refusal → List ℕ
code_refusal (refusals.Unknown a) = 0 ∷ code_what a
code_refusal (refusals.NameTaken a) = 1 ∷ code_what a
code_refusal (refusals.HasContainer a) = 2 ∷ a.0 ∷ []
code_refusal (refusals.NotChild a) = 3 ∷ a.0 ∷ []
code_refusal (refusals.AliasParent a) = 4 ∷ a.0 ∷ []
code_refusal (refusals.Loop a) = 5 ∷ a.0 ∷ []
code_refusal (refusals.TooDeep a) = 6 ∷ a ∷ []
code_refusal (refusals.TooWide a) = 7 ∷ a ∷ []
code_refusal refusals.BadSize = 8 ∷ []
code_refusal refusals.BadOps = 9 ∷ []
code_refusal (refusals.WrongKind a) = 10 ∷ a.0 ∷ []
code_refusal refusals.NoTransaction = 11 ∷ []
code_refusal refusals.TooNested = 12 ∷ []
code_refusal (refusals.InUse a) = 13 ∷ code_user a
code_refusal (refusals.PageOverlap a) = 14 ∷ a ∷ []
code_refusal refusals.BadPage = 15 ∷ []
code_refusal (refusals.LimitReached a b) = 16 ∷ b ∷ code_which a
code_refusal (refusals.NoBacking a) = 17 ∷ a ∷ []
code_refusal (refusals.Held a b) = 18 ∷ a.0 ∷ b ∷ []
code_refusal refusals.EventTaken = 19 ∷ []
code_refusal refusals.Memory = 20 ∷ []

abbrev refusal_of : List ℕ → Refusal
refusal_of ns =
    if at ns 0 == 0 then refusals.Unknown (what_of (drop 1 ns))
    else if at ns 0 == 1 then refusals.NameTaken (what_of (drop 1 ns))
    else if at ns 0 == 2 then refusals.HasContainer (record { 0 = at ns 1 })
    else if at ns 0 == 3 then refusals.NotChild (record { 0 = at ns 1 })
    else if at ns 0 == 4 then refusals.AliasParent (record { 0 = at ns 1 })
    else if at ns 0 == 5 then refusals.Loop (record { 0 = at ns 1 })
    else if at ns 0 == 6 then refusals.TooDeep (at ns 1)
    else if at ns 0 == 7 then refusals.TooWide (at ns 1)
    else if at ns 0 == 8 then refusals.BadSize
    else if at ns 0 == 9 then refusals.BadOps
    else if at ns 0 == 10 then refusals.WrongKind (record { 0 = at ns 1 })
    else if at ns 0 == 11 then refusals.NoTransaction
    else if at ns 0 == 12 then refusals.TooNested
    else if at ns 0 == 13 then refusals.InUse (user_of (drop 1 ns))
    else if at ns 0 == 14 then refusals.PageOverlap (at ns 1)
    else if at ns 0 == 15 then refusals.BadPage
    else if at ns 0 == 16 then refusals.LimitReached (which_of (drop 2 ns)) (at ns 1)
    else if at ns 0 == 17 then refusals.NoBacking (at ns 1)
    else if at ns 0 == 18 then refusals.Held (record { 0 = at ns 1 }) (at ns 2)
    else if at ns 0 == 19 then refusals.EventTaken
    else refusals.Memory

refusal_again : (x : Refusal) → refusal_of (code_refusal x) ≡ x
refusal_again (refusals.Unknown a) = (λ i. refusals.Unknown (what_again a i))
refusal_again (refusals.NameTaken a) = (λ i. refusals.NameTaken (what_again a i))
refusal_again (refusals.InUse a) = (λ i. refusals.InUse (user_again a i))
refusal_again (refusals.LimitReached a b) = (λ i. refusals.LimitReached (which_again a i) b)
refusal_again _ = refl

abbrev code_applied : Applied → List ℕ
code_applied (applieds.Made a) = 0 ∷ a.0 ∷ []
code_applied applieds.Done = 1 ∷ []

abbrev applied_of : List ℕ → Applied
applied_of ns =
    if at ns 0 == 0 then applieds.Made (record { 0 = at ns 1 })
    else applieds.Done

applied_again : (x : Applied) → applied_of (code_applied x) ≡ x
applied_again (applieds.Made a) = refl
applied_again applieds.Done = refl

abbrev code_call : Call → List ℕ
code_call (calls.Region a b) = 0 ∷ b ∷ code_kind a
code_call (calls.Space a b) = 1 ∷ a.0 ∷ b.0 ∷ []
code_call (calls.Add a b c d) = 2 ∷ a.0 ∷ b ∷ c.0 ∷ code_int d
code_call (calls.Del a b) = 3 ∷ a.0 ∷ b.0 ∷ []
code_call (calls.Move a b) = 4 ∷ a.0 ∷ b ∷ []
code_call (calls.Resize a b) = 5 ∷ a.0 ∷ b ∷ []
code_call (calls.Retarget a b) = 6 ∷ a.0 ∷ b ∷ []
code_call (calls.Enable a b) = 7 ∷ a.0 ∷ code_bool b ∷ []
code_call (calls.Readonly a b) = 8 ∷ a.0 ∷ code_bool b ∷ []
code_call (calls.Nonvolatile a b) = 9 ∷ a.0 ∷ code_bool b ∷ []
code_call (calls.Unmergeable a b) = 10 ∷ a.0 ∷ code_bool b ∷ []
code_call (calls.Romd a b) = 11 ∷ a.0 ∷ code_bool b ∷ []
code_call (calls.Log a b c) = 12 ∷ a.0 ∷ code_bool c ∷ code_client b
code_call (calls.Global a) = 13 ∷ code_bool a ∷ []
code_call (calls.Map a b c d e f) = 14 ∷ a.0 ∷ b ∷ c ∷ d.0 ∷ e ∷ code_perm f
code_call (calls.Unmap a b) = 15 ∷ a.0 ∷ b ∷ []
code_call (calls.Event a b) = 16 ∷ a.0 ∷ code_ioevent b
code_call (calls.Unevent a b c d e) = 17 ∷ a.0 ∷ b ∷ c ∷ code_bool d ∷ e ∷ []
code_call (calls.Drop a) = 18 ∷ a.0 ∷ []

abbrev call_of : List ℕ → Call
call_of ns =
    if at ns 0 == 0 then calls.Region (kind_of (drop 2 ns)) (at ns 1)
    else if at ns 0 == 1 then calls.Space (record { 0 = at ns 1 }) (record { 0 = at ns 2 })
    else if at ns 0 == 2 then calls.Add (record { 0 = at ns 1 }) (at ns 2) (record { 0 = at ns 3 }) (int_of (drop 4 ns))
    else if at ns 0 == 3 then calls.Del (record { 0 = at ns 1 }) (record { 0 = at ns 2 })
    else if at ns 0 == 4 then calls.Move (record { 0 = at ns 1 }) (at ns 2)
    else if at ns 0 == 5 then calls.Resize (record { 0 = at ns 1 }) (at ns 2)
    else if at ns 0 == 6 then calls.Retarget (record { 0 = at ns 1 }) (at ns 2)
    else if at ns 0 == 7 then calls.Enable (record { 0 = at ns 1 }) (bool_of (at ns 2))
    else if at ns 0 == 8 then calls.Readonly (record { 0 = at ns 1 }) (bool_of (at ns 2))
    else if at ns 0 == 9 then calls.Nonvolatile (record { 0 = at ns 1 }) (bool_of (at ns 2))
    else if at ns 0 == 10 then calls.Unmergeable (record { 0 = at ns 1 }) (bool_of (at ns 2))
    else if at ns 0 == 11 then calls.Romd (record { 0 = at ns 1 }) (bool_of (at ns 2))
    else if at ns 0 == 12 then calls.Log (record { 0 = at ns 1 }) (client_of (drop 3 ns)) (bool_of (at ns 2))
    else if at ns 0 == 13 then calls.Global (bool_of (at ns 1))
    else if at ns 0 == 14 then calls.Map (record { 0 = at ns 1 }) (at ns 2) (at ns 3) (record { 0 = at ns 4 }) (at ns 5) (perm_of (drop 6 ns))
    else if at ns 0 == 15 then calls.Unmap (record { 0 = at ns 1 }) (at ns 2)
    else if at ns 0 == 16 then calls.Event (record { 0 = at ns 1 }) (ioevent_of (drop 2 ns))
    else if at ns 0 == 17 then calls.Unevent (record { 0 = at ns 1 }) (at ns 2) (at ns 3) (bool_of (at ns 4)) (at ns 5)
    else calls.Drop (record { 0 = at ns 1 })

call_again : (x : Call) → call_of (code_call x) ≡ x
call_again (calls.Region a b) = (λ i. calls.Region (kind_again a i) b)
call_again (calls.Add a b c d) = (λ i. calls.Add a b c (int_again d i))
call_again (calls.Enable a b) = (λ i. calls.Enable a (bool_again b i))
call_again (calls.Readonly a b) = (λ i. calls.Readonly a (bool_again b i))
call_again (calls.Nonvolatile a b) = (λ i. calls.Nonvolatile a (bool_again b i))
call_again (calls.Unmergeable a b) = (λ i. calls.Unmergeable a (bool_again b i))
call_again (calls.Romd a b) = (λ i. calls.Romd a (bool_again b i))
call_again (calls.Log a b c) = (λ i. calls.Log a (client_again b i) (bool_again c i))
call_again (calls.Global a) = (λ i. calls.Global (bool_again a i))
call_again (calls.Map a b c d e f) = (λ i. calls.Map a b c d e (perm_again f i))
call_again (calls.Event a b) = (λ i. calls.Event a (ioevent_again b i))
call_again (calls.Unevent a b c d e) = (λ i. calls.Unevent a b c (bool_again d i) e)
call_again _ = refl

abbrev code_order : DeskOrder → List ℕ
code_order orders.Begin = 0 ∷ []
code_order (orders.Call a) = 1 ∷ code_call a
code_order orders.Commit = 2 ∷ []
code_order orders.Reap = 3 ∷ []
code_order (orders.Listen a b c) = 4 ∷ a.0 ∷ b.0 ∷ code_int c
code_order (orders.Unlisten a) = 5 ∷ a.0 ∷ []
code_order (orders.Load a b c) = 6 ∷ a.0 ∷ b ∷ code_numbers c
code_order (orders.Harvest a b) = 7 ∷ a.0 ∷ code_client b
code_order (orders.Notified a) = 8 ∷ a ∷ []
code_order orders.Look = 9 ∷ []

abbrev order_of : List ℕ → DeskOrder
order_of ns =
    if at ns 0 == 0 then orders.Begin
    else if at ns 0 == 1 then orders.Call (call_of (drop 1 ns))
    else if at ns 0 == 2 then orders.Commit
    else if at ns 0 == 3 then orders.Reap
    else if at ns 0 == 4 then orders.Listen (record { 0 = at ns 1 }) (record { 0 = at ns 2 }) (int_of (drop 3 ns))
    else if at ns 0 == 5 then orders.Unlisten (record { 0 = at ns 1 })
    else if at ns 0 == 6 then orders.Load (record { 0 = at ns 1 }) (at ns 2) (numbers_of (drop 3 ns))
    else if at ns 0 == 7 then orders.Harvest (record { 0 = at ns 1 }) (client_of (drop 2 ns))
    else if at ns 0 == 8 then orders.Notified (at ns 1)
    else orders.Look

order_again : (x : DeskOrder) → order_of (code_order x) ≡ x
order_again (orders.Call a) = (λ i. orders.Call (call_again a i))
order_again (orders.Listen a b c) = (λ i. orders.Listen a b (int_again c i))
order_again (orders.Load a b c) = (λ i. orders.Load a b (numbers_again c i))
order_again (orders.Harvest a b) = (λ i. orders.Harvest a (client_again b i))
order_again _ = refl

abbrev code_answer : DeskAnswer → List ℕ
code_answer answers.Done = 0 ∷ []
code_answer (answers.Called a b) = 1 ∷ is_there b ∷ number_there b ∷ code_applied a
code_answer (answers.Committed a) = 2 ∷ is_there a ∷ number_there a ∷ []
code_answer (answers.Released a) = 3 ∷ code_regions a
code_answer (answers.Pages a) = 4 ∷ code_numbers a
code_answer (answers.Value a) = 5 ∷ a ∷ []
code_answer (answers.Looked a) = 6 ∷ a ∷ []
code_answer (answers.Refused a) = 7 ∷ code_refusal a

abbrev answer_of : List ℕ → DeskAnswer
answer_of ns =
    if at ns 0 == 0 then answers.Done
    else if at ns 0 == 1 then answers.Called (applied_of (drop 3 ns)) (option_of (at ns 1) (at ns 2))
    else if at ns 0 == 2 then answers.Committed (option_of (at ns 1) (at ns 2))
    else if at ns 0 == 3 then answers.Released (regions_of (drop 1 ns))
    else if at ns 0 == 4 then answers.Pages (numbers_of (drop 1 ns))
    else if at ns 0 == 5 then answers.Value (at ns 1)
    else if at ns 0 == 6 then answers.Looked (at ns 1)
    else answers.Refused (refusal_of (drop 1 ns))

answer_again : (x : DeskAnswer) → answer_of (code_answer x) ≡ x
answer_again (answers.Called a b) = (λ i. answers.Called (applied_again a i) (option_again b i))
answer_again (answers.Committed a) = (λ i. answers.Committed (option_again a i))
answer_again (answers.Released a) = (λ i. answers.Released (regions_again a i))
answer_again (answers.Pages a) = (λ i. answers.Pages (numbers_again a i))
answer_again (answers.Refused a) = (λ i. answers.Refused (refusal_again a i))
answer_again _ = refl

-- lists of numbers can be told apart, and so all that is written as one

numbers_discrete : (xs ys : List ℕ) → Dec (xs ≡ ys)
numbers_discrete [] [] = yes refl
numbers_discrete [] (y ∷ ys) = no (λ e. empty_is_not y ys e)
  where
    empty_is_not : (y : ℕ) (ys : List ℕ) → [] ≡ y ∷ ys → ⊥
    empty_is_not y ys e = let same : 0 ≡ length (y ∷ ys) = ap length e in omega (arith, same)
numbers_discrete (x ∷ xs) [] = no (λ e. is_not_empty x xs e)
  where
    is_not_empty : (x : ℕ) (xs : List ℕ) → x ∷ xs ≡ [] → ⊥
    is_not_empty x xs e = let same : length (x ∷ xs) ≡ 0 = ap length e in omega (arith, same)
numbers_discrete (x ∷ xs) (y ∷ ys) = go (ℕ_discrete x y) (numbers_discrete xs ys)
  where
    go : Dec (x ≡ y) → Dec (xs ≡ ys) → Dec (x ∷ xs ≡ y ∷ ys)
    go (yes p) (yes q) = yes (λ i. p i ∷ q i)
    go (no p) d = no (λ e. p (ap (λ (zs : List ℕ). slice_index_or zs 0 0) e))
    go (yes p) (no q) = no (λ e. q (ap (λ (zs : List ℕ). drop 1 zs) e))

by_code : {A : Type 0} (code : A → List ℕ) (of : List ℕ → A) → ((x : A) → of (code x) ≡ x) → (x y : A) → Dec (x ≡ y)
by_code code of again x y = go (numbers_discrete (code x) (code y))
  where
    go : Dec (code x ≡ code y) → Dec (x ≡ y)
    go (yes p) = yes (sym (again x) ∙ ap of p ∙ again y)
    go (no p) = no (λ e. p (ap code e))

pub entry_discrete : (x y : DeskEntry) → Dec (x ≡ y)
entry_discrete x y = go (numbers_discrete (x.who ∷ x.from ∷ x.to ∷ []) (y.who ∷ y.from ∷ y.to ∷ [])) (by_code code_order order_of order_again x.order y.order)
    (by_code code_answer answer_of answer_again x.answer y.answer)
  where
    go : Dec (x.who ∷ x.from ∷ x.to ∷ [] ≡ y.who ∷ y.from ∷ y.to ∷ []) → Dec (x.order ≡ y.order) → Dec (x.answer ≡ y.answer) → Dec (x ≡ y)
    go (yes p) (yes q) (yes r) = yes (λ i. record {
      who = slice_index_or (p i) 0 0;
      order = q i;
      answer = r i;
      from = slice_index_or (p i) 1 0;
      to = slice_index_or (p i) 2 0;
    })
    go (no p) q r = no (λ e. p (λ i. (e i).who ∷ (e i).from ∷ (e i).to ∷ []))
    go (yes p) (no q) r = no (λ e. q (ap (λ (z : DeskEntry). z.order) e))
    go (yes p) (yes q) (no r) = no (λ e. r (ap (λ (z : DeskEntry). z.answer) e))
