-- The forest after a call, and after a list of calls.
-- The calls are those of QEMU's manual, "The memory API": making and destroying regions, adding and removing
-- subregions, aliases, enabling, flags, logging, translations and ioeventfds. The order of the refusals is this
-- project's own.
use Rattle.std.specs.Prelude.{ℕ, ◌+◌, Bool, true, false, not, if◌then◌else◌, List, [], ◌∷◌, ◌++◌, Option, None, Result, Ok, Err}
use Rattle.mem_base.specs.declared.map.forests.Forest.{Forest}
use Rattle.mem_base.specs.declared.map.kinds.Kind.{Kind}
use Rattle.mem_base.specs.declared.map.calls.Call.{Call}
use Rattle.mem_base.specs.declared.map.calls.Call.TheVariants as calls
use Rattle.mem_base.specs.declared.map.calls.Applied.{Applied}
use Rattle.mem_base.specs.declared.map.calls.Applied.TheVariants.{Made, Done}
use Rattle.mem_base.specs.declared.map.refusals.Refusal.{Refusal}
use Rattle.mem_base.specs.map.Kinds.{is_alias, is_memory, is_rom_device, is_iommu, takes_events, device_of}
use Rattle.mem_base.specs.map.Refusals.{first_refusal, unknown_region, unknown_space, unknown_target, taken_space, wrong_kind, zero_size, or_refused}
use Rattle.mem_base.specs.map.Refusals.{bad_size, has_container, not_child_of, not_in_container, alias_parent, in_use, makes_loop, too_deep}
use Rattle.mem_base.specs.map.Refusals.{too_wide}
use Rattle.mem_base.specs.map.TableRefusals.{unknown_entry, unknown_event, bad_device, bad_event, bad_page, page_overlap, event_taken}
use Rattle.mem_base.specs.map.TableRefusals.{no_more_calls, no_more_regions, no_more_spaces, no_more_entries, no_more_events}
use Rattle.mem_base.specs.map.Changes.{changed}

-- no region, no space, and nothing done yet
abbrev pub empty : Forest
empty = record { nodes = []; spaces = []; made = 0; placings = 0; calls = 0; global = false }

-- a region that is made leads somewhere only where it is an alias: then it may be too deep or too wide
abbrev pub alias_too_long : Forest → Kind → ℕ → Option Refusal
alias_too_long f kind size =
    if is_alias kind then first_refusal (too_deep (changed f (calls.Region kind size)).nodes ∷ too_wide (changed f (calls.Region kind size)).nodes ∷ []) else
    None

-- the refusals of each call, in the order in which they are tried
abbrev pub refusals : Forest → Call → List (Option Refusal)
refusals f (calls.Region kind size) =
    unknown_target f kind ∷ bad_size kind size ∷ bad_device (device_of kind) ∷ alias_too_long f kind size ∷ no_more_regions f ∷ []
refusals f (calls.Space space root) = unknown_region f root ∷ taken_space f space ∷ no_more_spaces f ∷ []
refusals f (calls.Add parent offset child priority) =
    let nodes = (changed f (calls.Add parent offset child priority)).nodes in
    unknown_region f parent ∷ unknown_region f child ∷ has_container f child ∷ alias_parent f parent ∷ makes_loop f parent child ∷ too_deep nodes ∷ too_wide
    nodes ∷ []
refusals f (calls.Del parent child) = unknown_region f parent ∷ unknown_region f child ∷ not_child_of f parent child ∷ []
refusals f (calls.Move child offset) = unknown_region f child ∷ not_in_container f child ∷ []
refusals f (calls.Resize region size) =
    unknown_region f region ∷ wrong_kind (λ k. not (is_memory k)) f region ∷ zero_size size ∷ []
refusals f (calls.Retarget alias offset) = unknown_region f alias ∷ wrong_kind is_alias f alias ∷ []
refusals f (calls.Enable region on) = unknown_region f region ∷ []
refusals f (calls.Readonly region on) = unknown_region f region ∷ []
refusals f (calls.Nonvolatile region on) = unknown_region f region ∷ []
refusals f (calls.Unmergeable region on) = unknown_region f region ∷ []
refusals f (calls.Romd region on) = unknown_region f region ∷ wrong_kind is_rom_device f region ∷ []
refusals f (calls.Log region client on) = unknown_region f region ∷ wrong_kind is_memory f region ∷ []
refusals f (calls.Global on) = []
refusals f (calls.Map region iova size space translated perm) =
    unknown_region f region ∷ unknown_space f space ∷ wrong_kind is_iommu f region ∷ bad_page iova size ∷ page_overlap f region iova size ∷ no_more_entries f
    region ∷ []
refusals f (calls.Unmap region iova) = unknown_region f region ∷ unknown_entry f region iova ∷ []
refusals f (calls.Event region event) =
    unknown_region f region ∷ wrong_kind takes_events f region ∷ bad_event event ∷ event_taken f region event ∷ no_more_events f region ∷ []
refusals f (calls.Unevent region offset size matched value) =
    unknown_region f region ∷ unknown_event f region offset size matched value ∷ []
refusals f (calls.Drop region) = unknown_region f region ∷ has_container f region ∷ in_use f region ∷ []

-- why a call is refused, where it is; the limit of calls is tried last
abbrev pub refusal_of : Forest → Call → Option Refusal
refusal_of f call = first_refusal (refusals f call ++ no_more_calls f ∷ [])

-- the forest with one call more counted
abbrev pub counted : Forest → Forest
counted f = record f { calls = f.calls + 1 }

-- the forest after an accepted call, or the first refusal that stands
abbrev pub after : Forest → Call → Result Forest Refusal
after f call = or_refused (refusal_of f call) (counted (changed f call))

-- what an accepted call answers
abbrev pub answer_of : Forest → Call → Applied
answer_of f (calls.Region kind size) = Made (record { 0 = f.made })
answer_of f _ = Done

-- the forest that a call leaves: a refused call changes nothing
abbrev pub left_by : Forest → Result Forest Refusal → Forest
left_by f (Ok g) = g
left_by f (Err why) = f

-- the forest after a list of calls, refused ones included
abbrev pub after_all : Forest → List Call → Forest
after_all f [] = f
after_all f (call ∷ rest) = after_all (left_by f (after f call)) rest

-- `Region` and `Drop` alter no view: they are quiet. Every other call is a change.
abbrev pub is_quiet : Call → Bool
is_quiet (calls.Region kind size) = true
is_quiet (calls.Drop region) = true
is_quiet _ = false
