-- Laws of the calls that change the fields of one region.
use Rattle.std.proofs.Common.{◌≡◌, true, ◌∷◌, [], ◌++◌, Option, Some, None, refl, sym, ap, ◌∙◌}
use Rattle.std.specs.Prelude.{is_some}
use Rattle.mem_base.specs.declared.map.ids.RegionId.{RegionId}
use Rattle.mem_base.specs.declared.map.forests.Node.{Node}
use Rattle.mem_base.specs.declared.map.forests.Forest.{Forest}
use Rattle.mem_base.specs.declared.map.calls.Call.{Call}
use Rattle.mem_base.specs.declared.map.calls.Call.TheVariants as calls
use Rattle.mem_base.specs.declared.map.calls.Applied.TheVariants.{Done}
use Rattle.mem_base.specs.declared.map.refusals.Refusal.TheVariants.{EventTaken}
use Rattle.mem_base.specs.map.Region.{node_of}
use Rattle.mem_base.specs.map.Edits.{edits, edited}
use Rattle.mem_base.specs.map.Events.{has_event}
use Rattle.mem_base.specs.map.Changes.{changed, at_region}
use Rattle.mem_base.specs.map.TableRefusals.{no_more_calls}
use Rattle.mem_base.specs.map.Calls.{refusal_of, refusals, answer_of}
use Rattle.region_slots.proofs.HandedOn.{each_none, refuse_where-none}
use Rattle.region_slots.specs.Edits.{Allows}
use Rattle.region_tree.proofs.WholeLaws.{page_apart}

abbrev edited_in : Forest → Call → Option RegionId → Forest
edited_in f call None = f
edited_in f call (Some region) = at_region f region (edited call)

-- such a call changes the region and answers nothing
pub edit_changes : (f : Forest) (call : Call) → is_some (edits call) ≡ true → changed f call ≡ edited_in f call (edits call)
edit_changes f (calls.Region kind size) e = cc
edit_changes f (calls.Space space root) e = cc
edit_changes f (calls.Add parent offset child priority) e = cc
edit_changes f (calls.Del parent child) e = cc
edit_changes f (calls.Move child offset) e = cc
edit_changes f (calls.Global on) e = cc
edit_changes f (calls.Drop region) e = cc
edit_changes f _ e = refl

pub changed_edits : (f : Forest) (call : Call) (r : RegionId) → edits call ≡ Some r → changed f call ≡ at_region f r (edited call)
changed_edits f call r e = edit_changes f call (ap is_some e) ∙ ap (edited_in f call) e

pub edit_answers : (f : Forest) (call : Call) → is_some (edits call) ≡ true → answer_of f call ≡ Done
edit_answers f (calls.Region kind size) e = cc
edit_answers f _ e = refl

-- a region allows each such call that is not refused
pub allowed_edit : (f : Forest) (call : Call) (r : RegionId) → edits call ≡ Some r → refusal_of f call ≡ None → (n : Node) → node_of f.nodes r ≡ Some n →
    Allows call n
allowed_edit f (calls.Map region iova size space translated perm) r e none n there =
    let each = each_none (refusals f (calls.Map region iova size space translated perm) ++ no_more_calls f ∷ []) none in
    let same : r ≡ region = cc in
    (each.1.1.1.0, page_apart iova size (node_of f.nodes region) n (ap (node_of f.nodes) (sym same) ∙ there) each.1.1.1.1.0)
allowed_edit f (calls.Event region event) r e none n there =
    let each = each_none (refusals f (calls.Event region event) ++ no_more_calls f ∷ []) none in
    let same : r ≡ region = cc in
    refuse_where-none (has_event event.offset event.size event.matched event.value) EventTaken (node_of f.nodes region) n
    (ap (node_of f.nodes) (sym same) ∙ there) each.1.1.1.0
allowed_edit f _ r e none n there = tt
