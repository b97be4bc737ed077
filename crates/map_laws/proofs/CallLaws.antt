-- Every accepted call keeps the invariant of forests.
use Rattle.std.proofs.Common.{◌≡◌, ℕ, ◌+◌, ◌≤◌, Bool, true, false, cond, ℤ, List, [], ◌∷◌, ◌++◌, Option, Some, None, Ok, Err, refl, sym, subst, arith}
use Rattle.mem_base.specs.declared.map.ids.RegionId.{RegionId}
use Rattle.mem_base.specs.declared.map.ids.SpaceId.{SpaceId}
use Rattle.mem_base.specs.declared.map.forests.Forest.{Forest}
use Rattle.mem_base.specs.declared.map.kinds.Kind.{Kind}
use Rattle.mem_base.specs.declared.map.refusals.Refusal.{Refusal}
use Rattle.mem_base.specs.declared.map.calls.Call.{Call}
use Rattle.mem_base.specs.declared.map.calls.Call.TheVariants as calls
use Rattle.mem_base.specs.map.Kinds.{is_alias}
use Rattle.mem_base.specs.map.Forest.{IsOrderedForest}
use Rattle.mem_base.specs.map.Refusals.{first_refusal, unknown_region, unknown_target, too_deep, too_wide, or_refused}
use Rattle.mem_base.specs.map.TableRefusals.{no_more_calls}
use Rattle.mem_base.specs.map.Steps.{greatest_depth, greatest_weight}
use Rattle.mem_base.specs.map.Edits.{edited}
use Rattle.mem_base.specs.map.Changes.{changed, made_region, at_region}
use Rattle.mem_base.specs.map.Calls.{alias_too_long, refusals, refusal_of, counted, after, left_by, after_all, empty}
use Rattle.mem_base.proofs.ForestLaws.{known_below, added_forest, pushed_forest}
use Rattle.map_laws.proofs.MadeLaws.{shallow_made, narrow_made}
use Rattle.map_laws.proofs.FieldLaws.{IsField}
use Rattle.map_laws.proofs.KeptLaws.{field_forest, retarget_field, del_forest}
use Rattle.map_laws.proofs.MoveLaws.{move_forest}
use Rattle.map_laws.proofs.DropLaws.{drop_forest}
use Rattle.map_laws.proofs.RefusalLaws.{each_none, is_known, known_node, target_made, has_container-none, too_deep-none, too_wide-none}
use Rattle.mem_base.specs.map.Limits.{most_depth, most_weight}

-- a new alias is refused where it would be too deep or too wide; no other new region is
made_bounds : (f : Forest) (kind : Kind) (size : ℕ) → IsOrderedForest f → alias_too_long f kind size ≡ None →
    (greatest_depth (changed f (calls.Region kind size)).nodes ≤ most_depth) × (greatest_weight (changed f (calls.Region kind size)).nodes ≤ most_weight)
made_bounds f kind size h e =
    let nodes = (changed f (calls.Region kind size)).nodes in
    let r = made_region (record { 0 = f.made }) kind size in
    elim (is_alias kind) as (λ b. is_alias kind ≡ b → cond b (first_refusal (too_deep nodes ∷ too_wide nodes ∷ [])) None ≡ None → (greatest_depth nodes ≤ most_depth)
    × (greatest_weight nodes ≤ most_weight)) [
      | true ↦ λ t w. let each = each_none (too_deep nodes ∷ too_wide nodes ∷ []) w in (too_deep-none nodes each.0, too_wide-none nodes each.1.0)
      | false ↦ λ t w. (shallow_made f h r refl refl t, narrow_made f h r refl refl t)
    ] refl e

pub region_forest : (f : Forest) (kind : Kind) (size : ℕ) → IsOrderedForest f → unknown_target f kind ≡ None → alias_too_long f kind size ≡ None →
    IsOrderedForest (counted (changed f (calls.Region kind size)))
region_forest f kind size h known short =
    let bounds = made_bounds f kind size h short in
    pushed_forest f (made_region (record { 0 = f.made }) kind size) h refl refl (target_made f kind h known) bounds.0 bounds.1

-- the invariant does not speak of spaces and of global logging
beside_nodes : (f : Forest) (spaces : List (SpaceId × RegionId)) (global : Bool) → IsOrderedForest f →
    IsOrderedForest (record f { spaces = spaces; global = global; calls = f.calls + 1 })
beside_nodes f spaces global h = record {
  ascending = h.ascending;
  made_before = h.made_before;
  placed_before = h.placed_before;
  few_placings = let few = h.few_placings in omega arith;
  targets_before = h.targets_before;
  shallow = h.shallow;
  narrow = h.narrow;
}

pub space_forest : (f : Forest) (space : SpaceId) (root : RegionId) → IsOrderedForest f → IsOrderedForest (counted (changed f (calls.Space space root)))
space_forest f space root h = beside_nodes f (f.spaces ++ (space, root) ∷ []) f.global h

pub global_forest : (f : Forest) (on : Bool) → IsOrderedForest f → IsOrderedForest (counted (changed f (calls.Global on)))
global_forest f on h = beside_nodes f f.spaces on h

pub add_forest : (f : Forest) (parent : RegionId) (offset : ℕ) (child : RegionId) (priority : ℤ) → IsOrderedForest f → unknown_region f parent ≡ None →
    too_deep (changed f (calls.Add parent offset child priority)).nodes ≡ None → too_wide (changed f (calls.Add parent offset child priority)).nodes ≡ None →
    IsOrderedForest (counted (changed f (calls.Add parent offset child priority)))
add_forest f parent offset child priority h known deep wide =
    let nodes = (changed f (calls.Add parent offset child priority)).nodes in
    added_forest f parent offset child priority h (known_below f parent h (is_known f parent known)) (too_deep-none nodes deep) (too_wide-none nodes wide)

-- a call that edits one region keeps its place and its target
pub edited_field : (call : Call) → IsField (edited call)
edited_field (calls.Retarget alias offset) = retarget_field offset
edited_field (calls.Resize region size) = record { id = λ n. refl; parent = λ n. refl; priority = λ n. refl; placing = λ n. refl; target = λ n. refl }
edited_field (calls.Enable region on) = record { id = λ n. refl; parent = λ n. refl; priority = λ n. refl; placing = λ n. refl; target = λ n. refl }
edited_field (calls.Readonly region on) = record { id = λ n. refl; parent = λ n. refl; priority = λ n. refl; placing = λ n. refl; target = λ n. refl }
edited_field (calls.Nonvolatile region on) = record { id = λ n. refl; parent = λ n. refl; priority = λ n. refl; placing = λ n. refl; target = λ n. refl }
edited_field (calls.Unmergeable region on) = record { id = λ n. refl; parent = λ n. refl; priority = λ n. refl; placing = λ n. refl; target = λ n. refl }
edited_field (calls.Romd region on) = record { id = λ n. refl; parent = λ n. refl; priority = λ n. refl; placing = λ n. refl; target = λ n. refl }
edited_field (calls.Log region client on) = record { id = λ n. refl; parent = λ n. refl; priority = λ n. refl; placing = λ n. refl; target = λ n. refl }
edited_field (calls.Map region iova size space translated perm) =
    record { id = λ n. refl; parent = λ n. refl; priority = λ n. refl; placing = λ n. refl; target = λ n. refl }
edited_field (calls.Unmap region iova) = record { id = λ n. refl; parent = λ n. refl; priority = λ n. refl; placing = λ n. refl; target = λ n. refl }
edited_field (calls.Event region event) = record { id = λ n. refl; parent = λ n. refl; priority = λ n. refl; placing = λ n. refl; target = λ n. refl }
edited_field (calls.Unevent region offset size matched value) =
    record { id = λ n. refl; parent = λ n. refl; priority = λ n. refl; placing = λ n. refl; target = λ n. refl }
edited_field _ = record { id = λ n. refl; parent = λ n. refl; priority = λ n. refl; placing = λ n. refl; target = λ n. refl }

pub edit_forest : (f : Forest) (call : Call) (r : RegionId) → IsOrderedForest f → IsOrderedForest (counted (at_region f r (edited call)))
edit_forest f call r h = field_forest f r (edited call) (edited_field call) h

-- an accepted call keeps the invariant
pub IsOrderedForest-accepted : (f : Forest) (call : Call) → IsOrderedForest f → refusal_of f call ≡ None → IsOrderedForest (counted (changed f call))
IsOrderedForest-accepted f (calls.Region kind size) h e =
    let each = each_none (refusals f (calls.Region kind size) ++ no_more_calls f ∷ []) e in
    region_forest f kind size h each.0 each.1.1.1.0
IsOrderedForest-accepted f (calls.Space space root) h e = space_forest f space root h
IsOrderedForest-accepted f (calls.Add parent offset child priority) h e =
    let each = each_none (refusals f (calls.Add parent offset child priority) ++ no_more_calls f ∷ []) e in
    add_forest f parent offset child priority h each.0 each.1.1.1.1.1.0 each.1.1.1.1.1.1.0
IsOrderedForest-accepted f (calls.Del parent child) h e = del_forest f parent child h
IsOrderedForest-accepted f (calls.Move child offset) h e =
    let each = each_none (refusals f (calls.Move child offset) ++ no_more_calls f ∷ []) e in
    let node = known_node f child each.0 in
    move_forest f child offset node.0 h node.1
IsOrderedForest-accepted f (calls.Resize region size) h e = edit_forest f (calls.Resize region size) region h
IsOrderedForest-accepted f (calls.Retarget alias offset) h e = edit_forest f (calls.Retarget alias offset) alias h
IsOrderedForest-accepted f (calls.Enable region on) h e = edit_forest f (calls.Enable region on) region h
IsOrderedForest-accepted f (calls.Readonly region on) h e = edit_forest f (calls.Readonly region on) region h
IsOrderedForest-accepted f (calls.Nonvolatile region on) h e = edit_forest f (calls.Nonvolatile region on) region h
IsOrderedForest-accepted f (calls.Unmergeable region on) h e = edit_forest f (calls.Unmergeable region on) region h
IsOrderedForest-accepted f (calls.Romd region on) h e = edit_forest f (calls.Romd region on) region h
IsOrderedForest-accepted f (calls.Log region client on) h e = edit_forest f (calls.Log region client on) region h
IsOrderedForest-accepted f (calls.Global on) h e = global_forest f on h
IsOrderedForest-accepted f (calls.Map region iova size space translated perm) h e = edit_forest f (calls.Map region iova size space translated perm) region h
IsOrderedForest-accepted f (calls.Unmap region iova) h e = edit_forest f (calls.Unmap region iova) region h
IsOrderedForest-accepted f (calls.Event region event) h e = edit_forest f (calls.Event region event) region h
IsOrderedForest-accepted f (calls.Unevent region offset size matched value) h e = edit_forest f (calls.Unevent region offset size matched value) region h
IsOrderedForest-accepted f (calls.Drop region) h e =
    let each = each_none (refusals f (calls.Drop region) ++ no_more_calls f ∷ []) e in
    let node = known_node f region each.0 in
    drop_forest f region node.0 h node.1 (has_container-none f region node.0 node.1 each.1.0)

accepted : (o : Option Refusal) (f g : Forest) (call : Call) → or_refused o (counted (changed f call)) ≡ Ok g → (o ≡ None) × (g ≡ counted (changed f call))
accepted None f g call e = (refl, cc)
accepted (Some why) f g call e = cc

-- a call is accepted where nothing refuses it
pub after-accepted : (f g : Forest) (call : Call) → after f call ≡ Ok g → (refusal_of f call ≡ None) × (g ≡ counted (changed f call))
after-accepted f g call e = accepted (refusal_of f call) f g call e

pub IsOrderedForest-after : (f g : Forest) (call : Call) → IsOrderedForest f → after f call ≡ Ok g → IsOrderedForest g
IsOrderedForest-after f g call h e =
    let ok = after-accepted f g call e in
    subst IsOrderedForest (sym ok.1) (IsOrderedForest-accepted f call h ok.0)

-- a call keeps the invariant, accepted or not
pub IsOrderedForest-left_by : (f : Forest) (call : Call) → IsOrderedForest f → IsOrderedForest (left_by f (after f call))
IsOrderedForest-left_by f call h =
    elim (after f call) as (λ o. after f call ≡ o → IsOrderedForest (left_by f o)) [ Ok g ↦ λ e. IsOrderedForest-after f g call h e | Err why ↦ λ e. h ] refl

pub IsOrderedForest-after_all : (f : Forest) (list : List Call) → IsOrderedForest f → IsOrderedForest (after_all f list)
IsOrderedForest-after_all f [] h = h
IsOrderedForest-after_all f (call ∷ rest) h = IsOrderedForest-after_all (left_by f (after f call)) rest (IsOrderedForest-left_by f call h)

pub IsOrderedForest-empty : IsOrderedForest empty
IsOrderedForest-empty = record {
  ascending = tt;
  made_before = tt;
  placed_before = tt;
  few_placings = omega arith;
  targets_before = tt;
  shallow =
      omega arith;
  narrow = omega arith;
}

-- every forest that calls make of the empty one has the invariant
pub IsOrderedForest-made : (list : List Call) → IsOrderedForest (after_all empty list)
IsOrderedForest-made list = IsOrderedForest-after_all empty list IsOrderedForest-empty
