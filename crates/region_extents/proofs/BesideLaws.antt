-- Laws of what a tree keeps beside its regions: what each call makes of it.
use Rattle.std.proofs.Common.{◌≡◌, ◌≢◌, ℕ, zero, suc, ◌+◌, ◌<◌, ◌≤◌, min, Bool, true, false, cond, eqb, ℤ, List, [], ◌∷◌}
use Rattle.std.proofs.Common.{◌++◌, length, get_or, set, map, filter, Option, Some, None, refl, sym, ap, subst, ◌∙◌, arith}
use Rattle.std.specs.Prelude.{is_some, IfSome}
use Rattle.std.proofs.lemmas.Bool.Decides.{nat_tests}
use Rattle.std.proofs.lemmas.List.{get_or-map}
use Rattle.mem_base.specs.declared.map.ids.RegionId.{RegionId}
use Rattle.mem_base.specs.declared.map.forests.Node.{Node}
use Rattle.mem_base.specs.declared.map.forests.Forest.{Forest}
use Rattle.mem_base.specs.declared.map.kinds.Kind.{Kind}
use Rattle.mem_base.specs.declared.map.kinds.Kind.TheVariants.{Alias}
use Rattle.mem_base.specs.declared.map.calls.Call.TheVariants as calls
use Rattle.mem_base.specs.lists.Every.{Every}
use Rattle.mem_base.specs.map.Kinds.{is_alias, target_of}
use Rattle.mem_base.specs.map.Region.{node_of, has_id}
use Rattle.mem_base.specs.map.Order.{ids_of}
use Rattle.mem_base.specs.map.Region.{IsAscending}
use Rattle.mem_base.specs.map.Forest.{IsOrderedForest, IsTargetBefore}
use Rattle.mem_base.specs.map.Refusals.{targets, unknown_target, first_refusal, makes_loop, too_deep, too_wide, alias_parent}
use Rattle.mem_base.specs.map.Refusals.{has_container}
use Rattle.std.specs.Prelude.{◌-◌}
use Rattle.mem_base.specs.declared.map.calls.Call.{Call}
use Rattle.mem_base.specs.map.Edits.{edited}
use Rattle.region_slots.proofs.HandedOn.{edited_field, moved_keeps, KeepsSteps, depth_of-kept, weight_of-kept, depth_made, weight_made, depth_alias, weight_alias, has_container-none, some_of, is_known}
use Rattle.mem_base.specs.map.Changes.{changed, changed_at, placed, moved}
use Rattle.mem_base.specs.map.Steps.{longest, Steps, steps_of, steps_from, depth_by, weight_by, depth_of, weight_of, greatest, total, reaches}
use Rattle.mem_base.specs.map.Steps.{greatest_depth, greatest_weight}
use Rattle.mem_base.proofs.EveryLaws.{weaker, every_at}
use Rattle.mem_base.proofs.ForestLaws.{id_of, node_of-itself, children_of-made, no_children}
use Rattle.mem_base.proofs.JoinLaws.{steps_joined, depth_at_most, weight_at_most}
use Rattle.mem_base.proofs.StepLaws.{depth_by-alike, weight_by-alike, Alike}
use Rattle.region_slots.specs.declared.slots.Slot.{Slot}
use Rattle.region_extents.specs.declared.extents.Extent.{Extent}
use Rattle.region_extents.specs.declared.extents.Join.{Join}
use Rattle.region_extents.specs.declared.kept.Kept.{Kept}
use Rattle.region_slots.specs.Slots.{nodes_of}
use Rattle.region_extents.specs.Extents.{told_of, alone, steps_with, extent_by, extents_by}
use Rattle.region_extents.specs.Kept.{aliases_of, aliases_in, extent_in, extents_in, steps_plus, IsSettledBy, IsShort, IsBeside, one_above}
use Rattle.region_extents.specs.Kept.{made_extent, enlisted}
use Rattle.region_extents.proofs.RaiseLaws.{steps_fall, reaches_down}
use Rattle.region_extents.proofs.JoinedLaws.{map_changed_at, map_by, extents_new, within_limits}
use Rattle.region_extents.proofs.StretchLaws.{no_alias_of, alias_parent_of}
use Rattle.mem_base.proofs.ListLaws.{length_map, map_same}
use Rattle.region_slots.proofs.PlaceLaws.{length_nodes}
use Rattle.std.proofs.lemmas.Bool.{false_from_ne_true, le-ltb}
use Rattle.mem_base.proofs.NodeLaws.{steps_to_children}
use Rattle.region_slots.proofs.SlotsLaws.{some_element}
use Rattle.mem_base.specs.map.Limits.{most_depth, most_weight}

abbrev extent : ℕ → ℕ → Extent
extent d w = record { depth = d; weight = w }

map_all : {A B : Type 0} (f g : A → B) → ((x : A) → f x ≡ g x) → (xs : List A) → map f xs ≡ map g xs
map_all f g h [] = refl
map_all f g h (x ∷ xs) = let a = h x in let b = map_all f g h xs in cc

-- whether an alias is one of a region is a matter of its target
abbrev pub aims : RegionId → Option RegionId → Bool
aims q None = false
aims q (Some t) = eqb t.0 q.0

pub targets_aims : (q : RegionId) (k : Kind) → targets q k ≡ aims q (target_of k)
targets_aims q (Alias target offset) = refl
targets_aims q _ = refl

-- a change of one region that keeps its id and its target keeps who is an alias of whom
module _ (r : RegionId) (g : Node → Node) (ids : (n : Node) → (g n).id ≡ n.id) (aim : (n : Node) → target_of (g n).kind ≡ target_of n.kind) where
  one_targets : (q : RegionId) (n : Node) → targets q (cond (has_id r n) (g n) n).kind ≡ targets q n.kind
  one_targets q n = elim (has_id r n) as (λ b. targets q (cond b (g n) n).kind ≡ targets q n.kind)
      [ true ↦ targets_aims q (g n).kind ∙ ap (aims q) (aim n) ∙ sym (targets_aims q n.kind) | false ↦ refl ]

  one_id : (n : Node) → (cond (has_id r n) (g n) n).id ≡ n.id
  one_id n = elim (has_id r n) as (λ b. (cond b (g n) n).id ≡ n.id) [ true ↦ ids n | false ↦ refl ]

  aliases_of_changed : (q : RegionId) (nodes : List Node) → aliases_of (changed_at r g nodes) q ≡ aliases_of nodes q
  aliases_of_changed q [] = refl
  aliases_of_changed q (n ∷ ns) =
      let same = one_targets q n in
      let id = one_id n in
      let ih = aliases_of_changed q ns in
      rw same (elim (targets q n.kind) as (λ b. ids_of
      (cond b (cond (has_id r n) (g n) n ∷ filter (λ (m : Node). targets q m.kind) (changed_at r g ns))
      (filter (λ (m : Node). targets q m.kind) (changed_at r g ns))) ≡ ids_of
      (cond b (n ∷ filter (λ (m : Node). targets q m.kind) ns) (filter (λ (m : Node). targets q m.kind) ns))) [
        | true ↦ ap (λ x. x ∷ aliases_of (changed_at r g ns) q) id ∙ ap (λ xs. n.id ∷ xs) ih
        | false ↦ ih
      ])

  pub aliases_changed : (nodes : List Node) → aliases_in (changed_at r g nodes) ≡ aliases_in nodes
  aliases_changed nodes =
      map_changed_at (aliases_of (changed_at r g nodes)) r g ids nodes
      ∙ map_all (λ (n : Node). aliases_of (changed_at r g nodes) n.id) (λ (n : Node). aliases_of nodes n.id) (λ n. aliases_of_changed n.id nodes) nodes

-- what is kept stays where no step changes
module _ (r : RegionId) (g : Node → Node) (keeps : KeepsSteps g) (nodes : List Node) where
  extent_kept : (q : RegionId) → extent_in (changed_at r g nodes) q ≡ extent_in nodes q
  unfolding extent_in
  extent_kept q = ap (λ k. extent k (weight_of (changed_at r g nodes) q)) (depth_of-kept r g keeps nodes q)
      ∙ ap (λ k. extent (depth_of nodes q) k) (weight_of-kept r g keeps nodes q)

  extents_kept : extents_in (changed_at r g nodes) ≡ extents_in nodes
  extents_kept =
      map_changed_at (extent_in (changed_at r g nodes)) r g keeps.id nodes
      ∙ map_all (λ (n : Node). extent_in (changed_at r g nodes) n.id) (λ (n : Node). extent_in nodes n.id) (λ n. extent_kept n.id) nodes

  pub beside_kept : (k : Kept) → IsBeside k nodes → IsBeside k (changed_at r g nodes)
  beside_kept k h = record {
    extents = λ fresh. h.extents fresh ∙ sym extents_kept;
    aliases = λ fresh. h.aliases fresh ∙ sym (aliases_changed r g keeps.id keeps.target nodes);
  }

-- the steps of a forest are among those with one more
fewer_fall : (nodes : List Node) (join : Join) (P : RegionId → Type 0) (r : RegionId) → Every P (steps_with nodes join r) → Every P (steps_of nodes r)
fewer_fall nodes join P r h = elim (eqb r.0 join.parent.0) as
    (λ b. Every P (cond b (join.child ∷ steps_of nodes r) (steps_of nodes r)) → Every P (steps_of nodes r)) [ true ↦ λ w. w.1 | false ↦ λ w. w ] h

first_fall : (nodes : List Node) (join : Join) (P : RegionId → Type 0) → Every P (steps_with nodes join join.parent) → P join.child
first_fall nodes join P h =
    let t : eqb join.parent.0 join.parent.0 ≡ true = grind (arith, nat_tests) in
    (subst (λ b. Every P (cond b (join.child ∷ steps_of nodes join.parent) (steps_of nodes join.parent))) t h).0

-- what is known of an Add where all regions settle within the limits
pub record IsJoined (f : Forest) (parent : RegionId) (offset : ℕ) (child : RegionId) (priority : ℤ) (es : List Extent) : Type 0 where
  pub extents : es ≡ extents_in (changed f (calls.Add parent offset child priority)).nodes
  pub allowed : first_refusal (makes_loop f parent child ∷ too_deep (changed f (calls.Add parent offset child priority)).nodes ∷ too_wide
      (changed f (calls.Add parent offset child priority)).nodes ∷ []) ≡ None

pub joined_extents : (f : Forest) → IsOrderedForest f → (slots : List Slot) → f.nodes ≡ nodes_of slots → (parent child : RegionId) →
    is_some (node_of f.nodes parent) ≡ true → is_some (node_of f.nodes child) ≡ true → alias_parent f parent ≡ None → has_container f child ≡ None →
    (es : List Extent) → ((v : RegionId) → IsSettledBy (steps_plus (nodes_of slots) (Some (record { parent = parent; child = child }))) slots es v) →
    Every IsShort es → length es ≡ length slots → (offset : ℕ) (priority : ℤ) → IsJoined f parent offset child priority es
joined_extents f h slots seen parent child is_known here no_alias free es settled short all offset priority =
    let join : Join = record { parent = parent; child = child } in
    let p = some_of (node_of f.nodes parent) is_known in
    let m = some_of (node_of f.nodes child) here in
    let plain : is_alias p.0.kind ≡ false = no_alias_of (node_of f.nodes parent) p.0 _ p.1 (is_alias p.0.kind)
    (sym (ap (alias_parent_of parent) p.1) ∙ no_alias) in
    let loose : m.0.parent ≡ None = has_container-none f child m.0 m.1 free in
    let alike = steps_joined f h parent offset child priority p.0 m.0 p.1 plain m.1 loose in
    let steps : Steps = steps_with f.nodes join in
    let here_settled : (v : RegionId) → IsSettledBy steps slots es v =
    subst (λ ns. (v : RegionId) → IsSettledBy (steps_plus ns (Some join)) slots es v) (sym seen) settled in
    let g = placed parent offset priority f.placings in
    let new = changed_at child g f.nodes in
    let ascending = subst IsAscending seen h.ascending in
    let extents : es ≡ extents_in new = extents_new steps slots es ascending all here_settled short f.nodes seen child g (λ n. refl) alike in
    let limits = within_limits new new (subst (Every IsShort) extents short) in
    let fall = steps_fall steps (told_of slots es) here_settled in
    let lower : (told_of slots es child).depth < (told_of slots es parent).depth =
    first_fall f.nodes join (λ q. (told_of slots es q).depth < (told_of slots es parent).depth) (fall parent) in
    let no_loop : reaches f.nodes child parent ≡ false =
    reaches_down (steps_of f.nodes) (λ q. (told_of slots es q).depth)
    (λ r. fewer_fall f.nodes join (λ q. (told_of slots es q).depth < (told_of slots es r).depth) r (fall r)) longest child parent lower in
    let deep = le-ltb most_depth (greatest_depth new) limits.0 in
    let wide = le-ltb most_weight (greatest_weight new) limits.1 in
    record {
      extents = extents;
      allowed = rw (no_loop, deep, wide) refl;
    }

-- the calls that change the fields of one region, and a move, change no step
pub edited_beside : (nodes : List Node) (k : Kept) → IsBeside k nodes → (call : Call) (r : RegionId) → IsBeside k (changed_at r (edited call) nodes)
edited_beside nodes k h call r = let field = edited_field call in
    beside_kept r (edited call) (record { id = field.id; parent = field.parent; target = field.target }) nodes k h

pub moved_beside : (nodes : List Node) (k : Kept) → IsBeside k nodes → (child : RegionId) (offset placing : ℕ) →
    IsBeside k (changed_at child (moved offset placing) nodes)
moved_beside nodes k h child offset placing = beside_kept child (moved offset placing) (moved_keeps offset placing) nodes k h

by_alike : (nodes : List Node) (join : Join) (new : List Node) → ((q : RegionId) → Alike (steps_of new q) (steps_with nodes join q)) → (r : RegionId) →
    extent_by nodes join longest r ≡ extent_in new r
unfolding extent_by extent_in
by_alike nodes join new alike r =
    ap (λ k. extent k (weight_by (steps_with nodes join) longest r)) (sym (depth_by-alike (steps_of new) (steps_with nodes join) alike longest r))
    ∙ ap (λ k. extent (depth_of new r) k) (sym (weight_by-alike (steps_of new) (steps_with nodes join) alike longest r))

-- the extents of all regions, found by lengthening all paths
pub slow_extents : (f : Forest) → IsOrderedForest f → (slots : List Slot) → f.nodes ≡ nodes_of slots → (parent child : RegionId) →
    is_some (node_of f.nodes parent) ≡ true → is_some (node_of f.nodes child) ≡ true → alias_parent f parent ≡ None → has_container f child ≡ None →
    (es : List Extent) → es ≡ extents_by (nodes_of slots) (record { parent = parent; child = child }) longest slots → (offset : ℕ) (priority : ℤ) →
    es ≡ extents_in (changed f (calls.Add parent offset child priority)).nodes
slow_extents f h slots seen parent child is_known here no_alias free es e offset priority =
    let join : Join = record { parent = parent; child = child } in
    let p = some_of (node_of f.nodes parent) is_known in
    let m = some_of (node_of f.nodes child) here in
    let plain : is_alias p.0.kind ≡ false = no_alias_of (node_of f.nodes parent) p.0 _ p.1 (is_alias p.0.kind)
    (sym (ap (alias_parent_of parent) p.1) ∙ no_alias) in
    let loose : m.0.parent ≡ None = has_container-none f child m.0 m.1 free in
    let alike = steps_joined f h parent offset child priority p.0 m.0 p.1 plain m.1 loose in
    let g = placed parent offset priority f.placings in
    let new = changed_at child g f.nodes in
    e ∙ ap (λ ns. map (λ (s : Slot). extent_by ns join longest s.node.id) slots) (sym seen)
    ∙ map_by (extent_by f.nodes join longest) (extent_in new) (by_alike f.nodes join new alike) slots
    ∙ ap (map (λ (n : Node). extent_in new n.id)) (sym seen)
    ∙ sym (map_changed_at (extent_in new) child g (λ n. refl) f.nodes)

-- a region that is made: its own extent and aliases, and those of the others
map_append : {A B : Type 0} (f : A → B) (xs : List A) (y : A) → map f (xs ++ y ∷ []) ≡ map f xs ++ f y ∷ []
map_append f [] y = refl
map_append f (x ∷ xs) y = ap (λ l. f x ∷ l) (map_append f xs y)

every_last : {A : Type 0} (P : A → Type 0) (xs : List A) (y : A) → Every P (xs ++ y ∷ []) → P y
every_last P [] y h = h.0
every_last P (x ∷ xs) y h = every_last P xs y h.1

-- one element of a list of what ids have, replaced
map_apart : {B : Type 0} (u w : RegionId → B) (t : RegionId) → ((q : RegionId) → q.0 ≢ t.0 → w q ≡ u q) → (ns : List Node) → Every (λ m. t.0 < m.id.0) ns →
    map (λ (n : Node). u n.id) ns ≡ map (λ (n : Node). w n.id) ns
map_apart u w t h [] k = refl
map_apart u w t h (n ∷ ns) k =
    let l = k.0 in
    let a = h n.id (λ e. omega arith) in
    let b = map_apart u w t h ns k.1 in
    cc

pub set_map : {B : Type 0} (u w : RegionId → B) (t : RegionId) → ((q : RegionId) → q.0 ≢ t.0 → w q ≡ u q) → (nodes : List Node) → IsAscending nodes →
    (i : ℕ) (d : Node) → i < length nodes → (get_or nodes i d).id ≡ t → set (map (λ (n : Node). u n.id) nodes) i (w t) ≡ map (λ (n : Node). w n.id) nodes
set_map u w t h [] a i d l e = absurd (omega arith)
set_map u w t h (n ∷ ns) a zero d l e =
    let later = weaker (λ m. n.id.0 < m.id.0) (λ m. t.0 < m.id.0) (λ m k. subst (λ (q : RegionId). q.0 < m.id.0) e k) ns a.0 in
    let b = map_apart u w t h ns later in
    let c = ap w e in
    cc
set_map u w t h (n ∷ ns) a (suc i) d l e =
    let above = every_at (λ m. n.id.0 < m.id.0) ns i d (omega arith) a.0 in
    let less : n.id.0 < t.0 = subst (λ (q : RegionId). n.id.0 < q.0) e above in
    let b = h n.id (λ k. omega arith) in
    let c = set_map u w t h ns a.1 i d (omega arith) e in
    cc

append_nil : (xs : List RegionId) → xs ++ [] ≡ xs
append_nil [] = refl
append_nil (x ∷ xs) = ap (λ l. x ∷ l) (append_nil xs)

-- one more alias of this region, or none
abbrev more : RegionId → Node → List RegionId
more q n = cond (targets q n.kind) (n.id ∷ []) []

aliases_of_push : (q : RegionId) (nodes : List Node) (n : Node) → aliases_of (nodes ++ n ∷ []) q ≡ aliases_of nodes q ++ more q n
aliases_of_push q [] n = elim (targets q n.kind) as (λ b. ids_of (cond b (n ∷ []) []) ≡ cond b (n.id ∷ []) []) [ true ↦ refl | false ↦ refl ]
aliases_of_push q (m ∷ ms) n =
    let ih = aliases_of_push q ms n in
    elim (targets q m.kind) as (λ b. ids_of (cond b (m ∷ filter (λ (x : Node). targets q x.kind) (ms ++ n ∷ []))
    (filter (λ (x : Node). targets q x.kind) (ms ++ n ∷ []))) ≡ ids_of
    (cond b (m ∷ filter (λ (x : Node). targets q x.kind) ms) (filter (λ (x : Node). targets q x.kind) ms)) ++ more q n) [
      | true ↦ ap (λ l. m.id ∷ l) ih
      | false ↦ ih
    ]

-- no region made before is an alias of one that is made now
not_aimed : (made : ℕ) (q : RegionId) (k : Kind) → made ≤ q.0 → IsTargetBefore made k → targets q k ≡ false
not_aimed made q (Alias target offset) l h = false_from_ne_true (eqb target.0 q.0) (λ e. let same : target.0 ≡ q.0 = grind (arith, nat_tests) in omega arith)
not_aimed made q _ l h = refl

none_aimed : (made : ℕ) (q : RegionId) (nodes : List Node) → made ≤ q.0 → Every (λ n. IsTargetBefore made n.kind) nodes → aliases_of nodes q ≡ []
none_aimed made q [] l h = refl
none_aimed made q (n ∷ ns) l h = let t = not_aimed made q n.kind l h.0 in let ih = none_aimed made q ns l h.1 in rw t ih

module _ (f : Forest) (h : IsOrderedForest f) (n : Node) (fresh : n.id.0 ≡ f.made) (free : n.parent ≡ None) (before : IsTargetBefore f.made n.kind)
    (ascending : IsAscending (f.nodes ++ n ∷ [])) where
  abbrev grown : List Node
  grown = f.nodes ++ n ∷ []

  extent_before : (q : RegionId) → q.0 < f.made → extent_in grown q ≡ extent_in f.nodes q
  unfolding extent_in
  extent_before q l = ap (λ k. extent k (weight_of grown q)) (depth_made f h n fresh free longest q l)
      ∙ ap (λ k. extent (depth_of f.nodes q) k) (weight_made f h n fresh free longest q l)

  others_extents : map (λ (m : Node). extent_in grown m.id) f.nodes ≡ extents_in f.nodes
  others_extents = map_same (λ (m : Node). extent_in grown m.id) (λ (m : Node). extent_in f.nodes m.id) f.nodes
      (weaker (λ m. m.id.0 < f.made) _ (λ m l. extent_before m.id l) f.nodes h.made_before)

  new_extents : extents_in grown ≡ extents_in f.nodes ++ extent_in grown n.id ∷ []
  new_extents = map_append (λ (m : Node). extent_in grown m.id) f.nodes n ∙ ap (λ l. l ++ extent_in grown n.id ∷ []) others_extents

  itself : node_of grown n.id ≡ Some n
  itself = every_last (λ m. node_of grown m.id ≡ Some m) f.nodes n (node_of-itself grown ascending)

  plain_extent : target_of n.kind ≡ None → extent_in grown n.id ≡ alone
  unfolding extent_in depth_by weight_by
  plain_extent e =
      let none : steps_of grown n.id ≡ [] = ap (steps_from grown) itself ∙ steps_to_children grown n.kind n e
      ∙ ap ids_of (children_of-made f.nodes n n.id free ∙ no_children f n.id h (omega arith)) in
      ap (λ xs. extent (greatest (map (depth_by (steps_of grown) 63) xs) + 1) (total (map (weight_by (steps_of grown) 63) xs) + 1)) none

  alias_extent : (target : RegionId) (offset : ℕ) → n.kind ≡ Alias target offset → target.0 < f.made →
      extent_in grown n.id ≡ one_above (extent_in f.nodes target)
  unfolding extent_in
  alias_extent target offset e l =
      let d = depth_at_most f h target in
      let w = weight_at_most f h target in
      let a : depth_of grown n.id ≡ min (depth_of f.nodes target + 1) 4294967295 = depth_alias f h n fresh free target offset e l ∙ omega arith in
      let b : weight_of grown n.id ≡ min (weight_of f.nodes target + 1) 18446744073709551615 = weight_alias f h n fresh free target offset e l ∙ omega arith in
      ap (λ k. extent k (weight_of grown n.id)) a ∙ ap (λ k. extent (min (depth_of f.nodes target + 1) 4294967295) k) b

  new_aliases : aliases_in grown ≡ map (λ (m : Node). aliases_of f.nodes m.id ++ more m.id n) f.nodes ++ [] ∷ []
  new_aliases =
      map_append (λ (m : Node). aliases_of grown m.id) f.nodes n
      ∙ ap (λ l. l ++ aliases_of grown n.id ∷ [])
      (map_all (λ (m : Node). aliases_of grown m.id) (λ (m : Node). aliases_of f.nodes m.id ++ more m.id n) (λ m. aliases_of_push m.id f.nodes n) f.nodes)
      ∙ ap (λ l. map (λ (m : Node). aliases_of f.nodes m.id ++ more m.id n) f.nodes ++ l ∷ []) last
    where
      last : aliases_of grown n.id ≡ []
      last =
          let none = none_aimed f.made n.id f.nodes (omega arith) h.targets_before in
          let t = not_aimed f.made n.id n.kind (omega arith) before in
          aliases_of_push n.id f.nodes n ∙ ap (λ l. l ++ more n.id n) none ∙ rw t refl

  no_more : target_of n.kind ≡ None → (q : RegionId) → aliases_of f.nodes q ++ more q n ≡ aliases_of f.nodes q
  no_more e q = let t : targets q n.kind ≡ false = targets_aims q n.kind ∙ ap (aims q) e in rw t (append_nil (aliases_of f.nodes q))

  -- a region that is no alias
  pub plain_beside : target_of n.kind ≡ None → (extents_in grown ≡ extents_in f.nodes ++ alone ∷ []) × (aliases_in grown ≡ aliases_in f.nodes ++ [] ∷ [])
  plain_beside e = (
    new_extents ∙ ap (λ x. extents_in f.nodes ++ x ∷ []) (plain_extent e),
    new_aliases ∙ ap (λ l. l ++ [] ∷ []) (map_all (λ (m : Node). aliases_of f.nodes m.id ++ more m.id n) (λ (m : Node). aliases_of f.nodes m.id)
        (λ m. no_more e m.id) f.nodes),
  )

  -- an alias of the region at a place
  pub alias_beside : (target : RegionId) → target_of n.kind ≡ Some target → target.0 < f.made → (i : ℕ) (d : Node) → i < length f.nodes →
      (get_or f.nodes i d).id ≡ target → (extents_in grown ≡ extents_in f.nodes ++ one_above (get_or (extents_in f.nodes) i alone) ∷ [])
      × (aliases_in grown ≡ enlisted (aliases_in f.nodes) (Some i) n.id ++ [] ∷ [])
  alias_beside target e l i d m there =
      let k = alias_of_target n.kind target e in
      let here_e = get_or-map (λ (x : Node). extent_in f.nodes x.id) f.nodes i d alone m ∙ ap (extent_in f.nodes) there in
      let here_a = get_or-map (λ (x : Node). aliases_of f.nodes x.id) f.nodes i d [] m ∙ ap (aliases_of f.nodes) there in
      let aimed : targets target n.kind ≡ true = targets_aims target n.kind ∙ ap (aims target) e ∙ same_id target in
      let w : RegionId → List RegionId = λ q. aliases_of f.nodes q ++ more q n in
      let wt : w target ≡ aliases_of f.nodes target ++ n.id ∷ [] = ap (λ b. aliases_of f.nodes target ++ cond b (n.id ∷ []) []) aimed in
      let all = set_map (aliases_of f.nodes) w target
      (λ q apart. let t : targets q n.kind ≡ false = targets_aims q n.kind ∙ ap (aims q) e ∙ other_id target q apart in
      ap (λ b. aliases_of f.nodes q ++ cond b (n.id ∷ []) []) t ∙ append_nil (aliases_of f.nodes q)) f.nodes h.ascending i d m there in (
        new_extents ∙ ap (λ x. extents_in f.nodes ++ x ∷ []) (alias_extent target k.0 k.1 l ∙ ap one_above (sym here_e)),
        new_aliases ∙ ap (λ ls. ls ++ [] ∷ []) (sym all ∙ ap (λ x. set (aliases_in f.nodes) i x) (wt ∙ ap (λ x. x ++ n.id ∷ []) (sym here_a))),
      )
    where
      alias_of_target : (k : Kind) (t : RegionId) → target_of k ≡ Some t → (o : ℕ) × (k ≡ Alias t o)
      alias_of_target (Alias target offset) t e = let same : target ≡ t = cc in (offset, ap (λ q. Alias q offset) same)
      alias_of_target _ t e = cc

      same_id : (t : RegionId) → eqb t.0 t.0 ≡ true
      same_id t = grind (arith, nat_tests)

      other_id : (t q : RegionId) → q.0 ≢ t.0 → eqb t.0 q.0 ≡ false
      other_id t q k = false_from_ne_true (eqb t.0 q.0) (λ e. k (grind (arith, nat_tests)))

target_before : (made : ℕ) (k : Kind) (t : RegionId) → target_of k ≡ Some t → IsTargetBefore made k → t.0 < made
target_before made (Alias target offset) t e h = let same : target ≡ t = cc in subst (λ (q : RegionId). q.0 < made) same h
target_before made _ t e h = cc

target_known : (f : Forest) (k : Kind) (t : RegionId) → target_of k ≡ Some t → unknown_target f k ≡ None → is_some (node_of f.nodes t) ≡ true
target_known f (Alias target offset) t e h = let same : target ≡ t = cc in subst (λ q. is_some (node_of f.nodes q) ≡ true) same (is_known f target h)
target_known f _ t e h = cc

-- where the target of a region that is made stands
pub record IsTargetPlace (slots : List Slot) (o : Option RegionId) (at : Option ℕ) : Type 0 where
  pub none : o ≡ None → at ≡ None
  pub some : (t : RegionId) → o ≡ Some t → is_some (node_of (nodes_of slots) t) ≡ true → is_some at ≡ true
  pub within : IfSome at (λ i. i < length slots)
  pub there : (t : RegionId) → o ≡ Some t → IfSome at (λ i. (d : Slot) → node_of (nodes_of slots) t ≡ Some (get_or slots i d).node)

module _ (f : Forest) (h : IsOrderedForest f) (n : Node) (fresh : n.id.0 ≡ f.made) (free : n.parent ≡ None) (before : IsTargetBefore f.made n.kind)
    (ascending : IsAscending (f.nodes ++ n ∷ [])) (known_target : unknown_target f n.kind ≡ None)
    (slots : List Slot) (seen : f.nodes ≡ nodes_of slots) where
  made_by : (o : Option RegionId) → target_of n.kind ≡ o → (at : Option ℕ) → IsTargetPlace slots o at →
      (extents_in (f.nodes ++ n ∷ []) ≡ extents_in f.nodes ++ made_extent (extents_in f.nodes) at ∷ [])
      × (aliases_in (f.nodes ++ n ∷ []) ≡ enlisted (aliases_in f.nodes) at n.id ++ [] ∷ [])
  made_by None e None p = plain_beside f h n fresh free before ascending e
  made_by None e (Some i) p = let k = p.none refl in cc
  made_by (Some t) e None p = let k = p.some t refl (subst (λ ns. is_some (node_of ns t) ≡ true) seen (target_known f n.kind t e known_target)) in cc
  made_by (Some t) e (Some i) p =
      let d = some_element slots i p.within in
      let here = id_of (nodes_of slots) t (get_or slots i d).node (p.there t refl d) in
      let at : (get_or f.nodes i d.node).id ≡ t = ap (λ ns. (get_or ns i d.node).id) seen
      ∙ ap (λ (m : Node). m.id) (get_or-map (λ (s : Slot). s.node) slots i d d.node p.within) ∙ here in
      let all = length_nodes slots in
      let same = ap length seen in
      let l = p.within in
      alias_beside f h n fresh free before ascending t e (target_before f.made n.kind t e before) i d.node (omega arith) at

  -- what is kept beside a region that is made
  pub made_beside : (at : Option ℕ) → IsTargetPlace slots (target_of n.kind) at → (k k' : Kept) → IsBeside k f.nodes → (k'.fresh ≡ true → k.fresh ≡ true) →
      (k'.fresh ≡ true → k'.extents.items ≡ k.extents.items ++ made_extent k.extents.items at ∷ []) →
      (k'.fresh ≡ true → k'.aliases.items ≡ enlisted k.aliases.items at n.id ++ [] ∷ []) → IsBeside k' (f.nodes ++ n ∷ [])
  made_beside at p k k' b w x y =
      let m = made_by (target_of n.kind) refl at p in
      record {
        extents = λ t. x t ∙ ap (λ es. es ++ made_extent es at ∷ []) (b.extents (w t)) ∙ sym m.0;
        aliases = λ t. y t ∙ ap (λ ls. enlisted ls at n.id ++ [] ∷ []) (b.aliases (w t)) ∙ sym m.1;
      }

-- a change of one region keeps how many there are
pub length_left : (r : RegionId) (g : Node → Node) (nodes : List Node) (slots : List Slot) (es : List Extent) → nodes_of slots ≡ changed_at r g nodes →
    es ≡ extents_in nodes → length es ≡ length slots
length_left r g nodes slots es seen e =
    ap length e ∙ length_map (λ (n : Node). extent_in nodes n.id) nodes
    ∙ sym (length_map (λ (n : Node). cond (has_id r n) (g n) n) nodes) ∙ sym (ap length seen) ∙ length_nodes slots
