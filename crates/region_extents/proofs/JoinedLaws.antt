-- Laws of the extents after a region was placed in a container, found by setting right what stands above it.
use Rattle.std.proofs.Common.{◌≡◌, ◌≢◌, ℕ, zero, suc, ◌+◌, ◌≤◌, true, false, cond, eqb, ◌||◌, List, [], ◌∷◌, ◌++◌}
use Rattle.std.proofs.Common.{length, take, replicate, map, Option, Some, None, refl, sym, ap, subst, ◌∙◌, arith}
use Rattle.std.specs.Prelude.{option_map}
use Rattle.std.proofs.lemmas.Bool.Decides.{nat_tests}
use Rattle.mem_base.specs.declared.map.ids.RegionId.{RegionId}
use Rattle.mem_base.specs.declared.map.forests.Node.{Node}
use Rattle.mem_base.specs.declared.map.forests.Forest.{Forest}
use Rattle.mem_base.specs.lists.Every.{Every}
use Rattle.mem_base.specs.map.Region.{node_of, has_id}
use Rattle.mem_base.specs.map.Region.{IsAscending}
use Rattle.mem_base.specs.map.Forest.{IsOrderedForest}
use Rattle.mem_base.specs.map.Changes.{changed_at}
use Rattle.mem_base.specs.map.Order.{ids_of}
use Rattle.mem_base.specs.map.Steps.{longest, Steps, steps_of, steps_from, greatest, total, depth_by, weight_by, depth_of, weight_of}
use Rattle.mem_base.proofs.StepLaws.{every_of, IsWithin, depth_by-further, weight_by-further, depth_by-alike, weight_by-alike, Alike}
use Rattle.mem_base.proofs.JoinLaws.{within_forest, depth_at_most, weight_at_most, node_of-changed_at}
use Rattle.region_slots.specs.declared.slots.Slot.{Slot}
use Rattle.region_extents.specs.declared.extents.Extent.{Extent}
use Rattle.region_extents.specs.declared.extents.Join.{Join}
use Rattle.region_slots.specs.Slots.{nodes_of}
use Rattle.region_extents.specs.Extents.{told_of, stepped, alone, steps_with}
use Rattle.region_extents.specs.Kept.{listed, extent_in, extents_in, steps_plus, IsSettledBy, IsShort}
use Rattle.region_extents.proofs.RaiseLaws.{stepped_agree, told_by}
use Rattle.region_extents.proofs.SettledLaws.{told_missing, all_told}
use Rattle.mem_base.specs.map.Limits.{most_depth, most_weight}

abbrev extent : ℕ → ℕ → Extent
extent d w = record { depth = d; weight = w }

-- what is told of a region by a list that has the value of each id
told_map : (g : RegionId → Extent) (slots : List Slot) (r : RegionId) (n : Node) → node_of (nodes_of slots) r ≡ Some n →
    told_of slots (map (λ (m : Node). g m.id) (nodes_of slots)) r ≡ g r
told_map g [] r n e = cc
told_map g (s ∷ ss) r n e =
    elim (has_id r s.node) as (λ b. has_id r s.node ≡ b → cond b (Some s.node) (node_of (nodes_of ss) r) ≡ Some n →
    cond b (g s.node.id) (told_of ss (map (λ (m : Node). g m.id) (nodes_of ss)) r) ≡ g r) [
      | true ↦ λ t. λ k. ap g (ap (λ (v : ℕ). let q : RegionId = record { 0 = v } in q) (grind (arith, nat_tests)))
      | false ↦ λ t. λ k. told_map g ss r n k
    ] refl e

-- a region that is not there leads nowhere
extent_missing : (nodes : List Node) (r : RegionId) → node_of nodes r ≡ None → extent_in nodes r ≡ alone
unfolding extent_in depth_by weight_by
extent_missing nodes r e =
    let none : steps_of nodes r ≡ [] = ap (steps_from nodes) e in
    ap (λ xs. extent (greatest (map (depth_by (steps_of nodes) 63) xs) + 1) (total (map (weight_by (steps_of nodes) 63) xs) + 1)) none

-- what is kept tells of each region how deep and how wide it is
pub told_kept : (slots : List Slot) (es : List Extent) → es ≡ extents_in (nodes_of slots) → (r : RegionId) → told_of slots es r ≡ extent_in (nodes_of slots) r
told_kept slots es e r =
    subst (λ xs. told_of slots xs r ≡ extent_in (nodes_of slots) r) (sym e)
    (elim (node_of (nodes_of slots) r) as (λ o. node_of (nodes_of slots) r ≡ o → told_of slots (extents_in (nodes_of slots)) r ≡ extent_in (nodes_of slots) r) [
      | None ↦ λ k. told_missing slots (extents_in (nodes_of slots)) r k ∙ sym (extent_missing (nodes_of slots) r k)
      | Some n ↦ λ k. told_map (extent_in (nodes_of slots)) slots r n k
    ] refl)

-- paths so short that one more region changes nothing
one_more_step : (s : Steps) (most : ℕ) → ((q : RegionId) → IsWithin s most q) → (r : RegionId) →
    extent (depth_by s (suc most) r) (weight_by s (suc most) r) ≡ stepped (λ q. extent (depth_by s (suc most) q) (weight_by s (suc most) q)) (s r)
unfolding depth_by weight_by
one_more_step s most h r =
    stepped_agree (λ q. extent (depth_by s most q) (weight_by s most q)) (λ q. extent (depth_by s (suc most) q) (weight_by s (suc most) q)) (s r)
    (every_of _ (λ q. let d = depth_by-further s most (suc most) q (omega arith) (h q) in
    let w = weight_by-further s most (suc most) q (omega arith) (h q) in ap (λ k. extent k (weight_by s most q)) (sym d)
    ∙ ap (λ k. extent (depth_by s (suc most) q) k) (sym w)) (s r))

-- in a forest the extent of each region is what its steps give
pub extents_settled : (f : Forest) → IsOrderedForest f → (r : RegionId) → extent_in f.nodes r ≡ stepped (extent_in f.nodes) (steps_of f.nodes r)
unfolding extent_in
extents_settled f h r = one_more_step (steps_of f.nodes) 63 (within_forest f h) r

pub kept_settled : (f : Forest) → IsOrderedForest f → (slots : List Slot) → f.nodes ≡ nodes_of slots → (es : List Extent) →
    es ≡ extents_in (nodes_of slots) → (v : RegionId) → IsSettledBy (steps_of (nodes_of slots)) slots es v
kept_settled f h slots seen es e v =
    let all = told_kept slots es e in
    all v
    ∙ subst (λ ns. extent_in ns v ≡ stepped (extent_in ns) (steps_of ns v)) seen (extents_settled f h v)
    ∙ sym (stepped_agree (told_of slots es) (extent_in (nodes_of slots)) (steps_of (nodes_of slots) v) (every_of _ all (steps_of (nodes_of slots) v)))

-- with one more step each region but the parent leads where it led
pub kept_but_parent : (slots : List Slot) (join : Join) (es : List Extent) → ((v : RegionId) → IsSettledBy (steps_of (nodes_of slots)) slots es v) →
    (v : RegionId) → v.0 ≢ join.parent.0 → IsSettledBy (steps_plus (nodes_of slots) (Some join)) slots es v
kept_but_parent slots join es h v k =
    let t : eqb v.0 join.parent.0 ≡ false = elim (eqb v.0 join.parent.0) as
    (λ b. eqb v.0 join.parent.0 ≡ b → b ≡ false) [ true ↦ λ t. absurd (k (grind (arith, nat_tests))) | false ↦ λ t. refl ] refl in
    let same : steps_with (nodes_of slots) join v ≡ steps_of (nodes_of slots) v = rw t refl in
    h v ∙ ap (stepped (told_of slots es)) (sym same)

-- short extents tell of each region a short one
pub told_short : (slots : List Slot) (es : List Extent) → Every IsShort es → (r : RegionId) → IsShort (told_of slots es r)
told_short [] es h r = (omega arith, omega arith)
told_short (s ∷ ss) [] h r = (omega arith, omega arith)
told_short (s ∷ ss) (e ∷ es) h r = elim (has_id r s.node) as (λ b. IsShort (cond b e (told_of ss es r))) [ true ↦ h.0 | false ↦ told_short ss es h.1 r ]

-- a change that keeps ids keeps what is listed by ids
pub map_changed_at : {B : Type 0} (h : RegionId → B) (r : RegionId) (g : Node → Node) → ((n : Node) → (g n).id ≡ n.id) → (nodes : List Node) →
    map (λ (n : Node). h n.id) (changed_at r g nodes) ≡ map (λ (n : Node). h n.id) nodes
map_changed_at h r g k [] = refl
map_changed_at h r g k (n ∷ ns) =
    let here : (cond (has_id r n) (g n) n).id ≡ n.id = elim (has_id r n) as (λ b. (cond b (g n) n).id ≡ n.id) [ true ↦ k n | false ↦ refl ] in
    let a = ap h here in
    let b = map_changed_at h r g k ns in
    cc

pub map_by : (t u : RegionId → Extent) → ((r : RegionId) → t r ≡ u r) → (slots : List Slot) →
    map (λ (s : Slot). t s.node.id) slots ≡ map (λ (n : Node). u n.id) (nodes_of slots)
map_by t u h [] = refl
map_by t u h (s ∷ ss) = let a = h s.node.id in let b = map_by t u h ss in cc

-- settled and short extents are those of regions whose steps are alike
module _ (steps : Steps) (slots : List Slot) (es : List Extent) (ascending : IsAscending (nodes_of slots)) (all : length es ≡ length slots)
    (settled : (v : RegionId) → IsSettledBy steps slots es v) (short : Every IsShort es)
    (nodes : List Node) (seen : nodes ≡ nodes_of slots) (r : RegionId) (g : Node → Node) (ids : (n : Node) → (g n).id ≡ n.id)
    (alike : (q : RegionId) → Alike (steps_of (changed_at r g nodes) q) (steps q)) where
  abbrev new : List Node
  new = changed_at r g nodes

  told_new : (q : RegionId) → told_of slots es q ≡ extent_in new q
  unfolding extent_in
  told_new q =
      let few = (told_short slots es short q).0 in
      told_by steps (told_of slots es) settled longest q (omega arith)
      ∙ ap (λ k. extent k (weight_by steps longest q)) (sym (depth_by-alike (steps_of new) steps alike longest q))
      ∙ ap (λ k. extent (depth_by (steps_of new) longest q) k) (sym (weight_by-alike (steps_of new) steps alike longest q))

  pub extents_new : es ≡ extents_in new
  extents_new = all_told slots es ascending all ∙ map_by (told_of slots es) (extent_in new) told_new slots
      ∙ ap (map (λ (n : Node). extent_in new n.id)) (sym seen) ∙ sym (map_changed_at (extent_in new) r g ids nodes)

-- short extents are within the limits
pub within_limits : (nodes ms : List Node) → Every IsShort (map (λ (n : Node). extent_in nodes n.id) ms) →
    (greatest (map (λ (n : Node). depth_of nodes n.id) ms) ≤ most_depth) × (greatest (map (λ (n : Node). weight_of nodes n.id) ms) ≤ most_weight)
unfolding extent_in
within_limits nodes [] h = (omega arith, omega arith)
within_limits nodes (m ∷ ms) h =
    let t = within_limits nodes ms h.1 in
    let a = h.0.0 in
    let b = h.0.1 in
    let c = t.0 in
    let d = t.1 in
    (omega arith, omega arith)

every_extent : (f : Forest) → IsOrderedForest f → (ms : List Node) → Every IsShort (map (λ (n : Node). extent_in f.nodes n.id) ms)
unfolding extent_in
every_extent f h [] = tt
every_extent f h (m ∷ ms) = ((depth_at_most f h m.id, weight_at_most f h m.id), every_extent f h ms)

-- a forest is within the limits
pub kept_short : (f : Forest) → IsOrderedForest f → (nodes : List Node) → f.nodes ≡ nodes → (es : List Extent) → es ≡ extents_in nodes → Every IsShort es
kept_short f h nodes seen es e = subst (Every IsShort) (sym (e ∙ ap extents_in (sym seen))) (every_extent f h f.nodes)

-- all elements written back
pub written_back : {A : Type 0} (n : ℕ) (ys zs : List A) → length ys ≡ n → take n (ys ++ zs) ≡ ys
written_back zero [] zs l = refl
written_back (suc n) [] zs l = absurd (omega arith)
written_back zero (y ∷ ys) zs l = absurd (omega arith)
written_back (suc n) (y ∷ ys) zs l = ap (λ xs. y ∷ xs) (written_back n ys zs (omega arith))

-- the two numbers of a kept extent
pub depth_kept : (nodes : List Node) (r : RegionId) (e : Extent) → e ≡ extent_in nodes r → e.depth ≡ depth_of nodes r
unfolding extent_in
depth_kept nodes r e h = ap (λ (x : Extent). x.depth) h

pub weight_kept : (nodes : List Node) (r : RegionId) (e : Extent) → e ≡ extent_in nodes r → e.weight ≡ weight_of nodes r
unfolding extent_in
weight_kept nodes r e h = ap (λ (x : Extent). x.weight) h

-- what is told by values of ids, over slots of regions with these ids
told_ids : (g : RegionId → Extent) (slots : List Slot) (es : List Extent) → es ≡ map (λ (m : Node). g m.id) (nodes_of slots) →
    ((r : RegionId) → node_of (nodes_of slots) r ≡ None → g r ≡ alone) → (r : RegionId) → told_of slots es r ≡ g r
told_ids g slots es e h r =
    subst (λ xs. told_of slots xs r ≡ g r) (sym e)
    (elim (node_of (nodes_of slots) r) as (λ o. node_of (nodes_of slots) r ≡ o → told_of slots (map (λ (m : Node). g m.id) (nodes_of slots)) r ≡ g r) [
      | None ↦ λ k. told_missing slots (map (λ (m : Node). g m.id) (nodes_of slots)) r k ∙ sym (h r k)
      | Some n ↦ λ k. told_map g slots r n k
    ] refl)

changed_missing : (r : RegionId) (g : Node → Node) → ((n : Node) → (g n).id ≡ n.id) → (nodes : List Node) (q : RegionId) →
    node_of (changed_at r g nodes) q ≡ None → node_of nodes q ≡ None
changed_missing r g k nodes q e = none_left (node_of nodes q) (sym (node_of-changed_at r g k nodes q) ∙ e)
  where
    none_left : (o : Option Node) → option_map (λ (n : Node). cond (has_id r n) (g n) n) o ≡ None → o ≡ None
    none_left None h = refl
    none_left (Some n) h = cc

-- after one region was changed, each that leads where it led is settled by what was kept
pub kept_elsewhere : (f : Forest) → IsOrderedForest f → (r : RegionId) (g : Node → Node) → ((n : Node) → (g n).id ≡ n.id) → (slots : List Slot) →
    nodes_of slots ≡ changed_at r g f.nodes → (es : List Extent) → es ≡ extents_in f.nodes → (v : RegionId) →
    steps_of (nodes_of slots) v ≡ steps_of f.nodes v → IsSettledBy (steps_of (nodes_of slots)) slots es v
kept_elsewhere f h r g k slots seen es e v same =
    let as_ids : es ≡ map (λ (m : Node). extent_in f.nodes m.id) (nodes_of slots) = e ∙ sym (map_changed_at (extent_in f.nodes) r g k f.nodes)
    ∙ ap (map (λ (m : Node). extent_in f.nodes m.id)) (sym seen) in
    let all = told_ids (extent_in f.nodes) slots es as_ids
    (λ q none. extent_missing f.nodes q (changed_missing r g k f.nodes q (ap (λ ns. node_of ns q) (sym seen) ∙ none))) in
    all v ∙ extents_settled f h v ∙ ap (stepped (extent_in f.nodes)) (sym same)
    ∙ sym (stepped_agree (told_of slots es) (extent_in f.nodes) (steps_of (nodes_of slots) v) (every_of _ all (steps_of (nodes_of slots) v)))

-- settled and short extents are what is defined
pub settled_extents_in : (slots : List Slot) (es : List Extent) → IsAscending (nodes_of slots) → length es ≡ length slots →
    ((v : RegionId) → IsSettledBy (steps_of (nodes_of slots)) slots es v) → Every IsShort es → es ≡ extents_in (nodes_of slots)
unfolding extent_in
settled_extents_in slots es ascending all settled short =
    all_told slots es ascending all
    ∙ map_by (told_of slots es) (extent_in (nodes_of slots))
    (λ q. let few = (told_short slots es short q).0 in told_by (steps_of (nodes_of slots)) (told_of slots es) settled longest q (omega arith)) slots

-- a region that is not listed is not there
pub unlisted_missing : (nodes : List Node) (v : RegionId) → listed v (ids_of nodes) ≡ false → node_of nodes v ≡ None
unlisted_missing [] v h = refl
unlisted_missing (n ∷ ns) v h =
    elim (has_id v n) as (λ b. b || listed v (ids_of ns) ≡ false → cond b (Some n) (node_of ns v) ≡ None)
    [ true ↦ λ k. cc | false ↦ λ k. unlisted_missing ns v k ] h

pub every_replicate : (n : ℕ) → Every IsShort (replicate n alone)
every_replicate zero = tt
every_replicate (suc n) = ((omega arith, omega arith), every_replicate n)
