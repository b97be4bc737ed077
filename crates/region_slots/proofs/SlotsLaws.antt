-- Laws of regions beside the lists of their children.
use Rattle.std.proofs.Common.{◌≡◌, ◌≢◌, ℕ, zero, suc, ◌+◌, ◌-◌, ◌<◌, ◌≤◌, Bool, true, false, not, cond, eqb, ℤ, List, [], ◌∷◌, ◌++◌, length}
use Rattle.std.proofs.Common.{get_or, set, map, filter, Option, Some, None, refl, sym, ap, subst, ◌∙◌, arith, add-one}
use Rattle.std.specs.Prelude.{insert, int_lt}
use Rattle.std.specs.List.{remove}
use Rattle.std.specs.declared.cmp.Ordering.{Ordering}
use Rattle.std.specs.declared.cmp.Ordering.TheVariants.{Less, Equal, Greater}
use Rattle.std.specs.Ordering.{nat_cmp, int_cmp, ordering_then, ordering_reverse, is_lt}
use Rattle.std.proofs.lemmas.Cmp.{int_cmp_total}
use Rattle.std.proofs.lemmas.Bool.Decides.{nat_tests}
use Rattle.std.proofs.lemmas.Int.{ints}
use Rattle.std.specs.List.Sorted.{IsPartitionedBy}
use Rattle.std.proofs.lemmas.List.{map_push, map-set, get_or-map, length-set, set-get_or, get_or-set_same, get_or-set_other}
use Rattle.mem_base.specs.declared.map.ids.RegionId.{RegionId}
use Rattle.mem_base.specs.declared.map.forests.Node.{Node}
use Rattle.mem_base.specs.declared.map.forests.Forest.{Forest}
use Rattle.mem_base.specs.declared.map.calls.Call.{Call}
use Rattle.mem_base.specs.declared.map.calls.Call.TheVariants as calls
use Rattle.mem_base.specs.map.Edits.{edited}
use Rattle.map_laws.proofs.CallLaws.{edited_field}
use Rattle.mem_base.specs.lists.Every.{Every}
use Rattle.mem_base.specs.map.Region.{node_of, has_id, is_in, is_child_of}
use Rattle.mem_base.specs.lists.Sorting.{put_by, sorted_by}
use Rattle.mem_base.specs.map.Order.{trial_order, children_of, ids_of}
use Rattle.mem_base.specs.map.Region.{IsAscending}
use Rattle.mem_base.specs.map.Forest.{IsOrderedForest}
use Rattle.mem_base.specs.map.Changes.{placed, changed_at, moved}
use Rattle.mem_base.proofs.EveryLaws.{weaker, both, every_at, every_push, every_filter}
use Rattle.mem_base.proofs.ForestLaws.{trial_apart, changed_at-set, filter-changed_at, children_of-joined, children_of-made}
use Rattle.mem_base.proofs.ForestLaws.{only_node, every_child, child_before, ascending_changed_at, id_of}
use Rattle.map_laws.proofs.FieldLaws.{IsField, children_field}
use Rattle.mem_base.proofs.DelLaws.{children_of-left}
use Rattle.map_laws.proofs.MoveLaws.{unmoved, children_there, children_elsewhere}
use Rattle.map_laws.proofs.DropLaws.{children_of-without, ascending_without}
use Rattle.region_slots.specs.declared.slots.Slot.{Slot}
use Rattle.region_slots.specs.declared.children.Child.{Child}
use Rattle.region_slots.specs.Slots.{nodes_of, child_of, placed_of, ids_in, HasItsChildren, AreKept, AreIn, AreByPriority, rank_in, others}
use Rattle.region_slots.specs.Edits.{new_size}
use Rattle.region_slots.proofs.PlaceLaws.{ids_rise, length_nodes}
use Rattle.mem_base.proofs.NodeLaws.{found_id}

every_set : {A : Type 0} (P : A → Type 0) (xs : List A) (i : ℕ) (v : A) → Every P xs → P v → Every P (set xs i v)
every_set P [] i v h k = tt
every_set P (x ∷ xs) zero v h k = (k, h.1)
every_set P (x ∷ xs) (suc i) v h k = (h.0, every_set P xs i v h.1 k)

pub of_all : {A : Type 0} {P : A → Type 0} (xs : List A) → ((x : A) → P x) → Every P xs
of_all [] h = tt
of_all (x ∷ xs) h = (h x, of_all xs h)

pub every_by_place : {A : Type 0} (P : A → Type 0) (xs : List A) → ((i : ℕ) (d : A) → i < length xs → P (get_or xs i d)) → Every P xs
every_by_place P [] h = tt
every_by_place P (x ∷ xs) h = (h zero x (omega arith), every_by_place P xs (λ i d l. h (suc i) d (omega arith)))

-- what is read at a place does not depend on the default
pub get_or-default : {A : Type 0} (xs : List A) (i : ℕ) (d e : A) → i < length xs → get_or xs i d ≡ get_or xs i e
get_or-default [] i d e l = absurd (omega arith)
get_or-default (x ∷ xs) zero d e l = refl
get_or-default (x ∷ xs) (suc i) d e l = get_or-default xs i d e (omega arith)

-- an element of a list with a place in it
pub some_element : {A : Type 0} (xs : List A) (i : ℕ) → i < length xs → A
some_element [] i l = absurd (omega arith)
some_element (x ∷ xs) i l = x

-- the children that stand with a region that is found
pub children_at : (slots : List Slot) (i : ℕ) (d : Slot) (r : RegionId) → i < length slots → node_of (nodes_of slots) r ≡ Some (get_or slots i d).node →
    AreKept slots → (get_or slots i d).children ≡ placed_of (children_of (nodes_of slots) r)
children_at slots i d r l e h =
    every_at (HasItsChildren (nodes_of slots)) slots i d l h.children
    ∙ ap (λ q. placed_of (children_of (nodes_of slots) q)) (id_of (nodes_of slots) r (get_or slots i d).node e)

-- two regions that are found by one id are one
pub found_node : (nodes : List Node) (r : RegionId) (m : Node) (slots : List Slot) (i : ℕ) → ((d : Slot) → node_of nodes r ≡ Some (get_or slots i d).node) →
    node_of nodes r ≡ Some m → (d : Slot) → (get_or slots i d).node ≡ m
found_node nodes r m slots i h e d = let a = h d in cc

-- a change of one region that keeps what a search needs of it
pub record IsEdit (g : Node → Node) : Type 0 where
  pub field : IsField g
  pub offset : (n : Node) → (g n).offset ≡ n.offset
  pub size : (n : Node) → (g n).size ≡ n.size

module _ (r : RegionId) (g : Node → Node) (edit : IsEdit g) where
  one_child : (n : Node) → child_of (cond (has_id r n) (g n) n) ≡ child_of n
  one_child n = elim (has_id r n) as (λ b. child_of (cond b (g n) n) ≡ child_of n) [
    | true ↦
        let a = edit.field.id n in
        let b = edit.offset n in
        let c = edit.field.priority n in
        let d = edit.size n in
        simp (a, b, c, d)
    | false ↦ refl
  ]

  same_children : (l : List Node) → placed_of (map (λ (n : Node). cond (has_id r n) (g n) n) l) ≡ placed_of l
  same_children [] = refl
  same_children (n ∷ ns) = let a = one_child n in let b = same_children ns in cc

  pub children_edited : (nodes : List Node) (q : RegionId) → placed_of (children_of (changed_at r g nodes) q) ≡ placed_of (children_of nodes q)
  children_edited nodes q = ap placed_of (children_field r g edit.field nodes q) ∙ same_children (children_of nodes q)

-- a region written at its place
module _ (slots : List Slot) (kept : AreKept slots) (i : ℕ) (d : Slot) (r : RegionId) (l : i < length slots)
    (e : node_of (nodes_of slots) r ≡ Some (get_or slots i d).node) (g : Node → Node) where
  abbrev written : List Slot
  written = set slots i (record { node = g (get_or slots i d).node; children = (get_or slots i d).children })

  pub written_nodes : nodes_of written ≡ changed_at r g (nodes_of slots)
  written_nodes =
      let there = get_or-map (λ (s : Slot). s.node) slots i d d.node l in
      let in_nodes : i < length (nodes_of slots) = omega (arith, length_nodes slots) in
      let id_there : has_id r (get_or (nodes_of slots) i d.node) ≡ true =
      subst (λ n. has_id r n ≡ true) (sym there) (found_id (nodes_of slots) r (get_or slots i d).node e) in
      map-set (λ (s : Slot). s.node) slots i _
      ∙ ap (λ n. set (nodes_of slots) i (g n)) (sym there)
      ∙ sym (changed_at-set r g (nodes_of slots) i d.node in_nodes id_there kept.ascending)

  -- where the lists that stand are those of the children still, they are kept
  pub written_kept : ((n : Node) → (g n).id ≡ n.id) →
      Every (λ s. placed_of (children_of (changed_at r g (nodes_of slots)) s.node.id) ≡ placed_of (children_of (nodes_of slots) s.node.id)) slots →
      AreKept written
  written_kept keeps same =
      let now = changed_at r g (nodes_of slots) in
      let stay = λ (s : Slot). placed_of (children_of now s.node.id) ≡ placed_of (children_of (nodes_of slots) s.node.id) in
      let all = weaker (λ s. HasItsChildren (nodes_of slots) s × stay s) (HasItsChildren now) (λ s h. h.0 ∙ sym h.1) slots
      (both (HasItsChildren (nodes_of slots)) stay slots kept.children same) in
      let here : HasItsChildren now (record { node = g (get_or slots i d).node; children = (get_or slots i d).children }) =
      every_at (HasItsChildren now) slots i d l all ∙ ap (λ q. placed_of (children_of now q)) (sym (keeps (get_or slots i d).node)) in
      record {
        ascending = subst IsAscending (sym written_nodes) (ascending_changed_at r g keeps (nodes_of slots) kept.ascending);
        children = subst (λ ns. Every (HasItsChildren ns) written) (sym written_nodes) (every_set (HasItsChildren now) slots i _ all here);
      }

-- the same for a slot that was read there
module _ (slots : List Slot) (kept : AreKept slots) (i : ℕ) (s : Slot) (read : s ≡ get_or slots i s) (r : RegionId) (l : i < length slots)
    (e : node_of (nodes_of slots) r ≡ Some (get_or slots i s).node) (g : Node → Node) where
  abbrev field_written : List Slot
  field_written = set slots i (record { node = g s.node; children = s.children })

  same_written : field_written ≡ set slots i (record { node = g (get_or slots i s).node; children = (get_or slots i s).children })
  same_written = ap (λ (t : Slot). set slots i (let u : Slot = record { node = g t.node; children = t.children } in u)) read

  pub field_nodes : nodes_of field_written ≡ changed_at r g (nodes_of slots)
  field_nodes = ap nodes_of same_written ∙ written_nodes slots kept i s r l e g

  pub unlisted_kept : ((n : Node) → (g n).id ≡ n.id) →
      Every (λ t. placed_of (children_of (changed_at r g (nodes_of slots)) t.node.id) ≡ placed_of (children_of (nodes_of slots) t.node.id)) slots →
      AreKept field_written
  unlisted_kept keeps same = subst AreKept (sym same_written) (written_kept slots kept i s r l e g keeps same)

  -- a field that is no part of its place leaves all children as they are
  pub field_kept : IsEdit g → AreKept field_written
  field_kept edit = unlisted_kept edit.field.id (of_all slots (λ (t : Slot). children_edited r g edit (nodes_of slots) t.node.id))

-- a region that is not there is not changed
pub missing_same : (r : RegionId) (g : Node → Node) (nodes : List Node) → node_of nodes r ≡ None → nodes ≡ changed_at r g nodes
missing_same r g [] e = refl
missing_same r g (n ∷ ns) e =
    elim (has_id r n) as (λ b. cond b (Some n) (node_of ns r) ≡ None → n ∷ ns ≡ cond b (g n) n ∷ changed_at r g ns) [
      | true ↦ λ h. cc
      | false ↦ λ h. ap (λ l. n ∷ l) (missing_same r g ns h)
    ] e

-- a container's list written, and then one of its regions, old or new
module _ (slots : List Slot) (kept : AreKept slots) (parent child : RegionId) (i j : ℕ) (d : Slot) (i_in : i < length slots) (j_in : j < length slots)
    (at_i : node_of (nodes_of slots) parent ≡ Some (get_or slots i d).node) (at_j : node_of (nodes_of slots) child ≡ Some (get_or slots j d).node)
    (g : Node → Node) (keeps : (n : Node) → (g n).id ≡ n.id) (list : List Child)
    (here : list ≡ placed_of (children_of (changed_at child g (nodes_of slots)) parent))
    (elsewhere : (q : RegionId) → q.0 ≢ parent.0 → children_of (changed_at child g (nodes_of slots)) q ≡ children_of (nodes_of slots) q) where
  abbrev relisted : List Slot
  relisted = set slots i (record { node = (get_or slots i d).node; children = list })

  abbrev rewritten : List Slot
  rewritten = set relisted j (record { node = g (get_or relisted j d).node; children = (get_or relisted j d).children })

  same_nodes : nodes_of relisted ≡ nodes_of slots
  same_nodes =
      map-set (λ (s : Slot). s.node) slots i _
      ∙ ap (set (nodes_of slots) i) (sym (get_or-map (λ (s : Slot). s.node) slots i d d.node i_in))
      ∙ set-get_or (nodes_of slots) i d.node

  pub rewritten_nodes : nodes_of rewritten ≡ changed_at child g (nodes_of slots)
  rewritten_nodes =
      let in_relisted : j < length relisted = omega (arith, length-set {A = Slot}) in
      let in_nodes : j < length (nodes_of slots) = omega (arith, length_nodes slots) in
      let there : get_or (nodes_of relisted) j d.node ≡ (get_or relisted j d).node = get_or-map (λ (s : Slot). s.node) relisted j d d.node in_relisted in
      let before = get_or-map (λ (s : Slot). s.node) slots j d d.node j_in in
      let id_there : has_id child (get_or (nodes_of slots) j d.node) ≡ true =
      subst (λ n. has_id child n ≡ true) (sym before) (found_id (nodes_of slots) child (get_or slots j d).node at_j) in
      map-set (λ (s : Slot). s.node) relisted j _
      ∙ ap (λ n. set (nodes_of relisted) j (g n)) (sym there)
      ∙ ap (λ ns. set ns j (g (get_or ns j d.node))) same_nodes
      ∙ sym (changed_at-set child g (nodes_of slots) j d.node in_nodes id_there kept.ascending)

  abbrev now : List Node
  now = changed_at child g (nodes_of slots)

  parent_there : (get_or slots i d).node.id ≡ parent
  parent_there = id_of (nodes_of slots) parent (get_or slots i d).node at_i

  listed_at : (k : ℕ) (e : Slot) → k < length relisted → HasItsChildren now (get_or relisted k e)
  listed_at k e l =
      let in_slots : k < length slots = omega (arith, length-set {A = Slot}) in
      elim (eqb k i) as (λ b. eqb k i ≡ b → HasItsChildren now (get_or relisted k e)) [
        | true ↦ λ t.
            let same : k ≡ i = grind (arith, nat_tests) in
            let it : get_or relisted k e ≡ record { node = (get_or slots i d).node; children = list } = ap (λ m. get_or relisted m e) same
            ∙ get_or-set_same slots i _ e i_in in
            subst (HasItsChildren now) (sym it) (here ∙ ap (λ q. placed_of (children_of now q)) (sym parent_there))
        | false ↦ λ t.
            let apart : k ≢ i = grind (arith, nat_tests) in
            let it : get_or relisted k e ≡ get_or slots k e = get_or-set_other slots i k _ e apart in
            let other : (get_or slots k e).node.id.0 ≢ parent.0 = λ same.
            let p : (get_or slots i d).node.id.0 ≡ parent.0 = ap (λ (q : RegionId). q.0) parent_there in
            let x : (get_or slots i e).node.id.0 ≡ (get_or slots i d).node.id.0 = ap (λ (s : Slot). s.node.id.0) (get_or-default slots i e d i_in) in
            let less : k < i → ⊥ = λ m. let z = ids_rise slots k i e kept.ascending m i_in in omega arith in
            let more : i < k → ⊥ = λ m. let z = ids_rise slots i k e kept.ascending m in_slots in omega arith in
            omega arith in
            subst (HasItsChildren now) (sym it) (every_at (HasItsChildren (nodes_of slots)) slots k e in_slots kept.children
            ∙ sym (ap placed_of (elsewhere (get_or slots k e).node.id other)))
      ] refl

  pub rewritten_kept : AreKept rewritten
  rewritten_kept =
      let all = every_by_place (HasItsChildren now) relisted listed_at in
      let in_relisted : j < length relisted = omega (arith, length-set {A = Slot}) in
      let it : HasItsChildren now (record { node = g (get_or relisted j d).node; children = (get_or relisted j d).children }) =
      listed_at j d in_relisted ∙ ap (λ q. placed_of (children_of now q)) (sym (keeps (get_or relisted j d).node)) in
      record {
        ascending = subst IsAscending (sym rewritten_nodes) (ascending_changed_at child g keeps (nodes_of slots) kept.ascending);
        children = subst (λ ns. Every (HasItsChildren ns) rewritten) (sym rewritten_nodes) (every_set (HasItsChildren now) relisted j _ all it);
      }

-- the same for slots that were read there
module _ (slots : List Slot) (kept : AreKept slots) (parent child : RegionId) (i j : ℕ) (s t : Slot) (list : List Child) (i_in : i < length slots)
    (j_in : j < length slots)
    (at_i : node_of (nodes_of slots) parent ≡ Some (get_or slots i s).node) (at_j : node_of (nodes_of slots) child ≡ Some (get_or slots j s).node)
    (g : Node → Node) (keeps : (n : Node) → (g n).id ≡ n.id)
    (read_i : s ≡ get_or slots i s) (read_j : t ≡ get_or (set slots i (record { node = s.node; children = list })) j t)
    (here : list ≡ placed_of (children_of (changed_at child g (nodes_of slots)) parent))
    (elsewhere : (q : RegionId) → q.0 ≢ parent.0 → children_of (changed_at child g (nodes_of slots)) q ≡ children_of (nodes_of slots) q) where
  abbrev list_read : List Slot
  list_read = set slots i (record { node = s.node; children = list })

  abbrev pair_written : List Slot
  pair_written = set list_read j (record { node = g t.node; children = t.children })

  abbrev pair : List Slot
  pair = rewritten slots kept parent child i j s i_in j_in at_i at_j g keeps list here elsewhere

  same_pair : pair_written ≡ pair
  same_pair =
      let listed = relisted slots kept parent child i j s i_in j_in at_i at_j g keeps list here elsewhere in
      let first : list_read ≡ listed = ap (λ (u : Slot). set slots i (let v : Slot = record { node = u.node; children = list } in v)) read_i in
      let in_listed : j < length listed = omega (arith, length-set {A = Slot}) in
      let second : t ≡ get_or listed j s = read_j ∙ ap (λ l. get_or l j t) first ∙ get_or-default listed j t s in_listed in
      ap (λ l. set l j (let v : Slot = record { node = g t.node; children = t.children } in v)) first
      ∙ ap (λ (u : Slot). set listed j (let v : Slot = record { node = g u.node; children = u.children } in v)) second

  listed_nodes : nodes_of list_read ≡ nodes_of slots
  listed_nodes =
      map-set (λ (u : Slot). u.node) slots i _
      ∙ ap (λ (u : Slot). set (nodes_of slots) i u.node) read_i
      ∙ ap (set (nodes_of slots) i) (sym (get_or-map (λ (u : Slot). u.node) slots i s s.node i_in))
      ∙ set-get_or (nodes_of slots) i s.node

  -- the list of children is no part of the region that is read
  pub pair_read : t.node ≡ (get_or slots j s).node
  pair_read =
      let in_listed : j < length list_read = omega (arith, length-set {A = Slot}) in
      ap (λ (u : Slot). u.node) read_j
      ∙ sym (get_or-map (λ (u : Slot). u.node) list_read j t t.node in_listed)
      ∙ ap (λ ns. get_or ns j t.node) listed_nodes
      ∙ get_or-map (λ (u : Slot). u.node) slots j t t.node j_in
      ∙ ap (λ (u : Slot). u.node) (get_or-default slots j t s j_in)

  pub pair_nodes : nodes_of pair_written ≡ changed_at child g (nodes_of slots)
  pair_nodes = ap nodes_of same_pair ∙ rewritten_nodes slots kept parent child i j s i_in j_in at_i at_j g keeps list here elsewhere

  pub pair_kept : AreKept pair_written
  pair_kept = subst AreKept (sym same_pair) (rewritten_kept slots kept parent child i j s i_in j_in at_i at_j g keeps list here elsewhere)

-- one more region, which is in no container and has no children
push_ascending : (nodes : List Node) (n : Node) → IsAscending nodes → Every (λ m. m.id.0 < n.id.0) nodes → IsAscending (nodes ++ n ∷ [])
push_ascending [] n h k = (tt, tt)
push_ascending (m ∷ ms) n h k = (every_push (λ x. m.id.0 < x.id.0) ms n h.0 k.0, push_ascending ms n h.1 k.1)

pub pushed_kept : (slots : List Slot) (s : Slot) → AreKept slots → Every (λ n. n.id.0 < s.node.id.0) (nodes_of slots) → s.node.parent ≡ None →
    children_of (nodes_of slots) s.node.id ≡ [] → s.children ≡ [] → AreKept (slots ++ s ∷ [])
pushed_kept slots s h last free none k =
    let more : nodes_of (slots ++ s ∷ []) ≡ nodes_of slots ++ s.node ∷ [] = map_push (λ (x : Slot). x.node) slots s in
    let same : (q : RegionId) → children_of (nodes_of (slots ++ s ∷ [])) q ≡ children_of (nodes_of slots) q = λ q. ap (λ ns. children_of ns q) more
    ∙ children_of-made (nodes_of slots) s.node q free in
    record {
      ascending = subst IsAscending (sym more) (push_ascending (nodes_of slots) s.node h.ascending last);
      children = every_push (HasItsChildren (nodes_of (slots ++ s ∷ []))) slots s
          (weaker (HasItsChildren (nodes_of slots)) (HasItsChildren (nodes_of (slots ++ s ∷ [])))
          (λ t c. c ∙ ap placed_of (sym (same t.node.id))) slots h.children)
          (k ∙ sym (ap placed_of (same s.node.id ∙ none)));
    }

-- one region less, which is in no container
every_remove : {A : Type 0} (P : A → Type 0) (xs : List A) (i : ℕ) → Every P xs → Every P (remove xs i)
every_remove P [] zero h = tt
every_remove P [] (suc i) h = tt
every_remove P (x ∷ xs) zero h = h.1
every_remove P (x ∷ xs) (suc i) h = (h.0, every_remove P xs i h.1)

pub map-remove : {A B : Type 0} (f : A → B) (xs : List A) (i : ℕ) → map f (remove xs i) ≡ remove (map f xs) i
map-remove f [] zero = refl
map-remove f [] (suc i) = refl
map-remove f (x ∷ xs) zero = refl
map-remove f (x ∷ xs) (suc i) = ap (λ l. f x ∷ l) (map-remove f xs i)

none_filtered : (r : RegionId) (nodes : List Node) → Every (λ n. has_id r n ≡ false) nodes → filter (λ n. not (has_id r n)) nodes ≡ nodes
none_filtered r [] h = refl
none_filtered r (n ∷ ns) h = let t = h.0 in rw t (ap (λ l. n ∷ l) (none_filtered r ns h.1))

pub remove_there : (r : RegionId) (nodes : List Node) (i : ℕ) (d : Node) → i < length nodes → IsAscending nodes → has_id r (get_or nodes i d) ≡ true →
    remove nodes i ≡ filter (λ n. not (has_id r n)) nodes
remove_there r [] i d l h e = absurd (omega arith)
remove_there r (n ∷ ns) zero d l h e =
    let rest = weaker (λ (m : Node). n.id.0 < m.id.0) (λ m. has_id r m ≡ false) (λ m w. grind (arith, nat_tests)) ns h.0 in
    rw e (sym (none_filtered r ns rest))
remove_there r (n ∷ ns) (suc i) d l h e =
    let in_rest : i < length ns = omega arith in
    let less = every_at (λ (m : Node). n.id.0 < m.id.0) ns i d in_rest h.0 in
    let t : has_id r n ≡ false = grind (arith, nat_tests) in
    rw t (ap (λ l. n ∷ l) (remove_there r ns i d in_rest h.1 e))

module _ (slots : List Slot) (kept : AreKept slots) (i : ℕ) (d : Slot) (r : RegionId) (l : i < length slots)
    (e : node_of (nodes_of slots) r ≡ Some (get_or slots i d).node) where
  pub removed_nodes : nodes_of (remove slots i) ≡ filter (λ n. not (has_id r n)) (nodes_of slots)
  removed_nodes =
      let there = get_or-map (λ (s : Slot). s.node) slots i d d.node l in
      let in_nodes : i < length (nodes_of slots) = omega (arith, length_nodes slots) in
      let id_there : has_id r (get_or (nodes_of slots) i d.node) ≡ true =
      subst (λ n. has_id r n ≡ true) (sym there) (found_id (nodes_of slots) r (get_or slots i d).node e) in
      map-remove (λ (s : Slot). s.node) slots i ∙ remove_there r (nodes_of slots) i d.node in_nodes kept.ascending id_there

  pub removed_kept : (get_or slots i d).node.parent ≡ None → AreKept (remove slots i)
  removed_kept free =
      let m = (get_or slots i d).node in
      let same = children_of-without r m (nodes_of slots) kept.ascending e free in
      let left = filter (λ n. not (has_id r n)) (nodes_of slots) in
      let all = weaker (HasItsChildren (nodes_of slots)) (HasItsChildren left) (λ s h. h ∙ ap placed_of (sym (same s.node.id))) slots kept.children in
      record {
        ascending = subst IsAscending (sym removed_nodes) (ascending_without r (nodes_of slots) kept.ascending);
        children = subst (λ ns. Every (HasItsChildren ns) (remove slots i)) (sym removed_nodes) (every_remove (HasItsChildren left) slots i all);
      }

lt_then_less : (o q : Ordering) → q ≡ Less → is_lt (ordering_then (ordering_reverse o) q) ≡ not (is_lt o)
lt_then_less Less q e = refl
lt_then_less Equal q e = ap is_lt e
lt_then_less Greater q e = refl

lt_int_cmp : (x y : ℤ) → is_lt (int_cmp x y) ≡ int_lt x y
lt_int_cmp x y = elim (int_lt x y) as (λ b. is_lt (cond b Less (cond (int_lt y x) Greater Equal)) ≡ b) [
  | true ↦ refl
  | false ↦ elim (int_lt y x) as (λ b. is_lt (cond b Greater Equal) ≡ false) [ true ↦ refl | false ↦ refl ]
]

-- a region that is placed last goes before those that have no higher priority
goes_before : (x c : Node) → c.placing < x.placing → is_lt (trial_order x c) ≡ not (int_lt x.priority c.priority)
goes_before x c l =
    let less : nat_cmp c.placing x.placing ≡ Less = grind (arith, nat_tests) in
    ap (λ o. is_lt (ordering_then o (nat_cmp c.placing x.placing))) (int_cmp_total.antisymm c.priority x.priority)
    ∙ lt_then_less (int_cmp x.priority c.priority) (nat_cmp c.placing x.placing) less
    ∙ ap not (lt_int_cmp x.priority c.priority)

insert-more : {A : Type 0} (x : A) (xs : List A) (i : ℕ) (y : A) → insert (x ∷ xs) (i + 1) y ≡ x ∷ insert xs i y
insert-more x xs i y = rw add-one refl

put_step : (x c : Node) (cs : List Node) (k : ℕ) (higher less : Bool) → less ≡ not higher →
    insert (placed_of cs) k (child_of x) ≡ placed_of (put_by trial_order x cs) →
    insert (child_of c ∷ placed_of cs) (cond higher (k + 1) 0) (child_of x) ≡ placed_of (cond less (x ∷ c ∷ cs) (c ∷ put_by trial_order x cs))
put_step x c cs k true true e ih = cc
put_step x c cs k true false e ih = insert-more (child_of c) (placed_of cs) k (child_of x) ∙ ap (λ l. child_of c ∷ l) ih
put_step x c cs k false true e ih = refl
put_step x c cs k false false e ih = cc

-- the place of a region that is placed last is after all that have a higher priority
pub insert-rank_in : (x : Node) (cs : List Node) → Every (λ c. c.placing < x.placing) cs →
    insert (placed_of cs) (rank_in x.priority (placed_of cs)) (child_of x) ≡ placed_of (put_by trial_order x cs)
insert-rank_in x [] h = refl
insert-rank_in x (c ∷ cs) h = put_step x c cs (rank_in x.priority (placed_of cs)) (int_lt x.priority c.priority) (is_lt (trial_order x c))
    (goes_before x c h.0) (insert-rank_in x cs h.1)

-- the children of a region stand by priority
not_higher : (a b : ℤ) (o : Ordering) → is_lt (ordering_then (int_cmp b a) o) ≡ true → int_lt a b ≡ false
not_higher a b o h =
    elim (int_lt b a) as (λ t. int_lt b a ≡ t → is_lt (ordering_then (cond t Less (cond (int_lt a b) Greater Equal)) o) ≡ true → int_lt a b ≡ false) [
      | true ↦ λ e k. grind (arith, ints)
      | false ↦ λ e k. elim (int_lt a b) as (λ t. is_lt (ordering_then (cond t Greater Equal) o) ≡ true → t ≡ false) [ true ↦ λ w. cc | false ↦ λ w. refl ] k
    ] refl h

not_lower : (a b : ℤ) (o : Ordering) → is_lt (ordering_then (int_cmp b a) o) ≡ false → int_lt b a ≡ false
not_lower a b o h = elim (int_lt b a) as
    (λ t. is_lt (ordering_then (cond t Less (cond (int_lt a b) Greater Equal)) o) ≡ false → t ≡ false) [ true ↦ λ w. cc | false ↦ λ w. refl ] h

not_trans : (a b c : ℤ) → int_lt a b ≡ false → int_lt b c ≡ false → int_lt a c ≡ false
not_trans a b c h k = grind (arith, ints)

every_put : (P : Child → Type 0) (x : Node) (l : List Node) → P (child_of x) → Every P (placed_of l) → Every P (placed_of (put_by trial_order x l))
every_put P x [] h k = (h, tt)
every_put P x (y ∷ ys) h k = elim (is_lt (trial_order x y)) as
    (λ b. Every P (placed_of (cond b (x ∷ y ∷ ys) (y ∷ put_by trial_order x ys)))) [ true ↦ (h, k) | false ↦ (k.0, every_put P x ys h k.1) ]

put_by_priority : (x : Node) (l : List Node) → AreByPriority (placed_of l) → AreByPriority (placed_of (put_by trial_order x l))
put_by_priority x [] h = (tt, tt)
put_by_priority x (y ∷ ys) h =
    elim (is_lt (trial_order x y)) as (λ b. is_lt (trial_order x y) ≡ b → AreByPriority (placed_of (cond b (x ∷ y ∷ ys) (y ∷ put_by trial_order x ys)))) [
      | true ↦ λ e.
          let first : int_lt x.priority y.priority ≡ false = not_higher x.priority y.priority (nat_cmp y.placing x.placing) e in (
            (
              first,
              weaker (λ (d : Child). int_lt y.priority d.priority ≡ false) (λ d. int_lt x.priority d.priority ≡ false)
                  (λ d w. not_trans x.priority y.priority d.priority first w) (placed_of ys) h.0,
            ),
            h,
          )
      | false ↦ λ e.
          let first : int_lt y.priority x.priority ≡ false = not_lower x.priority y.priority (nat_cmp y.placing x.placing) e in
          (every_put (λ d. int_lt y.priority d.priority ≡ false) x ys first h.0, put_by_priority x ys h.1)
    ] refl

pub sorted_by_priority : (l : List Node) → AreByPriority (placed_of (sorted_by trial_order l))
sorted_by_priority [] = tt
sorted_by_priority (x ∷ xs) = put_by_priority x (sorted_by trial_order xs) (sorted_by_priority xs)

-- the ids of the children, when one is put in or taken out
pub ids_insert : (cs : List Child) (i : ℕ) (c : Child) → ids_in (insert cs i c) ≡ insert (ids_in cs) i c.id
ids_insert cs zero c = refl
ids_insert [] (suc i) c = refl
ids_insert (d ∷ cs) (suc i) c = ap (λ l. d.id ∷ l) (ids_insert cs i c)

pub ids_others : (r : RegionId) (cs : List Child) → filter (λ (q : RegionId). not (eqb q.0 r.0)) (ids_in cs) ≡ ids_in (others r cs)
ids_others r [] = refl
ids_others r (c ∷ cs) =
    let ih = ids_others r cs in
    elim (eqb c.id.0 r.0) as (λ b. cond (not b) (c.id ∷ filter (λ (q : RegionId). not (eqb q.0 r.0)) (ids_in cs))
    (filter (λ (q : RegionId). not (eqb q.0 r.0)) (ids_in cs)) ≡ ids_in (cond (not b) (c ∷ others r cs) (others r cs)))
    [ true ↦ ih | false ↦ ap (λ l. c.id ∷ l) ih ]

-- the children that stand at a place stand by priority
pub children_by_priority : (slots : List Slot) (i : ℕ) (d : Slot) → i < length slots → AreKept slots → AreByPriority (get_or slots i d).children
children_by_priority slots i d l h = subst AreByPriority (sym (every_at (HasItsChildren (nodes_of slots)) slots i d l h.children))
    (sorted_by_priority (filter (is_child_of (get_or slots i d).node.id) (nodes_of slots)))

every_others : (P : Child → Type 0) (r : RegionId) (cs : List Child) → Every P cs → Every P (others r cs)
every_others P r [] h = tt
every_others P r (c ∷ cs) h = elim (eqb c.id.0 r.0) as
    (λ b. Every P (cond (not b) (c ∷ others r cs) (others r cs))) [ true ↦ every_others P r cs h.1 | false ↦ (h.0, every_others P r cs h.1) ]

pub others_by_priority : (r : RegionId) (cs : List Child) → AreByPriority cs → AreByPriority (others r cs)
others_by_priority r [] h = tt
others_by_priority r (c ∷ cs) h = elim (eqb c.id.0 r.0) as
    (λ b. AreByPriority (cond (not b) (c ∷ others r cs) (others r cs)))
    [ true ↦ others_by_priority r cs h.1 | false ↦ (every_others (λ d. int_lt c.priority d.priority ≡ false) r cs h.0, others_by_priority r cs h.1) ]

-- where the children that have a higher priority end is their number
pub partition_rank : (priority : ℤ) (cs : List Child) (k : ℕ) → k ≤ length cs →
    ((i : ℕ) (d : Child) → i < length cs → i < k → int_lt priority (get_or cs i d).priority ≡ true) →
    ((i : ℕ) (d : Child) → k ≤ i → i < length cs → int_lt priority (get_or cs i d).priority ≡ false) → k ≡ rank_in priority cs
partition_rank priority [] k l h w = omega arith
partition_rank priority (c ∷ cs) zero l h w = let t = w zero c (omega arith) (omega arith) in rw t refl
partition_rank priority (c ∷ cs) (suc k) l h w =
    let t = h zero c (omega arith) (omega arith) in
    let ih = partition_rank priority cs k (omega arith) (λ i d m n. h (suc i) d (omega arith) (omega arith))
    (λ i d m n. w (suc i) d (omega arith) (omega arith)) in
    rw t (omega arith)

parted_at : (priority : ℤ) (c : Child) (cs : List Child) (j : ℕ) (d : Child) → j < length cs → Every (λ e. int_lt c.priority e.priority ≡ false) cs →
    int_lt priority (get_or cs j d).priority ≡ true → int_lt priority c.priority ≡ true
parted_at priority c cs j d l h e = let w = every_at (λ (x : Child). int_lt c.priority x.priority ≡ false) cs j d l h in grind (arith, ints)

pub parted : (priority : ℤ) (cs : List Child) → AreByPriority cs → IsPartitionedBy (λ (c : Child). int_lt priority c.priority) cs
parted priority [] h i j d le l e = absurd (omega arith)
parted priority (c ∷ cs) h zero zero d le l e = e
parted priority (c ∷ cs) h zero (suc j) d le l e = parted_at priority c cs j d (omega arith) h.0 e
parted priority (c ∷ cs) h (suc i) zero d le l e = absurd (omega arith)
parted priority (c ∷ cs) h (suc i) (suc j) d le l e = parted priority cs h.1 i j d (omega arith) (omega arith) e

-- a region placed in a container: what its new container lists, and that others list what they did
module _ (f : Forest) (nodes : List Node) (parent : RegionId) (offset : ℕ) (child : RegionId) (priority : ℤ) (placing : ℕ) (in_forest : AreIn f nodes placing)
    (m : Node) (at_child : node_of nodes child ≡ Some m) (free : m.parent ≡ None) where
  abbrev put : Node → Node
  put = placed parent offset priority placing

  last : Every (λ n. is_child_of parent n ≡ true → n.placing < placing) nodes
  last = subst (λ k. Every (λ n. is_child_of parent n ≡ true → n.placing < k) nodes) in_forest.same_placings
      (subst (λ ns. Every (λ n. is_child_of parent n ≡ true → n.placing < f.placings) ns) in_forest.same_nodes
      (weaker (λ n. is_child_of parent n ≡ true → (parent.0 < f.made) × (n.placing < f.placings)) (λ n. is_child_of parent n ≡ true → n.placing < f.placings)
      (λ n w t. (w t).1) f.nodes (child_before f parent in_forest.forest)))

  ascending : IsAscending nodes
  ascending = subst IsAscending in_forest.same_nodes in_forest.forest.ascending

  pub placed_elsewhere : (q : RegionId) → q.0 ≢ parent.0 → children_of (changed_at child put nodes) q ≡ children_of nodes q
  placed_elsewhere q h =
      let only = only_node nodes child m ascending at_child in
      let other : is_in q (Some parent) ≡ false = grind (arith, nat_tests) in
      let unseen = weaker (λ n. has_id child n ≡ true → n ≡ m) (λ n. has_id child n ≡ true → (is_child_of q n ≡ false) × (is_child_of q (put n) ≡ false))
      (λ n w e. (ap (is_child_of q) (w e) ∙ ap (is_in q) free, other)) nodes only in
      ap (sorted_by trial_order) (filter-changed_at (is_child_of q) child put nodes unseen)

  children_here : children_of (changed_at child put nodes) parent ≡ put_by trial_order (put m) (children_of nodes parent)
  children_here =
      let itself : is_in parent (Some parent) ≡ true = grind (arith, nat_tests) in
      let before = weaker (λ n. is_child_of parent n ≡ true → n.placing < placing) (λ n. is_child_of parent n ≡ true → trial_order n (put m) ≢ Equal)
      (λ n w e. trial_apart n (put m) (w e)) nodes last in
      children_of-joined child parent put m nodes at_child (ap (is_in parent) free) itself ascending before

  abbrev child_put : RegionId → Child
  child_put r = record { id = r; offset = offset; last = m.size - 1; priority = priority }

  pub placed_here : (list : List Child) (rank : ℕ) → list ≡ placed_of (children_of nodes parent) → rank ≡ rank_in priority list →
      insert list rank (child_put child) ≡ placed_of (children_of (changed_at child put nodes) parent)
  placed_here list rank e k =
      ap (λ r. insert list r (child_put child)) k
      ∙ ap (λ l. insert l (rank_in priority l) (child_put child)) e
      ∙ ap (λ r. insert (placed_of (children_of nodes parent)) (rank_in priority (placed_of (children_of nodes parent))) (child_put r))
      (sym (id_of nodes child m at_child))
      ∙ insert-rank_in (put m) (children_of nodes parent) (every_child (λ n. n.placing < placing) parent nodes last)
      ∙ ap placed_of (sym children_here)

-- a region taken out of its container: what the container lists, and that others list what they did
others_placed : (c : RegionId) (ns : List Node) → others c (placed_of ns) ≡ placed_of (filter (λ n. not (has_id c n)) ns)
others_placed c [] = refl
others_placed c (n ∷ ns) =
    let ih = others_placed c ns in
    elim (has_id c n) as (λ b. cond (not b) (child_of n ∷ others c (placed_of ns)) (others c (placed_of ns)) ≡ placed_of
    (cond (not b) (n ∷ filter (λ m. not (has_id c m)) ns) (filter (λ m. not (has_id c m)) ns))) [ true ↦ ih | false ↦ ap (λ l. child_of n ∷ l) ih ]

abbrev pub loose : Node → Node
loose n = record n { parent = None }

pub out_here : (nodes : List Node) (parent child : RegionId) (list : List Child) → list ≡ placed_of (children_of nodes parent) →
    others child list ≡ placed_of (children_of (changed_at child loose nodes) parent)
out_here nodes parent child list e =
    ap (others child) e ∙ others_placed child (children_of nodes parent) ∙ ap placed_of (sym (children_of-left child loose (λ n. refl) nodes parent))

pub out_elsewhere : (nodes : List Node) (parent child : RegionId) (m : Node) → IsAscending nodes → node_of nodes child ≡ Some m →
    is_child_of parent m ≡ true → (q : RegionId) → q.0 ≢ parent.0 → children_of (changed_at child loose nodes) q ≡ children_of nodes q
out_elsewhere nodes parent child m ascending at_child inside q apart =
    let only = only_node nodes child m ascending at_child in
    let out : is_child_of q m ≡ false = other_container m.parent inside in
    ap (sorted_by trial_order) (filter-changed_at (is_child_of q) child loose nodes
    (weaker (λ n. has_id child n ≡ true → n ≡ m) (λ n. has_id child n ≡ true → (is_child_of q n ≡ false) × (is_child_of q (loose n) ≡ false))
    (λ n w t. (ap (is_child_of q) (w t) ∙ out, refl)) nodes only))
  where
    other_container : (p : Option RegionId) → is_in parent p ≡ true → is_in q p ≡ false
    other_container None h = refl
    other_container (Some p) h = grind (arith, nat_tests)

module _ (f : Forest) (placing : ℕ) (forest : IsOrderedForest f) (same : f.placings ≡ placing) (child : RegionId) (offset : ℕ) (m : Node)
    (at_child : node_of f.nodes child ≡ Some m) where
  pub moved_nowhere : eqb m.offset offset ≡ true → f.nodes ≡ changed_at child (moved offset placing) f.nodes
  moved_nowhere e = sym (unmoved f child offset m forest at_child e) ∙ ap (λ k. changed_at child (moved offset k) f.nodes) same

  module _ (parent : RegionId) (in_parent : m.parent ≡ Some parent) where
    pub moved_elsewhere : (q : RegionId) → q.0 ≢ parent.0 → children_of (changed_at child (moved offset placing) f.nodes) q ≡ children_of f.nodes q
    moved_elsewhere q h = ap (λ k. children_of (changed_at child (moved offset k) f.nodes) q) (sym same)
        ∙ children_elsewhere f forest child offset m at_child parent in_parent q h

    abbrev child_moved : RegionId → Child
    child_moved r = record { id = r; offset = offset; last = m.size - 1; priority = m.priority }

    pub moved_here : (list : List Child) (rank : ℕ) → eqb m.offset offset ≡ false → list ≡ others child (placed_of (children_of f.nodes parent)) →
        rank ≡ rank_in m.priority list → insert list rank (child_moved child) ≡ placed_of
        (children_of (changed_at child (moved offset placing) f.nodes) parent)
    moved_here list rank differs e k =
        let x : Node = record m { offset = offset; placing = f.placings } in
        let is_x : moved offset f.placings m ≡ x = ap (λ b. cond b m x) differs in
        let left = filter (λ n. not (has_id child n)) (children_of f.nodes parent) in
        let before = weaker (λ n. is_child_of parent n ≡ true → (parent.0 < f.made) × (n.placing < f.placings))
        (λ n. is_child_of parent n ≡ true → n.placing < f.placings) (λ n w t. (w t).1) f.nodes (child_before f parent forest) in
        let kept = every_filter (λ n. n.placing < f.placings) (λ n. not (has_id child n)) (children_of f.nodes parent)
        (every_child (λ n. n.placing < f.placings) parent f.nodes before) in
        let listed : list ≡ placed_of left = e ∙ others_placed child (children_of f.nodes parent) in
        ap (λ r. insert list r (child_moved child)) k
        ∙ ap (λ l. insert l (rank_in m.priority l) (child_moved child)) listed
        ∙ ap (λ r. insert (placed_of left) (rank_in m.priority (placed_of left)) (child_moved r)) (sym (id_of f.nodes child m at_child))
        ∙ insert-rank_in x left kept
        ∙ ap (λ n. placed_of (put_by trial_order n left)) (sym is_x)
        ∙ ap placed_of (sym (children_there f forest child offset m at_child parent in_parent differs))
        ∙ ap (λ r. placed_of (children_of (changed_at child (moved offset r) f.nodes) parent)) same

-- the calls that change the fields of one region but its size keep what a search needs of it
edited_offset : (call : Call) (n : Node) → (edited call n).offset ≡ n.offset
edited_offset (calls.Resize region size) n = refl
edited_offset (calls.Retarget alias offset) n = refl
edited_offset (calls.Enable region on) n = refl
edited_offset (calls.Readonly region on) n = refl
edited_offset (calls.Nonvolatile region on) n = refl
edited_offset (calls.Unmergeable region on) n = refl
edited_offset (calls.Romd region on) n = refl
edited_offset (calls.Log region client on) n = refl
edited_offset (calls.Map region iova size space translated perm) n = refl
edited_offset (calls.Unmap region iova) n = refl
edited_offset (calls.Event region event) n = refl
edited_offset (calls.Unevent region offset size matched value) n = refl
edited_offset _ n = refl

edited_size : (call : Call) → new_size call ≡ None → (n : Node) → (edited call n).size ≡ n.size
edited_size (calls.Resize region size) e n = cc
edited_size (calls.Retarget alias offset) e n = refl
edited_size (calls.Enable region on) e n = refl
edited_size (calls.Readonly region on) e n = refl
edited_size (calls.Nonvolatile region on) e n = refl
edited_size (calls.Unmergeable region on) e n = refl
edited_size (calls.Romd region on) e n = refl
edited_size (calls.Log region client on) e n = refl
edited_size (calls.Map region iova size space translated perm) e n = refl
edited_size (calls.Unmap region iova) e n = refl
edited_size (calls.Event region event) e n = refl
edited_size (calls.Unevent region offset size matched value) e n = refl
edited_size _ e n = refl

pub edited_keeps : (call : Call) → new_size call ≡ None → IsEdit (edited call)
edited_keeps call e = record { field = edited_field call; offset = edited_offset call; size = edited_size call e }

-- a region that was read at its place and written back
pub same_slot : (slots : List Slot) (i : ℕ) (s : Slot) → s ≡ get_or slots i s → set slots i s ≡ slots
same_slot slots i s e = ap (set slots i) e ∙ set-get_or slots i s

-- the ids of regions that stand as children
pub ids_placed : (ns : List Node) → ids_in (placed_of ns) ≡ ids_of ns
ids_placed [] = refl
ids_placed (n ∷ ns) = ap (λ l. n.id ∷ l) (ids_placed ns)

-- no more children are left
pub others_few : (r : RegionId) (cs : List Child) → length (others r cs) ≤ length cs
others_few r [] = omega arith
others_few r (c ∷ cs) =
    let ih = others_few r cs in
    elim (eqb c.id.0 r.0) as (λ b. length (cond (not b) (c ∷ others r cs) (others r cs)) ≤ suc (length cs)) [ true ↦ omega arith | false ↦ omega arith ]

pub length_ids : (cs : List Child) → length (ids_in cs) ≡ length cs
length_ids [] = refl
length_ids (c ∷ cs) = ap suc (length_ids cs)
