-- Laws of a region that gets another size.
use Rattle.std.proofs.Common.{◌≡◌, ◌≢◌, ◌∙◌, ℕ, zero, suc, ◌+◌, ◌-◌, ◌<◌, true, false, cond, eqb, List, [], ◌∷◌, length, get_or, set, map}
use Rattle.std.proofs.Common.{Option, Some, None, refl, sym, ap, arith, add-one}
use Rattle.std.proofs.lemmas.Bool.Decides.{nat_tests}
use Rattle.std.specs.Prelude.{MatchOption}
use Rattle.mem_base.specs.declared.map.ids.RegionId.{RegionId}
use Rattle.mem_base.specs.declared.map.forests.Node.{Node}
use Rattle.mem_base.specs.declared.map.calls.Call.{Call}
use Rattle.mem_base.specs.declared.map.calls.Call.TheVariants as calls
use Rattle.mem_base.specs.lists.Every.{Every}
use Rattle.mem_base.specs.lists.Sorting.{sorted_by}
use Rattle.mem_base.specs.map.Region.{node_of, has_id, is_in, is_child_of, IsAscending}
use Rattle.mem_base.specs.map.Order.{trial_order, children_of}
use Rattle.mem_base.specs.map.Changes.{changed_at}
use Rattle.mem_base.specs.map.Edits.{edited}
use Rattle.mem_base.proofs.EveryLaws.{weaker}
use Rattle.mem_base.proofs.ForestLaws.{filter-changed_at, only_node, id_of}
use Rattle.map_laws.proofs.FieldLaws.{IsField, children_field}
use Rattle.region_slots.specs.declared.children.Child.{Child}
use Rattle.region_slots.specs.declared.slots.Slot.{Slot}
use Rattle.region_slots.specs.Slots.{nodes_of, child_of, placed_of, ids_in, one_resized, resized}
use Rattle.region_slots.specs.Edits.{new_size}

missing_container : (slots : List Slot) (q : RegionId) → node_of (nodes_of slots) q ≡ None → Every (λ s. is_in s.node.id (Some q) ≡ false) slots
missing_container [] q e = tt
missing_container (s ∷ ss) q e =
    elim (has_id q s.node) as (λ b. has_id q s.node ≡ b → cond b (Some s.node) (node_of (nodes_of ss) q) ≡ None →
    Every (λ t. is_in t.node.id (Some q) ≡ false) (s ∷ ss)) [
      | true ↦ λ t h. cc
      | false ↦ λ t h. (grind (arith, nat_tests), missing_container ss q h)
    ] refl e

-- the place of the region with the container's id is that of the container
pub container_place : (slots : List Slot) (q : RegionId) (o : Option ℕ) →
    MatchOption o (node_of (nodes_of slots) q ≡ None) (λ i. (i < length slots) × ((d : Slot) → node_of (nodes_of slots) q ≡ Some (get_or slots i d).node)) →
    MatchOption o (Every (λ s. is_in s.node.id (Some q) ≡ false) slots)
    (λ i. (i < length slots) × ((d : Slot) → is_in (get_or slots i d).node.id (Some q) ≡ true))
container_place slots q None h = missing_container slots q h
container_place slots q (Some i) h = (
  h.0,
  λ d.
      let same : (get_or slots i d).node.id.0 ≡ q.0 = ap (λ (r : RegionId). r.0) (id_of (nodes_of slots) q (get_or slots i d).node (h.1 d)) in
      grind (arith, nat_tests),
)

-- the call gives this size
pub edited_resize : (call : Call) (size : ℕ) → Some size ≡ new_size call → edited call ≡ (λ n. record n { size = size })
edited_resize (calls.Resize region size) q e = let same : q ≡ size = cc in ap (λ k. edited (calls.Resize region k)) (sym same)
edited_resize _ q e = cc

-- the children, of which those before a place went through a change
abbrev pub changed_before : (Child → Child) → ℕ → List Child → List Child
changed_before f zero cs = cs
changed_before f (suc i) [] = []
changed_before f (suc i) (c ∷ cs) = f c ∷ changed_before f i cs

pub changed_next : (f : Child → Child) (i : ℕ) (cs : List Child) (d : Child) → i < length cs →
    set (changed_before f i cs) i (f (get_or (changed_before f i cs) i d)) ≡ changed_before f (i + 1) cs
changed_next f i cs d l = go i cs l ∙ ap (λ k. changed_before f k cs) (sym (add-one i)) where
  go : (i : ℕ) (cs : List Child) → i < length cs → set (changed_before f i cs) i (f (get_or (changed_before f i cs) i d)) ≡ changed_before f (suc i) cs
  go i [] l = absurd (omega arith)
  go zero (c ∷ cs) l = refl
  go (suc i) (c ∷ cs) l = ap (λ l. f c ∷ l) (go i cs (omega arith))

-- a child that the change leaves as it is
pub unchanged_next : (f : Child → Child) (i : ℕ) (cs : List Child) (d : Child) → i < length cs →
    f (get_or (changed_before f i cs) i d) ≡ get_or (changed_before f i cs) i d → changed_before f i cs ≡ changed_before f (i + 1) cs
unchanged_next f i cs d l e = go i cs l e ∙ ap (λ k. changed_before f k cs) (sym (add-one i)) where
  go : (i : ℕ) (cs : List Child) → i < length cs →
      f (get_or (changed_before f i cs) i d) ≡ get_or (changed_before f i cs) i d → changed_before f i cs ≡ changed_before f (suc i) cs
  go i [] l e = absurd (omega arith)
  go zero (c ∷ cs) l e = ap (λ x. x ∷ cs) (sym e)
  go (suc i) (c ∷ cs) l e = ap (λ l. f c ∷ l) (go i cs (omega arith) e)

pub all_changed : (f : Child → Child) (cs : List Child) → changed_before f (length cs) cs ≡ map f cs
all_changed f [] = refl
all_changed f (c ∷ cs) = ap (λ l. f c ∷ l) (all_changed f cs)

module _ (r : RegionId) (last : ℕ) (xs cs : List Child) (i : ℕ) (d : Child) (so_far : xs ≡ changed_before (one_resized r last) i cs)
    (within : i < length cs) where
  abbrev at_place : Child
  at_place = get_or xs i d

  read : get_or (changed_before (one_resized r last) i cs) i d ≡ at_place
  read = ap (λ l. get_or l i d) (sym so_far)

  pub resized_next : at_place.id.0 ≡ r.0 → set xs i (record { id = at_place.id; offset = at_place.offset; last = last; priority = at_place.priority }) ≡
      changed_before (one_resized r last) (i + 1) cs
  resized_next e =
      let t : eqb at_place.id.0 r.0 ≡ true = grind (arith, nat_tests) in
      ap (λ b. set xs i (cond b
      (let c : Child = record { id = at_place.id; offset = at_place.offset; last = last; priority = at_place.priority } in c) at_place))
      (sym t)
      ∙ ap (λ l. set l i (one_resized r last (get_or l i d))) so_far
      ∙ changed_next (one_resized r last) i cs d within

  pub kept_next : at_place.id.0 ≢ r.0 → xs ≡ changed_before (one_resized r last) (i + 1) cs
  kept_next e =
      let t : eqb at_place.id.0 r.0 ≡ false = grind (arith, nat_tests) in
      let stays : one_resized r last at_place ≡ at_place =
      ap (λ b. cond b (let c : Child = record { id = at_place.id; offset = at_place.offset; last = last; priority = at_place.priority } in c) at_place) t in
      so_far ∙ unchanged_next (one_resized r last) i cs d within (ap (one_resized r last) read ∙ stays ∙ sym read)

pub ids_resized : (r : RegionId) (last : ℕ) (cs : List Child) → ids_in (resized r last cs) ≡ ids_in cs
ids_resized r last [] = refl
ids_resized r last (c ∷ cs) =
    let ih = ids_resized r last cs in
    elim (eqb c.id.0 r.0) as (λ b. (cond b (record c { last = last }) c).id ∷ ids_in (resized r last cs) ≡ c.id ∷ ids_in cs)
    [ true ↦ ap (λ l. c.id ∷ l) ih | false ↦ ap (λ l. c.id ∷ l) ih ]

module _ (r : RegionId) (size : ℕ) where
  abbrev pub sized : Node → Node
  sized n = record n { size = size }

  sized_field : IsField sized
  sized_field = record { id = λ n. refl; parent = λ n. refl; priority = λ n. refl; placing = λ n. refl; target = λ n. refl }

  placed_resized : (l : List Node) → resized r (size - 1) (placed_of l) ≡ placed_of (map (λ (n : Node). cond (has_id r n) (sized n) n) l)
  placed_resized [] = refl
  placed_resized (n ∷ ns) =
      let ih = placed_resized ns in
      elim (has_id r n) as (λ b. cond b (let c : Child = record { id = n.id; offset = n.offset; last = size - 1; priority = n.priority } in c) (child_of n)
      ∷ resized r (size - 1) (placed_of ns) ≡ child_of (cond b (sized n) n) ∷ placed_of (map (λ (n : Node). cond (has_id r n) (sized n) n) ns))
      [ true ↦ ap (λ l. child_of (sized n) ∷ l) ih | false ↦ ap (λ l. child_of n ∷ l) ih ]

  -- what its container lists
  pub resized_here : (nodes : List Node) (parent : RegionId) (list : List Child) → list ≡ placed_of (children_of nodes parent) →
      resized r (size - 1) list ≡ placed_of (children_of (changed_at r sized nodes) parent)
  resized_here nodes parent list e =
      ap (resized r (size - 1)) e ∙ placed_resized (children_of nodes parent) ∙ ap placed_of (sym (children_field r sized sized_field nodes parent))

  module _ (nodes : List Node) (m : Node) (ascending : IsAscending nodes) (there : node_of nodes r ≡ Some m) where
    -- any other region has the children that it had
    pub resized_elsewhere : (q : RegionId) → is_in q m.parent ≡ false → children_of (changed_at r sized nodes) q ≡ children_of nodes q
    resized_elsewhere q out =
        ap (sorted_by trial_order) (filter-changed_at (is_child_of q) r sized nodes
        (weaker (λ n. has_id r n ≡ true → n ≡ m) (λ n. has_id r n ≡ true → (is_child_of q n ≡ false) × (is_child_of q (sized n) ≡ false))
        (λ n w t. let o : is_child_of q n ≡ false = ap (is_child_of q) (w t) ∙ out in (o, o)) nodes (only_node nodes r m ascending there)))

    pub resized_beside : (parent q : RegionId) → is_in parent m.parent ≡ true → q.0 ≢ parent.0 →
        children_of (changed_at r sized nodes) q ≡ children_of nodes q
    resized_beside parent q inside apart = resized_elsewhere q (other m.parent inside) where
      other : (p : Option RegionId) → is_in parent p ≡ true → is_in q p ≡ false
      other None h = refl
      other (Some p) h = grind (arith, nat_tests)

    -- in no container, it is in no list
    pub resized_nowhere : (slots : List Slot) → Every (λ s. is_in s.node.id m.parent ≡ false) slots →
        Every (λ s. placed_of (children_of (changed_at r sized nodes) s.node.id) ≡ placed_of (children_of nodes s.node.id)) slots
    resized_nowhere slots h = weaker (λ s. is_in s.node.id m.parent ≡ false)
        (λ s. placed_of (children_of (changed_at r sized nodes) s.node.id) ≡ placed_of (children_of nodes s.node.id))
        (λ s out. ap placed_of (resized_elsewhere s.node.id out)) slots h

pub length_resized : (r : RegionId) (last : ℕ) (cs : List Child) → length (resized r last cs) ≡ length cs
length_resized r last [] = refl
length_resized r last (c ∷ cs) = ap suc (length_resized r last cs)
