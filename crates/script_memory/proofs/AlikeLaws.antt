-- That the search finds the same whether regions are devices or memory.
use Rattle.std.proofs.Common.{◌≡◌, ◌==◌, ◌^◌, ◌&&◌, ◌+◌, ◌-◌, ℕ, zero, suc, Bool, true, false, cond, List, [], ◌∷◌, map, filter, refl, sym, ap, subst, ◌∙◌}
use Rattle.std.proofs.Common.{Option, Some, None}
use Rattle.std.specs.Prelude.{nat_le, nat_lt, option_map, option_and_then}
use Rattle.std.proofs.lemmas.Option.{none-some, same_Some}
use Rattle.std.specs.List.{list_any}
use Rattle.std.specs.Option.{option_or}
use Rattle.std.specs.Ordering.{is_lt}
use Rattle.mem_base.specs.declared.map.ids.RegionId.{RegionId}
use Rattle.mem_base.specs.declared.map.ids.SpaceId.{SpaceId}
use Rattle.mem_base.specs.declared.map.forests.Forest.{Forest}
use Rattle.mem_base.specs.declared.map.forests.Node.{Node}
use Rattle.mem_base.specs.declared.map.kinds.Device.{Device}
use Rattle.mem_base.specs.declared.map.kinds.Kind.{Kind}
use Rattle.mem_base.specs.declared.map.kinds.Kind.TheVariants.{Container, Ram, Io, Alias}
use Rattle.mem_base.specs.lists.Every.{Every}
use Rattle.mem_base.specs.lists.Sorting.{put_by, sorted_by}
use Rattle.mem_base.specs.map.Limits.{most_depth}
use Rattle.mem_base.specs.map.Order.{children_of, trial_order}
use Rattle.mem_base.specs.map.Region.{has_id, is_child_of, node_of}
use Rattle.mem_base.specs.map.Search.{Search, at_node, found_at, found_in, first_of_children, inside, itself, passed, path_of, root_of, spot_of}
use Rattle.mem_base.specs.views.Flattened.{ranges_from, view_of}
use Rattle.script_memory.specs.Alike.{IsDeviceAmong, ShowsTheSame, memory_forest, memory_node}

node_told : (memory : List RegionId) (nodes : List Node) (r : RegionId)
    → node_of (map (memory_node memory) nodes) r ≡ option_map (memory_node memory) (node_of nodes r)
node_told memory [] r = refl
node_told memory (n ∷ ns) r = by (has_id r n) (node_told memory ns r)
  where
    by : (b : Bool) → node_of (map (memory_node memory) ns) r ≡ option_map (memory_node memory) (node_of ns r)
        → cond b (Some (memory_node memory n)) (node_of (map (memory_node memory) ns) r)
        ≡ option_map (memory_node memory) (cond b (Some n) (node_of ns r))
    by true ih = refl
    by false ih = ih

-- the children stand in the same order

filter_told : (memory : List RegionId) (r : RegionId) (nodes : List Node)
    → filter (is_child_of r) (map (memory_node memory) nodes) ≡ map (memory_node memory) (filter (is_child_of r) nodes)
filter_told memory r [] = refl
filter_told memory r (n ∷ ns) = by (is_child_of r n) (filter_told memory r ns)
  where
    by : (b : Bool) → filter (is_child_of r) (map (memory_node memory) ns) ≡ map (memory_node memory) (filter (is_child_of r) ns)
        → cond b (memory_node memory n ∷ filter (is_child_of r) (map (memory_node memory) ns)) (filter (is_child_of r) (map (memory_node memory) ns))
        ≡ map (memory_node memory) (cond b (n ∷ filter (is_child_of r) ns) (filter (is_child_of r) ns))
    by true ih = ap (λ (xs : List Node). memory_node memory n ∷ xs) ih
    by false ih = ih

put_told : (memory : List RegionId) (x : Node) (ys : List Node)
    → put_by trial_order (memory_node memory x) (map (memory_node memory) ys) ≡ map (memory_node memory) (put_by trial_order x ys)
put_told memory x [] = refl
put_told memory x (y ∷ ys) = by (is_lt (trial_order x y)) (put_told memory x ys)
  where
    by : (b : Bool) → put_by trial_order (memory_node memory x) (map (memory_node memory) ys) ≡ map (memory_node memory) (put_by trial_order x ys)
        → cond b (memory_node memory x ∷ memory_node memory y ∷ map (memory_node memory) ys)
        (memory_node memory y ∷ put_by trial_order (memory_node memory x) (map (memory_node memory) ys))
        ≡ map (memory_node memory) (cond b (x ∷ y ∷ ys) (y ∷ put_by trial_order x ys))
    by true ih = refl
    by false ih = ap (λ (xs : List Node). memory_node memory y ∷ xs) ih

sorted_told : (memory : List RegionId) (xs : List Node)
    → sorted_by trial_order (map (memory_node memory) xs) ≡ map (memory_node memory) (sorted_by trial_order xs)
sorted_told memory [] = refl
sorted_told memory (x ∷ xs) =
    ap (put_by trial_order (memory_node memory x)) (sorted_told memory xs) ∙ put_told memory x (sorted_by trial_order xs)

children_told : (memory : List RegionId) (nodes : List Node) (r : RegionId)
    → children_of (map (memory_node memory) nodes) r ≡ map (memory_node memory) (children_of nodes r)
children_told memory nodes r = ap (sorted_by trial_order) (filter_told memory r nodes) ∙ sorted_told memory (filter (is_child_of r) nodes)

-- what the search finds inside a region

first_told : (memory : List RegionId) (below above : Search) → ((r : RegionId) (b : ℕ) → above r b ≡ below r b) → (cs : List Node) (a : ℕ)
    → first_of_children above (map (memory_node memory) cs) a ≡ first_of_children below cs a
first_told memory below above same [] a = refl
first_told memory below above same (c ∷ cs) a = λ i.
    option_or (cond (nat_le c.offset a) (same c.id (a - c.offset) i) None) (first_told memory below above same cs a i)

itself_kept : (memory : List RegionId) (k : Kind) (n : Node) (a : ℕ) → itself false k (memory_node memory n) a ≡ itself false k n a
itself_kept memory Container n a = refl
itself_kept memory _ n a = refl

itself_told : (memory : List RegionId) (n : Node) (a : ℕ) → IsDeviceAmong memory n
    → itself false (memory_node memory n).kind (memory_node memory n) a ≡ itself false n.kind n a
itself_told memory n a device = by (list_any (λ r. r.0 == n.id.0) memory) device
  where
    by : (b : Bool) → (b ≡ true → (d : Device) × (n.kind ≡ Io d)) → itself false (cond b Ram n.kind) (memory_node memory n) a ≡ itself false n.kind n a
    by true is = sym (ap (λ k. itself false k n a) (is refl).1)
    by false is = itself_kept memory n.kind n a

inside_by : (memory : List RegionId) (f : Forest) (below above : Search) (n : Node) (a : ℕ) → ((r : RegionId) (b : ℕ) → above r b ≡ below r b)
    → itself f.global (memory_node memory n).kind (memory_node memory n) a ≡ itself f.global n.kind n a
    → first_of_children above (children_of (memory_forest memory f).nodes n.id) a ≡ first_of_children below (children_of f.nodes n.id) a
    → (k : Kind) → inside (memory_forest memory f) above k (memory_node memory n) a ≡ inside f below k n a
inside_by memory f below above n a same own first (Alias target offset) = same target (a + offset)
inside_by memory f below above n a same own first _ = λ i. option_or (first i) (own i)

inside_told : (memory : List RegionId) (f : Forest) (below above : Search) (n : Node) (a : ℕ) → IsDeviceAmong memory n → f.global ≡ false
    → ((r : RegionId) (b : ℕ) → above r b ≡ below r b)
    → inside (memory_forest memory f) above (memory_node memory n).kind (memory_node memory n) a ≡ inside f below n.kind n a
inside_told memory f below above n a device off same = by (list_any (λ r. r.0 == n.id.0) memory) device
  where
    own : itself f.global (memory_node memory n).kind (memory_node memory n) a ≡ itself f.global n.kind n a
    own = ap (λ g. itself g (memory_node memory n).kind (memory_node memory n) a) off ∙ itself_told memory n a device
        ∙ sym (ap (λ g. itself g n.kind n a) off)

    first : first_of_children above (children_of (memory_forest memory f).nodes n.id) a ≡ first_of_children below (children_of f.nodes n.id) a
    first = ap (λ cs. first_of_children above cs a) (children_told memory f.nodes n.id) ∙ first_told memory below above same (children_of f.nodes n.id) a

    by : (b : Bool) → (b ≡ true → (d : Device) × (n.kind ≡ Io d))
        → inside (memory_forest memory f) above (cond b Ram n.kind) (memory_node memory n) a ≡ inside f below n.kind n a
    by true is =
        let there : inside (memory_forest memory f) above Ram (memory_node memory n) a ≡ inside f below (Io (is refl).0) n a
        = λ i. option_or (first i) (own i) in
        there ∙ sym (ap (λ k. inside f below k n a) (is refl).1)
    by false is = inside_by memory f below above n a same own first n.kind

-- what it finds from a region on

found_device : (memory : List RegionId) (nodes : List Node) (r : RegionId) (n : Node) → Every (IsDeviceAmong memory) nodes → node_of nodes r ≡ Some n
    → IsDeviceAmong memory n
found_device memory [] r n all e = absurd (none-some n e)
found_device memory (m ∷ ms) r n all e = by (has_id r m) e (λ rest. found_device memory ms r n all.1 rest)
  where
    by : (b : Bool) → cond b (Some m) (node_of ms r) ≡ Some n → (node_of ms r ≡ Some n → IsDeviceAmong memory n) → IsDeviceAmong memory n
    by true e later = subst (IsDeviceAmong memory) (same_Some m n e) all.0
    by false e later = later e

found_step : (memory : List RegionId) (f : Forest) → Every (IsDeviceAmong memory) f.nodes → f.global ≡ false → (below above : Search)
    → ((q : RegionId) (b : ℕ) → above q b ≡ below q b) → (r : RegionId) (a : ℕ) (o : Option Node) → node_of f.nodes r ≡ o
    → option_and_then (λ n. at_node (memory_forest memory f) above n a) (option_map (memory_node memory) o)
    ≡ option_and_then (λ n. at_node f below n a) o
found_step memory f devices off below above same r a None e = refl
found_step memory f devices off below above same r a (Some n) e =
    ap (λ x. cond (n.enabled && nat_lt a n.size) (option_map (passed n) x) None)
    (inside_told memory f below above n a (found_device memory f.nodes r n devices e) off same)

pub found_told : (memory : List RegionId) (f : Forest) → Every (IsDeviceAmong memory) f.nodes → f.global ≡ false → (depth : ℕ) (r : RegionId) (a : ℕ)
    → found_in (memory_forest memory f) depth r a ≡ found_in f depth r a
unfolding found_in
found_told memory f devices off zero r a = refl
found_told memory f devices off (suc depth) r a =
    ap (option_and_then (λ n. at_node (memory_forest memory f) (found_in (memory_forest memory f) depth) n a)) (node_told memory f.nodes r)
    ∙ found_step memory f devices off (found_in f depth) (found_in (memory_forest memory f) depth)
    (λ q b. found_told memory f devices off depth q b) r a (node_of f.nodes r) refl

found_told_at : (memory : List RegionId) (f : Forest) (s : SpaceId) → Every (IsDeviceAmong memory) f.nodes → f.global ≡ false → (a : ℕ)
    → found_at (memory_forest memory f) s a ≡ found_at f s a
found_told_at memory f s devices off a = λ i. option_and_then (λ r. found_told memory f devices off most_depth r a i) (root_of f s)

pub shows_the_same : ShowsTheSame
unfolding view_of
shows_the_same memory f s devices off = λ i.
    ranges_from (λ a. spot_of (found_told_at memory f s devices off a i)) (λ a. path_of (found_told_at memory f s devices off a i)) 0 (2 ^ 64)
