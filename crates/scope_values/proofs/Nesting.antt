-- How deep the values nest.
use Rattle.std.proofs.Common.{◌≤◌, ℕ, Bool, true, false, List, [], ◌∷◌, ◌++◌, arith}
use Rattle.std.specs.Prelude.{flat_map, if◌then◌else◌, Option, Some, None, codes}
use Rattle.serde_json.specs.Data.{Data, depth}
use Rattle.json_build.specs.Parts.{Text}
use Rattle.json_build.proofs.Depths.{AreShallow, depth_of_list, depth_of_map, depth_of_record}
use Rattle.mem_base.specs.declared.map.ids.RegionId.{RegionId}
use Rattle.mem_base.specs.declared.map.spots.Attrs.{Attrs}
use Rattle.mem_base.specs.declared.map.spots.Spot.{Spot}
use Rattle.mem_base.specs.declared.map.translations.Entry.{Entry}
use Rattle.mem_base.specs.declared.views.listening.RangeEvent.{RangeEvent}
use Rattle.mem_base.specs.script.Named.{Names}
use Rattle.map_lint.specs.declared.findings.Finding.{Finding}
use Rattle.find_why.specs.declared.looks.Look.{Look}
use Rattle.find_why.specs.declared.looks.Tried.{Tried}
use Rattle.find_why.specs.declared.hops.Hop.{Hop}
use Rattle.view_picture.specs.declared.rows.Row.{Row}
use Rattle.view_picture.specs.declared.rows.Row.TheVariants.{Range, Hole}
use Rattle.view_slots.specs.Texts.{range_of}
use Rattle.script_explain.specs.declared.topics.Topic.{Topic}
use Rattle.scope_values.specs.Ranges.{flag, flags_data, found_data, spot_fields}
use Rattle.scope_values.specs.Findings.{finding_data, finding_fields, object_of, region_data}
use Rattle.scope_values.specs.Steps.{change_data, change_fields, slot_data, slot_fields}
use Rattle.scope_values.specs.Searches.{concern, concern_data, concern_fields, entry_fields, look_concern, look_data, look_fields, root_concern, root_data}
use Rattle.scope_values.specs.Searches.{search_data, searches_data, translation_data, tried_data, tried_fields, whole_fields}
use Rattle.scope_values.specs.Rows.{row_data, row_fields}
use Rattle.scope_values.specs.Topics.{topic_data, topic_fields}

pub shallow_append : (n : ℕ) (xs ys : List Data) → AreShallow n xs → AreShallow n ys → AreShallow n (xs ++ ys)
shallow_append n [] ys h k = k
shallow_append n (x ∷ xs) ys h k = (h.0, shallow_append n xs ys h.1 k)

pub shallow_if : (n : ℕ) (on : Bool) (d : Data) → depth d ≤ n → AreShallow n (if on then d ∷ [] else [])
shallow_if n true d h = (h, tt)
shallow_if n false d h = tt

pub shallow_unless : (n : ℕ) (on : Bool) (d : Data) → depth d ≤ n → AreShallow n (if on then [] else d ∷ [])
shallow_unless n true d h = tt
shallow_unless n false d h = (h, tt)

pub shallow_flat_map : {X : Type 0} (n : ℕ) (f : X → List Data) (xs : List X) → ((x : X) → AreShallow n (f x)) → AreShallow n (flat_map f xs)
shallow_flat_map n f [] h = tt
shallow_flat_map n f (x ∷ xs) h = shallow_append n (f x) (flat_map f xs) (h x) (shallow_flat_map n f xs h)

pub leaf : (n : ℕ) → 0 ≤ n
leaf n = omega arith

shallow_flag : (on : Bool) (word : Text) → AreShallow 0 (flag on word)
shallow_flag true word = (leaf 0, tt)
shallow_flag false word = tt

flags_depth : (a : Attrs) → depth (flags_data a) ≤ 1
flags_depth a =
    let ro = flag a.readonly (codes "ro") in
    let nv = flag a.nonvolatile (codes "nv") in
    let romd = flag a.romd (codes "romd") in
    let um = flag a.unmergeable (codes "um") in
    depth_of_list 0 (ro ++ (nv ++ (romd ++ um)))
    (shallow_append 0 ro (nv ++ (romd ++ um)) (shallow_flag a.readonly (codes "ro"))
    (shallow_append 0 nv (romd ++ um) (shallow_flag a.nonvolatile (codes "nv"))
    (shallow_append 0 romd um (shallow_flag a.romd (codes "romd")) (shallow_flag a.unmergeable (codes "um")))))

found_depth : (names : Names) (o : Option Spot) → depth (found_data names o) ≤ 2
found_depth names None = leaf 2
found_depth names (Some s) = depth_of_record 1 (spot_fields names s) (leaf 1, (leaf 1, (leaf 1, (flags_depth s.attrs, (leaf 1, tt)))))

region_depth : (names : Names) (o : Option RegionId) → depth (region_data names o) ≤ 0
region_depth names None = leaf 0
region_depth names (Some r) = leaf 0

pub finding_depth : (names : Names) (f : Finding) → depth (finding_data names f) ≤ 1
finding_depth names f = depth_of_record 0 (finding_fields names f) (leaf 0, (leaf 0, (region_depth names (object_of f), tt)))

pub change_depth : (labels : List Text) (step : RangeEvent) → depth (change_data labels step) ≤ 2
change_depth labels step =
    depth_of_record 1 (change_fields labels step)
    (leaf 1, (leaf 1, (leaf 1, (leaf 1, (leaf 1, (leaf 1, (flags_depth (range_of step).attrs, (leaf 1, tt))))))))

pub slot_depth : (slot : ℕ) (names : Names) (step : RangeEvent) → depth (slot_data slot names step) ≤ 2
slot_depth slot names step =
    depth_of_record 1 (slot_fields slot names step)
    (leaf 1, (leaf 1, (leaf 1, (leaf 1, (leaf 1, (leaf 1, (leaf 1, (flags_depth (range_of step).attrs, (leaf 1, tt)))))))))

pub row_depth : (names : Names) (row : Row) → depth (row_data names row) ≤ 2
row_depth names (Range r) =
    depth_of_record 1 (row_fields names (Range r)) (leaf 1, (leaf 1, (leaf 1, (leaf 1, (leaf 1, (leaf 1, (flags_depth r.attrs, (leaf 1, tt))))))))
row_depth names (Hole start last) = depth_of_record 1 (row_fields names (Hole start last)) (leaf 1, (leaf 1, (leaf 1, tt)))

pub topic_depth : (t : Topic) → depth (topic_data t) ≤ 1
topic_depth t = depth_of_record 0 (topic_fields t) (leaf 0, (leaf 0, (leaf 0, (leaf 0, (leaf 0, (leaf 0, tt))))))

tried_depth : (names : Names) (t : Tried) → depth (tried_data names t) ≤ 1
tried_depth names t = depth_of_record 0 (tried_fields names t) (leaf 0, (leaf 0, tt))

up_to_four : (n m : ℕ) → m ≤ 4 → n ≤ m → n ≤ 4
up_to_four n m h k = omega arith

root_depth : (names : Names) (o : Option Tried) → depth (root_data names o) ≤ 4
root_depth names None = leaf 4
root_depth names (Some t) = up_to_four (depth (tried_data names t)) 1 (omega arith) (tried_depth names t)

look_depth : (names : Names) (l : Look) → depth (look_data names l) ≤ 3
look_depth names l =
    depth_of_record 2 (look_fields names l)
    (leaf 2, (leaf 2, (leaf 2, (leaf 2, (depth_of_map 1 (tried_data names) l.trials (tried_depth names), tt)))))

entry_depth : (names : Names) (e : Entry) → depth (translation_data names (Some e)) ≤ 1
entry_depth names e = depth_of_record 0 (entry_fields names e) (leaf 0, (leaf 0, (leaf 0, (leaf 0, tt))))

translation_depth : (names : Names) (o : Option Entry) → depth (translation_data names o) ≤ 4
translation_depth names None = leaf 4
translation_depth names (Some e) = up_to_four (depth (translation_data names (Some e))) 1 (omega arith) (entry_depth names e)

found_within : (names : Names) (o : Option Spot) → depth (found_data names o) ≤ 4
found_within names o = up_to_four (depth (found_data names o)) 2 (omega arith) (found_depth names o)

search_depth : (names : Names) (h : Hop) → depth (search_data names h) ≤ 5
search_depth names h =
    depth_of_record 4 (whole_fields names h) (
      leaf 4,
      (
        leaf 4,
        (
          found_within names h.answer,
          (
            root_depth names h.root,
            (depth_of_map 3 (look_data names) h.looks (look_depth names), (translation_depth names h.used, tt)),
          ),
        ),
      ),
    )

concern_shallow : (names : Names) (r : RegionId) (t : Tried) → AreShallow 3 (concern names r t)
concern_shallow names r t = shallow_if 3 _ (tried_data names t) (omega (arith, tried_depth names t))

root_shallow : (names : Names) (r : RegionId) (o : Option Tried) → AreShallow 3 (root_concern names r o)
root_shallow names r None = tt
root_shallow names r (Some t) = concern_shallow names r t

look_shallow : (names : Names) (r : RegionId) (l : Look) → AreShallow 3 (look_concern names r l)
look_shallow names r l = shallow_flat_map 3 (concern names r) l.trials (concern_shallow names r)

concern_depth : (names : Names) (r : RegionId) (h : Hop) → depth (concern_data names r h) ≤ 5
concern_depth names r h =
    let inside = flat_map (look_concern names r) h.looks in
    let shallow = shallow_append 3 (root_concern names r h.root) inside (root_shallow names r h.root)
    (shallow_flat_map 3 (look_concern names r) h.looks (look_shallow names r)) in
    depth_of_record 4 (concern_fields names r h)
    (leaf 4, (leaf 4, (found_within names h.answer, (depth_of_list 3 (root_concern names r h.root ++ inside) shallow, tt))))

pub searches_depth : (names : Names) (o : Option RegionId) (hops : List Hop) → depth (searches_data names o hops) ≤ 6
searches_depth names None hops = depth_of_map 5 (search_data names) hops (search_depth names)
searches_depth names (Some r) hops = depth_of_map 5 (concern_data names r) hops (concern_depth names r)
