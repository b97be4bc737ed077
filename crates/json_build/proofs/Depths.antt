-- How deep values nest.
use Rattle.std.proofs.Common.{◌≤◌, ℕ, suc, max, List, [], ◌∷◌, arith, Less, Equal, Greater, Ordering, nat_cmp}
use Rattle.std.specs.Prelude.{map}
use Rattle.std.specs.Ordering.{match_ordering}
use Rattle.std.specs.Cmp.Lexicographic.{slice_cmp}
use Rattle.serde_json.specs.Data.{Data, Members, no_members, member, put, depth, items_depth, members_depth}
use Rattle.serde_json.specs.View.{items_of}
use Rattle.json_build.specs.Parts.{Text, list_of, record_of, with_field, with_fields}

-- each of these values nests at most n deep
abbrev pub AreShallow : ℕ → List Data → Type 0
AreShallow n [] = Unit {0}
AreShallow n (d ∷ ds) = (depth d ≤ n) × AreShallow n ds

-- the same of members
abbrev pub HaveShallow : ℕ → List (Text × Data) → Type 0
HaveShallow n [] = Unit {0}
HaveShallow n (f ∷ fs) = (depth f.1 ≤ n) × HaveShallow n fs

max_within : (a b n : ℕ) → a ≤ n → b ≤ n → max a b ≤ n
max_within a b n h k = omega arith

left_within : (a b n : ℕ) → max a b ≤ n → a ≤ n
left_within a b n h = omega arith

right_within : (a b n : ℕ) → max a b ≤ n → b ≤ n
right_within a b n h = omega arith

items_within : (n : ℕ) (ds : List Data) → AreShallow n ds → items_depth (items_of ds) ≤ n
items_within n [] h = omega arith
items_within n (d ∷ ds) h = max_within _ _ n h.0 (items_within n ds h.1)

-- a list nests one deeper than its values
pub depth_of_list : (n : ℕ) (ds : List Data) → AreShallow n ds → depth (list_of ds) ≤ suc n
depth_of_list n ds h = let k = items_within n ds h in omega arith

either_within : (o : Ordering) (a b c : Members) (n : ℕ) → members_depth a ≤ n → members_depth b ≤ n → members_depth c ≤ n
    → members_depth (match_ordering o a b c) ≤ n
either_within Less a b c n h k l = h
either_within Equal a b c n h k l = k
either_within Greater a b c n h k l = l

put_within : (k : Text) (d : Data) (ms : Members) (n : ℕ) → depth d ≤ n → members_depth ms ≤ n → members_depth (put k d ms) ≤ n
put_within k d no_members n h g = max_within _ _ n h g
put_within k d (member l e ms) n h g =
    let inner = left_within _ _ n g in
    let rest = right_within _ _ n g in
    either_within (slice_cmp nat_cmp k l) _ _ _ n (max_within _ _ n h g) (max_within _ _ n h rest)
    (max_within _ _ n inner (put_within k d ms n h rest))

fields_within : (n : ℕ) (ms : Members) (fs : List (Text × Data)) → members_depth ms ≤ n → HaveShallow n fs → members_depth (with_fields ms fs) ≤ n
unfolding with_field
fields_within n ms [] h g = h
fields_within n ms (f ∷ fs) h g = fields_within n (with_field ms f.0 f.1) fs (put_within f.0 f.1 ms n g.0 h) g.1

-- an object nests one deeper than its members
pub depth_of_record : (n : ℕ) (fs : List (Text × Data)) → HaveShallow n fs → depth (record_of fs) ≤ suc n
depth_of_record n fs h = let k = fields_within n no_members fs (omega arith) h in omega arith

-- values that are made alike nest alike
pub shallow_map : {X : Type 0} (n : ℕ) (f : X → Data) (xs : List X) → ((x : X) → depth (f x) ≤ n) → AreShallow n (map f xs)
shallow_map n f [] h = tt
shallow_map n f (x ∷ xs) h = (h x, shallow_map n f xs h)

-- a list of values that are made alike
pub depth_of_map : {X : Type 0} (n : ℕ) (f : X → Data) (xs : List X) → ((x : X) → depth (f x) ≤ n) → depth (list_of (map f xs)) ≤ suc n
depth_of_map n f xs h = depth_of_list n (map f xs) (shallow_map n f xs h)
