use Rattle.std.proofs.Common.{◌≡◌, ◌∙◌, ℕ, zero, suc, pos, ◌+◌, ◌-◌, ◌<◌, ◌≤◌, true, false, cond, length, drop, get_or, add-one, subst}
use Rattle.std.proofs.Common.{arith, List, [], ◌∷◌, ◌++◌, Option, Some, None, refl, sym, ap, ⊎_elim}
use Rattle.std.proofs.lemmas.List.{append-nil}
use Rattle.std.proofs.lemmas.Bool.{cases_lt}
use Rattle.mem_base.specs.declared.map.ids.RegionId.{RegionId}
use Rattle.mem_base.specs.declared.map.forests.Node.{Node}
use Rattle.mem_base.specs.declared.map.spots.Spot.{Spot}
use Rattle.mem_base.specs.declared.map.forests.Forest.{Forest}
use Rattle.mem_base.specs.map.Search.{Found, Search, spot_of, path_of, found_in, first_of_children}
use Rattle.std.specs.Prelude.{nat_le}
use Rattle.std.specs.Option.{option_or}
use Rattle.std.proofs.lemmas.Bool.Decides.{nat_tests}
use Rattle.region_slots.specs.declared.children.Child.{Child}
use Rattle.region_slots.specs.Slots.{child_of, placed_of}
use Rattle.region_slots.specs.Told.{IsChild}
use Rattle.region_slots.proofs.ToldLaws.{past_last}
use Rattle.tree_find.specs.Children.{tried, holds}

-- where nothing is found, no region goes onto the path
pub no_path : (path : List RegionId) (x : Option Found) → x ≡ None → path ≡ path ++ path_of x
no_path path x e = sym (append-nil path) ∙ ap (λ o. path ++ path_of o) (sym e)

-- where there is no spot, nothing is found
pub none_found : (x : Option Found) → None ≡ spot_of x → x ≡ None
none_found None e = refl
none_found (Some x) e = cc

abbrev pub no_child : Child
no_child = record { id = record { 0 = 0 }; offset = 0; last = 0; priority = pos 0 }

-- the next child in the list of children
pub next_placed : (cs : List Node) (items : List Child) (i : ℕ) (d : Child) → items ≡ placed_of cs → i < length items → (n : Node)
    × (drop i cs ≡ n ∷ drop (i + 1) cs) × (get_or items i d ≡ child_of n)
next_placed cs items i d e l =
    let here = go cs i (subst (λ xs. i < length xs) e l) in
    (here.0, subst (λ j. drop i cs ≡ here.0 ∷ drop j cs) (sym (add-one i)) here.1, ap (λ xs. get_or xs i d) e ∙ here.2) where
      go : (cs : List Node) (i : ℕ) → i < length (placed_of cs) → (n : Node) × (drop i cs ≡ n ∷ drop (suc i) cs) × (get_or (placed_of cs) i d ≡ child_of n)
      go [] i l = absurd (omega arith)
      go (c ∷ cs) zero l = (c, refl, refl)
      go (c ∷ cs) (suc i) l = go cs i (omega arith)

-- nothing is found in a child that ends before the offset
tried_past : (f : Forest) (depth : ℕ) (c : Child) (a : ℕ) → IsChild f.nodes c → c.offset ≤ a → c.last < a - c.offset → tried (found_in f depth) c a ≡ None
tried_past f depth c a h l m =
    let t : nat_le c.offset a ≡ true = grind (arith, nat_tests) in
    ap (λ b. cond b (found_in f depth c.id (a - c.offset)) None) t ∙ past_last f depth c (a - c.offset) h m

first_step : (below : Search) (l rest : List Node) (c : Node) (x : Child) (a : ℕ) → l ≡ c ∷ rest → x ≡ child_of c →
    first_of_children below l a ≡ option_or (tried below x a) (first_of_children below rest a)
first_step below l rest c x a e f = ap (λ l. first_of_children below l a) e ∙ ap (λ y. option_or (tried below y a) (first_of_children below rest a)) (sym f)

-- what is found in the next child is what is found among the children
pub found_first : (below : Search) (l rest : List Node) (c : Node) (x : Child) (a : ℕ) (s : Spot) → l ≡ c ∷ rest → x ≡ child_of c →
    Some s ≡ spot_of (tried below x a) → first_of_children below l a ≡ tried below x a
found_first below l rest c x a s e f w = first_step below l rest c x a e f ∙ go (tried below x a) w where
  go : (y : Option Found) → Some s ≡ spot_of y → option_or y (first_of_children below rest a) ≡ y
  go None w = cc
  go (Some y) w = refl

-- nothing is found in the next child
pub found_later : (below : Search) (l rest : List Node) (c : Node) (x : Child) (a : ℕ) → l ≡ c ∷ rest → x ≡ child_of c → tried below x a ≡ None →
    first_of_children below l a ≡ first_of_children below rest a
found_later below l rest c x a e f w = first_step below l rest c x a e f ∙ ap (λ y. option_or y (first_of_children below rest a)) w

-- a child above the offset
tried_above : (below : Search) (x : Child) (a : ℕ) → a < x.offset → tried below x a ≡ None
tried_above below x a l = let t : nat_le x.offset a ≡ false = grind (arith, nat_tests) in ap (λ b. cond b (below x.id (a - x.offset)) None) t

-- nothing is found in a child that does not hold the offset
pub not_held : (f : Forest) (depth : ℕ) (c : Child) (a : ℕ) → IsChild f.nodes c → holds c a ≡ false → tried (found_in f depth) c a ≡ None
not_held f depth c a h e = ⊎_elim
    (λ low. tried_above (found_in f depth) c a low)
    (λ high. tried_past f depth c a h high (grind (arith, nat_tests)))
    (cases_lt a c.offset)

-- a spot and a path that are found together are what is found
pub both_found : (x : Option Found) (s : Spot) (path : List RegionId) → Some s ≡ spot_of x → path ≡ [] ++ path_of x → x ≡ Some (s, path)
both_found None s path e p = cc
both_found (Some x) s path e p = let first : s ≡ x.0 = cc in let same : (x.0, x.1) ≡ (s, path) = cc in ap (λ (y : Found). Some y) same
