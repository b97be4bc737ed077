-- What the atlases of a generation's spaces are.
use Rattle.std.proofs.Common.{◌≡◌, ◌==◌, ℕ, Bool, true, false, eqb, List, [], ◌∷◌, map, Option, Some, None, refl, sym, ap, ◌∙◌, arith}
use Rattle.std.specs.Prelude.{find, option_map, unwrap_or}
use Rattle.std.specs.List.{list_any}
use Rattle.std.proofs.lemmas.Bool.Decides.{nat_tests}
use Rattle.std.proofs.lemmas.Option.{none-some}
use Rattle.mem_base.specs.declared.map.ids.RegionId.{RegionId}
use Rattle.mem_base.specs.declared.map.ids.SpaceId.{SpaceId}
use Rattle.mem_base.specs.declared.map.forests.Forest.{Forest}
use Rattle.mem_base.specs.declared.views.flat.FlatRange.{FlatRange}
use Rattle.mem_base.specs.map.Search.{is_space, root_of}
use Rattle.mem_base.specs.views.Flattened.{view_of}
use Rattle.mem_base.specs.views.Naming.{has_leaf}
use Rattle.generation.specs.Published.{views_of}

-- what stands beside a space, in the first pair that has it
abbrev beside : {A B : Type 0} → (A → B) → SpaceId → List (SpaceId × A) → Option B
beside {A} k s xs = option_map (λ (p : SpaceId × A). k p.1) (find (λ p. p.0.0 == s.0) xs)

-- the same in pairs whose second parts are made from others
found_map : {X Y : Type 0} (h : X → Y) (s : SpaceId) (xs : List (SpaceId × X)) → beside h s xs ≡ beside (λ y. y) s (map (λ p. (p.0, h p.1)) xs)
found_map h s [] = refl
found_map {X = X} {Y = Y} h s (x ∷ xs) = go (found_map h s xs) (eqb x.0.0 s.0) refl
  where
    go : beside h s xs ≡ beside (λ (y : Y). y) s (map (λ p. (p.0, h p.1)) xs) → (b : Bool) → eqb x.0.0 s.0 ≡ b
        → beside h s (x ∷ xs) ≡ beside (λ (y : Y). y) s (map (λ p. (p.0, h p.1)) (x ∷ xs))
    go ih true e = rw e refl
    go ih false e = rw e ih

-- the view of a space, where it is one of these
abbrev view_at : Forest → SpaceId → List (SpaceId × RegionId) → Option (List FlatRange)
view_at f s spaces = option_map (λ r. view_of f s) (option_map (λ (p : SpaceId × RegionId). p.1) (find (is_space s) spaces))

view_found : (f : Forest) (s : SpaceId) (spaces : List (SpaceId × RegionId)) →
    beside (λ (rs : List FlatRange). rs) s (map (λ p. (p.0, view_of f p.0)) spaces) ≡ view_at f s spaces
view_found f s [] = refl
view_found f s (p ∷ ps) = go (view_found f s ps) (eqb p.0.0 s.0) refl
  where
    go : beside (λ (rs : List FlatRange). rs) s (map (λ p. (p.0, view_of f p.0)) ps) ≡ view_at f s ps → (b : Bool) → eqb p.0.0 s.0 ≡ b
        → beside (λ (rs : List FlatRange). rs) s (map (λ p. (p.0, view_of f p.0)) (p ∷ ps)) ≡ view_at f s (p ∷ ps)
    go ih true e =
        let same : p.0.0 ≡ s.0 = grind (arith, nat_tests, e) in
        let space : p.0 ≡ s = ap (λ (n : ℕ). let t : SpaceId = record { 0 = n } in t) same in
        rw e (ap (λ t. Some (view_of f t)) space)
    go ih false e = rw e ih

-- what is found, and that nothing is, by an option that says whether there is something
pub some_found : {A B : Type 0} (v w : A) (o : Option B) → Some v ≡ option_map (λ r. w) o → (v ≡ w) × (o ≡ None → ⊥)
some_found v w None e = absurd (none-some v (sym e))
some_found v w (Some r) e = (ap (λ o. unwrap_or o v) e, λ n. none-some r (sym n))

pub none_found : {A B : Type 0} (w : A) (o : Option B) → None ≡ option_map (λ r. w) o → o ≡ None
none_found w None e = refl
none_found w (Some r) e = absurd (none-some w e)

-- the atlas of a space is of its view, where the forest has the space
pub atlas_is : {X : Type 0} (h : X → List FlatRange) (f : Forest) (s : SpaceId) (atlases : List (SpaceId × X)) →
    map (λ p. (p.0, h p.1)) atlases ≡ views_of f →
    option_map (λ (p : SpaceId × X). h p.1) (find (λ p. p.0.0 == s.0) atlases) ≡ option_map (λ r. view_of f s) (root_of f s)
atlas_is h f s atlases e =
    found_map h s atlases ∙ ap (λ qs. option_map (λ (q : SpaceId × List FlatRange). q.1) (find (λ q. q.0.0 == s.0) qs)) e ∙ view_found f s f.spaces

any_map : {X Y : Type 0} (p : Y → Bool) (h : X → Y) (xs : List X) → list_any (λ x. p (h x)) xs ≡ list_any p (map h xs)
any_map p h [] = refl
any_map p h (x ∷ xs) = rw (any_map p h xs) refl

-- a leaf of some atlas is a leaf of some view
pub leaf_is : {X : Type 0} (h : X → List FlatRange) (f : Forest) (region : RegionId) (atlases : List (SpaceId × X)) →
    map (λ p. (p.0, h p.1)) atlases ≡ views_of f →
    list_any (λ p. has_leaf region (h p.1)) atlases ≡ list_any (λ p. has_leaf region (view_of f p.0)) f.spaces
leaf_is h f region atlases e =
    any_map (λ q. has_leaf region q.1) (λ p. (p.0, h p.1)) atlases ∙ ap (λ qs. list_any (λ q. has_leaf region q.1) qs) e
    ∙ sym (any_map (λ q. has_leaf region q.1) (λ p. (p.0, view_of f p.0)) f.spaces)
