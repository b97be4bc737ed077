-- What spaces show, of which some are not touched.
use Rattle.std.proofs.Common.{◌≡◌, ◌⊎◌, inl, inr, ℕ, zero, suc, ◌<◌, ◌≤◌, if◌then◌else◌, Bool, true, false, eqb, List, [], ◌∷◌, map, length, get_or, drop, Some}
use Rattle.std.proofs.Common.{IsSome, refl, sym, ap, subst, ◌∙◌, arith}
use Rattle.std.specs.Prelude.{find, option_map}
use Rattle.std.proofs.lemmas.Bool.Decides.{nat_tests}
use Rattle.mem_base.specs.declared.map.ids.RegionId.{RegionId}
use Rattle.mem_base.specs.declared.map.ids.SpaceId.{SpaceId}
use Rattle.mem_base.specs.declared.map.forests.Forest.{Forest}
use Rattle.mem_base.specs.declared.views.flat.FlatRange.{FlatRange}
use Rattle.mem_base.specs.lists.Every.{Every}
use Rattle.mem_base.specs.map.Search.{is_space, root_of}
use Rattle.mem_base.specs.map.Forest.{IsMade}
use Rattle.mem_base.specs.map.Touched.{is_same_region}
use Rattle.mem_base.specs.views.Flattened.{view_of}
use Rattle.mem_base.specs.lists.Booleans.{bool_eq}
use Rattle.mem_base.specs.views.View.{IsView}
use Rattle.view_laws.proofs.TouchedLaws.{region_same}
use Rattle.change_spans.specs.declared.reaches.Reach.{Reach}
use Rattle.change_spans.specs.declared.reaches.Span.{Span}
use Rattle.change_spans.specs.Reaches.{has_in, IsOver, ShowsWithin}
use Rattle.view_splice.specs.Splices.{StaysOutside}
use Rattle.touched_spaces.proofs.ViewedLaws.{view_made}
use Rattle.mem_base.proofs.BoolLaws.{bool_same}

-- each atlas is of the view of its space
pub each_view : {X : Type 0} (h : X → List FlatRange) (f : Forest) (spaces : List (SpaceId × RegionId)) (atlases : List (SpaceId × X)) →
    map {B = SpaceId × List FlatRange} (λ p. (p.0, h p.1)) atlases ≡ map (λ p. (p.0, view_of f p.0)) spaces → Every (λ p. h p.1 ≡ view_of f p.0) atlases
each_view h f spaces [] e = tt
each_view h f [] (p ∷ ps) e = let none = ap (λ ts. length ts) e in absurd (grind arith)
each_view {X = X} h f (q ∷ qs) (p ∷ ps) e =
    let heads : (p.0, h p.1) ≡ (q.0, view_of f q.0) = ap (λ (ts : List (SpaceId × List FlatRange)). get_or ts 0 (p.0, h p.1)) e in
    let id : p.0 ≡ q.0 = ap (λ (t : SpaceId × List FlatRange). t.0) heads in
    let tails = ap (λ (ts : List (SpaceId × List FlatRange)). drop 1 ts) e in
    (ap (λ (t : SpaceId × List FlatRange). t.1) heads ∙ ap (view_of f) (sym id), each_view h f qs ps tails)

-- the spaces of the atlases are those of the forest
pub same_spaces : {X Y : Type 0} (h : X → List FlatRange) (f : Forest) (g : SpaceId → Y) (spaces : List (SpaceId × RegionId)) (atlases : List (SpaceId × X)) →
    map {B = SpaceId × List FlatRange} (λ p. (p.0, h p.1)) atlases ≡ map (λ p. (p.0, view_of f p.0)) spaces → map (λ p. g p.0) atlases ≡ map (λ p. g p.0) spaces
same_spaces {X = X} {Y = Y} h f g spaces atlases e =
    firsts h g atlases ∙ ap (λ (ts : List (SpaceId × List FlatRange)). map (λ t. g t.0) ts) e ∙ sym (seconds spaces)
  where
    firsts : {X : Type 0} (h : X → List FlatRange) (g : SpaceId → Y) (xs : List (SpaceId × X)) →
        map (λ p. g p.0) xs ≡ map (λ (t : SpaceId × List FlatRange). g t.0) (map {B = SpaceId × List FlatRange} (λ p. (p.0, h p.1)) xs)
    firsts h g [] = refl
    firsts h g (x ∷ xs) = ap (λ rest. g x.0 ∷ rest) (firsts h g xs)

    seconds : (qs : List (SpaceId × RegionId)) → map (λ p. g p.0) qs
        ≡ map (λ (t : SpaceId × List FlatRange). g t.0) (map {B = SpaceId × List FlatRange} (λ p. (p.0, view_of f p.0)) qs)
    seconds [] = refl
    seconds (q ∷ qs) = ap (λ rest. g q.0 ∷ rest) (seconds qs)

-- each space of a forest has its root
found_root : (spaces : List (SpaceId × RegionId)) (i : ℕ) (d : SpaceId × RegionId) → i < length spaces
    → IsSome (option_map (λ (p : SpaceId × RegionId). p.1) (find (is_space (get_or spaces i d).0) spaces))
found_root [] i d l = absurd (omega arith)
found_root (p ∷ ps) zero d l = let t : eqb p.0.0 p.0.0 ≡ true = grind (arith, nat_tests) in rw t refl
found_root (p ∷ ps) (suc i) d l = go (found_root ps i d (omega arith)) (is_space (get_or ps i d).0 p) refl
  where
    go : IsSome (option_map (λ (p : SpaceId × RegionId). p.1) (find (is_space (get_or ps i d).0) ps)) → (b : Bool) → is_space (get_or ps i d).0 p ≡ b
        → IsSome (option_map (λ (p : SpaceId × RegionId). p.1) (if b then Some p else find (is_space (get_or ps i d).0) ps))
    go rest true e = refl
    go rest false e = rest

pub rooted : (f : Forest) (spaces : List (SpaceId × RegionId)) (i : ℕ) (d : SpaceId × RegionId) → spaces ≡ f.spaces → i < length spaces
    → IsSome (root_of f (get_or spaces i d).0)
rooted f spaces i d e l =
    subst (λ (qs : List (SpaceId × RegionId)). IsSome (option_map (λ (p : SpaceId × RegionId). p.1) (find (is_space (get_or spaces i d).0) qs))) e
    (found_root spaces i d l)

-- what a space shows differs only in the one span over all spans within which a change is seen
pub stays_outside : (f g : Forest) (s : SpaceId) (root : RegionId) (spans : List Reach) (span : Span) → ShowsWithin f g spans → root_of f s ≡ Some root →
    root_of g s ≡ Some root → f.global ≡ g.global → IsOver spans root span → StaysOutside f g s span.first span.last
stays_outside f g s root spans span within is is' global over a out =
    within s root is is' global a (elim (has_in spans root a) as (λ b. has_in spans root a ≡ b → b ≡ false) [
      | true ↦ λ e. let o = over a e in let low = o.0 in let high = o.1 in absurd (apart low high out)
      | false ↦ λ e. refl
    ] refl)
  where
    apart : span.first ≤ a → a ≤ span.last → (a < span.first) ⊎ (span.last < a) → ⊥
    apart low high (inl l) = absurd (omega arith)
    apart low high (inr l) = absurd (omega arith)

-- the view of the generation, rendered again within that span, is the view of the forest
pub view_within : (f g : Forest) (s : SpaceId) (root : RegionId) (spans : List Reach) (span : Span) (old new : List FlatRange) → IsMade f →
    ShowsWithin f g spans → is_same_region (root_of f s) (root_of g s) ≡ true → bool_eq f.global g.global ≡ true → root_of g s ≡ Some root →
    IsOver spans root span → old ≡ view_of f s → ((h : Forest) → IsView h s old → StaysOutside h g s span.first span.last → IsView g s new) → IsView g s new
view_within f g s root spans span old new made within roots global is over shown again =
    again f (subst (IsView f s) (sym shown) (view_made f s made))
    (stays_outside f g s root spans span within (region_same (root_of f s) (root_of g s) roots ∙ is) is (bool_same f.global g.global global) over)
