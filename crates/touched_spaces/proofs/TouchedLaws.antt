-- Whether a space is touched, by the regions that are reached in it.
use Rattle.std.proofs.Common.{◌≡◌, ℕ, ◌==◌, ◌&&◌, ◌||◌, not, Bool, true, false, eqb, List, [], ◌∷◌, map, filter, Option, Some, None, refl, sym, ap, ◌∙◌, arith}
use Rattle.std.specs.Prelude.{find, option_map, unwrap_or}
use Rattle.std.specs.List.{list_any}
use Rattle.std.proofs.lemmas.Bool.Decides.{nat_tests}
use Rattle.std.proofs.lemmas.List.Folds.{list_any-append}
use Rattle.std.proofs.lemmas.Option.{none-some}
use Rattle.mem_base.specs.declared.map.ids.RegionId.{RegionId}
use Rattle.mem_base.specs.declared.map.ids.SpaceId.{SpaceId}
use Rattle.mem_base.specs.declared.map.forests.Node.{Node}
use Rattle.mem_base.specs.declared.map.forests.Forest.{Forest}
use Rattle.mem_base.specs.lists.Booleans.{bool_eq}
use Rattle.mem_base.specs.map.Region.{node_of}
use Rattle.mem_base.specs.map.Order.{ids_of}
use Rattle.mem_base.specs.map.Search.{is_space, root_of}
use Rattle.mem_base.specs.map.Touched.{is_same_region, is_reached_from, reached, stays_alike, is_touched}
use Rattle.change_laws.specs.Meeting.{is_among, OthersStay}
use Rattle.change_laws.specs.Touching.{is_touching, is_touched_by}
use Rattle.change_laws.proofs.TouchingLaws.{touched_by_changed}
use Rattle.touched_spaces.specs.Reached.{regions_at, reached_in}

-- the region is not the same in both forests
abbrev pub is_other : Forest → Forest → RegionId → Bool
is_other f g r = not (stays_alike (node_of f.nodes r) (node_of g.nodes r))

pub touched_by : (f g : Forest) (s : SpaceId) → is_same_region (root_of f s) (root_of g s) ≡ true → bool_eq f.global g.global ≡ true
    → is_touched f g s ≡ (list_any (is_other f g) (reached f s) || list_any (is_other f g) (reached g s))
touched_by f g s roots global = rw (roots, global) (list_any-append (is_other f g) (reached f s) (reached g s))

none_kept : (nodes : List Node) → filter (λ n. false) nodes ≡ []
none_kept [] = refl
none_kept (n ∷ ns) = none_kept ns

-- in a space that is not there nothing is reached
none_reached : (f : Forest) (s : SpaceId) → root_of f s ≡ None → reached f s ≡ []
none_reached f s e =
    ap (λ o. ids_of (filter (λ n. is_reached_from f.nodes o n.id) f.nodes)) e ∙ ap ids_of (none_kept f.nodes)

abbrev at_space : Forest → SpaceId → Option (SpaceId × RegionId) → List RegionId
at_space f s None = []
at_space f s (Some p) = reached f s

found_reach : (f : Forest) (s : SpaceId) (spaces : List (SpaceId × RegionId)) →
    regions_at (find (λ p. p.0.0 == s.0) (map {B = SpaceId × List RegionId} (λ p. (p.0, reached f p.0)) spaces)) ≡ at_space f s (find (is_space s) spaces)
found_reach f s [] = refl
found_reach f s (p ∷ ps) = go (found_reach f s ps) (eqb p.0.0 s.0) refl
  where
    go : regions_at (find (λ p. p.0.0 == s.0) (map {B = SpaceId × List RegionId} (λ p. (p.0, reached f p.0)) ps)) ≡ at_space f s (find (is_space s) ps)
        → (b : Bool) → eqb p.0.0 s.0 ≡ b →
        regions_at (find (λ p. p.0.0 == s.0) (map {B = SpaceId × List RegionId} (λ p. (p.0, reached f p.0)) (p ∷ ps)))
        ≡ at_space f s (find (is_space s) (p ∷ ps))
    go ih true e =
        let same : p.0.0 ≡ s.0 = grind (arith, nat_tests, e) in
        let space : p.0 ≡ s = ap (λ (n : ℕ). let t : SpaceId = record { 0 = n } in t) same in
        rw e (ap (reached f) space)
    go ih false e = rw e ih

-- what is known of a space are the regions that are reached in it
pub known_reach : (f : Forest) (s : SpaceId) (known : List (SpaceId × List RegionId)) → known ≡ reached_in f
    → regions_at (find (λ p. p.0.0 == s.0) known) ≡ reached f s
known_reach f s known e =
    ap (λ (ks : List (SpaceId × List RegionId)). regions_at (find (λ p. p.0.0 == s.0) ks)) e ∙ found_reach f s f.spaces
    ∙ go (find (is_space s) f.spaces) refl
  where
    go : (o : Option (SpaceId × RegionId)) → find (is_space s) f.spaces ≡ o → at_space f s o ≡ reached f s
    go None e = sym (none_reached f s (ap (λ o. option_map (λ p. p.1) o) e))
    go (Some p) e = refl

-- what one of two tests makes of the two together
pub either_first : (a b x y : Bool) → x ≡ (a || b) → y ≡ a → y ≡ true → y ≡ x
either_first a b x y e f t = t ∙ sym (e ∙ ap (λ z. z || b) (sym f ∙ t))

pub either_second : (a b x y z : Bool) → x ≡ (a || b) → y ≡ a → y ≡ false → z ≡ b → z ≡ x
either_second a b x y z e f n s = s ∙ sym (e ∙ ap (λ w. w || b) (sym f ∙ n))

-- the regions that are known of a space are those that are reached in it
pub known_some : (f : Forest) (s : SpaceId) (known : List (SpaceId × List RegionId)) (rs : List RegionId) → known ≡ reached_in f
    → Some rs ≡ option_map (λ p. p.1) (find (λ p. p.0.0 == s.0) known) → rs ≡ reached f s
known_some f s known rs e found = go (find (λ p. p.0.0 == s.0) known) found (known_reach f s known e)
  where
    go : (o : Option (SpaceId × List RegionId)) → Some rs ≡ option_map (λ p. p.1) o → regions_at o ≡ reached f s → rs ≡ reached f s
    go None h at = absurd (none-some rs (sym h))
    go (Some p) h at = ap (λ o. unwrap_or o rs) h ∙ at

-- whether a space with one root and one global logging is touched, by the regions that may have changed
pub touched_by_noted : (f g : Forest) (s : SpaceId) (rs : List RegionId) (b : Bool) → OthersStay f g rs →
    is_same_region (root_of f s) (root_of g s) ≡ true → bool_eq f.global g.global ≡ true → b ≡ list_any (is_touching f g s) rs → b ≡ is_touched f g s
touched_by_noted f g s rs b others roots global e =
    let by : is_touched_by rs f g s ≡ list_any (is_touching f g s) rs = rw (roots, global) refl in
    e ∙ sym (touched_by_changed rs f g s others ∙ by)

and_none : (a b c : Bool) → c ≡ b → c ≡ false → (a && b) ≡ false
and_none true b c e f = sym e ∙ f
and_none false b c e f = refl

-- a region that does not differ touches nothing
pub touches_not : (f g : Forest) (s : SpaceId) (r : RegionId) (b : Bool) → b ≡ is_other f g r → b ≡ false → false ≡ is_touching f g s r
touches_not f g s r b e stays = sym (and_none (is_among (reached f s) r || is_among (reached g s) r) (is_other f g r) b e stays)

and_all : (a b c : Bool) → c ≡ b → c ≡ true → (a && b) ≡ a
and_all true b c e t = sym e ∙ t
and_all false b c e t = refl

-- one that does touches a space in which it is reached
pub touches_where : (f g : Forest) (s : SpaceId) (r : RegionId) (b : Bool) → b ≡ is_other f g r → b ≡ true →
    (is_among (reached f s) r || is_among (reached g s) r) ≡ is_touching f g s r
touches_where f g s r b e differs = sym (and_all (is_among (reached f s) r || is_among (reached g s) r) (is_other f g r) b e differs)
