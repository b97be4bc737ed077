-- What two neighbouring searches find.
use Rattle.std.proofs.Common.{◌≡◌, ℕ, ◌+◌, ◌==◌, ◌&&◌, ◌||◌, not, Bool, true, eqb, eqb-true, List, Option, Some, None, sym}
use Rattle.std.proofs.Common.{refl, ap, ◌∙◌, arith}
use Rattle.std.proofs.lemmas.Bool.Decides.{nat_tests}
use Rattle.mem_base.specs.declared.map.ids.RegionId.{RegionId}
use Rattle.mem_base.specs.declared.map.spots.Spot.{Spot}
use Rattle.mem_base.specs.declared.map.spots.Attrs.{Attrs}
use Rattle.mem_base.specs.map.Attributes.{same_attrs}
use Rattle.mem_base.specs.map.Search.{Found, spot_of, path_of}
use Rattle.mem_base.specs.views.Flattened.{same_path}
use Rattle.mem_base.specs.access.Trails.{is_next_spot}
use Rattle.iommu.specs.Ways.{is_next_found}
use Rattle.std.proofs.lemmas.Bool.{and_parts}
use Rattle.mem_base.proofs.BoolLaws.{number_itself, holds_where, holds_if}
use Rattle.generation.proofs.HandedOn.{same_attrs-is, same_attrs-same, same_path-is, same_path-same}

abbrev attrs_of : Bool → Bool → Bool → Bool → ℕ → Attrs
attrs_of readonly nonvolatile romd unmergeable log =
    record { readonly = readonly; nonvolatile = nonvolatile; romd = romd; unmergeable = unmergeable; log = log }

abbrev region_of : ℕ → RegionId
region_of n = record { 0 = n }

-- what the byte after another has in common with it
pub record IsAfter (x y : Found) : Type 0 where
  pub leaf : y.0.leaf ≡ x.0.leaf
  pub offset : x.0.offset + 1 ≡ y.0.offset
  pub attrs : y.0.attrs ≡ x.0.attrs
  pub path : x.0.attrs.unmergeable ≡ true → y.1 ≡ x.1

pub is_after : (x y : Found) → is_next_found x y ≡ true → IsAfter x y
is_after x y e =
    let w = and_parts (is_next_spot x.0 y.0) (not x.0.attrs.unmergeable || same_path x.1 y.1) e in
    let p = and_parts ((x.0.leaf.0 == y.0.leaf.0) && same_attrs x.0.attrs y.0.attrs) (x.0.offset + 1 == y.0.offset) w.0 in
    let q = and_parts (x.0.leaf.0 == y.0.leaf.0) (same_attrs x.0.attrs y.0.attrs) p.0 in
    record {
      leaf = sym (ap region_of (eqb-true x.0.leaf.0 y.0.leaf.0 q.0));
      offset = eqb-true (x.0.offset + 1) y.0.offset p.1;
      attrs = sym (same_attrs-is x.0.attrs y.0.attrs q.1);
      path = λ u. sym (same_path-is x.1 y.1 (holds_where x.0.attrs.unmergeable (same_path x.1 y.1) w.1 u));
    }

next_spot : (l : RegionId) (o o' : ℕ) (t : Attrs) → o + 1 ≡ o'
    → is_next_spot (record { leaf = l; offset = o; attrs = t }) (record { leaf = l; offset = o'; attrs = t }) ≡ true
next_spot l o o' t e =
    let at : eqb (o + 1) o' ≡ true = grind (arith, nat_tests) in
    rw (number_itself l.0, same_attrs-same t, at) refl

-- a spot and the byte after it, on one path where they are unmergeable
pub next_found : (l : RegionId) (o o' : ℕ) (t : Attrs) (p q : List RegionId) → o + 1 ≡ o' → (t.unmergeable ≡ true → q ≡ p)
    → is_next_found (record { leaf = l; offset = o; attrs = t }, p) (record { leaf = l; offset = o'; attrs = t }, q) ≡ true
next_found l o o' t p q e path =
    let paths = holds_if t.unmergeable (same_path p q) (λ u. ap (same_path p) (path u) ∙ same_path-same p) in
    rw (next_spot l o o' t e, paths) refl

no_found : (x : Spot) → Some x ≡ None → ⊥
no_found x e = cc

-- nothing is found where no spot is
pub none_found : (o : Option Found) → spot_of o ≡ None → o ≡ None
none_found None e = refl
none_found (Some x) e = absurd (no_found x.0 e)

-- a spot is found on the path of the search
pub some_found : (o : Option Found) (s : Spot) → spot_of o ≡ Some s → o ≡ Some (s, path_of o)
some_found None s e = absurd (no_found s (sym e))
some_found (Some x) s e = let same : x.0 ≡ s = cc in ap (λ (t : Spot). let r : Option Found = Some (t, x.1) in r) same
