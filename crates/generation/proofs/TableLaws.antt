-- The tables of IOMMU regions.
use Rattle.std.proofs.Common.{◌≡◌, ◌+◌, Bool, true, false, cond, List, [], ◌∷◌, Some, None, refl, sym, ap, ◌∙◌, subst}
use Rattle.std.specs.List.{list_any}
use Rattle.std.specs.Prelude.{unwrap_or, option_map}
use Rattle.mem_base.specs.declared.map.ids.RegionId.{RegionId}
use Rattle.mem_base.specs.declared.map.forests.Node.{Node}
use Rattle.mem_base.specs.declared.map.forests.Forest.{Forest}
use Rattle.mem_base.specs.lists.Every.{Every}
use Rattle.mem_base.specs.map.Forest.{IsMade, IsRegion, IsClosedForest}
use Rattle.mem_base.specs.map.Kinds.{is_iommu}
use Rattle.mem_base.specs.map.Region.{has_id, node_of, of_region}
use Rattle.mem_base.specs.map.TableRefusals.{bad_page}
use Rattle.mem_base.specs.access.Translations.{translates}
use Rattle.map_laws.proofs.SoundCallLaws.{IsClosedForest-made}
use Rattle.std.proofs.lemmas.Bool.{or_parts}

none_there : (nodes : List Node) (r : RegionId) → list_any (λ n. is_iommu n.kind) nodes ≡ false → of_region nodes r false (λ n. is_iommu n.kind) ≡ false
none_there [] r h = refl
none_there (x ∷ xs) r h =
    let k = or_parts (is_iommu x.kind) (list_any (λ n. is_iommu n.kind) xs) h in
    by (has_id r x) refl k.0 (none_there xs r k.1)
  where
    by : (b : Bool) → has_id r x ≡ b → is_iommu x.kind ≡ false → of_region xs r false (λ n. is_iommu n.kind) ≡ false → of_region (x ∷ xs) r false (λ n. is_iommu n.kind) ≡ false
    by true c k ih = ap (λ (b : Bool). unwrap_or (option_map (λ (m : Node). is_iommu m.kind) (cond b (Some x) (node_of xs r))) false) c ∙ k
    by false c k ih = ap (λ (b : Bool). unwrap_or (option_map (λ (m : Node). is_iommu m.kind) (cond b (Some x) (node_of xs r))) false) c ∙ ih

-- where there is no IOMMU region, no region translates
pub none_translates : (f : Forest) (r : RegionId) → list_any (λ n. is_iommu n.kind) f.nodes ≡ false → translates f r ≡ false
none_translates f r h = none_there f.nodes r h

no_some : (n : Node) → None ≡ Some n → ⊥
no_some n t = cc

node_has : (P : Node → Type 0) (nodes : List Node) (r : RegionId) (n : Node) → Every P nodes → node_of nodes r ≡ Some n → P n
node_has P [] r n h t = absurd (no_some n t)
node_has P (x ∷ xs) r n h t = by (has_id r x) refl (λ u. node_has P xs r n h.1 u)
  where
    by : (b : Bool) → has_id r x ≡ b → (node_of xs r ≡ Some n → P n) → P n
    by true c ih = let same : x ≡ n = let v = sym (ap (λ (b : Bool). cond b (Some x) (node_of xs r)) c) ∙ t in cc in subst P same h.0
    by false c ih = ih (sym (ap (λ (b : Bool). cond b (Some x) (node_of xs r)) c) ∙ t)

-- the pages of a region of a forest that calls make
pub pages_made : (f : Forest) (r : RegionId) (n : Node) → IsMade f → node_of f.nodes r ≡ Some n
    → Every (λ e. bad_page e.iova (e.mask + 1) ≡ None) n.entries
pages_made f r n m there =
    let closed = subst IsClosedForest m.made (IsClosedForest-made m.calls m.fitting) in
    (node_has (IsRegion f.nodes) f.nodes r n closed.regions there).pages
