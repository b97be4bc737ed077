-- Where a place is the memory of a leaf.
use Rattle.std.proofs.Common.{◌≡◌, ℕ, ◌+◌, ◌%◌, ◌≤◌, Bool, true, Option, Some, None, sym, ap, subst, ◌∙◌}
use Rattle.std.specs.Prelude.{IfSome, option_map, unwrap_or}
use Rattle.mem_base.specs.declared.map.ids.RegionId.{RegionId}
use Rattle.mem_base.specs.declared.map.spots.Spot.{Spot}
use Rattle.mem_base.specs.declared.map.forests.Node.{Node}
use Rattle.mem_base.specs.declared.access.cells.Place.{Place}
use Rattle.mem_base.specs.map.Kinds.{has_bytes}
use Rattle.mem_base.specs.map.Limits.{most_bytes, page_size}
use Rattle.mem_base.specs.map.Region.{node_of}
use Rattle.mem_base.specs.access.PlacesByRegion.{place_in}
use Rattle.mem_base.specs.access.EditionPlaces.{IsEdition}
use Rattle.mem_base.specs.access.AccessSteps.{Transfer, is_write, unanswered}
use Rattle.mem_base.specs.access.MemoryAccess.{in_memory}
use Rattle.mem_base.specs.access.Access.{at_leaf}
use Rattle.map_laws.proofs.SizeLaws.{size_whole}
use Rattle.generation.specs.Published.{Published}
use Rattle.access_base.specs.Leaves.{IsLeafRun}
use Rattle.access_base.proofs.LeafLaws.{region, leaf_place}
use Rattle.access_run.specs.Hands.{IsPlaceOf}
use Rattle.access_run.specs.Leaves.{IsMemoryAt}
use Rattle.mem_base.proofs.NodeLaws.{whole_bytes}

module _ (g : Published) (k : IsEdition g.forest g.places) (r : RegionId) (n : Node) (is : node_of g.forest.nodes r ≡ Some n) (spot : Spot)
    (here : spot.leaf ≡ r) (p : Place) (found : place_in g.places r ≡ Some p) where
  itself_there : IsPlaceOf g p
  itself_there = ap (place_in g.places) (leaf_place g k r n is p found).0 ∙ found

  ends : (bytes : ℕ) → IsLeafRun g.forest spot bytes → spot.offset + bytes ≤ n.size
  ends bytes run = go (node_of g.forest.nodes spot.leaf) (ap (node_of g.forest.nodes) here ∙ is) run.within
    where
      go : (o : Option Node) → o ≡ Some n → IfSome o (λ n. spot.offset + bytes ≤ n.size) → spot.offset + bytes ≤ n.size
      go None e h = cc
      go (Some m) e h = let same : m ≡ n = cc in subst (λ (x : Node). spot.offset + bytes ≤ x.size) same h

  -- memory
  pub memory_there : (write : Bool) → has_bytes n.kind ≡ true → ((t : Transfer) → is_write t ≡ write → at_leaf n.kind n spot t ≡ in_memory spot t)
      → IsMemoryAt g spot write p
  memory_there write bytes does =
      let size : p.bytes ≡ n.size = ap (λ (x : Place). x.bytes) (leaf_place g k r n is p found).1 ∙ whole_bytes n.kind n.size bytes in
      let t = size_whole n.kind n.size (region g k r n is).sized bytes in record {
        does = λ t w. ap (λ o. unwrap_or (option_map (λ (m : Node). at_leaf m.kind m spot t) o) (unanswered t)) (ap (node_of g.forest.nodes) here ∙ is) ∙ does t w;
        placed = itself_there;
        region = (leaf_place g k r n is p found).0 ∙ sym here;
        pages = ap (λ m. m % page_size) size ∙ t.1;
        few = subst (λ m. m ≤ most_bytes) (sym size) t.2;
        within = λ bytes run. subst (λ m. spot.offset + bytes ≤ m) (sym size) (ends bytes run);
      }
