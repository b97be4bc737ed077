-- Where memory is direct: it has a place, and all that is done there is done in memory.
use Rattle.std.proofs.Common.{◌≡◌, Bool, true, Some, None, refl, sym, subst}
use Rattle.mem_base.specs.declared.map.ids.RegionId.{RegionId}
use Rattle.mem_base.specs.declared.map.spots.Attrs.{Attrs}
use Rattle.mem_base.specs.declared.map.spots.Spot.{Spot}
use Rattle.mem_base.specs.declared.map.kinds.Kind.{Kind}
use Rattle.mem_base.specs.declared.map.kinds.Kind.TheVariants.{Ram, Rom, RomDevice}
use Rattle.mem_base.specs.declared.map.forests.Node.{Node}
use Rattle.mem_base.specs.declared.access.cells.Place.{Place}
use Rattle.mem_base.specs.map.Kinds.{has_bytes}
use Rattle.mem_base.specs.map.Region.{node_of}
use Rattle.mem_base.specs.views.Naming.{names}
use Rattle.mem_base.specs.access.PlacesByRegion.{place_in}
use Rattle.mem_base.specs.access.EditionPlaces.{IsEdition}
use Rattle.generation.specs.Published.{Published}
use Rattle.access_run.specs.Leaves.{IsMemoryAt}
use Rattle.access_base.proofs.LeafLaws.{bytes_words, leaf_has_place, region}
use Rattle.access_run.proofs.LeafLaws.{memory_there}
use Rattle.mem_base.specs.access.Windows.{is_direct_kind}
use Rattle.io_window.proofs.ChunkLaws.{direct_kind}

direct_bytes : (k : Kind) (write : Bool) (attrs : Attrs) → is_direct_kind k write attrs ≡ true → has_bytes k ≡ true
direct_bytes Ram write attrs e = refl
direct_bytes Rom write attrs e = refl
direct_bytes (RomDevice device) write attrs e = refl
direct_bytes _ write attrs e = cc

module _ (g : Published) (k : IsEdition g.forest g.places) (r : RegionId) (n : Node) (named : names g.forest r ≡ true)
    (is : node_of g.forest.nodes r ≡ Some n) (write : Bool) (attrs : Attrs) (direct : is_direct_kind n.kind write attrs ≡ true) where
  -- it has a place
  pub direct_placed : place_in g.places r ≡ None → ⊥
  direct_placed none =
      leaf_has_place g k r n is named none
      (bytes_words g k r n is n.kind n.size (region g k r n is).sized (direct_bytes n.kind write attrs direct))

-- which is that of its memory
pub direct_memory : (g : Published) (k : IsEdition g.forest g.places) (spot : Spot) (n : Node) (named : names g.forest spot.leaf ≡ true)
    (is : node_of g.forest.nodes spot.leaf ≡ Some n) (write : Bool) → is_direct_kind n.kind write spot.attrs ≡ true
    → (p : Place) → place_in g.places spot.leaf ≡ Some p → IsMemoryAt g spot write p
direct_memory g k spot n named is write direct p found =
    memory_there g k spot.leaf n is spot refl p found write (direct_bytes n.kind write spot.attrs direct)
    (λ t w. direct_kind n.kind n spot t (subst (λ (b : Bool). is_direct_kind n.kind b spot.attrs ≡ true) (sym w) direct))
