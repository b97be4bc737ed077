-- A region that has bytes has its place, with a word for each 8 of them, and with its mark words.
use Rattle.std.proofs.Common.{◌≡◌, ℕ, ◌+◌, ◌<◌, ◌≤◌, Bool, true, false, List, [], ◌∷◌, sym, refl, ap, ◌∙◌, subst, arith, Some, None}
use Rattle.std.specs.Prelude.{not, nat_lt, ◌/◌, ◌%◌}
use Rattle.std.proofs.lemmas.Bool.Decides.{nat_tests}
use Rattle.mem_base.specs.declared.map.ids.RegionId.{RegionId}
use Rattle.mem_base.specs.declared.map.kinds.Kind.{Kind}
use Rattle.mem_base.specs.declared.map.kinds.Kind.TheVariants.{Ram, Rom, RomDevice}
use Rattle.mem_base.specs.declared.map.forests.Node.{Node}
use Rattle.mem_base.specs.declared.map.forests.Forest.{Forest}
use Rattle.mem_base.specs.declared.map.refusals.Refusal.TheVariants.{WrongKind, BadSize}
use Rattle.mem_base.specs.declared.access.cells.Place.{Place}
use Rattle.mem_base.specs.map.Kinds.{has_bytes}
use Rattle.mem_base.specs.map.Region.{node_of}
use Rattle.mem_base.specs.map.Refusals.{refuse_where, unknown_region, wrong_kind}
use Rattle.mem_base.specs.map.Forest.{IsMade, IsRegion, IsClosedForest}
use Rattle.mem_base.specs.access.PlacesByRegion.{place_in}
use Rattle.mem_base.specs.access.Places.{extent, extent_of, words_of, place_from}
use Rattle.mem_base.specs.machine.Orders.{ends_past, harvest_refusal, load_refusal}
use Rattle.mem_base.proofs.ForestLaws.{every_node_of}
use Rattle.map_laws.proofs.RefusalLaws.{each_none, known_node, refuse_where-none}
use Rattle.map_laws.proofs.SizeLaws.{size_whole}
use Rattle.map_laws.proofs.SoundCallLaws.{IsClosedForest-made}
use Rattle.history_laws.specs.BackedForests.{BacksForest}
use Rattle.history_laws.proofs.PlaceLaws.{place_of_region, some_is}
use Rattle.mem_base.proofs.PlaceLaws.{found_has}
use Rattle.mem_base.specs.map.Limits.{page_size}

module _ (f : Forest) (pool_words : ℕ) (ps : List Place) (backs : BacksForest pool_words f ps) where
  held_data : (kind : Kind) (size : ℕ) → has_bytes kind ≡ true → size / 8 ≤ words_of (extent_of kind size)
  held_data Ram size e = omega arith
  held_data Rom size e = omega arith
  held_data (RomDevice device) size e = omega arith
  held_data _ size e = absurd (grind arith)

  record HoldsBytes (region : RegionId) (n : Node) : Type 0 where
    place : Place
    here : place_in ps region ≡ Some place
    pages : n.size % page_size ≡ 0
    room : n.size / 8 ≤ place.words
    sized : place.words ≡ words_of (extent place.bytes place.regs)

  holds_bytes : (region : RegionId) (n : Node) → node_of f.nodes region ≡ Some n → IsRegion f.nodes n → has_bytes n.kind ≡ true → HoldsBytes region n
  holds_bytes region n is sized memory =
      let size = size_whole n.kind n.size sized.sized memory in
      let least = held_data n.kind n.size memory in
      let some : 0 < words_of (extent_of n.kind n.size) = above n.size (words_of (extent_of n.kind n.size)) size.0 size.1 least in
      let p = some_is (place_in ps region) (backs.regions region n is some) in
      let its = place_of_region ps region p.0 p.1 in
      let fits = found_has (λ q. (n : Node) → node_of f.nodes q.region ≡ Some n → q ≡ place_from q.region q.start (extent_of n.kind n.size))
      ps region p.0 backs.fits p.1 n (ap (node_of f.nodes) its.1 ∙ is) in record {
        place = p.0;
        here = p.1;
        pages = size.1;
        room = wide p.0 (words_of (extent_of n.kind n.size)) n.size (ap (λ (q : Place). q.words) fits) least;
        sized = subst (λ (q : Place). q.words ≡ words_of (extent q.bytes q.regs)) (sym fits) refl;
      }
    where
      above : (size words : ℕ) → 0 < size → size % page_size ≡ 0 → size / 8 ≤ words → 0 < words
      above size words some pages room = omega (arith, some, pages, room)

      wide : (p : Place) (words size : ℕ) → p.words ≡ words → size / 8 ≤ words → size / 8 ≤ p.words
      wide p words size e l = omega (arith, e, l)

  is_memory : (n : Node) → not (has_bytes n.kind) ≡ false → has_bytes n.kind ≡ true
  is_memory n e = go (has_bytes n.kind) e
    where
      go : (b : Bool) → not b ≡ false → b ≡ true
      go true e = refl
      go false e = absurd (grind arith)

  -- a region of the forest that has bytes
  record Holder (region : RegionId) : Type 0 where
    node : Node
    here : node_of f.nodes region ≡ Some node
    holds : HoldsBytes region node

  holder : IsMade f → (region : RegionId) → unknown_region f region ≡ None → wrong_kind has_bytes f region ≡ None → Holder region
  holder made region known kind =
      let n = known_node f region known in
      let memory = is_memory n.0 (refuse_where-none (λ n. not (has_bytes n.kind)) (WrongKind region) (node_of f.nodes region) n.0 n.1 kind) in
      let closed : IsClosedForest f = subst IsClosedForest made.made (IsClosedForest-made made.calls made.fitting) in
      let sized : IsRegion f.nodes n.0 = (every_node_of (IsRegion f.nodes) f.nodes region n.0 n.1 closed.regions).0 in
      record { node = n.0; here = n.1; holds = holds_bytes region n.0 n.1 sized memory }

  -- where marks are harvested
  pub record HasMarks (region : RegionId) : Type 0 where
    pub place : Place
    pub here : place_in ps region ≡ Some place
    pub sized : place.words ≡ words_of (extent place.bytes place.regs)

  pub has_marks : IsMade f → (region : RegionId) → harvest_refusal f region ≡ None → HasMarks region
  has_marks made region none =
      let each = each_none (unknown_region f region ∷ wrong_kind has_bytes f region ∷ []) none in
      let h = holder made region each.0 each.1.0 in
      record { place = h.holds.place; here = h.holds.here; sized = h.holds.sized }

  -- where bytes are loaded
  pub record HasRoom (region : RegionId) (offset count : ℕ) : Type 0 where
    pub place : Place
    pub here : place_in ps region ≡ Some place
    pub room : (i : ℕ) → i < offset + count → i / 8 < place.words

  pub has_room : IsMade f → (region : RegionId) (offset count : ℕ) → load_refusal f region offset count ≡ None → HasRoom region offset count
  has_room made region offset count none =
      let each = each_none (unknown_region f region ∷ wrong_kind has_bytes f region ∷ refuse_where (ends_past offset count) BadSize (node_of f.nodes region) ∷ []) none in
      let k = holder made region each.0 each.1.0 in
      let h = k.holds in
      let ends = within k.node (refuse_where-none (ends_past offset count) BadSize (node_of f.nodes region) k.node k.here each.1.1.0) in record {
        place = h.place;
        here = h.here;
        room = λ i l. inside i k.node.size h.place.words (omega (arith, l, ends)) h.pages h.room;
      }
    where
      within : (n : Node) → nat_lt n.size (offset + count) ≡ false → offset + count ≤ n.size
      within n e = grind (arith, nat_tests, e)

      inside : (start size words : ℕ) → start < size → size % page_size ≡ 0 → size / 8 ≤ words → start / 8 < words
      inside start size words l pages room = omega (arith, l, pages, room)
