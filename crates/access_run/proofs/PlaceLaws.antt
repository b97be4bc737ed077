-- Laws of the places of regions that a forest names, and of that of the notifiers.
use Rattle.std.proofs.Common.{◌≡◌, ℕ, ◌+◌, ◌/◌, ◌%◌, ◌<◌, ◌≤◌, true, [], ◌∷◌, Option, Some, None, refl, sym, ap, subst, ◌∙◌, arith}
use Rattle.std.specs.Prelude.{IfSome, IsSome, IsSomeAnd}
use Rattle.mem_base.specs.declared.map.ids.RegionId.{RegionId}
use Rattle.mem_base.specs.declared.map.kinds.Kind.{Kind}
use Rattle.mem_base.specs.declared.map.kinds.Kind.TheVariants.{Ram, RomDevice, Io}
use Rattle.mem_base.specs.declared.map.kinds.Device.{Device}
use Rattle.mem_base.specs.declared.map.forests.Node.{Node}
use Rattle.mem_base.specs.declared.access.cells.Place.{Place}
use Rattle.mem_base.specs.map.Kinds.{has_bytes, device_of}
use Rattle.mem_base.specs.map.Region.{node_of}
use Rattle.mem_base.specs.views.Naming.{names}
use Rattle.mem_base.specs.access.PlacesByRegion.{notifiers, place_in}
use Rattle.mem_base.specs.access.Places.{extent_of, words_of, data_words}
use Rattle.mem_base.specs.access.EditionPlaces.{IsEdition}
use Rattle.mem_base.specs.access.Plans.{Request}
use Rattle.mem_base.specs.access.PlanSteps.{by_region, by_kind, by_register}
use Rattle.mem_base.proofs.ForestLaws.{id_of}
use Rattle.map_laws.proofs.SizeLaws.{size_whole}
use Rattle.access_cut.proofs.Good.{some_registers}
use Rattle.generation.specs.Published.{Published}
use Rattle.access_base.proofs.LeafLaws.{region, bytes_words, good, leaf_has_place, leaf_place, notifiers_found}
use Rattle.access_run.specs.RegionPlaces.{AreNotifiersOf, AreRegistersOf, IsMemoryOf}
use Rattle.mem_base.proofs.NodeLaws.{whole_bytes}
use Rattle.mem_base.specs.map.Limits.{most_bytes, page_size}

register_words : (kind : Kind) (device : Device) (size : ℕ) → device_of kind ≡ Some device → 1 ≤ device.regs → 0 < words_of (extent_of kind size)
register_words (RomDevice d) device size e some =
    let same : d ≡ device = cc in let l : 1 ≤ d.regs = subst (λ (x : Device). 1 ≤ x.regs) (sym same) some in omega (arith, l)
register_words (Io d) device size e some =
    let same : d ≡ device = cc in let l : 1 ≤ d.regs = subst (λ (x : Device). 1 ≤ x.regs) (sym same) some in omega (arith, l)
register_words Ram device size e some = cc
register_words _ device size e some = cc

registers : (kind : Kind) (device : Device) (size : ℕ) → device_of kind ≡ Some device → (extent_of kind size).regs ≡ device.regs
registers (RomDevice d) device size e = let same : d ≡ device = cc in ap (λ (x : Device). x.regs) same
registers (Io d) device size e = let same : d ≡ device = cc in ap (λ (x : Device). x.regs) same
registers _ device size e = cc

module _ (g : Published) (k : IsEdition g.forest g.places) (r : RegionId) (n : Node) (is : node_of g.forest.nodes r ≡ Some n) where
  -- memory has a place
  memory_placed : names g.forest r ≡ true → has_bytes n.kind ≡ true → place_in g.places r ≡ None → ⊥
  memory_placed named bytes none =
      leaf_has_place g k r n is named none (bytes_words g k r n is n.kind n.size (region g k r n is).sized bytes)

  memory_place : (p : Place) → place_in g.places r ≡ Some p → has_bytes n.kind ≡ true → IsMemoryOf g r p
  memory_place p found bytes =
      let size : p.bytes ≡ n.size = ap (λ (x : Place). x.bytes) (leaf_place g k r n is p found).1 ∙ whole_bytes n.kind n.size bytes in
      let t = size_whole n.kind n.size (region g k r n is).sized bytes in record {
        placed = ap (place_in g.places) (leaf_place g k r n is p found).0 ∙ found;
        region = (leaf_place g k r n is p found).0;
        words = let w : n.size % page_size ≡ 0 = t.1 in omega (arith, w, size);
        few = let l : n.size ≤ most_bytes = t.2 in omega (arith, l, size);
        pages = λ page h. subst (λ m. page < m / page_size) (sym size) (subst (λ o. IfSome o (λ (n : Node). page < n.size / page_size)) is h);
        within = λ offset bytes h.
            subst (λ m. offset + bytes ≤ m) (sym size) (subst (λ o. IfSome o (λ (n : Node). offset + bytes ≤ n.size)) is h);
      }

  -- registers too
  registers_placed : names g.forest r ≡ true → (device : Device) → device_of n.kind ≡ Some device → place_in g.places r ≡ None → ⊥
  registers_placed named device e none =
      leaf_has_place g k r n is named none (register_words n.kind device n.size e (some_registers device (good g k r n is device e)))

  pub registers_place : (p : Place) (device : Device) → place_in g.places r ≡ Some p → device_of n.kind ≡ Some device → AreRegistersOf g r p device
  registers_place p device found e = record {
    placed = ap (place_in g.places) (leaf_place g k r n is p found).0 ∙ found;
    region = (leaf_place g k r n is p found).0;
    regs = ap (λ (x : Place). x.regs) (leaf_place g k r n is p found).1 ∙ registers n.kind device n.size e;
    good = good g k r n is device e;
    does = λ offset size q. ap (λ o. by_region o offset size q) is ∙ does n.kind refl e offset size q;
  }
    where
      bytes : (extent_of n.kind n.size).bytes ≡ p.bytes
      bytes = sym (ap (λ (x : Place). x.bytes) (leaf_place g k r n is p found).1)

      id : n.id ≡ r
      id = id_of g.forest.nodes r n is

      does : (kind : Kind) → n.kind ≡ kind → device_of kind ≡ Some device → (offset size : ℕ) (q : Request)
          → by_kind n.kind n offset size q ≡ by_register r device (data_words p.bytes) offset size q ∷ []
      does (RomDevice d) h e offset size q =
          let same : d ≡ device = cc in
          let all : data_words n.size ≡ data_words p.bytes = ap (λ m. data_words (extent_of m n.size).bytes) (sym h) ∙ ap data_words bytes in
          ap (λ m. by_kind m n offset size q) h ∙ (λ i. by_register (id i) (same i) (all i) offset size q ∷ [])
      does (Io d) h e offset size q =
          let same : d ≡ device = cc in
          let all : 0 ≡ data_words p.bytes = ap (λ m. data_words (extent_of m n.size).bytes) (sym h) ∙ ap data_words bytes in
          ap (λ m. by_kind m n offset size q) h ∙ (λ i. by_register (id i) (same i) (all i) offset size q ∷ [])
      does Ram h e offset size q = cc
      does _ h e offset size q = cc

-- of a region of which it is known what it is

module _ (g : Published) (k : IsEdition g.forest g.places) (r : RegionId) where
  pub no_memory : names g.forest r ≡ true → IsSomeAnd (node_of g.forest.nodes r) (λ n. has_bytes n.kind ≡ true) → place_in g.places r ≡ None → ⊥
  no_memory named h none = go (node_of g.forest.nodes r) refl h
    where
      go : (o : Option Node) → node_of g.forest.nodes r ≡ o → IsSomeAnd o (λ n. has_bytes n.kind ≡ true) → ⊥
      go None e h = h
      go (Some n) e h = memory_placed g k r n e named h none

  pub memory_at : (p : Place) → IsSomeAnd (node_of g.forest.nodes r) (λ n. has_bytes n.kind ≡ true) → place_in g.places r ≡ Some p → IsMemoryOf g r p
  memory_at p h found = go (node_of g.forest.nodes r) refl h
    where
      go : (o : Option Node) → node_of g.forest.nodes r ≡ o → IsSomeAnd o (λ n. has_bytes n.kind ≡ true) → IsMemoryOf g r p
      go None e h = absurd h
      go (Some n) e h = memory_place g k r n e p found h

  pub no_registers : names g.forest r ≡ true → IsSomeAnd (node_of g.forest.nodes r) (λ n. IsSome (device_of n.kind)) → place_in g.places r ≡ None → ⊥
  no_registers named h none = go (node_of g.forest.nodes r) refl h
    where
      has : (n : Node) → node_of g.forest.nodes r ≡ Some n → (o : Option Device) → device_of n.kind ≡ o → IsSome o → ⊥
      has n e None d h = cc
      has n e (Some device) d h = registers_placed g k r n e named device d none

      go : (o : Option Node) → node_of g.forest.nodes r ≡ o → IsSomeAnd o (λ n. IsSome (device_of n.kind)) → ⊥
      go None e h = h
      go (Some n) e h = has n e (device_of n.kind) refl h

-- the notifiers have a place where events are shown

pub notifiers_at : (g : Published) → IsEdition g.forest g.places → (p : Place) → place_in g.places notifiers ≡ Some p → AreNotifiersOf g p
notifiers_at g k p found = let t = notifiers_found g k p found in record { placed = t.0; region = t.1; words = t.2 }
