-- Laws of who answers at a leaf.
use Rattle.std.proofs.Common.{◌≡◌, ℕ, ◌+◌, ◌%◌, ◌^◌, ◌≤◌, ◌&&◌, not, ◌⊎◌, inl, inr, Bool, true, false, Option, Some, None}
use Rattle.std.proofs.Common.{if◌then◌else◌, refl, sym, ap, subst, ◌∙◌, arith, eqb-true}
use Rattle.std.specs.Prelude.{IfSome, IsSome, IsSomeAnd, is_some, [], option_map, unwrap_or, ◌==◌, ◌||◌, nat_lt}
use Rattle.mem_base.specs.declared.map.forests.Node.{Node}
use Rattle.mem_base.specs.declared.map.forests.Forest.{Forest}
use Rattle.mem_base.specs.declared.map.spots.Spot.{Spot}
use Rattle.mem_base.specs.declared.map.kinds.Kind.{Kind}
use Rattle.mem_base.specs.declared.map.kinds.Kind.TheVariants.{Container, Ram, Rom, RomDevice, Io, Iommu, Alias, Reserve, Host}
use Rattle.mem_base.specs.declared.map.kinds.Device.{Device}
use Rattle.mem_base.specs.declared.access.accesses.Target.TheVariants.{Leaf}
use Rattle.mem_base.specs.map.Region.{node_of}
use Rattle.mem_base.specs.map.Kinds.{device_of, has_bytes, is_memory}
use Rattle.mem_base.specs.map.Limits.{most_bytes, page_size}
use Rattle.mem_base.specs.map.Refusals.{bad_size}
use Rattle.mem_base.specs.map.Devices.{is_good_device}
use Rattle.mem_base.specs.map.TableRefusals.{bad_device}
use Rattle.mem_base.specs.map.Forest.{IsMade, IsRegion, IsClosedForest}
use Rattle.mem_base.specs.views.LiveEvents.{events_of}
use Rattle.mem_base.proofs.ForestLaws.{every_node_of}
use Rattle.map_laws.proofs.RefusalLaws.{refuse_if-none}
use Rattle.map_laws.proofs.SoundCallLaws.{IsClosedForest-made}
use Rattle.access_cut.specs.Conditions.{IsGood}
use Rattle.access_base.specs.Leaves.{IsLeafRun}
use Rattle.access_base.proofs.GoodLaws.{good_ops}
use Rattle.access_base.proofs.LeafLaws.{memory_kind, region_there}
use Rattle.generation.specs.Published.{Published}
use Rattle.mem_base.specs.declared.access.cells.Place.{Place}
use Rattle.mem_base.specs.access.PlacesByRegion.{place_in}
use Rattle.mem_base.specs.access.EditionPlaces.{IsEdition}
use Rattle.mem_base.specs.access.Plans as plans
use Rattle.access_plan.specs.HostPlans.{is_host_kind, is_host, answerer_with_host}
use Rattle.access_plan.specs.declared.answerers.Answerer.{Answerer}
use Rattle.access_plan.specs.declared.answerers.Answerer.TheVariants as who
use Rattle.access_plan.specs.Answering.{memory_unless, rom_device, meant, IsSoundDevice, IsSoundMemory, IsSound, IsAnswerer, HasMemory, IsAnswererBy}

-- a device in a forest that calls made
sound_device : (f : Forest) → IsMade f → (spot : Spot) (n : Node) → node_of f.nodes spot.leaf ≡ Some n → (device : Device) → device_of n.kind ≡ Some device
    → IsSoundDevice f spot device.ops
sound_device f made spot n is device e = record {
  kind = subst (λ o. IsSomeAnd o (λ n. IsSome (device_of n.kind))) (sym is) (ap is_some e);
  good = good_ops device (go (is_good_device device) refl (refuse_if-none _ _ none));
  fits = fits;
}
  where
    closed : IsClosedForest f
    closed = subst IsClosedForest made.made (IsClosedForest-made made.calls made.fitting)

    region : IsRegion f.nodes n
    region = (every_node_of (IsRegion f.nodes) f.nodes spot.leaf n is closed.regions).0

    none : bad_device (Some device) ≡ None
    none = sym (ap bad_device e) ∙ region.device

    go : (b : Bool) → is_good_device device ≡ b → not b ≡ false → IsGood device
    go true e h = e
    go false e h = cc

    fits : (bytes : ℕ) → IsLeafRun f spot bytes → spot.offset + bytes ≤ 2 ^ 64
    fits bytes run =
        let within : spot.offset + bytes ≤ n.size = subst (λ o. IfSome o (λ n. spot.offset + bytes ≤ n.size)) is run.within in
        let size : n.size ≤ 2 ^ 64 = region.size in omega (arith, within, size)

-- memory is whole pages
whole_pages : (k : Kind) (size : ℕ) → bad_size k size ≡ None → is_memory k ≡ true → size % page_size ≡ 0
whole_pages k size none memory =
    go (size == 0) (size % page_size == 0) (has_bytes k && nat_lt most_bytes size) refl
    (sym (λ i. (size == 0) || memory i && not (size % page_size == 0) || has_bytes k && nat_lt most_bytes size) ∙ refuse_if-none _ _ none)
  where
    go : (zero whole more : Bool) → (size % page_size == 0) ≡ whole → (zero || true && not whole || more) ≡ false → size % page_size ≡ 0
    go true whole more w e = cc
    go false false more w e = cc
    go false true more w e = eqb-true (size % page_size) 0 w

-- memory in a forest that calls made
sound_memory_at : (f : Forest) → IsMade f → (spot : Spot) (n : Node) → node_of f.nodes spot.leaf ≡ Some n → is_memory n.kind ≡ true
    → IsSoundMemory f spot
sound_memory_at f made spot n is memory = record {
  kind = subst (λ o. IsSomeAnd o (λ n. is_memory n.kind ≡ true)) (sym is) memory;
  pages = subst (λ o. IfSome o (λ n. n.size % page_size ≡ 0)) (sym is) (whole_pages n.kind n.size region.sized memory);
}
  where
    closed : IsClosedForest f
    closed = subst IsClosedForest made.made (IsClosedForest-made made.calls made.fitting)

    region : IsRegion f.nodes n
    region = (every_node_of (IsRegion f.nodes) f.nodes spot.leaf n is closed.regions).0

module _ (f : Forest) (spot : Spot) (write : Bool) (n : Node) (is : node_of f.nodes spot.leaf ≡ Some n) where
  abbrev by_host : Bool → plans.Answerer
  by_host b = if b then plans.by_memory_unless (write && spot.attrs.readonly) spot else plans.answerer f write (Leaf spot)

  host_so : (k : Kind) (b : Bool) → n.kind ≡ k → is_host_kind k ≡ b → answerer_with_host f write (Leaf spot) ≡ by_host b
  host_so k b e h = ap by_host (ap is_host is ∙ ap is_host_kind e ∙ h)

  found : (k : Kind) → n.kind ≡ k → is_host_kind k ≡ false → answerer_with_host f write (Leaf spot) ≡ plans.answerer_at k n spot write
  found k e h = host_so k false e h ∙ ap (λ o. plans.answerer_in o spot write) is ∙ ap (λ k. plans.answerer_at k n spot write) e

  memory_meant : (b : Bool) → plans.by_memory_unless b spot ≡ meant f spot (memory_unless b)
  memory_meant true = refl
  memory_meant false = refl

  sound_memory : IsMade f → is_memory n.kind ≡ true → (b : Bool) → IsSound f spot (memory_unless b)
  sound_memory made memory true = tt
  sound_memory made memory false = sound_memory_at f made spot n is memory

  answers_as_memory : IsMade f → is_memory n.kind ≡ true → (w : Answerer) → w ≡ memory_unless (write && spot.attrs.readonly)
      → answerer_with_host f write (Leaf spot) ≡ plans.by_memory_unless (write && spot.attrs.readonly) spot → IsAnswerer f spot write w
  answers_as_memory made memory w same e = subst (IsAnswerer f spot write) (sym same) (record {
    is = e ∙ memory_meant (write && spot.attrs.readonly);
    sound = sound_memory made memory (write && spot.attrs.readonly);
  })

  pub memory_there : IsMade f → (w : Answerer) → (n.kind ≡ Ram) ⊎ ((n.kind ≡ Rom) ⊎ (n.kind ≡ Host)) → w ≡ memory_unless (write && spot.attrs.readonly)
      → IsAnswerer f spot write w
  memory_there made w k same = answers_as_memory made (memory k) w same (go k)
    where
      go : (n.kind ≡ Ram) ⊎ ((n.kind ≡ Rom) ⊎ (n.kind ≡ Host)) → answerer_with_host f write (Leaf spot)
          ≡ plans.by_memory_unless (write && spot.attrs.readonly) spot
      go (inl e) = found Ram e refl
      go (inr (inl e)) = found Rom e refl
      go (inr (inr e)) = host_so Host true e refl

      memory : (n.kind ≡ Ram) ⊎ ((n.kind ≡ Rom) ⊎ (n.kind ≡ Host)) → is_memory n.kind ≡ true
      memory (inl e) = ap is_memory e
      memory (inr (inl e)) = ap is_memory e
      memory (inr (inr e)) = ap is_memory e

  device_meant : (device : Device) → plans.by_device_of n device spot ≡ meant f spot (who.Device device.ops)
  device_meant device = let v : n.events ≡ events_of f spot.leaf = sym (ap (λ o. unwrap_or (option_map (λ (n : Node). n.events) o) []) is) in
      (λ i. plans.by_device spot.leaf spot.offset device.ops (v i))

  pub rom_device_there : IsMade f → (device : Device) → n.kind ≡ RomDevice device → (w : Answerer) → w ≡ rom_device (spot.attrs.romd && not write) device.ops
      → IsAnswerer f spot write w
  rom_device_there made device k w same = subst (IsAnswerer f spot write) (sym same) (record {
    is = found (RomDevice device) k refl ∙ go (spot.attrs.romd && not write);
    sound = sound (spot.attrs.romd && not write);
  })
    where
      go : (b : Bool) → (if b then plans.by_memory spot else plans.by_device_of n device spot) ≡ meant f spot (rom_device b device.ops)
      go true = refl
      go false = device_meant device

      sound : (b : Bool) → IsSound f spot (rom_device b device.ops)
      sound true = sound_memory_at f made spot n is (ap is_memory k)
      sound false = sound_device f made spot n is device (ap device_of k)

  pub io_there : IsMade f → (device : Device) → n.kind ≡ Io device → IsAnswerer f spot write (who.Device device.ops)
  io_there made device k = record { is = found (Io device) k refl ∙ device_meant device; sound = sound_device f made spot n is device (ap device_of k) }

  -- the same of a machine that has the bytes of the host's memory, or has not

  has_all : (w : Answerer) → IsSound f spot w → HasMemory true f spot w
  has_all who.Memory sound = sound.kind
  has_all (who.Device ops) sound = tt
  has_all who.Nobody sound = tt

  own_bytes : (k : Kind) → is_host_kind k ≡ false → is_memory k ≡ true → has_bytes k ≡ true
  own_bytes Ram h m = refl
  own_bytes Rom h m = refl
  own_bytes (RomDevice device) h m = refl
  own_bytes _ h m = cc

  has_own : is_host_kind n.kind ≡ false → (w : Answerer) → IsSound f spot w → HasMemory false f spot w
  has_own h who.Memory sound =
      let memory : is_memory n.kind ≡ true = subst (λ o. IsSomeAnd o (λ n. is_memory n.kind ≡ true)) is sound.kind in
      subst (λ o. IsSomeAnd o (λ n. has_bytes n.kind ≡ true)) (sym is) (own_bytes n.kind h memory)
  has_own h (who.Device ops) sound = tt
  has_own h who.Nobody sound = tt

  pub by_any : (host : Bool) (w : Answerer) → (not host && is_host_kind n.kind) ≡ false → IsAnswerer f spot write w → IsAnswererBy host f spot write w
  by_any true w own h = record { is = h.is; sound = h.sound; bytes = has_all w h.sound }
  by_any false w own h = record {
    is = sym (host_so n.kind false refl own) ∙ h.is;
    sound = h.sound;
    bytes = has_own own w h.sound;
  }

  pub by_nobody_own : (host : Bool) → (not host && is_host_kind n.kind) ≡ true → IsAnswererBy host f spot write who.Nobody
  by_nobody_own true own = cc
  by_nobody_own false own = record { is = ap (λ o. plans.answerer_in o spot write) is ∙ none n.kind own; sound = tt; bytes = tt }
    where
      none : (k : Kind) → is_host_kind k ≡ true → plans.answerer_at k n spot write ≡ plans.by_nobody
      none Host h = refl
      none Ram h = cc
      none Rom h = cc
      none (RomDevice device) h = cc
      none Container h = cc
      none (Io device) h = cc
      none Iommu h = cc
      none (Alias target offset) h = cc
      none Reserve h = cc

-- no region is there
pub by_nobody_there : (host : Bool) (f : Forest) (spot : Spot) (write : Bool) → node_of f.nodes spot.leaf ≡ None → IsAnswererBy host f spot write who.Nobody
by_nobody_there true f spot write none = record {
  is = ap (λ (b : Bool). if b then plans.by_memory_unless (write && spot.attrs.readonly) spot else plans.answerer f write (Leaf spot)) (ap is_host none)
      ∙ ap (λ o. plans.answerer_in o spot write) none;
  sound = tt;
  bytes = tt;
}
by_nobody_there false f spot write none = record { is = ap (λ o. plans.answerer_in o spot write) none; sound = tt; bytes = tt }

-- a place without registers is memory
pub by_place : (g : Published) → IsEdition g.forest g.places → (host : Bool) (spot : Spot) (write : Bool) (p : Place) → place_in g.places spot.leaf ≡ Some p
    → p.regs ≡ 0 → (w : Answerer) → w ≡ memory_unless (write && spot.attrs.readonly) → IsAnswererBy host g.forest spot write w
by_place g k host spot write p found none w same = go (node_of g.forest.nodes spot.leaf) refl
  where
    go : (o : Option Node) → node_of g.forest.nodes spot.leaf ≡ o → IsAnswererBy host g.forest spot write w
    go None e = absurd (region_there g k spot.leaf p found none e)
    go (Some n) e = kind n e (memory_kind g k spot.leaf n e p found none)
      where
        no_host : (b : Bool) → (not b && false) ≡ false
        no_host true = refl
        no_host false = refl

        own : (n : Node) → (n.kind ≡ Ram) ⊎ (n.kind ≡ Rom) → (not host && is_host_kind n.kind) ≡ false
        own n (inl e) = ap (λ k. not host && is_host_kind k) e ∙ no_host host
        own n (inr e) = ap (λ k. not host && is_host_kind k) e ∙ no_host host

        any : (n : Node) → (n.kind ≡ Ram) ⊎ (n.kind ≡ Rom) → (n.kind ≡ Ram) ⊎ ((n.kind ≡ Rom) ⊎ (n.kind ≡ Host))
        any n (inl e) = inl e
        any n (inr e) = inr (inl e)

        kind : (n : Node) → node_of g.forest.nodes spot.leaf ≡ Some n → (n.kind ≡ Ram) ⊎ (n.kind ≡ Rom) → IsAnswererBy host g.forest spot write w
        kind n e m = by_any g.forest spot write n e host w (own n m) (memory_there g.forest spot write n e k.made w (any n m) same)
