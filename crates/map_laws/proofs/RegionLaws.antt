-- Laws of one region among others: what changes of the others and of itself keep.
use Rattle.std.proofs.Common.{◌≡◌, ◌≢◌, ℕ, ◌+◌, ◌<◌, ◌≤◌, ◌^◌, Bool, true, false, not, ◌&&◌, ◌||◌, cond, eqb, ℤ, List, [], ◌∷◌, ◌++◌}
use Rattle.std.proofs.Common.{length, filter, Option, Some, None, IsSome, refl, sym, ap, subst, ◌∙◌, arith}
use Rattle.std.specs.Prelude.{option_map, nat_lt, ◌%◌}
use Rattle.std.proofs.lemmas.Bool.Decides.{nat_tests}
use Rattle.std.specs.List.{list_any}
use Rattle.std.proofs.lemmas.Nat.{or_lt}
use Rattle.mem_base.specs.declared.map.ids.RegionId.{RegionId}
use Rattle.mem_base.specs.declared.map.forests.Node.{Node}
use Rattle.mem_base.specs.declared.map.kinds.Kind.{Kind}
use Rattle.mem_base.specs.declared.map.kinds.Kind.TheVariants.{Alias}
use Rattle.mem_base.specs.declared.map.kinds.Client.{Client}
use Rattle.mem_base.specs.declared.map.kinds.Client.TheVariants.{Vga, Code, Migration}
use Rattle.mem_base.specs.declared.map.translations.Entry.{Entry}
use Rattle.mem_base.specs.declared.map.ioevents.Ioevent.{Ioevent}
use Rattle.mem_base.specs.declared.map.refusals.Refusal.TheVariants.{BadSize}
use Rattle.mem_base.specs.map.Limits.{page_size, most_bytes, most_entries, most_events}
use Rattle.mem_base.specs.map.Kinds.{is_alias, has_bytes, is_memory, is_rom_device, is_iommu, takes_events, device_of, target_of}
use Rattle.mem_base.specs.map.Region.{has_id, node_of, is_in, is_child_of}
use Rattle.mem_base.specs.lists.Sorting.{put_by}
use Rattle.mem_base.specs.map.Forest.{IsPlainRegion, HasPlainContainer, HasTarget, IsRegion}
use Rattle.mem_base.specs.map.Refusals.{targets, refuse_if, bad_size}
use Rattle.mem_base.specs.map.Events.{match_order, is_event, event_order}
use Rattle.mem_base.specs.map.TableRefusals.{bad_device, bad_page, bad_event}
use Rattle.mem_base.specs.map.Entries.{least_met, entry_order}
use Rattle.mem_base.specs.map.Changes.{changed_at, moved}
use Rattle.mem_base.specs.map.Edits.{retargeted}
use Rattle.mem_base.specs.map.Clients.{bit_of, logged}
use Rattle.map_laws.proofs.DropLaws.{without, node_of-without}
use Rattle.mem_base.proofs.JoinLaws.{node_of-changed_at}
use Rattle.mem_base.proofs.EveryLaws.{every_filter}
use Rattle.mem_base.proofs.EntryLaws.{entries-filter, entries-added}
use Rattle.mem_base.proofs.EventLaws.{events-put}
use Rattle.mem_base.proofs.PlaceLaws.{rising-filter}
use Rattle.map_laws.proofs.PairLaws.{length-filter, node_of-more}
use Rattle.mem_base.proofs.ForestLaws.{every_put}
use Rattle.mem_base.proofs.SortingLaws.{length-put_by}

-- a region among others that have what it names
pub region_among : (old new : List Node) (n : Node) → (HasPlainContainer old n.parent → HasPlainContainer new n.parent) →
    (HasTarget old (target_of n.kind) → HasTarget new (target_of n.kind)) → IsRegion old n → IsRegion new n
region_among old new n c t h = record {
  container = c h.container;
  target = t h.target;
  size = h.size;
  sized = h.sized;
  device = h.device;
  romd = h.romd;
  log = h.log;
  entries = h.entries;
  pages = h.pages;
  few_entries = h.few_entries;
  events = h.events;
  good_events = h.good_events;
  few_events = h.few_events;
  untranslated = h.untranslated;
  uneventful = h.uneventful;
  unlogged = h.unlogged;
}

-- one region changed

module _ (r : RegionId) (g : Node → Node) (ids : (n : Node) → (g n).id ≡ n.id) (plain : (n : Node) → is_alias (g n).kind ≡ is_alias n.kind)
    (nodes : List Node) where
  plain_after : (o : Option Node) → IsPlainRegion o → IsPlainRegion (option_map (λ n. cond (has_id r n) (g n) n) o)
  plain_after None h = h
  plain_after (Some n) h = elim (has_id r n) as (λ b. is_alias (cond b (g n) n).kind ≡ false) [ true ↦ plain n ∙ h | false ↦ h ]

  some_after : (o : Option Node) → IsSome o → IsSome (option_map (λ n. cond (has_id r n) (g n) n) o)
  some_after None h = cc
  some_after (Some n) h = refl

  pub there_changed : (q : RegionId) → IsSome (node_of nodes q) → IsSome (node_of (changed_at r g nodes) q)
  there_changed q h = subst IsSome (sym (node_of-changed_at r g ids nodes q)) (some_after (node_of nodes q) h)

  pub container_changed : (p : Option RegionId) → HasPlainContainer nodes p → HasPlainContainer (changed_at r g nodes) p
  container_changed None h = tt
  container_changed (Some p) h = subst IsPlainRegion (sym (node_of-changed_at r g ids nodes p)) (plain_after (node_of nodes p) h)

  target_changed : (t : Option RegionId) → HasTarget nodes t → HasTarget (changed_at r g nodes) t
  target_changed None h = tt
  target_changed (Some t) h = there_changed t h

  pub region_changed : (n : Node) → IsRegion nodes n → IsRegion (changed_at r g nodes) n
  region_changed n h = region_among nodes (changed_at r g nodes) n (container_changed n.parent) (target_changed (target_of n.kind)) h

-- one more region

module _ (nodes : List Node) (x : Node) where
  plain_more : (q : RegionId) (o : Option Node) → node_of nodes q ≡ o → IsPlainRegion o → IsPlainRegion (node_of (nodes ++ x ∷ []) q)
  plain_more q None e h = absurd h
  plain_more q (Some n) e h = subst IsPlainRegion (sym (node_of-more nodes x q n e)) h

  some_more : (q : RegionId) (o : Option Node) → node_of nodes q ≡ o → IsSome o → IsSome (node_of (nodes ++ x ∷ []) q)
  some_more q None e h = cc
  some_more q (Some n) e h = subst IsSome (sym (node_of-more nodes x q n e)) refl

  pub there_more : (q : RegionId) → IsSome (node_of nodes q) → IsSome (node_of (nodes ++ x ∷ []) q)
  there_more q h = some_more q (node_of nodes q) refl h

  container_more : (p : Option RegionId) → HasPlainContainer nodes p → HasPlainContainer (nodes ++ x ∷ []) p
  container_more None h = tt
  container_more (Some p) h = plain_more p (node_of nodes p) refl h

  pub target_more : (t : Option RegionId) → HasTarget nodes t → HasTarget (nodes ++ x ∷ []) t
  target_more None h = tt
  target_more (Some t) h = there_more t h

  pub region_more : (n : Node) → IsRegion nodes n → IsRegion (nodes ++ x ∷ []) n
  region_more n h = region_among nodes (nodes ++ x ∷ []) n (container_more n.parent) (target_more (target_of n.kind)) h

-- one region dropped

module _ (r : RegionId) (nodes : List Node) where
  pub there_without : (q : RegionId) → q.0 ≢ r.0 → IsSome (node_of nodes q) → IsSome (node_of (without r nodes) q)
  there_without q k h = subst IsSome (sym (node_of-without r nodes q k)) h

  container_without : (p : Option RegionId) → is_in r p ≡ false → HasPlainContainer nodes p → HasPlainContainer (without r nodes) p
  container_without None e h = tt
  container_without (Some p) e h = let k : p.0 ≢ r.0 = λ w. grind (arith, nat_tests) in subst IsPlainRegion (sym (node_of-without r nodes p k)) h

  target_without : (k : Kind) → targets r k ≡ false → HasTarget nodes (target_of k) → HasTarget (without r nodes) (target_of k)
  target_without (Alias target offset) e h = there_without target (λ w. grind (arith, nat_tests)) h
  target_without _ e h = tt

  pub region_without : (n : Node) → is_child_of r n ≡ false → targets r n.kind ≡ false → IsRegion nodes n → IsRegion (without r nodes) n
  region_without n c t h = region_among nodes (without r nodes) n (container_without n.parent c) (target_without n.kind t) h

-- a region changed itself

module _ (nodes : List Node) (n : Node) (h : IsRegion nodes n) where
  -- its place and its flags changed
  pub region_at : (parent : Option RegionId) (offset : ℕ) (priority : ℤ) (placing : ℕ) (enabled readonly nonvolatile unmergeable : Bool) →
      HasPlainContainer nodes parent → IsRegion nodes
      (record n {
        parent = parent;
        offset = offset;
        priority = priority;
        placing = placing;
        enabled = enabled;
        readonly = readonly;
        nonvolatile =
            nonvolatile;
        unmergeable = unmergeable;
      })
  region_at parent offset priority placing enabled readonly nonvolatile unmergeable there =
      record {
        container = there;
        target = h.target;
        size = h.size;
        sized = h.sized;
        device = h.device;
        romd = h.romd;
        log = h.log;
        entries = h.entries;
        pages = h.pages;
        few_entries = h.few_entries;
        events = h.events;
        good_events = h.good_events;
        few_events = h.few_events;
        untranslated = h.untranslated;
        uneventful = h.uneventful;
        unlogged = h.unlogged;
      }

  pub region_moved : (offset placing : ℕ) → IsRegion nodes (moved offset placing n)
  region_moved offset placing = elim (eqb n.offset offset) as (λ b. IsRegion nodes (cond b n (record n { offset = offset; placing = placing }))) [
    | true ↦ h
    | false ↦ region_at n.parent offset n.priority placing n.enabled n.readonly n.nonvolatile n.unmergeable h.container
  ]

  pub region_resized : (size : ℕ) → size ≤ 2 ^ 64 → bad_size n.kind size ≡ None → IsRegion nodes (record n { size = size })
  region_resized size l good = record {
    container = h.container;
    target = h.target;
    size = l;
    sized = good;
    device = h.device;
    romd = h.romd;
    log = h.log;
    entries = h.entries;
    pages = h.pages;
    few_entries = h.few_entries;
    events = h.events;
    good_events = h.good_events;
    few_events = h.few_events;
    untranslated = h.untranslated;
    uneventful = h.uneventful;
    unlogged = h.unlogged;
  }

  pub region_romd : (on : Bool) → is_rom_device n.kind ≡ true → IsRegion nodes (record n { romd = on })
  region_romd on rom = record {
    container = h.container;
    target = h.target;
    size = h.size;
    sized = h.sized;
    device = h.device;
    romd = λ e. cc;
    log = h.log;
    entries = h.entries;
    pages = h.pages;
    few_entries = h.few_entries;
    events = h.events;
    good_events = h.good_events;
    few_events = h.few_events;
    untranslated = h.untranslated;
    uneventful = h.uneventful;
    unlogged = h.unlogged;
  }

  pub region_logged : (client : Client) (on : Bool) → is_memory n.kind ≡ true → IsRegion nodes (record n { log = logged client on n.log })
  region_logged client on memory = record {
    container = h.container;
    target = h.target;
    size = h.size;
    sized = h.sized;
    device = h.device;
    romd = h.romd;
    log = low_log client on n.log h.log;
    entries = h.entries;
    pages = h.pages;
    few_entries = h.few_entries;
    events = h.events;
    good_events = h.good_events;
    few_events = h.few_events;
    untranslated = h.untranslated;
    uneventful = h.uneventful;
    unlogged = λ e. cc;
  }
    where
      bit_low : (client : Client) → bit_of client < 2 ^ 3
      bit_low Vga = omega arith
      bit_low Code = omega arith
      bit_low Migration = omega arith

      low_log : (client : Client) (on : Bool) (mask : ℕ) → mask ≤ 7 → logged client on mask ≤ 7
      low_log client true mask l = let below : mask < 2 ^ 3 = omega arith in let bit = bit_low client in let w = or_lt 3 mask (bit_of client) below bit in
          omega arith
      low_log client false mask l = omega arith

  pub region_retargeted : (offset : ℕ) → IsRegion nodes (record n { kind = retargeted offset n.kind })
  region_retargeted offset =
      let same = retargeted_same offset n.kind in
      record {
        container = h.container;
        target = subst (HasTarget nodes) (sym same.0) h.target;
        size = h.size;
        sized =
            (λ i. refuse_if ((eqb n.size 0) || same.6 i && not (eqb (n.size % page_size) 0) || same.1 i && nat_lt most_bytes n.size) BadSize)
            ∙ h.sized;
        device = ap bad_device same.2
            ∙ h.device;
        romd = λ e. h.romd (sym same.3 ∙ e);
        log = h.log;
        entries = h.entries;
        pages = h.pages;
        few_entries = h.few_entries;
        events = h.events;
        good_events = h.good_events;
        few_events = h.few_events;
        untranslated = λ e. h.untranslated (sym same.4 ∙ e);
        uneventful =
            λ e. h.uneventful (sym same.5 ∙ e);
        unlogged = λ e. h.unlogged (sym same.6 ∙ e);
      }
    where
      retargeted_same : (offset : ℕ) (k : Kind) → (target_of (retargeted offset k) ≡ target_of k) × (has_bytes (retargeted offset k) ≡ has_bytes k)
          × (device_of (retargeted offset k) ≡ device_of k) × (is_rom_device (retargeted offset k) ≡ is_rom_device k)
          × (is_iommu (retargeted offset k) ≡ is_iommu k) × (takes_events (retargeted offset k) ≡ takes_events k)
          × (is_memory (retargeted offset k) ≡ is_memory k)
      retargeted_same offset (Alias target old) = (refl, refl, refl, refl, refl, refl, refl)
      retargeted_same offset _ = (refl, refl, refl, refl, refl, refl, refl)

  pub region_mapped : (e : Entry) → is_iommu n.kind ≡ true → e.iova + e.mask < 2 ^ 64 → bad_page e.iova (e.mask + 1) ≡ None →
      least_met e.iova (e.mask + 1) n.entries ≡ None → length n.entries < most_entries →
      IsRegion nodes (record n { entries = put_by entry_order e n.entries })
  region_mapped e iommu ends page free few =
      record {
        container = h.container;
        target = h.target;
        size = h.size;
        sized = h.sized;
        device = h.device;
        romd = h.romd;
        log = h.log;
        entries =
            entries-added e n.entries ends free h.entries;
        pages = every_put (λ x. bad_page x.iova (x.mask + 1) ≡ None) entry_order e n.entries page h.pages;
        few_entries = let l = length-put_by entry_order e n.entries in
            omega arith;
        events = h.events;
        good_events = h.good_events;
        few_events = h.few_events;
        untranslated = λ e. cc;
        uneventful = h.uneventful;
        unlogged =
            h.unlogged;
      }

  pub region_unmapped : (p : Entry → Bool) → IsRegion nodes (record n { entries = filter p n.entries })
  region_unmapped p = record {
    container = h.container;
    target = h.target;
    size = h.size;
    sized = h.sized;
    device = h.device;
    romd = h.romd;
    log = h.log;
    entries = entries-filter p n.entries h.entries;
    pages = every_filter (λ x. bad_page x.iova (x.mask + 1) ≡ None) p n.entries h.pages;
    few_entries =
        let l = length-filter p n.entries in let few = h.few_entries in
        omega arith;
    events = h.events;
    good_events = h.good_events;
    few_events = h.few_events;
    untranslated = λ e. ap (filter p) (h.untranslated e);
    uneventful = h.uneventful;
    unlogged = h.unlogged;
  }

  pub region_with_event : (e : Ioevent) → takes_events n.kind ≡ true → bad_event e ≡ None →
      list_any (is_event e.offset e.size e.matched e.value) n.events ≡ false → length n.events < most_events →
      IsRegion nodes (record n { events = put_by event_order e n.events })
  region_with_event e device good free few =
      record {
        container = h.container;
        target = h.target;
        size = h.size;
        sized = h.sized;
        device = h.device;
        romd = h.romd;
        log = h.log;
        entries =
            h.entries;
        pages = h.pages;
        few_entries = h.few_entries;
        events = events-put e n.events free h.events;
        good_events =
            every_put (λ x. bad_event x ≡ None) event_order e n.events good h.good_events;
        few_events = let l = length-put_by event_order e n.events in
            omega arith;
        untranslated = h.untranslated;
        uneventful = λ e. cc;
        unlogged = h.unlogged;
      }

  pub region_without_event : (p : Ioevent → Bool) → IsRegion nodes (record n { events = filter p n.events })
  region_without_event p = record {
    container = h.container;
    target = h.target;
    size = h.size;
    sized = h.sized;
    device = h.device;
    romd = h.romd;
    log =
        h.log;
    entries = h.entries;
    pages = h.pages;
    few_entries = h.few_entries;
    events = rising-filter match_order p n.events h.events;
    good_events =
        every_filter (λ x. bad_event x ≡ None) p n.events h.good_events;
    few_events = let l = length-filter p n.events in let few = h.few_events in
        omega arith;
    untranslated = h.untranslated;
    uneventful = λ e. ap (filter p) (h.uneventful e);
    unlogged = h.unlogged;
  }
