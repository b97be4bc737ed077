-- A leaf has an ioeventfd just where a region that the forest names has one.
use Rattle.std.proofs.Common.{◌≡◌, Bool, true, sym, refl, subst, eq-eqb}
use Rattle.std.specs.Prelude.{◌==◌, length}
use Rattle.std.specs.List.{list_any}
use Rattle.std.proofs.lemmas.Bool.{eqb-true, ltb-true, lt-ltb}
use Rattle.mem_base.specs.declared.map.ids.RegionId.{RegionId}
use Rattle.mem_base.specs.declared.map.ids.SpaceId.{SpaceId}
use Rattle.mem_base.specs.declared.views.flat.FlatRange.{FlatRange}
use Rattle.mem_base.specs.declared.map.forests.Forest.{Forest}
use Rattle.mem_base.specs.views.Flattened.{view_of}
use Rattle.mem_base.specs.views.LiveEvents.{events_of}
use Rattle.mem_base.specs.views.Naming.{has_leaf, names, has_events, shows_events}
use Rattle.view_laws.specs.Named.{ShowsEvents}
use Rattle.view_laws.proofs.Tests.{same_region}
use Rattle.view_laws.proofs.SortedLaws.{any_in, any_found}
use Rattle.view_laws.proofs.NamingLaws.{names_leaves}

abbrev shown_in : Forest → SpaceId × RegionId → Bool
shown_in f p = list_any (λ r. has_events f r.leaf) (view_of f p.0)

shows_so : (f : Forest) → shows_events f ≡ true → ShowsEvents f
shows_so f h =
    let p = any_found (shown_in f) f.spaces h in
    let r = any_found (λ (r : FlatRange). has_events f r.leaf) (view_of f p.0.0) p.2 in
    let leaf : has_leaf r.0.leaf (view_of f p.0.0) ≡ true = any_in (λ (q : FlatRange). q.leaf.0 == r.0.leaf.0) r.0 (view_of f p.0.0) r.1 (eq-eqb _ _ refl) in
    let named : names f r.0.leaf ≡ true = any_in (λ (q : SpaceId × RegionId). has_leaf r.0.leaf (view_of f q.0)) p.0 f.spaces p.1 leaf in
    (r.0.leaf, (names_leaves f r.0.leaf).0 named, ltb-true 0 (length (events_of f r.0.leaf)) r.2)

so_shows : (f : Forest) → ShowsEvents f → shows_events f ≡ true
so_shows f h =
    let named : names f h.0 ≡ true = (names_leaves f h.0).1 h.1 in
    let p = any_found (λ (q : SpaceId × RegionId). has_leaf h.0 (view_of f q.0)) f.spaces named in
    let r = any_found (λ (q : FlatRange). q.leaf.0 == h.0.0) (view_of f p.0.0) p.2 in
    let same : h.0 ≡ r.0.leaf = sym (same_region r.0.leaf h.0 (eqb-true _ _ r.2)) in
    let some : has_events f r.0.leaf ≡ true = subst (λ (q : RegionId). has_events f q ≡ true) same (lt-ltb 0 (length (events_of f h.0)) h.2) in
    any_in (shown_in f) p.0 f.spaces p.1 (any_in (λ (q : FlatRange). has_events f q.leaf) r.0 (view_of f p.0.0) r.1 some)

pub events_shown : (f : Forest) → (shows_events f ≡ true → ShowsEvents f) × (ShowsEvents f → shows_events f ≡ true)
events_shown f = (shows_so f, so_shows f)
