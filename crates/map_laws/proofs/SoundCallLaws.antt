-- Every accepted call keeps what holds of a forest's regions and spaces: call by call.
use Rattle.std.proofs.Common.{◌≡◌, ◌≢◌, ℕ, ◌+◌, ◌-◌, ◌<◌, ◌≤◌, ◌^◌, Bool, true, false, not, ◌&&◌, ◌||◌, cond, eqb, ℤ, List, [], ◌∷◌, ◌++◌}
use Rattle.std.proofs.Common.{length, filter, find, Option, Some, None, IsSome, is_some, Ok, Err, refl, sym, ap, subst, ◌∙◌, arith}
use Rattle.std.specs.Prelude.{option_map, option_and_then, nat_lt, is_none, ◌%◌}
use Rattle.std.proofs.lemmas.Bool.Decides.{nat_tests}
use Rattle.mem_base.specs.declared.map.ids.RegionId.{RegionId}
use Rattle.mem_base.specs.declared.map.ids.SpaceId.{SpaceId}
use Rattle.mem_base.specs.declared.map.forests.Node.{Node}
use Rattle.mem_base.specs.declared.map.forests.Forest.{Forest}
use Rattle.mem_base.specs.declared.map.kinds.Kind.{Kind}
use Rattle.mem_base.specs.declared.map.kinds.Kind.TheVariants.{Alias}
use Rattle.mem_base.specs.declared.map.translations.Entry.{Entry}
use Rattle.mem_base.specs.declared.map.ioevents.Ioevent.{Ioevent}
use Rattle.mem_base.specs.declared.map.refusals.Refusal.{Refusal}
use Rattle.mem_base.specs.declared.map.refusals.Refusal.TheVariants.{Unknown, WrongKind, AliasParent, NameTaken, BadSize, PageOverlap, EventTaken}
use Rattle.mem_base.specs.declared.map.refusals.What.TheVariants as what
use Rattle.mem_base.specs.declared.map.refusals.Which.TheVariants as which
use Rattle.mem_base.specs.declared.map.calls.Call.{Call}
use Rattle.mem_base.specs.declared.map.calls.Call.TheVariants as calls
use Rattle.mem_base.specs.lists.Every.{Every, EveryPair}
use Rattle.mem_base.specs.declared.map.kinds.Client.{Client}
use Rattle.mem_base.specs.declared.map.translations.Perm.{Perm}
use Rattle.mem_base.specs.lists.Sorting.{put_by}
use Rattle.mem_base.specs.map.Limits.{most_made, most_regions, most_spaces, most_entries, most_events, most_bytes, page_size}
use Rattle.mem_base.specs.map.Kinds.{is_alias, is_memory, is_rom_device, is_iommu, takes_events, target_of}
use Rattle.mem_base.specs.map.Region.{has_id, node_of, is_child_of}
use Rattle.mem_base.specs.map.Search.{is_space, root_of}
use Rattle.mem_base.specs.map.Forest.{HasSpaces, IsOrderedForest, IsClosedForest, IsRegion, IsPlainRegion, HasTarget, ArePlacedApart, AreOtherSpaces, FitsTypes}
use Rattle.mem_base.specs.map.Refusals.{refuse_if, unknown_region, unknown_space, unknown_target, taken_space, targets, has_root, zero_size, bad_size}
use Rattle.mem_base.specs.map.TableRefusals.{no_more_calls, bad_page}
use Rattle.mem_base.specs.map.Entries.{least_met, has_iova, entry_order}
use Rattle.mem_base.specs.map.Events.{is_event, has_event, event_order}
use Rattle.mem_base.specs.map.Changes.{changed_at, at_region, changed, made_region, placed, moved, moves}
use Rattle.mem_base.specs.map.Edits.{retargeted}
use Rattle.mem_base.specs.map.Clients.{logged}
use Rattle.mem_base.specs.map.Calls.{refusals, refusal_of, counted, after, left_by, after_all, empty}
use Rattle.mem_base.proofs.EveryLaws.{weaker, both, every_push, every_filter}
use Rattle.map_laws.proofs.MoveLaws.{moved_keeps, moved_kind, unmoved}
use Rattle.map_laws.proofs.DropLaws.{without, every_without}
use Rattle.map_laws.proofs.SizeLaws.{plain_bytes}
use Rattle.map_laws.proofs.RefusalLaws.{each_none, refuse_if-none, refuse_where-none, is_known, known_node, find-none, in_use-none, first_none}
use Rattle.map_laws.proofs.PageLaws.{bad_page-none}
use Rattle.map_laws.proofs.PairLaws.{pairs_push, length-push, length-filter}
use Rattle.map_laws.proofs.RegionLaws.{container_changed, there_more, target_more, region_more, there_without, region_without, region_at}
use Rattle.map_laws.proofs.RegionLaws.{region_moved, region_resized, region_romd, region_logged, region_retargeted, region_mapped}
use Rattle.map_laws.proofs.RegionLaws.{region_unmapped, region_with_event, region_without_event}
use Rattle.map_laws.proofs.CallLaws.{IsOrderedForest-left_by, IsOrderedForest-empty, after-accepted}
use Rattle.map_laws.proofs.SoundLaws.{at_limit-none, few_calls_yet, count-none, with_nodes, one_changed, field_changed, fresh_placing}
use Rattle.std.proofs.lemmas.Bool.{not-false}
use Rattle.mem_base.proofs.ForestLaws.{every_put}
use Rattle.mem_base.proofs.SortingLaws.{pairs_filter}

-- what refusals that do not stand say

plain_of : (o : Option Node) (n : Node) → o ≡ Some n → is_alias n.kind ≡ false → IsPlainRegion o
plain_of None n e a = cc
plain_of (Some m) n e a = let same : n ≡ m = cc in subst (λ (x : Node). is_alias x.kind ≡ false) same a

pub not_met : (o : Option ℕ) → option_map (λ met. PageOverlap met) o ≡ None → o ≡ None
not_met None e = refl
not_met (Some met) e = cc

page_free : (iova size : ℕ) (o : Option Node) (n : Node) → o ≡ Some n →
    option_and_then (λ m. option_map (λ met. PageOverlap met) (least_met iova size m.entries)) o ≡ None → least_met iova size n.entries ≡ None
page_free iova size None n e h = cc
page_free iova size (Some m) n e h = let same : m ≡ n = cc in
    subst (λ (x : Node). least_met iova size x.entries ≡ None) same (not_met (least_met iova size m.entries) h)

some_node : (o : Option Node) (n : Node) → o ≡ Some n → IsSome o
some_node None n e = cc
some_node (Some m) n e = refl

pub some_found : (o : Option (SpaceId × RegionId)) → is_some (option_map (λ p. p.1) o) ≡ false → o ≡ None
some_found None e = refl
some_found (Some p) e = cc

-- no space is this one
space_free : (f : Forest) (space : SpaceId) → taken_space f space ≡ None → Every (λ p. p.0.0 ≢ space.0) f.spaces
space_free f space e =
    let none = some_found (find (is_space space) f.spaces) (refuse_if-none (is_some (root_of f space)) (NameTaken (what.Space space)) e) in
    weaker (λ p. is_space space p ≡ false) (λ p. p.0.0 ≢ space.0) (λ p w k. grind (arith, nat_tests)) f.spaces (find-none (is_space space) f.spaces none)

still_there : (space : SpaceId) (p : SpaceId × RegionId) (ps : List (SpaceId × RegionId)) → IsSome (find (is_space space) ps) →
    IsSome (find (is_space space) (ps ++ p ∷ []))
still_there space p [] h = cc
still_there space p (q ∷ qs) h =
    elim (is_space space q) as (λ b. IsSome (cond b (Some q) (find (is_space space) qs)) → IsSome (cond b (Some q) (find (is_space space) (qs ++ p ∷ []))))
    [ true ↦ λ w. refl | false ↦ λ w. still_there space p qs w ] h

some_root : (o : Option (SpaceId × RegionId)) → IsSome (option_map (λ p. p.1) o) → IsSome o
some_root None h = cc
some_root (Some p) h = refl

root_some : (o : Option (SpaceId × RegionId)) → IsSome o → IsSome (option_map (λ p. p.1) o)
root_some None h = cc
root_some (Some p) h = refl

-- a space is still there with one more
space_still : (space : SpaceId) (p : SpaceId × RegionId) (ps : List (SpaceId × RegionId)) → IsSome (option_map (λ q. q.1) (find (is_space space) ps)) →
    IsSome (option_map (λ q. q.1) (find (is_space space) (ps ++ p ∷ [])))
space_still space p ps h = root_some (find (is_space space) (ps ++ p ∷ [])) (still_there space p ps (some_root (find (is_space space) ps) h))

is_there : (o : Option RegionId) → is_none o ≡ false → IsSome o
is_there None e = cc
is_there (Some r) e = refl

space_there : (f : Forest) (space : SpaceId) → unknown_space f space ≡ None → IsSome (root_of f space)
space_there f space e = is_there (root_of f space) (refuse_if-none (is_none (root_of f space)) (Unknown (what.Space space)) e)

target_there : (f : Forest) (k : Kind) → unknown_target f k ≡ None → HasTarget f.nodes (target_of k)
target_there f (Alias target offset) e = is_known f target e
target_there f _ e = tt

-- a size for a region that is no memory
resized : (k : Kind) (size : ℕ) → is_memory k ≡ false → zero_size size ≡ None → bad_size k size ≡ None
resized k size plain e =
    let some = refuse_if-none (eqb size 0) BadSize e in
    let bytes = plain_bytes k plain in
    (λ i. refuse_if (eqb size 0 || plain i && not (eqb (size % page_size) 0) || bytes i && nat_lt most_bytes size) BadSize)
    ∙ ap (λ b. refuse_if (b || false || false) BadSize) some

abbrev no_calls : Forest → Call → List (Option Refusal)
no_calls f call = refusals f call ++ no_more_calls f ∷ []

module _ (f : Forest) (h : IsOrderedForest f) (s : IsClosedForest f) where
  region_sound : (kind : Kind) (size : ℕ) → size ≤ 2 ^ 64 → refusal_of f (calls.Region kind size) ≡ None →
      IsClosedForest (counted (changed f (calls.Region kind size)))
  region_sound kind size small e =
      let each = each_none (no_calls f (calls.Region kind size)) e in
      let r = made_region (record { 0 = f.made }) kind size in
      let new = f.nodes ++ r ∷ [] in
      let limits = first_none _ _ each.1.1.1.1.0 in
      let made = at_limit-none which.Made most_made f.made limits.0 in
      let regions = at_limit-none which.Regions most_regions (length f.nodes) limits.1 in
      let made_one : IsRegion new r = record {
        container = tt;
        target = target_more f.nodes r (target_of kind) (target_there f kind each.0);
        size = small;
        sized = each.1.0;
        device = each.1.1.0;
        romd = λ off. off;
        log = omega arith;
        entries = tt;
        pages = tt;
        few_entries = omega arith;
        events = tt;
        good_events = tt;
        few_events = omega arith;
        untranslated = λ e. refl;
        uneventful = λ e. refl;
        unlogged = λ e. refl;
      } in
      record {
        regions = every_push (IsRegion new) f.nodes r (weaker (IsRegion f.nodes) (IsRegion new) (λ n w. region_more f.nodes r n w) f.nodes s.regions) made_one;
        placings = pairs_push ArePlacedApart f.nodes r (weaker (IsRegion f.nodes) (λ n. ArePlacedApart n r) (λ n w a b. cc) f.nodes s.regions) s.placings;
        roots = weaker (λ p. IsSome (node_of f.nodes p.1)) (λ p. IsSome (node_of new p.1)) (λ p w. there_more f.nodes r p.1 w) f.spaces s.roots;
        translated = every_push (HasSpaces f) f.nodes r s.translated tt;
        spaces = s.spaces;
        few_regions = let l = length-push f.nodes r in omega arith;
        few_made = omega arith;
        few_spaces = s.few_spaces;
        few_calls = let l = few_calls_yet f (calls.Region kind size) e in omega arith;
      }

  space_sound : (space : SpaceId) (root : RegionId) → refusal_of f (calls.Space space root) ≡ None →
      IsClosedForest (counted (changed f (calls.Space space root)))
  space_sound space root e =
      let each = each_none (no_calls f (calls.Space space root)) e in
      record {
        regions = s.regions;
        placings = s.placings;
        roots = every_push (λ p. IsSome (node_of f.nodes p.1)) f.spaces (space, root) s.roots (is_known f root each.0);
        translated = weaker (HasSpaces f) (HasSpaces (changed f (calls.Space space root)))
            (λ n w. weaker (λ x. IsSome (root_of f x.space)) (λ x. IsSome (root_of (changed f (calls.Space space root)) x.space))
            (λ x v. space_still x.space (space, root) f.spaces v) n.entries w) f.nodes s.translated;
        spaces = pairs_push AreOtherSpaces f.spaces (space, root) (space_free f space each.1.0) s.spaces;
        few_regions = s.few_regions;
        few_made = s.few_made;
        few_spaces = let l = at_limit-none which.Spaces most_spaces (length f.spaces) each.1.1.0 in let n = length-push f.spaces (space, root) in omega arith;
        few_calls = let l = few_calls_yet f (calls.Space space root) e in omega arith;
      }

  global_sound : (on : Bool) → refusal_of f (calls.Global on) ≡ None → IsClosedForest (counted (changed f (calls.Global on)))
  global_sound on e = record {
    regions = s.regions;
    placings = s.placings;
    roots = s.roots;
    translated = s.translated;
    spaces = s.spaces;
    few_regions = s.few_regions;
    few_made = s.few_made;
    few_spaces = s.few_spaces;
    few_calls = let l = few_calls_yet f (calls.Global on) e in omega arith;
  }

  add_sound : (parent : RegionId) (offset : ℕ) (child : RegionId) (priority : ℤ) → refusal_of f (calls.Add parent offset child priority) ≡ None →
      IsClosedForest (counted (changed f (calls.Add parent offset child priority)))
  add_sound parent offset child priority e =
      let each = each_none (no_calls f (calls.Add parent offset child priority)) e in
      let p = known_node f parent each.0 in
      let m = known_node f child each.1.0 in
      let g = placed parent offset priority f.placings in
      let new = changed_at child g f.nodes in
      let no_alias = refuse_where-none (λ n. is_alias n.kind) (AliasParent parent) (node_of f.nodes parent) p.0 p.1 each.1.1.1.0 in
      let there : IsPlainRegion (node_of new parent) =
      container_changed child g (λ n. refl) (λ n. refl) f.nodes (Some parent) (plain_of (node_of f.nodes parent) p.0 p.1 no_alias) in
      one_changed f s (few_calls_yet f (calls.Add parent offset child priority) e) h child m.0 m.1 g (f.placings + 1) (λ n. refl) (λ n. refl)
      (fresh_placing f h child g m.0 m.1 refl s.placings)
      (λ w. region_at new m.0 w (Some parent) offset priority f.placings m.0.enabled m.0.readonly m.0.nonvolatile m.0.unmergeable there) (λ w. w)

  del_sound : (parent child : RegionId) → refusal_of f (calls.Del parent child) ≡ None → IsClosedForest (counted (changed f (calls.Del parent child)))
  del_sound parent child e =
      let each = each_none (no_calls f (calls.Del parent child)) e in
      let m = known_node f child each.1.0 in
      let g : Node → Node = λ n. record n { parent = None } in
      field_changed f s (few_calls_yet f (calls.Del parent child) e) h child m.0 m.1 g (λ n. refl) (λ n. refl) (λ x y w a b. cc) (λ x y w a b. cc)
      (λ w. region_at (changed_at child g f.nodes) m.0 w None m.0.offset m.0.priority m.0.placing m.0.enabled m.0.readonly m.0.nonvolatile m.0.unmergeable
      tt) (λ w. w)

  move_sound : (child : RegionId) (offset : ℕ) → refusal_of f (calls.Move child offset) ≡ None → IsClosedForest (counted (changed f (calls.Move child offset)))
  move_sound child offset e =
      let each = each_none (no_calls f (calls.Move child offset)) e in
      let m = known_node f child each.0 in
      let n = m.0 in
      let g = moved offset f.placings in
      let keeps = moved_keeps offset f.placings in
      let apart : EveryPair ArePlacedApart (changed_at child g f.nodes) =
      elim (eqb n.offset offset) as (λ b. eqb n.offset offset ≡ b → EveryPair ArePlacedApart (changed_at child g f.nodes)) [
        | true ↦ λ t. subst (EveryPair ArePlacedApart) (sym (unmoved f child offset n h m.1 t)) s.placings
        | false ↦ λ t. fresh_placing f h child g n m.1 (ap (λ b. (cond b n (record n { offset = offset; placing = f.placings })).placing) t) s.placings
      ] refl in
      one_changed f s (few_calls_yet f (calls.Move child offset) e) h child n m.1 g (f.placings + moves offset (node_of f.nodes child)) keeps.id
      (λ x. ap is_alias (moved_kind offset f.placings x)) apart
      (λ w. region_moved (changed_at child g f.nodes) n w offset f.placings)
      (λ w. elim (eqb n.offset offset) as (λ b. HasSpaces f (cond b n (record n { offset = offset; placing = f.placings }))) [ true ↦ w | false ↦ w ])

  -- one field of one region
  field_sound : (r : RegionId) (m : Node) → node_of f.nodes r ≡ Some m → (call : Call) → refusal_of f call ≡ None →
      (g : Node → Node) (ids : (n : Node) → (g n).id ≡ n.id) (plain : (n : Node) → is_alias (g n).kind ≡ is_alias n.kind) →
      ((n : Node) → ((g n).parent ≡ n.parent) × ((g n).placing ≡ n.placing)) →
      (IsRegion (changed_at r g f.nodes) m → IsRegion (changed_at r g f.nodes) (g m)) → (HasSpaces f m → HasSpaces f (g m)) →
      IsClosedForest (counted (at_region f r g))
  field_sound r m at call e g ids plain place change spaces =
      field_changed f s (few_calls_yet f call e) h r m at g ids plain
      (λ x y w a b. subst (λ k. k ≢ y.placing) (sym (place x).1) (w (subst IsSome (place x).0 a) b))
      (λ x y w a b. subst (λ k. x.placing ≢ k) (sym (place y).1) (w a (subst IsSome (place y).0 b)))
      change spaces

  resize_sound : (region : RegionId) (size : ℕ) → size ≤ 2 ^ 64 → refusal_of f (calls.Resize region size) ≡ None →
      IsClosedForest (counted (changed f (calls.Resize region size)))
  resize_sound region size small e =
      let each = each_none (no_calls f (calls.Resize region size)) e in
      let m = known_node f region each.0 in
      let wrong = refuse_where-none (λ n. not (not (is_memory n.kind))) (WrongKind region) (node_of f.nodes region) m.0 m.1 each.1.0 in
      field_sound region m.0 m.1 (calls.Resize region size) e (λ n. record n { size = size }) (λ n. refl) (λ n. refl) (λ n. (refl, refl))
      (λ w. region_resized (changed_at region (λ n. record n { size = size }) f.nodes) m.0 w size small
      (resized m.0.kind size (not_not (is_memory m.0.kind) wrong) each.1.1.0)) (λ w. w)
    where
      not_not : (b : Bool) → not (not b) ≡ false → b ≡ false
      not_not true e = cc
      not_not false e = refl

  retarget_sound : (alias : RegionId) (offset : ℕ) → refusal_of f (calls.Retarget alias offset) ≡ None →
      IsClosedForest (counted (changed f (calls.Retarget alias offset)))
  retarget_sound alias offset e =
      let each = each_none (no_calls f (calls.Retarget alias offset)) e in
      let m = known_node f alias each.0 in
      field_sound alias m.0 m.1 (calls.Retarget alias offset) e (λ n. record n { kind = retargeted offset n.kind }) (λ n. refl)
      (λ n. alias_still offset n.kind) (λ n. (refl, refl))
      (λ w. region_retargeted (changed_at alias (λ n. record n { kind = retargeted offset n.kind }) f.nodes) m.0 w offset) (λ w. w)
    where
      alias_still : (offset : ℕ) (k : Kind) → is_alias (retargeted offset k) ≡ is_alias k
      alias_still offset (Alias target old) = refl
      alias_still offset _ = refl

  -- a flag of a region
  flag_sound : (region : RegionId) (call : Call) → refusal_of f call ≡ None → unknown_region f region ≡ None →
      (enabled readonly nonvolatile unmergeable : Node → Bool) →
      IsClosedForest (counted (at_region f region
      (λ n. record n { enabled = enabled n; readonly = readonly n; nonvolatile = nonvolatile n; unmergeable = unmergeable n })))
  flag_sound region call e known enabled readonly nonvolatile unmergeable =
      let m = known_node f region known in
      let n = m.0 in
      let g : Node → Node = λ x. record x { enabled = enabled x; readonly = readonly x; nonvolatile = nonvolatile x; unmergeable = unmergeable x } in
      field_sound region n m.1 call e g (λ x. refl) (λ x. refl) (λ x. (refl, refl))
      (λ w. region_at (changed_at region g f.nodes) n w n.parent n.offset n.priority n.placing (enabled n) (readonly n) (nonvolatile n)
      (unmergeable n) w.container) (λ w. w)

  romd_sound : (region : RegionId) (on : Bool) → refusal_of f (calls.Romd region on) ≡ None → IsClosedForest (counted (changed f (calls.Romd region on)))
  romd_sound region on e =
      let each = each_none (no_calls f (calls.Romd region on)) e in
      let m = known_node f region each.0 in
      let wrong = refuse_where-none (λ n. not (is_rom_device n.kind)) (WrongKind region) (node_of f.nodes region) m.0 m.1 each.1.0 in
      field_sound region m.0 m.1 (calls.Romd region on) e (λ n. record n { romd = on }) (λ n. refl) (λ n. refl) (λ n. (refl, refl))
      (λ w. region_romd (changed_at region (λ n. record n { romd = on }) f.nodes) m.0 w on (not-false (is_rom_device m.0.kind) wrong)) (λ w. w)

  log_sound : (region : RegionId) (client : Client) (on : Bool) → refusal_of f (calls.Log region client on) ≡ None →
      IsClosedForest (counted (changed f (calls.Log region client on)))
  log_sound region client on e =
      let each = each_none (no_calls f (calls.Log region client on)) e in
      let m = known_node f region each.0 in
      let wrong = refuse_where-none (λ n. not (is_memory n.kind)) (WrongKind region) (node_of f.nodes region) m.0 m.1 each.1.0 in
      field_sound region m.0 m.1 (calls.Log region client on) e (λ n. record n { log = logged client on n.log }) (λ n. refl) (λ n. refl) (λ n. (refl, refl))
      (λ w. region_logged (changed_at region (λ n. record n { log = logged client on n.log }) f.nodes) m.0 w client on
      (not-false (is_memory m.0.kind) wrong)) (λ w. w)

  map_sound : (region : RegionId) (iova size : ℕ) (space : SpaceId) (translated : ℕ) (perm : Perm) → iova < 2 ^ 64 → size ≤ 2 ^ 64 →
      refusal_of f (calls.Map region iova size space translated perm) ≡ None →
      IsClosedForest (counted (changed f (calls.Map region iova size space translated perm)))
  map_sound region iova size space translated perm below small e =
      let call = calls.Map region iova size space translated perm in
      let each = each_none (no_calls f call) e in
      let m = known_node f region each.0 in
      let page = bad_page-none iova size each.1.1.1.0 below small in
      let wrong = refuse_where-none (λ n. not (is_iommu n.kind)) (WrongKind region) (node_of f.nodes region) m.0 m.1 each.1.1.0 in
      let there = space_there f space each.1.0 in
      let entry : Entry = record { iova = iova; mask = size - 1; space = space; translated = translated; perm = perm } in
      let good : bad_page iova (size - 1 + 1) ≡ None = subst (λ k. bad_page iova k ≡ None) (sym page.mask) each.1.1.1.0 in
      let free : least_met iova (size - 1 + 1) m.0.entries ≡ None =
      subst (λ k. least_met iova k m.0.entries ≡ None) (sym page.mask) (page_free iova size (node_of f.nodes region) m.0 m.1 each.1.1.1.1.0) in
      let few = count-none (λ n. n.entries) which.Entries most_entries (node_of f.nodes region) m.0 m.1 each.1.1.1.1.1.0 in
      field_sound region m.0 m.1 call e (λ n. record n { entries = put_by entry_order entry n.entries }) (λ n. refl) (λ n. refl) (λ n. (refl, refl))
      (λ w. region_mapped (changed_at region (λ n. record n { entries = put_by entry_order entry n.entries }) f.nodes) m.0 w entry
      (not-false (is_iommu m.0.kind) wrong) page.ends good free few)
      (λ w. every_put (λ x. IsSome (root_of f x.space)) entry_order entry m.0.entries there w)

  unmap_sound : (region : RegionId) (iova : ℕ) → refusal_of f (calls.Unmap region iova) ≡ None → IsClosedForest (counted (changed f (calls.Unmap region iova)))
  unmap_sound region iova e =
      let each = each_none (no_calls f (calls.Unmap region iova)) e in
      let m = known_node f region each.0 in
      field_sound region m.0 m.1 (calls.Unmap region iova) e (λ n. record n { entries = filter (λ x. not (has_iova iova x)) n.entries }) (λ n. refl)
      (λ n. refl) (λ n. (refl, refl))
      (λ w. region_unmapped (changed_at region (λ n. record n { entries = filter (λ x. not (has_iova iova x)) n.entries }) f.nodes) m.0 w
      (λ x. not (has_iova iova x))) (λ w. every_filter (λ x. IsSome (root_of f x.space)) (λ x. not (has_iova iova x)) m.0.entries w)

  event_sound : (region : RegionId) (event : Ioevent) → refusal_of f (calls.Event region event) ≡ None →
      IsClosedForest (counted (changed f (calls.Event region event)))
  event_sound region event e =
      let each = each_none (no_calls f (calls.Event region event)) e in
      let m = known_node f region each.0 in
      let wrong = refuse_where-none (λ n. not (takes_events n.kind)) (WrongKind region) (node_of f.nodes region) m.0 m.1 each.1.0 in
      let free = refuse_where-none (has_event event.offset event.size event.matched event.value) EventTaken (node_of f.nodes region) m.0 m.1 each.1.1.1.0 in
      let few = count-none (λ n. n.events) which.Events most_events (node_of f.nodes region) m.0 m.1 each.1.1.1.1.0 in
      field_sound region m.0 m.1 (calls.Event region event) e (λ n. record n { events = put_by event_order event n.events }) (λ n. refl) (λ n. refl)
      (λ n. (refl, refl))
      (λ w. region_with_event (changed_at region (λ n. record n { events = put_by event_order event n.events }) f.nodes) m.0 w event
      (not-false (takes_events m.0.kind) wrong) each.1.1.0 free few) (λ w. w)

  unevent_sound : (region : RegionId) (offset size : ℕ) (matched : Bool) (value : ℕ) → refusal_of f (calls.Unevent region offset size matched value) ≡ None →
      IsClosedForest (counted (changed f (calls.Unevent region offset size matched value)))
  unevent_sound region offset size matched value e =
      let each = each_none (no_calls f (calls.Unevent region offset size matched value)) e in
      let m = known_node f region each.0 in
      field_sound region m.0 m.1 (calls.Unevent region offset size matched value) e
      (λ n. record n { events = filter (λ x. not (is_event offset size matched value x)) n.events }) (λ n. refl) (λ n. refl) (λ n. (refl, refl))
      (λ w. region_without_event (changed_at region (λ n. record n { events = filter (λ x. not (is_event offset size matched value x)) n.events }) f.nodes)
      m.0 w (λ x. not (is_event offset size matched value x))) (λ w. w)

  drop_sound : (region : RegionId) → refusal_of f (calls.Drop region) ≡ None → IsClosedForest (counted (changed f (calls.Drop region)))
  drop_sound region e =
      let each = each_none (no_calls f (calls.Drop region)) e in
      let unused = in_use-none f region each.1.1.0 in
      let left = without region f.nodes in
      let regions = weaker (λ n. IsRegion f.nodes n × ((is_child_of region n ≡ false) × (targets region n.kind ≡ false))) (IsRegion left)
      (λ n w. region_without region f.nodes n w.1.0 w.1.1 w.0) f.nodes
      (both (IsRegion f.nodes) (λ n. (is_child_of region n ≡ false) × (targets region n.kind ≡ false)) f.nodes s.regions
      (both (λ n. is_child_of region n ≡ false) (λ n. targets region n.kind ≡ false) f.nodes unused.no_children unused.no_aliases)) in
      with_nodes f s (few_calls_yet f (calls.Drop region) e) left f.placings
      (every_without (IsRegion left) region f.nodes regions)
      (pairs_filter ArePlacedApart (λ n. not (has_id region n)) f.nodes s.placings)
      (weaker (λ p. IsSome (node_of f.nodes p.1) × (has_root region p ≡ false)) (λ p. IsSome (node_of left p.1))
      (λ p w. there_without region f.nodes p.1 (λ k. let t = w.1 in grind (arith, nat_tests)) w.0) f.spaces
      (both (λ p. IsSome (node_of f.nodes p.1)) (λ p. has_root region p ≡ false) f.spaces s.roots unused.no_spaces))
      (every_without (HasSpaces f) region f.nodes s.translated)
      (length-filter (λ n. not (has_id region n)) f.nodes)

-- an accepted call whose numbers fit keeps it
pub IsClosedForest-accepted : (f : Forest) (call : Call) → IsOrderedForest f → IsClosedForest f → FitsTypes call → refusal_of f call ≡ None →
    IsClosedForest (counted (changed f call))
IsClosedForest-accepted f (calls.Region kind size) h s fits e = region_sound f h s kind size fits e
IsClosedForest-accepted f (calls.Space space root) h s fits e = space_sound f h s space root e
IsClosedForest-accepted f (calls.Add parent offset child priority) h s fits e = add_sound f h s parent offset child priority e
IsClosedForest-accepted f (calls.Del parent child) h s fits e = del_sound f h s parent child e
IsClosedForest-accepted f (calls.Move child offset) h s fits e = move_sound f h s child offset e
IsClosedForest-accepted f (calls.Resize region size) h s fits e = resize_sound f h s region size fits e
IsClosedForest-accepted f (calls.Retarget alias offset) h s fits e = retarget_sound f h s alias offset e
IsClosedForest-accepted f (calls.Enable region on) h s fits e =
    flag_sound f h s region (calls.Enable region on) e (each_none (no_calls f (calls.Enable region on)) e).0 (λ n. on) (λ n. n.readonly) (λ n. n.nonvolatile)
    (λ n. n.unmergeable)
IsClosedForest-accepted f (calls.Readonly region on) h s fits e =
    flag_sound f h s region (calls.Readonly region on) e (each_none (no_calls f (calls.Readonly region on)) e).0 (λ n. n.enabled) (λ n. on)
    (λ n. n.nonvolatile) (λ n. n.unmergeable)
IsClosedForest-accepted f (calls.Nonvolatile region on) h s fits e =
    flag_sound f h s region (calls.Nonvolatile region on) e (each_none (no_calls f (calls.Nonvolatile region on)) e).0 (λ n. n.enabled) (λ n. n.readonly)
    (λ n. on) (λ n. n.unmergeable)
IsClosedForest-accepted f (calls.Unmergeable region on) h s fits e =
    flag_sound f h s region (calls.Unmergeable region on) e (each_none (no_calls f (calls.Unmergeable region on)) e).0 (λ n. n.enabled) (λ n. n.readonly)
    (λ n. n.nonvolatile) (λ n. on)
IsClosedForest-accepted f (calls.Romd region on) h s fits e = romd_sound f h s region on e
IsClosedForest-accepted f (calls.Log region client on) h s fits e = log_sound f h s region client on e
IsClosedForest-accepted f (calls.Global on) h s fits e = global_sound f h s on e
IsClosedForest-accepted f (calls.Map region iova size space translated perm) h s fits e = map_sound f h s region iova size space translated perm fits.0 fits.1 e
IsClosedForest-accepted f (calls.Unmap region iova) h s fits e = unmap_sound f h s region iova e
IsClosedForest-accepted f (calls.Event region event) h s fits e = event_sound f h s region event e
IsClosedForest-accepted f (calls.Unevent region offset size matched value) h s fits e = unevent_sound f h s region offset size matched value e
IsClosedForest-accepted f (calls.Drop region) h s fits e = drop_sound f h s region e

pub IsClosedForest-after : (f g : Forest) (call : Call) → IsOrderedForest f → IsClosedForest f → FitsTypes call → after f call ≡ Ok g → IsClosedForest g
IsClosedForest-after f g call h s fits e =
    let ok = after-accepted f g call e in
    subst IsClosedForest (sym ok.1) (IsClosedForest-accepted f call h s fits ok.0)

-- a call keeps it, accepted or not
pub IsClosedForest-left_by : (f : Forest) (call : Call) → IsOrderedForest f → IsClosedForest f → FitsTypes call → IsClosedForest (left_by f (after f call))
IsClosedForest-left_by f call h s fits =
    elim (after f call) as (λ o. after f call ≡ o → IsClosedForest (left_by f o)) [ Ok g ↦ λ e. IsClosedForest-after f g call h s fits e | Err why ↦ λ e. s ]
    refl

pub IsClosedForest-after_all : (f : Forest) (list : List Call) → IsOrderedForest f → IsClosedForest f → Every FitsTypes list → IsClosedForest (after_all f list)
IsClosedForest-after_all f [] h s fits = s
IsClosedForest-after_all f (call ∷ rest) h s fits =
    IsClosedForest-after_all (left_by f (after f call)) rest (IsOrderedForest-left_by f call h) (IsClosedForest-left_by f call h s fits.0) fits.1

pub IsClosedForest-empty : IsClosedForest empty
IsClosedForest-empty = record {
  regions = tt;
  placings = tt;
  roots = tt;
  translated = tt;
  spaces = tt;
  few_regions = omega arith;
  few_made = omega arith;
  few_spaces = omega arith;
  few_calls = omega arith;
}

-- it holds of every forest that calls make of the empty one
pub IsClosedForest-made : (list : List Call) → Every FitsTypes list → IsClosedForest (after_all empty list)
IsClosedForest-made list fits = IsClosedForest-after_all empty list IsOrderedForest-empty IsClosedForest-empty fits
