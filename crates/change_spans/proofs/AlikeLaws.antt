-- What tests on two states of a region tell.
use Rattle.std.proofs.Common.{◌≡◌, true, List, [], Option, Some, None, refl, sym, ◌∙◌, arith}
use Rattle.std.proofs.lemmas.Bool.{eqb-true, and_parts}
use Rattle.mem_base.specs.declared.map.ids.RegionId.{RegionId}
use Rattle.mem_base.specs.declared.map.forests.Node.{Node}
use Rattle.mem_base.specs.map.Kinds.{target_of}
use Rattle.mem_base.specs.map.Region.{node_of}
use Rattle.mem_base.proofs.ForestLaws.{id_of}
use Rattle.view_laws.proofs.TouchedLaws.{kind_same, region_same}
use Rattle.change_laws.specs.Placing.{DiffersInPlace}
use Rattle.change_laws.specs.Reaching.{HasSameWays}
use Rattle.change_spans.specs.Alike.{is_moved_alone, moves_alone, keeps_ways}
use Rattle.mem_base.proofs.BoolLaws.{bool_same}

moved_alone : (n m : Node) → n.id ≡ m.id → is_moved_alone n m ≡ true → DiffersInPlace (Some n) (Some m)
moved_alone n m same h =
    let p = and_parts _ _ h in let q = and_parts _ _ p.0 in let f = and_parts _ _ p.1 in let e = and_parts _ _ f.0 in let d = and_parts _ _ e.0 in
    let c = and_parts _ _ d.0 in let b = and_parts _ _ c.0 in
    let kind = kind_same n.kind m.kind q.0 in let size = eqb-true n.size m.size q.1 in
    let enabled = bool_same n.enabled m.enabled b.0 in let readonly = bool_same n.readonly m.readonly b.1 in
    let nonvolatile = bool_same n.nonvolatile m.nonvolatile c.1 in let romd = bool_same n.romd m.romd d.1 in
    let unmergeable = bool_same n.unmergeable m.unmergeable e.1 in let log = eqb-true n.log m.log f.1 in
    λ z. record {
      id = same z;
      kind = kind z;
      size = size z;
      parent = None;
      offset = 0;
      priority = n.priority;
      placing = 0;
      enabled = enabled z;
      readonly = readonly z;
      nonvolatile = nonvolatile z;
      romd = romd z;
      unmergeable = unmergeable z;
      log = log z;
      entries = [];
      events = [];
    }

pub differs_in_place : (xs ys : List Node) (r : RegionId) → moves_alone (node_of xs r) (node_of ys r) ≡ true → DiffersInPlace (node_of xs r) (node_of ys r)
differs_in_place xs ys r h = go (node_of xs r) (node_of ys r) refl refl h
  where
    go : (o p : Option Node) → node_of xs r ≡ o → node_of ys r ≡ p → moves_alone o p ≡ true → DiffersInPlace o p
    go None None e k h = tt
    go (Some n) (Some m) e k h = moved_alone n m (id_of xs r n e ∙ sym (id_of ys r m k)) h
    go None (Some m) e k h = absurd (grind arith)
    go (Some n) None e k h = absurd (grind arith)

pub same_ways : (o p : Option Node) → keeps_ways o p ≡ true → HasSameWays o p
same_ways None None h = tt
same_ways (Some n) (Some m) h =
    let p = and_parts _ _ h in (region_same n.parent m.parent p.0, region_same (target_of n.kind) (target_of m.kind) p.1)
same_ways None (Some m) h = absurd (grind arith)
same_ways (Some n) None h = absurd (grind arith)
