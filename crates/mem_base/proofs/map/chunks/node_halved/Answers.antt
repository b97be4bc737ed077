use Rattle.std.proofs.Common.{rules, ◌≡◌, ◌-◌, false, get_or, Some, None, IfSome, refl, sym, ap, subst, ◌∙◌, arith}
use Rattle.std.proofs.lemmas.Fn.{always_returns_same}
use Rattle.std.proofs.lemmas.Bool.Decides.{nat_tests}
use Rattle.std.specs.Prelude.{nat_le, flat_map}
use Rattle.std.specs.Arc.{arc_value}
use Rattle.mem_base.specs.map.Region.{IsAscending, node_of}
use Rattle.mem_base.specs.map.Chunks.{first_id}
use Rattle.mem_base.proofs.ChunkLaws.{firsts_parted, all_above, none_there, halved, ascending_piece}
use Rattle.mem_base.proofs.map.chunks.node_halved.Goals as goal

pub returns-then-after-eq0-clause-none : goal.returns-then-after-eq0-clause-none
returns-then-after-eq0-clause-none c =
    let chunks = c.args.chunks.now in
    let r = c.args.region in
    let point = c.partition_point-after.ensures.partitioned (λ k. nat_le (first_id (arc_value k)) r.0)
    (always_returns_same _ _ _ (λ a r f' k. search rules)) (firsts_parted arc_value r chunks c.requires.filled c.requires.ascending) in
    let none : node_of (flat_map arc_value chunks) r ≡ None =
    none_there r (flat_map arc_value chunks) (all_above arc_value r chunks c.requires.filled c.requires.ascending
    (λ d l. let low : nat_le (first_id (arc_value (get_or chunks 0 d))) r.0 ≡ false = point.1 0 d (search rules) l in grind (arith, nat_tests, low))) in
    (λ e. none, λ e. refl)

pub node_in-requires : goal.node_in-requires
node_in-requires c =
    let chunks = c.args.chunks.now in
    let k = c.index-chunks-after.result in
    let piece = c.as_slice.ensures.value ∙ c.deref.ensures ∙ ap arc_value c.index-chunks-after.is in
    subst IsAscending (sym piece) (ascending_piece arc_value chunks (c.partition_point-after.result - 1) k (search rules) c.requires.ascending)

pub returns-clause-none : goal.returns-clause-none
returns-clause-none c =
    let chunks = c.args.chunks.now in
    let r = c.args.region in
    let k = c.index-chunks-after.result in
    let piece = c.as_slice.ensures.value ∙ c.deref.ensures ∙ ap arc_value c.index-chunks-after.is in
    let point = c.partition_point-after.ensures.partitioned (λ k. nat_le (first_id (arc_value k)) r.0)
    (always_returns_same _ _ _ (λ a r f' k. search rules)) (firsts_parted arc_value r chunks c.requires.filled c.requires.ascending) in
    let same : node_of (flat_map arc_value chunks) r ≡ node_of c.as_slice.result.now r =
    halved arc_value r chunks c.partition_point-after.result k (search rules) (search rules) c.requires.filled c.requires.ascending point
    ∙ ap (λ ns. node_of ns r) (sym piece) in
    (λ e. same ∙ c.node_in.ensures.none.0 e, λ e. c.node_in.ensures.none.1 (sym same ∙ e))

pub returns-clause-some : goal.returns-clause-some
returns-clause-some c =
    let chunks = c.args.chunks.now in
    let r = c.args.region in
    let k = c.index-chunks-after.result in
    let piece = c.as_slice.ensures.value ∙ c.deref.ensures ∙ ap arc_value c.index-chunks-after.is in
    let point = c.partition_point-after.ensures.partitioned (λ k. nat_le (first_id (arc_value k)) r.0)
    (always_returns_same _ _ _ (λ a r f' k. search rules)) (firsts_parted arc_value r chunks c.requires.filled c.requires.ascending) in
    let same : node_of (flat_map arc_value chunks) r ≡ node_of c.as_slice.result.now r =
    halved arc_value r chunks c.partition_point-after.result k (search rules) (search rules) c.requires.filled c.requires.ascending point
    ∙ ap (λ ns. node_of ns r) (sym piece) in
    subst (λ o. IfSome c.node_in.result (λ node. o ≡ Some node.now)) (sym same) c.node_in.ensures.some
