use Rattle.std.proofs.Common.{◌≡◌, ◌∙◌, List, Option, filter, ap}
use Rattle.std.specs.Prelude.{find, option_map}
use Rattle.std.specs.Option.{option_or}
use Rattle.mem_base.specs.declared.map.forests.Node.{Node}
use Rattle.mem_base.specs.declared.map.ids.SpaceId.{SpaceId}
use Rattle.mem_base.specs.declared.map.ids.RegionId.{RegionId}
use Rattle.mem_base.specs.declared.map.refusals.Refusal.{Refusal}
use Rattle.mem_base.specs.declared.map.refusals.User.TheVariants as user
use Rattle.mem_base.specs.map.Region.{is_child_of}
use Rattle.mem_base.specs.map.Refusals.{first_id, targets, has_root, least_space}
use Rattle.mem_base.specs.declared.map.refusals.Refusal.TheVariants.{InUse}
use Rattle.region_tree.proofs.AddLaws.{or_three}
use Rattle.region_tree.proofs.conditions.in_use.Goals as goal

pub returns : goal.returns
returns c =
    let f = c.args.tree.now in
    let r = c.args.region in
    let region : RegionId → Refusal = λ q. InUse (user.Region q) in
    let root : SpaceId → Refusal = λ s. InUse (user.Space s) in
    let child : c.used_by_region.result ≡ option_map region (first_id (is_child_of r) f) =
    c.used_by_region.ensures ∙ ap (option_map region)
    (c.first_child.ensures ∙ ap (λ (ns : List Node). option_map (λ n. n.id) (find (is_child_of r) ns)) (c.as_slice.ensures.nodes ∙ c.slots.ensures)) in
    let alias : c.used_by_region-2.result ≡ option_map region (first_id (λ n. targets r n.kind) f) =
    c.used_by_region-2.ensures ∙ ap (option_map region)
    (c.first_alias.ensures ∙ ap (λ (ns : List Node). option_map (λ n. n.id) (find (λ n. targets r n.kind) ns))
    (c.as_slice-2.ensures.nodes ∙ c.slots-2.ensures)) in
    let space : c.used_by_space.result ≡ option_map root (least_space (filter (has_root r) f.spaces)) =
    c.used_by_space.ensures ∙ ap (option_map root)
    (c.first_space.ensures ∙ ap (λ (ps : List (SpaceId × RegionId)). least_space (filter (has_root r) ps)) c.spaces.ensures) in
    c.or-2.ensures
    ∙ ap (λ (o : Option Refusal). option_or o c.used_by_space.result)
    (c.or.ensures ∙ ap (λ (o : Option Refusal). option_or o c.used_by_region-2.result) child
    ∙ ap (option_or (option_map region (first_id (is_child_of r) f))) alias)
    ∙ ap (option_or (option_or (option_map region (first_id (is_child_of r) f)) (option_map region (first_id (λ n. targets r n.kind) f)))) space
    ∙ or_three (option_map region (first_id (is_child_of r) f)) (option_map region (first_id (λ n. targets r n.kind) f))
    (option_map root (least_space (filter (has_root r) f.spaces)))
