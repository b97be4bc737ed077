use Rattle.std.proofs.Common.{◌≡◌, ◌∙◌, subst, false, get_or}
use Rattle.region_slots.specs.Slots.{nodes_of}
use Rattle.region_extents.specs.Kept.{listed}
use Rattle.region_extents.proofs.UsersLaws.{apart_plus, aliases_at}
use Rattle.region_extents.proofs.raising.await_users.Goals as goal

pub returns : goal.returns
returns c v h =
    let a = c.in_ok-await_all.ensures v h in
    let p = c.in_ok-await_container.ensures v a.0 in
    let slots = c.args.slots.now in
    let d = c.index-slots-at.result in
    let there = c.in-Some.ensures.1 d in
    let list = c.as_slice.ensures ∙ c.index-aliases-at.is
    ∙ aliases_at slots c.args.aliases.now c.in-Some.at d _ c.args.region c.requires.aliases c.in-Some.ensures.0 there in (
      p.0,
      λ t. apart_plus (nodes_of slots) c.args.extra c.args.region v (get_or slots c.in-Some.at d).node c.requires.ascending there c.requires.apart p.1
          (subst (λ xs. listed v xs ≡ false) list a.1),
    )
