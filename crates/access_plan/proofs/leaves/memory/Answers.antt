use Rattle.std.proofs.Common.{◌≡◌, ◌+◌, [], ◌∷◌, true, refl, sym, subst}
use Rattle.mem_base.specs.declared.map.spots.Spot.{Spot}
use Rattle.mem_base.specs.access.AccessSteps.{Transfer, part}
use Rattle.mem_base.specs.access.Marks.{marks_of}
use Rattle.mem_base.specs.access.Plans.{memory, in_memory}
use Rattle.access_plan.specs.declared.lists.Reach.TheVariants as reach
use Rattle.access_plan.specs.Lists.{Adds, marks_in, moved}
use Rattle.access_plan.proofs.ListLaws.{adds_one, adds_then, memory_written}
use Rattle.access_plan.proofs.leaves.memory.Goals as goal

pub returns-in_ok-marks : goal.returns-in_ok-marks
returns-in_ok-marks c =
    let spot : Spot = c.args.spot.now in
    let at = c.args.at in
    let n = c.args.len in
    let w : c.args.write ≡ true = c.if-write.true in
    let t : Transfer = moved true c.args.bytes.now in
    let first : Adds t c.args.list.now.items c.push.new.self.items (memory spot.leaf spot.offset (part at n t) ∷ []) at (at + n) =
    adds_one t c.args.list.now.items c.push.new.self.items (reach.Memory spot.leaf spot.offset at n) at (at + n) c.in_ok-push.ensures.items (refl, refl) in
    subst (λ b. Adds (moved b c.args.bytes.now) c.args.list.now.items c.marks.new.list.items (in_memory spot (part at n (moved b c.args.bytes.now)))
    at (at + n))
    (sym w)
    (subst (λ rs. Adds t c.args.list.now.items c.marks.new.list.items rs at (at + n))
    (memory_written spot c.args.bytes.now at n (c.requires.within w))
    (adds_then t c.args.list.now.items c.push.new.self.items c.marks.new.list.items (memory spot.leaf spot.offset (part at n t) ∷ [])
    (marks_in spot.leaf (marks_of spot.attrs.log spot.offset n)) at (at + n) (at + n) first c.in_ok-marks.ensures))
