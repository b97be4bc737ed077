use Rattle.std.proofs.Common.{◌≡◌, true, Some, ◌∷◌, [], sym, ap, subst, refl, ◌∙◌}
use Rattle.mem_base.specs.access.Marks.{marks_of}
use Rattle.mem_base.specs.access.Plans.{mark}
use Rattle.dirty_log.specs.MarksLeft.{first_of}
use Rattle.access_base.proofs.MemoryLaws.{first_and_rest}
use Rattle.access_plan.specs.declared.lists.Reach.TheVariants as reach
use Rattle.access_plan.specs.Lists.{IsUnderway, marks_in, moved}
use Rattle.access_plan.proofs.ListLaws.{underway_none, underway_then, adds_one}
use Rattle.access_plan.proofs.leaves.marks.Goals as goal

pub loop-page-init : goal.loop-page-init
loop-page-init c =
    let t = moved true c.args.bytes.now in
    let whole = marks_in c.args.region (marks_of c.args.log c.args.offset c.args.len) in
    subst (λ ms. IsUnderway t c.args.list.now.items c.args.list.now.items whole (marks_in c.args.region ms) c.args.at c.args.at) (sym c.marks_of-marks.ensures)
    (underway_none t c.args.list.now.items whole c.args.at)

pub loop-page-preserved : goal.loop-page-preserved
loop-page-preserved c =
    let t = moved true c.args.bytes.now in
    let region = c.args.region in
    let at = c.args.at in
    let first : Some (c.in-Some.page, c.in-Some.client) ≡ first_of c.loop-page.marks = sym c.in-Some.is ∙ c.next.ensures.first in
    let list : c.loop-page.marks ≡ (c.in-Some.page, c.in-Some.client) ∷ c.next.new.self =
    first_and_rest c.loop-page.marks c.next.new.self (c.in-Some.page, c.in-Some.client) first c.next.ensures.rest in
    underway_then t c.args.list.now.items c.loop-page.list.items c.push.new.self.items (marks_in region (marks_of c.args.log c.args.offset c.args.len))
    (marks_in region c.loop-page.marks) (mark region c.in-Some.client c.in-Some.page ∷ []) (marks_in region c.next.new.self) at at at c.loop-page.invariant
    (ap (marks_in region) list)
    (adds_one t c.loop-page.list.items c.push.new.self.items (reach.Mark region c.in-Some.client c.in-Some.page) at at c.in_ok-push.ensures.items refl)
