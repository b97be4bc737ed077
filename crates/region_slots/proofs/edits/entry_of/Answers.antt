use Rattle.std.proofs.Common.{rules, ◌-◌, ◌<◌, ◌≤◌, ◌^◌, ℕ, subst}
use Rattle.map_laws.proofs.PageLaws.{bad_page-none}
use Rattle.region_slots.proofs.edits.entry_of.Goals as goal

pub returns-clause-within : goal.returns-clause-within
returns-clause-within c =
    let small = subst (λ (k : ℕ). k ≤ 2 ^ 64) c.get.ensures.value c.get.ensures.bound in
    let below : c.args.iova < 2 ^ 64 = search rules in
    let page = bad_page-none c.args.iova c.args.size c.requires below small in
    page.ends
