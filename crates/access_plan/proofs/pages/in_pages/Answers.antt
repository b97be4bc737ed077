use Rattle.std.proofs.Common.{◌≡◌, ℕ, suc, ◌+◌, ◌-◌, true, Some, sym, ap, ◌∙◌, arith}
use Rattle.mem_base.specs.map.Limits.{most_translations}
use Rattle.mem_base.specs.access.Translations.{translates, used_at, translation_at, if_permitted}
use Rattle.mem_base.specs.access.Trails.{trail_within}
use Rattle.mem_base.specs.access.CorePlans.{in_pages}
use Rattle.iommu.proofs.HopLaws.{translates_there}
use Rattle.access_plan.proofs.PageLaws.{page_then}
use Rattle.access_plan.proofs.pages.in_pages.Goals as goal

pub loop-preserved : goal.loop-preserved
loop-preserved c =
    let f = c.args.g.now.forest in
    let w = c.args.write in
    let x = c.in-Some.spot in
    let e = c.in-Some-used.entry in
    let k : ℕ = most_translations - (c.loop.counter + 1) in
    let step : most_translations - c.loop.counter ≡ suc k = let h = c.loop-test.true in omega (arith, h) in
    let used : used_at f w x.leaf x.offset ≡ Some e =
    ap (λ es. if_permitted w (translation_at es x.offset)) (sym c.in-Some-table.ensures.some) ∙ sym c.used.ensures ∙ c.in-Some-used.is in
    let crosses : translates f x.leaf ≡ true = translates_there _ c.in-Some-table.ensures.none.1 in
    let least = c.in_page-least.ensures.most in (
      (λ i. in_pages (trail_within f w k e.space (c.translated.ensures i)).hops (c.in_page-least.ensures.value i))
          ∙ sym (page_then f w k c.loop.least c.loop.here c.loop.from x e (sym c.look.ensures ∙ c.in-Some.is) crosses used)
          ∙ ap (λ m. in_pages (trail_within f w m c.loop.here c.loop.from).hops c.loop.least) (sym step) ∙ c.loop.invariant.0,
      c.in_page-least.ensures.some,
      (let h = c.loop.invariant.2 in omega (arith, least, h)),
    )
