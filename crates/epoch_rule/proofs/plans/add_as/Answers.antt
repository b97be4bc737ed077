use Rattle.epoch_rule.proofs.Common.{arith, sym, ap, word_after, IsCopy}
use Rattle.epoch_rule.proofs.WordSteps.{ready_touch}
use Rattle.epoch_rule.proofs.plans.add_as.Goals as goal

pub fetch_add-requires : goal.fetch_add-requires
fetch_add-requires g c = let t = c.requires.table in let a = t.1.0 in let i = c.requires.index in let r = c.requires.ready in let b = r.inside in (
  t.0,
  omega arith,
  ready_touch (IsCopy g.E.Edition.counted g.E.Edition.forest g.E.Edition.places) _ _ _ _ _ _ _ _ _ _ r i
      (λ n l. ap (λ s. word_after s n) (sym c.requires.step)),
)
