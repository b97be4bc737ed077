use Rattle.std.proofs.Common.{ℕ, ◌<◌, All, List, length, sym, subst, ◌∙◌}
use Rattle.std.specs.Prelude.{slice_index_or}
use Rattle.std.proofs.lemmas.List.{with_items_is}
use Rattle.generation.specs.Published.{Published}
use Rattle.epoch_rule.specs.Values.{PassValue}
use Rattle.race_levels.specs.Levels.{HasMet, IsHeard}
use Rattle.race_inside.proofs.blocks.meet.Goals as goal

pub meet_all-requires-clause-heard : goal.meet_all-requires-clause-heard
meet_all-requires-clause-heard c =
    subst (λ (xs : List (PassValue Published)). All (IsHeard c.args.desk.now.seat.seen) xs) (sym c.as_mut_slice.ensures.value) c.requires.heard

pub returns-clause-met : goal.returns-clause-met
returns-clause-met c =
    subst (λ (z : List (PassValue Published) × List (PassValue Published)). (i : ℕ) (d : PassValue Published) → i < length z.0
    → HasMet c.args.desk.now.seat.seen (slice_index_or z.0 i d) (slice_index_or z.1 i d))
    (λ i. (
      c.as_mut_slice.ensures.value i,
      sym (with_items_is c.args.cpus.now c.meet_all.new.cpus (c.meet_all.auto.cpus ∙ c.as_mut_slice.ensures.len)) i,
    )) c.meet_all.ensures.met
