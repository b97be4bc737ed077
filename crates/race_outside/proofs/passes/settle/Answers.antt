use Rattle.std.proofs.Common.{◌<◌, List, length, sym, subst, ◌∙◌}
use Rattle.std.specs.Prelude.{slice_index_or}
use Rattle.std.proofs.lemmas.List.{take_at}
use Rattle.generation.specs.Published.{Published}
use Rattle.epoch_rule.specs.Values.{PassValue}
use Rattle.race_levels.specs.Levels.{IsHeard}
use Rattle.race_outside.specs.Passes.{HasSettled}
use Rattle.race_outside.proofs.passes.settle.Goals as goal

pub level-requires-clause-others : goal.level-requires-clause-others
level-requires-clause-others c i d near other =
    let value = c.as_mut_slice.ensures.value in
    subst (λ (xs : List (PassValue Published)). IsHeard c.args.desk.now.seat.seen (slice_index_or xs i d)) (sym value)
    (c.requires.others i d (subst (λ (xs : List (PassValue Published)). i < length xs) value near) other)

pub returns : goal.returns
returns c =
    let news : List (PassValue Published) = c.level.new.cpus in
    let l = c.level.ensures in record {
      settled = subst (λ (xs : List (PassValue Published)). HasSettled c.args.desk.now c.args.cpus.now.items c.level.new.desk xs)
          (sym (take_at news _ c.args.cpus.now.len (l.count ∙ c.as_mut_slice.ensures.len)))
          (subst (λ (ys : List (PassValue Published)). HasSettled c.args.desk.now ys c.level.new.desk news) c.as_mut_slice.ensures.value (record {
            grew = l.grew;
            legal = l.legal;
            heard = l.heard;
            count = l.count;
            met = l.met;
          }));
    }
