use Rattle.std.proofs.Common.{rules}
use Rattle.std.proofs.lemmas.Fn.{always_returns_same}
use Rattle.ioevents.specs.Matching.{is_before}
use Rattle.ioevents.proofs.MatchingLaws.{before_parted}
use Rattle.ioevents.proofs.matching.first_at.Goals as goal

pub returns-clause-passed : goal.returns-clause-passed
returns-clause-passed c =
    c.partition_point.ensures.partitioned (is_before c.args.offset c.args.size) (always_returns_same _ _ _ (λ a r f' k. search rules))
    (before_parted c.args.offset c.args.size c.args.events.now c.requires)
