use Rattle.std.proofs.Common.{rules}
use Rattle.std.proofs.lemmas.Fn.{always_returns_same}
use Rattle.mem_base.proofs.EntryLaws.{ends_before, ends_parted}
use Rattle.iommu.proofs.tables.passed.Goals as goal

pub returns-clause-passed : goal.returns-clause-passed
returns-clause-passed c =
    c.partition_point.ensures.partitioned (ends_before c.args.offset) (always_returns_same _ _ _ (λ a r f' k. search rules))
    (ends_parted c.args.offset c.args.entries.now c.requires)
