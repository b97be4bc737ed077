use Rattle.std.proofs.Common.{rules, arith}
use Rattle.std.specs.Prelude.{int_lt}
use Rattle.std.proofs.lemmas.List.Sorted.{IsPartitionPoint-from_clause}
use Rattle.region_slots.specs.declared.children.Child.{Child}
use Rattle.region_slots.proofs.SlotsLaws.{parted, partition_rank}
use Rattle.region_slots.proofs.children.rank_of.Goals as goal

pub returns-clause-rank : goal.returns-clause-rank
returns-clause-rank c =
    let cs = c.args.placed.now in
    let point = IsPartitionPoint-from_clause (λ (x : Child). int_lt c.args.priority x.priority) cs _ c.partition_point.ensures.partitioned
    (parted c.args.priority cs c.requires.sorted) (λ a r f' k. search rules) in
    partition_rank c.args.priority cs c.partition_point.result c.partition_point.ensures.bound (λ i d l m. point.0 i d (omega arith) m) point.1
