use Rattle.std.proofs.Common.{rules, of_calls}
use Rattle.std.proofs.lemmas.List.Sorted.{IsPartitionPoint-from_clause}
use Rattle.schema.proofs.PageLemmas.{is_early, early-partitioned, all-early, all-late}
use Rattle.schema.proofs.paged.start.Goals as goal

pub returns-clause-before : goal.returns-clause-before
returns-clause-before g c =
    let key = g.T.Keyed.key_of in
    all-early key c.args.bound c.args.items.now c.partition_point.result c.partition_point.ensures.bound
    (IsPartitionPoint-from_clause (is_early key c.args.bound) c.args.items.now c.partition_point.result c.partition_point.ensures.partitioned (early-partitioned key c.args.bound c.args.items.now c.requires) (λ a r f k. search (rules, of_calls)))

pub returns-clause-within : goal.returns-clause-within
returns-clause-within g c =
    let key = g.T.Keyed.key_of in
    all-late key c.args.bound c.args.items.now c.partition_point.result
    (IsPartitionPoint-from_clause (is_early key c.args.bound) c.args.items.now c.partition_point.result c.partition_point.ensures.partitioned (early-partitioned key c.args.bound c.args.items.now c.requires) (λ a r f k. search (rules, of_calls)))
