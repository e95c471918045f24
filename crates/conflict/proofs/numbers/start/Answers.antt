use Rattle.std.proofs.Common.{rules, of_calls, ◌≡◌, true, false, nat_lt}
use Rattle.std.proofs.lemmas.List.Sorted.{IsPartitionPoint-from_clause}
use Rattle.conflict.proofs.Ordered.{ascending_pairs, each-drop, each-take, partitioned}
use Rattle.conflict.proofs.numbers.start.Goals as goal

pub returns-clause-before : goal.returns-clause-before
returns-clause-before c =
    each-take (λ m. m) (λ m. nat_lt m c.args.number ≡ true) c.partition_point.result c.args.numbers.now c.partition_point.ensures.bound
    (IsPartitionPoint-from_clause (λ m. nat_lt m c.args.number) c.args.numbers.now c.partition_point.result c.partition_point.ensures.partitioned (partitioned (λ m. m) c.args.number c.args.numbers.now (ascending_pairs c.args.numbers.now c.requires)) (λ a r f k. search (rules, of_calls))).0

pub returns-clause-after : goal.returns-clause-after
returns-clause-after c =
    each-drop (λ m. m) (λ m. nat_lt m c.args.number ≡ false) c.partition_point.result c.args.numbers.now
    (IsPartitionPoint-from_clause (λ m. nat_lt m c.args.number) c.args.numbers.now c.partition_point.result c.partition_point.ensures.partitioned (partitioned (λ m. m) c.args.number c.args.numbers.now (ascending_pairs c.args.numbers.now c.requires)) (λ a r f k. search (rules, of_calls))).1
