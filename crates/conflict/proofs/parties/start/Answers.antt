use Rattle.std.proofs.Common.{rules, of_calls, ◌≡◌, true, false, nat_lt}
use Rattle.std.proofs.lemmas.List.Sorted.{IsPartitionPoint-from_clause}
use Rattle.conflict.proofs.Ordered.{each-drop, each-take, partitioned, rising_pairs}
use Rattle.conflict.proofs.parties.start.Goals as goal

pub returns-clause-before : goal.returns-clause-before
returns-clause-before g c =
    each-take (λ p. p.number) (λ p. nat_lt p.number c.args.number ≡ true) c.partition_point.result c.args.parties.now c.partition_point.ensures.bound
    (IsPartitionPoint-from_clause (λ p. nat_lt p.number c.args.number) c.args.parties.now c.partition_point.result c.partition_point.ensures.partitioned (partitioned (λ p. p.number) c.args.number c.args.parties.now (rising_pairs c.args.parties.now c.requires)) (λ a r f k. search (rules, of_calls))).0

pub returns-clause-after : goal.returns-clause-after
returns-clause-after g c =
    each-drop (λ p. p.number) (λ p. nat_lt p.number c.args.number ≡ false) c.partition_point.result c.args.parties.now
    (IsPartitionPoint-from_clause (λ p. nat_lt p.number c.args.number) c.args.parties.now c.partition_point.result c.partition_point.ensures.partitioned (partitioned (λ p. p.number) c.args.number c.args.parties.now (rising_pairs c.args.parties.now c.requires)) (λ a r f k. search (rules, of_calls))).1
