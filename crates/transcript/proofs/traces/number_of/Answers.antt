use Rattle.std.proofs.Common.{rules, of_calls, nat_le}
use Rattle.std.proofs.lemmas.List.Sorted.{IsPartitionPoint-from_clause, IsPartitionedBy-leb}
use Rattle.transcript.proofs.GatherLemmas.{counted_by}
use Rattle.transcript.proofs.traces.number_of.Goals as goal

pub returns : goal.returns
returns c =
    counted_by (λ b. nat_le b c.args.line) c.args.begins.now c.partition_point.result c.partition_point.ensures.bound
    (IsPartitionPoint-from_clause (λ b. nat_le b c.args.line) c.args.begins.now c.partition_point.result c.partition_point.ensures.partitioned (IsPartitionedBy-leb (λ b. b) c.args.begins.now c.args.line c.requires) (λ a r f k. search (rules, of_calls)))
