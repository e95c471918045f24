use Rattle.std.proofs.Common.{rules, of_calls}
use Rattle.std.proofs.lemmas.List.Sorted.{IsPartitionPoint-from_clause}
use Rattle.schema.specs.Pages.{is_before}
use Rattle.schema.proofs.PagedLemmas.{pages_partitioned, start-before, start-within}
use Rattle.schema.proofs.paged.first_page.Goals as goal

pub returns-clause-before : goal.returns-clause-before
returns-clause-before g c =
    let items = g.P.Paged.items_of in
    let key = g.P.Item.Keyed.key_of in
    start-before key items c.args.bound c.args.pages.now c.partition_point.result c.partition_point.ensures.bound
    (IsPartitionPoint-from_clause (λ page. is_before key c.args.bound (items page)) c.args.pages.now c.partition_point.result c.partition_point.ensures.partitioned (pages_partitioned key items c.args.bound c.args.pages.now c.requires) (λ a r f k. search (rules, of_calls)))

pub returns-clause-within : goal.returns-clause-within
returns-clause-within g c =
    let items = g.P.Paged.items_of in
    let key = g.P.Item.Keyed.key_of in
    start-within key items c.args.bound c.args.pages.now c.partition_point.result
    (IsPartitionPoint-from_clause (λ page. is_before key c.args.bound (items page)) c.args.pages.now c.partition_point.result c.partition_point.ensures.partitioned (pages_partitioned key items c.args.bound c.args.pages.now c.requires) (λ a r f k. search (rules, of_calls)))
