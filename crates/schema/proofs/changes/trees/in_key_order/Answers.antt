use Rattle.std.proofs.Common.{[]}
use Rattle.schema.proofs.ChangingLemmas.{by_key-found, by_key-absent}
use Rattle.schema.proofs.changes.trees.in_key_order.Goals as goal

pub returns-in-Some : goal.returns-in-Some
returns-in-Some g c = by_key-found c.args.table c.place.result c.args.tables.now c.in-Some.changes.now c.place.ensures (c.in-Some.ensures.lookup.3.1 []) c.in_key_order.ensures

pub returns-in-None : goal.returns-in-None
returns-in-None g c = by_key-absent c.args.table c.place.result c.args.tables.now c.place.ensures c.in-None.ensures.lookup.3
