use Rattle.std.proofs.Common.{◌∙◌}
use Rattle.schema.proofs.NextLemmas.{found-some, has-found}
use Rattle.schema.proofs.table.Table.has.Goals as goal

pub returns : goal.returns
returns g c = c.is_some.ensures ∙ found-some c.find.result c.args.self.now c.args.key.now c.find.ensures ∙ has-found c.args.self.now c.args.key.now
