use Rattle.std.proofs.Common.{ap, sym, length}
use Rattle.schema.specs.Paged.{row_key, joined}
use Rattle.schema.proofs.PagedLemmas.{none-laid_out}
use Rattle.schema.proofs.table.Table.new.Goals as goal

pub invariant_of-result : goal.invariant_of-result
invariant_of-result g c = (none-laid_out row_key (λ page. page) c.new.result.items c.new.ensures.items, ap (λ pages. length (joined pages)) (sym c.new.ensures.items))
