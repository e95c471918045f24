use Rattle.mvrows.specs.HeldRows.{chain_key}
use Rattle.schema.proofs.PagedLemmas.{none-laid_out}
use Rattle.mvrows.proofs.table.TableCopied.new.Goals as goal

pub invariant_of-result : goal.invariant_of-result
invariant_of-result g c = none-laid_out chain_key (λ h. h.rows) c.new.result.items c.new.ensures.items
