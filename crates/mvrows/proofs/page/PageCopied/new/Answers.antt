use Rattle.mvrows.specs.HeldRows.{chain_key}
use Rattle.schema.proofs.PageLemmas.{none-in_order}
use Rattle.mvrows.proofs.page.PageCopied.new.Goals as goal

pub invariant_of-result : goal.invariant_of-result
invariant_of-result g c = none-in_order chain_key c.new.result.items c.new.ensures.items
