use Rattle.std.proofs.Common.{ap, ◌++◌, ◌∙◌, append-nil}
use Rattle.mvrows.specs.HeldRows.{rows_in}
use Rattle.mvrows.proofs.table.with_room.Goals as goal

pub returns-in_ok-push_page-clause-ok : goal.returns-in_ok-push_page-clause-ok
returns-in_ok-push_page-clause-ok g c = ap (λ p. rows_in c.push_page.new.leaves.items ++ p) c.new.ensures ∙ append-nil (rows_in c.push_page.new.leaves.items) ∙ c.in_ok-push_page.ensures.ok
