use Rattle.std.proofs.Common.{ap, sym, ◌++◌, ◌∙◌}
use Rattle.schema.proofs.PagedLemmas.{pushed}
use Rattle.mvrows.specs.HeldRows.{Held, chain_key, rows_in}
use Rattle.mvrows.proofs.LeavesLemmas.{no-keys_after}
use Rattle.mvrows.proofs.table.push_page.Goals as goal

pub returns-in_ok-push-clause-ok : goal.returns-in_ok-push-clause-ok
returns-in_ok-push-clause-ok g c =
    pushed chain_key (λ h. h.rows) c.args.leaves.now.items c.push.new.self.items c.of.result c.in_ok-push.ensures.items
    ∙ ap (λ (h : Held _). rows_in c.args.leaves.now.items ++ h.rows) c.of.ensures

pub returns-else-has_keys-clause-ok : goal.returns-else-has_keys-clause-ok
returns-else-has_keys-clause-ok g c = no-keys_after (rows_in c.args.leaves.now.items) c.args.page (sym c.if-has_keys.ensures)
