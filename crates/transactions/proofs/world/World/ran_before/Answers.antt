use Rattle.std.proofs.Common.{sym, ◌∙◌}
use Rattle.transactions.specs.Versions.{versions_at}
use Rattle.transactions.proofs.CommitLemmas.{if_ok_map}
use Rattle.transactions.proofs.RunLemmas.{only_reads_not, ran_from, reads_outcome}
use Rattle.transactions.proofs.world.World.ran_before.Goals as goal

pub returns-clause-ok : goal.returns-clause-ok
returns-clause-ok g c =
    if_ok_map _ _ c.weigh.result
    (λ r h X. ran_from c.args.self.now c.args.versions.now.catalog.now X (versions_at c.args.versions.now.rows.now) c.args.transaction.now c.args.statement.now c.outcome_of.result (sym c.must_wait.ensures ∙ c.if-must_wait.false) (only_reads_not _ c.requires.reads)
    (c.outcome_of.ensures ∙ reads_outcome c.args.versions.now.catalog.now c.args.statement.now _ c.args.reply c.requires.reads (c.requires.found (sym c.must_wait.ensures ∙ c.if-must_wait.false))) r h)
    c.weigh.ensures.ok
