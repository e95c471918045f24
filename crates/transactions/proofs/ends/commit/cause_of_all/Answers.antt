use Rattle.std.proofs.Common.{sym, ◌∙◌}
use Rattle.history.specs.Transactions.{edge, node}
use Rattle.transactions.specs.Ledger.{txn_at}
use Rattle.transactions.proofs.CauseLemmas.{none-held}
use Rattle.transactions.proofs.ends.commit.cause_of_all.Goals as goal

pub returns-else-has_edge_from : goal.returns-else-has_edge_from
returns-else-has_edge_from g c =
    none-held node edge (txn_at c.args.transactions.now c.args.at) c.args.transactions.now c.requires.committer (sym c.has_edge_from.ensures ∙ c.if-has_edge_from.false)
