use Rattle.std.proofs.Common.{sym, ◌∙◌}
use Rattle.transactions.proofs.ListedLemmas.{one_table}
use Rattle.transactions.proofs.statements.own.as_list.Goals as goal

pub of_list-requires : goal.of_list-requires
of_list-requires g c = one_table c.table-one.result c.args.list.now c.in_ok-copy.copy.items (sym c.are_of.ensures ∙ c.if-not-are_of.false) c.requires c.in_ok-copy.ensures.ok
