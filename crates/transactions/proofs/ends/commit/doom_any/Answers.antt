use Rattle.std.proofs.Common.{map, ◌∙◌, ap, sym}
use Rattle.history.specs.Events.{doomed_by}
use Rattle.transactions.proofs.CommitLemmas.{spared}
use Rattle.transactions.proofs.StretchLemmas.{empty_is}
use Rattle.transactions.proofs.ends.commit.doom_any.Goals as goal

pub returns-else-not-is_empty : goal.returns-else-not-is_empty
returns-else-not-is_empty g c =
    sym (ap (λ cs. map (doomed_by c.args.place cs) c.args.transactions.now.items) (empty_is c.args.causes.now (sym c.is_empty.ensures ∙ c.if-not-is_empty.false)) ∙ spared c.args.place c.args.transactions.now.items)
