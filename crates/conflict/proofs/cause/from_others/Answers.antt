use Rattle.std.proofs.Common.{◌∙◌, ap, sym, Some}
use Rattle.value.specs.Isolation.{first_some}
use Rattle.conflict.specs.Walks.{found, from_other}
use Rattle.conflict.proofs.WalkedCause.{none_closes}
use Rattle.conflict.proofs.cause.from_others.Goals as goal

pub returns-in-Some : goal.returns-in-Some
returns-in-Some g c =
    c.from_numbers.ensures
    ∙ ap (λ ns. first_some (from_other c.args.commit.txn c.args.commit.number c.args.committer.now (Some c.in-Some.last)) (found ns c.args.parties.now)) c.ins.ensures
    ∙ ap (λ o. first_some (from_other c.args.commit.txn c.args.commit.number c.args.committer.now o) (found c.args.committer.now.ins c.args.parties.now)) (sym c.in-Some.is ∙ c.last_of.ensures)

pub returns-in-None : goal.returns-in-None
returns-in-None g c =
    sym (none_closes c.args.commit.txn c.args.commit.number c.args.committer.now (found c.args.committer.now.ins c.args.parties.now))
    ∙ ap (λ o. first_some (from_other c.args.commit.txn c.args.commit.number c.args.committer.now o) (found c.args.committer.now.ins c.args.parties.now)) (sym c.in-None.is ∙ c.last_of.ensures)
