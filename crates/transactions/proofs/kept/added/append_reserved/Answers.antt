use Rattle.std.proofs.Common.{ap, ◌∙◌, ◌++◌, cond}
use Rattle.transactions.proofs.CommitLemmas.{is_ok_so}
use Rattle.transactions.proofs.kept.added.append_reserved.Goals as goal

pub returns : goal.returns
returns g c = c.append.ensures.items ∙ ap (λ b. cond b (c.args.list.now.items ++ c.args.more.items) c.args.list.now.items) (is_ok_so c.append.result (c.append.ensures.succeeds c.requires))
