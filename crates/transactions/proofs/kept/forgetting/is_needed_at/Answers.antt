use Rattle.std.proofs.Common.{ap, sym, ◌∙◌, ◌++◌, drop}
use Rattle.transactions.specs.Forgetting.{is_needed_among}
use Rattle.transactions.proofs.LedgerLemmas.{txn_at-is}
use Rattle.transactions.proofs.kept.forgetting.is_needed_at.Goals as goal

pub returns : goal.returns
returns g c =
    let ts = c.args.transactions.now in
    c.is_needed_among.ensures
    ∙ ap (λ xs. is_needed_among c.args.oldest c.args.reach (xs ++ c.split_at-2.result.1.now) c.index-transactions-at.result) c.split_at.ensures.front
    ∙ ap (λ xs. is_needed_among c.args.oldest c.args.reach (Rattle.std.proofs.Common.take c.args.kept ts ++ xs) c.index-transactions-at.result) c.split_at-2.ensures.back
    ∙ ap (is_needed_among c.args.oldest c.args.reach (Rattle.std.proofs.Common.take c.args.kept ts ++ drop c.args.at ts)) (sym (txn_at-is ts c.args.at c.index-transactions-at.result c.requires.1 c.index-transactions-at.is))
