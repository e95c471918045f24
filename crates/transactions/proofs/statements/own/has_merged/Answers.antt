use Rattle.std.proofs.Common.{ap, is_some, ◌∙◌}
use Rattle.transactions.specs.Merged.{is_changed}
use Rattle.transactions.proofs.MergedLemmas.{copied-some, found-changed}
use Rattle.transactions.proofs.statements.own.has_merged.Goals as goal

pub returns : goal.returns
returns g c =
    let ys = c.args.merged.now in
    c.is_some.ensures ∙ copied-some c.get.result ∙ ap is_some c.get.ensures ∙ found-changed c.table.result c.key.result.now ys
    ∙ ap (λ t. is_changed t c.key.result.now ys) c.table.ensures ∙ ap (λ k. is_changed c.args.change.now.table k ys) c.key.ensures
