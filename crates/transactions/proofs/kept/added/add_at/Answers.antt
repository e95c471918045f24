use Rattle.std.proofs.Common.{ap, ◌∙◌}
use Rattle.std.proofs.Math.ListN.{set}
use Rattle.std.proofs.lemmas.List.{set-get_or}
use Rattle.std.proofs.lemmas.Result.{on_ok_weaker, on_err_weaker}
use Rattle.transactions.specs.Runs.{adds}
use Rattle.transactions.proofs.LedgerLemmas.{turned_at-set}
use Rattle.transactions.proofs.kept.added.add_at.Goals as goal

pub returns-clause-ok : goal.returns-clause-ok
returns-clause-ok g c =
    on_ok_weaker c.add.result
    (λ e. ap (set c.args.transactions.now.items c.args.at) e ∙ turned_at-set (adds c.args.added.reads.items c.args.added.changes.items c.args.added.marks.items) c.args.transactions.now.items c.args.at c.index_mut.result.now c.requires c.index_mut.ensures.value)
    c.add.ensures.ok

pub returns-clause-err : goal.returns-clause-err
returns-clause-err g c =
    on_err_weaker c.add.result
    (λ e. ap (set c.args.transactions.now.items c.args.at) (e ∙ c.index_mut.ensures.value) ∙ set-get_or c.args.transactions.now.items c.args.at c.index_mut.result.now)
    c.add.ensures.err
